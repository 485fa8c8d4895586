-- The parts of a step of a rebalance.
use Rattle.std.specs.Prelude.{◌≡◌, ℕ, List, Option, Some}
use Rattle.resource_reqs.specs.Resources.{Reqs}
use Rattle.pnp_labels.specs.declared.label.Label.{Label}
use Rattle.pnp_model.specs.Records.{Node, Core, Found, Job}
use Rattle.pnp_model.specs.Records.Doing.{Searches}
use Rattle.pnp_model.specs.Jobs.{JobMove}
use Rattle.pnp_model.specs.Rebalances.{group_problem, searched, reqs_after}
use Rattle.devnode_tree.specs.Cores.{at_nodes}
use Rattle.devnode_tree.specs.Trees.{Tree}
use Rattle.devnode_tree.specs.Identities.{identities}
use Rattle.trial_journal.specs.ByKind.{Arbiters}
use Rattle.device_holdings.specs.Mirrors.{Mirrors, KeepsMirror}
use Rattle.rebalance.specs.declared.next.RebalanceStep.{RebalanceStep}
use Rattle.rebalance.specs.declared.next.RebalanceStep.TheVariants as steps
use Rattle.rebalance.specs.Steps.{Moved, MovedBy}

-- the move, where nodes change alone
abbrev pub Moves : (Core → JobMove) → List Node → RebalanceStep → List Node → Job → Type 0
Moves move nodes step nodes' r' = (around : Core) → Moved (move (at_nodes nodes around)) step (at_nodes nodes' around) r'

-- a change that leaves who is there and what is held
pub record StaysWhole (old new : Tree) : Type 0 where
  pub next : new.next ≡ old.next
  pub keeps : identities new.nodes ≡ identities old.nodes
  pub mirrors : (arbiters : Arbiters) → KeepsMirror old.nodes arbiters new.nodes arbiters

-- the move is by what was found, whatever there is
abbrev pub Takes : Job → Found → Label → Job → Type 0
Takes r found label r' = (c : Core) → Moved (searched c r found) (steps.Did label) c r'

-- the move is by an answer to the problem of all movers
abbrev pub Searched : List Node → Arbiters → Job → ℕ → Label → Job → Type 0
Searched nodes arbiters r budget label r' =
    (around : Core) → Mirrors around.reserved nodes arbiters
    → MovedBy budget (Some (Searches (group_problem (at_nodes nodes around) r) (searched (at_nodes nodes around) r))) (steps.Did label) (at_nodes nodes around) r'

-- the target of a change requires from now on what it wanted
abbrev pub required : Option Reqs → ℕ → Node → Node
required wanted target n = record n { reqs = reqs_after wanted target n }
