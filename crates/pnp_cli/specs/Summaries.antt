-- The summary of a run over a generated script.
use Rattle.std.specs.Prelude.{ℕ, ◌==◌, ◌&&◌, not, ◌≡◌, Bool, true, false, List, ◌∷◌, [], ◌++◌, Option, Some, None, codes, count_by, length}
use Rattle.std.specs.Fmt.{decimal}
use Rattle.pnp_labels.specs.Texts.{Text}
use Rattle.pnp_labels.specs.declared.label.Label.{Label}
use Rattle.pnp_labels.specs.declared.states.Problem.{Problem}
use Rattle.pnp_labels.specs.declared.states.Problem.TheVariants.{NormalConflict}
use Rattle.pnp_model.specs.Records.{Node, State, Settings}
use Rattle.pnp_model.specs.Trees.{is_up}
use Rattle.notify_front.specs.Fronts.{Front}
use Rattle.script_reader.specs.Script.{Trace}
use Rattle.pnp_cli.specs.Outputs.{Plays}
use Rattle.pnp_cli.specs.Tallies.{has_moved, with_all}
use Rattle.pnp_cli.specs.declared.tally.Tally.{Tally}

-- a device other than the root is Started
abbrev pub is_device_up : Node → Bool
is_device_up node = not (node.serial == 0) && is_up (Some node)

-- the problem of a device for which nothing fits
abbrev pub is_conflict : Option Problem → Bool
is_conflict (Some NormalConflict) = true
is_conflict _ = false

abbrev pub has_conflict : Option Node → Bool
has_conflict None = false
has_conflict (Some node) = is_conflict node.problem

-- how many devices are Started, without the root
abbrev pub started : List Node → ℕ
started nodes = count_by (λ node. is_device_up node) nodes

-- how many devices have that problem
abbrev pub conflicts : List Node → ℕ
conflicts nodes = count_by (λ node. has_conflict (Some node)) nodes

-- these words, and a number
abbrev pub number_line : List ℕ → ℕ → Text
number_line words n = words ++ decimal n ++ 10 ∷ []

-- how many devices were generated, how many labels the run had, how many devices are up and how many have problem 12 at its
-- end, and how many rebalances moved
abbrev pub summary_of : ℕ → ℕ → List Node → ℕ → Text
summary_of n steps nodes moved =
    number_line (codes "devices ") n ++ number_line (codes "steps ") steps ++ number_line (codes "started ") (started nodes)
    ++ number_line (codes "problem12 ") (conflicts nodes) ++ number_line (codes "moved ") moved

-- the same of all labels of a run and of its last state
abbrev pub summary : ℕ → List Label → State → Text
summary n labels last = summary_of n (length labels) last.core.nodes (count_by has_moved labels)

-- the events happened from a front on, and all labels of their run were counted, up to this front
pub record Counted (settings : Settings) (f : Front) (t : Trace) (tally : Tally) (last : Front) : Type 0 where
  pub labels : List Label
  pub plays : Plays settings f t labels last
  pub counted : tally ≡ with_all (record { steps = 0; moved = 0 }) labels
