-- The answer to a search for some devices beside all that others hold and what is reserved.
use Rattle.std.specs.Prelude.{ℕ, List, [], ◌∷◌, ◌++◌, map, Option}
use Rattle.resource_reqs.specs.Resources.{Res, Reqs}
use Rattle.resource_reqs.specs.Spelling.{IsAnswer}
use Rattle.trial_journal.specs.ByKind.{Arbiters}
use Rattle.assign_search.specs.Fixed.{answer_of}
use Rattle.assign_search.specs.declared.plan.Found.{Found}
use Rattle.pnp_model.specs.Keyed.{those}
use Rattle.pnp_model.specs.Cores.{node_at}
use Rattle.pnp_model.specs.Frames.{held_by, is_beside}
use Rattle.pnp_model.specs.Rebalances.{reqs_of, reqs_or}
use Rattle.pnp_model.specs.Records.{Node}
use Rattle.device_holdings.specs.Mirrors.{Mirrors}

-- what is reserved, and what all but the movers hold
abbrev pub held_beside : List Res → List Node → List ℕ → List Res
held_beside reserved nodes movers = reserved ++ held_by (those (is_beside movers) nodes)

-- what each mover needs
abbrev pub needs_of : List Node → List ℕ → List Reqs
needs_of nodes movers = map (λ k. reqs_of (node_at k nodes)) movers

-- what each mover asks for: what it needs, but the first one this, where it is given
abbrev pub asked_for : Option Reqs → List Node → List ℕ → List Reqs
asked_for first nodes [] = []
asked_for first nodes (k ∷ ks) = reqs_or first (reqs_of (node_at k nodes)) ∷ needs_of nodes ks

-- the answer for movers that ask for this and for this budget, where the arbiters mirror what is held
abbrev pub AnswersTo : List Reqs → List Node → Arbiters → List ℕ → ℕ → Found → Type 0
AnswersTo needs nodes a movers budget found =
    (reserved : List Res) → Mirrors reserved nodes a
    → IsAnswer (held_beside reserved nodes movers) needs budget (answer_of found)

-- where each asks for what it needs
abbrev pub Answers : List Node → Arbiters → List ℕ → ℕ → Found → Type 0
Answers nodes a movers budget found = AnswersTo (needs_of nodes movers) nodes a movers budget found
