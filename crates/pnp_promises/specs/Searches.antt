-- What a search costs: where a budget is spent, more was to be tried.
use Rattle.std.specs.Prelude.{ℕ, ◌≡◌, ◌<◌, ◌≤◌, List, [], ◌∷◌, Some, None}
use Rattle.resource_reqs.specs.Resources.{Reqs, Res}
use Rattle.resource_reqs.specs.Spelling.{Complete, Coord, IsLeast, Numbers, Tried, TriedUpTo}
use Rattle.pnp_labels.specs.Texts.{Text}
use Rattle.pnp_labels.specs.declared.label.Label.{Label}
use Rattle.pnp_model.specs.Cores.{node_at}
use Rattle.pnp_model.specs.Frames.{fixed_beside}
use Rattle.pnp_model.specs.Laws.{Reaches}
use Rattle.pnp_model.specs.Rebalances.{group_problem}
use Rattle.pnp_model.specs.Records.{Course, Driver, Job, Node, SearchProblem, Settings, State, course_of}
use Rattle.pnp_model.specs.Runs.{Entry, Goes}
use Rattle.pnp_model.specs.Runs.Entry.{Did}

-- so many prefixes are tried until the least spelling of an assignment is found; or so many are there to be tried, and there is none
pub data Tries (fixed : List Res) (movers : List Reqs) : ℕ → Type 0 where
  finds : (a : List Coord) (n : ℕ) → IsLeast fixed movers a → TriedUpTo fixed movers a n → Tries fixed movers n
  fails : (n : ℕ) → ((a : List Coord) → Complete fixed movers a → ⊥) → Numbers (Tried fixed movers) n → Tries fixed movers n

-- what is sought for the device of a path: resources for it alone beside all others, or in an operation for it and all that agreed
pub data IsSought (s : State) (path : Text) : SearchProblem → Type 0 where
  alone : (n : Node) → s.operation ≡ None → node_at n.serial s.core.nodes ≡ Some n → n.path ≡ path → IsSought s path (record { fixed = fixed_beside s.core (n.serial ∷ []); movers = n.reqs ∷ [] })
  together : (o : Job) → s.operation ≡ Some o → course_of o.kind ≡ Course.Rebalancing → o.path ≡ path → IsSought s path (group_problem s.core o)

-- at most so many were to be tried
pub record Within (budget : ℕ) (s : State) (path : Text) : Type 0 where
  pub problem : SearchProblem
  pub sought : IsSought s path problem
  pub tried : ℕ
  pub tries : Tries problem.fixed problem.movers tried
  pub few : tried ≤ budget

-- more were
pub record Exceeds (budget : ℕ) (s : State) (path : Text) : Type 0 where
  pub problem : SearchProblem
  pub sought : IsSought s path problem
  pub more : (n : ℕ) → Tries problem.fixed problem.movers n → budget < n

-- what each answer of a search says of the budget
abbrev pub Costs : Settings → State → Label → Type 0
Costs settings s (Label.Assign path parts) = Within settings.budget s path
Costs settings s (Label.Fits path) = Within settings.budget s path
Costs settings s (Label.NoFit path) = Within settings.budget s path
Costs settings s (Label.Spent path) = Exceeds settings.budget s path
Costs settings s _ = Unit {0}

abbrev pub SearchesKeepTheBudgetLaw : Type 0
SearchesKeepTheBudgetLaw =
    (settings : Settings) (rack : List Driver) (entries : List Entry) (s : State) (label : Label) (t : State)
    → Reaches settings rack entries s → Goes settings s (Did label) t → Costs settings s label
