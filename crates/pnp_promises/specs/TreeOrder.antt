-- How the lines under `tree` stand: whose child a device is can be told from the lines alone.
use Rattle.std.specs.Prelude.{ℕ, ◌+◌, ◌≡◌, ◌<◌, ◌≤◌, ◌⊎◌, List, [], ◌∷◌, ◌++◌}
use Rattle.pnp_model.specs.Endings.{Placed, print_order}
use Rattle.pnp_model.specs.Laws.{Reaches}
use Rattle.pnp_model.specs.Records.{Driver, Settings, State}
use Rattle.pnp_model.specs.Runs.{Entry}

-- each of these stands at least so deep
abbrev pub AllFrom : ℕ → List Placed → Type 0
AllFrom depth [] = Unit {0}
AllFrom depth (p ∷ ps) = (depth ≤ p.depth) × AllFrom depth ps

-- of the lines before it the last one that stands less deep is that of its parent, one level up
pub record BelowParent (before : List Placed) (p : Placed) : Type 0 where
  pub earlier : List Placed
  pub parent : Placed
  pub between : List Placed
  pub split : before ≡ earlier ++ parent ∷ between
  pub own : parent.node.serial ≡ p.node.parent
  pub deeper : p.depth ≡ parent.depth + 1
  pub inside : AllFrom p.depth between

pub record TreeStands (lines : List Placed) : Type 0 where
  -- one line stands first, and not deep; each other one stands below its parent's
  pub below : (before : List Placed) (p : Placed) (after : List Placed) → lines ≡ before ++ p ∷ after → ((before ≡ []) × (p.depth ≡ 0)) ⊎ BelowParent before p
  -- of two lines that stand equally deep, with none but deeper ones between them, the first has the lower serial
  pub rises : (before : List Placed) (p : Placed) (between : List Placed) (q : Placed) (after : List Placed) → lines ≡ before ++ p ∷ (between ++ q ∷ after) → p.depth ≡ q.depth → AllFrom (p.depth + 1) between
      → p.node.serial < q.node.serial

-- in each state of a run
abbrev pub TreeStandsLaw : Type 0
TreeStandsLaw = (settings : Settings) (rack : List Driver) (entries : List Entry) (s : State) → Reaches settings rack entries s → TreeStands (print_order s.core.nodes)
