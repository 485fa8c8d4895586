-- Nodes that were told that they have gone, and have no child with drivers.
use Rattle.std.specs.Prelude.{◌≡◌, ◌≢◌, ℕ, ◌≤◌, Bool, true, not, ◌&&◌, List, Some}
use Rattle.std.specs.List.{list_any}
use Rattle.pnp_model.specs.Cores.{node_at}
use Rattle.pnp_model.specs.Handles.{has_drivers}
use Rattle.pnp_model.specs.Records.{Node}
use Rattle.pnp_model.specs.Tests.{is_surprise_removed}
use Rattle.pnp_model.specs.Trees.{is_child}

-- a child with drivers
abbrev pub is_full_child : ℕ → Node → Bool
is_full_child k n = is_child k n && has_drivers n.stack

abbrev pub is_bottom : List Node → Node → Bool
is_bottom nodes n = is_surprise_removed n.state && not (list_any (is_full_child n.serial) nodes)

-- none has a serial below low
abbrev pub BottomsFrom : ℕ → List Node → Type 0
BottomsFrom low nodes = (k : ℕ) (n : Node) → node_at k nodes ≡ Some n → is_bottom nodes n ≡ true → low ≤ k

-- the same of all but one
abbrev pub BottomsBut : ℕ → ℕ → List Node → Type 0
BottomsBut but low nodes = (k : ℕ) (n : Node) → k ≢ but → node_at k nodes ≡ Some n → is_bottom nodes n ≡ true → low ≤ k
