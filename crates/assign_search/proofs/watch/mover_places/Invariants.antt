use Rattle.std.proofs.Common.{◌≡◌, ◌<◌, ℕ, slice_get, Some}
use Rattle.resource_reqs.specs.Resources.{AltList}
use Rattle.assign_search.specs.Walking.{AllOpen, held_in}
use Rattle.assign_search.proofs.watch.mover_places.Given as goal

abbrev pub invariant-lists : goal.invariant-lists
invariant-lists l = (k : ℕ) (list : AltList) → k < l.at → slice_get l.reqs k ≡ Some list → AllOpen (held_in l.board) list → ⊥
