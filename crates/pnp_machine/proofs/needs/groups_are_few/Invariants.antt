use Rattle.std.proofs.Common.{◌≡◌, ℕ, ◌<◌, ◌≤◌, Some, length, slice_get}
use Rattle.resource_reqs.specs.Resources.{AltList}
use Rattle.pnp_machine.proofs.needs.groups_are_few.Given as goal

abbrev pub invariant-lists : goal.invariant-lists
invariant-lists l = (k : ℕ) (list : AltList) → k < l.at → slice_get l.reqs k ≡ Some list → length list ≤ 16
