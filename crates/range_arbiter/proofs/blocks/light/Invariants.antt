use Rattle.std.proofs.Common.{◌≡◌, ◌≤◌, ◌<◌, ◌+◌, ◌-◌, ◌*◌, ◌⊎◌, [], take, length, get_or}
use Rattle.range_arbiter.specs.Blocks.{pairs_in}
use Rattle.range_arbiter.proofs.blocks.light.Given as goal

abbrev pub invariant-loop-at : goal.invariant-loop-at
invariant-loop-at l = record {
  sum : 33 * l.at + l.front ≤ 2 * length (pairs_in (take l.at l.blocks)) + 33;
  most : l.front ≤ 32;
  least : 0 < l.front;
  before : ((l.at ≡ 0) × (l.front ≡ 32)) ⊎ ((0 < l.at) × (l.front ≡ length (get_or l.blocks (l.at - 1) [])));
}
