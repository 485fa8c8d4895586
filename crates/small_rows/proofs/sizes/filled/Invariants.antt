use Rattle.std.proofs.Common.{◌≡◌, length, IfSome}
use Rattle.node_pool.specs.Chains.{Stands}
use Rattle.small_rows.proofs.sizes.filled.Given as goal

abbrev pub invariant-ascending : goal.invariant-ascending
invariant-ascending l = record {
  one : length l.pool.chains ≡ 1;
  last : IfSome l.last (λ p. Stands l.pool 0 p.node);
  middle : IfSome l.middle (λ p. Stands l.pool 0 p.node);
}

abbrev pub invariant-descending : goal.invariant-descending
invariant-descending l = record {
  one : length l.pool.chains ≡ 1;
  middle : IfSome l.middle (λ p. Stands l.pool 0 p.node);
}
