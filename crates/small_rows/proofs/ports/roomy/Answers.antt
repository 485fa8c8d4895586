use Rattle.std.proofs.Common.{ap}
use Rattle.range_arbiter.specs.Pairs.{Arbiter}
use Rattle.small_rows.proofs.ports.roomy.Goals as goal

-- nothing is held at first
pub make_room-requires : goal.make_room-requires
make_room-requires c = λ k. ap (λ (a : Arbiter). a.pairs) (c.in_ok-arbiters.ensures.kinds k)
