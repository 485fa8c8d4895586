use Rattle.std.proofs.Common.{arith}
use Rattle.pnp_labels.proofs.Written.{padded}
use Rattle.pnp_labels.proofs.digits.rank_in.Goals as goal

pub returns : goal.returns
returns c =
    let p = c.put_digits in
    let from = c.min-first.ensures in
    padded p.new.row _ p.result c.min-first.result p.array_long p.ensures.within p.ensures.value p.ensures.front (omega arith) (omega arith)
