use Rattle.std.proofs.Common.{arith}
use Rattle.device_holdings.proofs.Putting.{count_front}
use Rattle.device_holdings.proofs.pairs.count_in.Goals as goal

pub held-preserved : goal.held-preserved
held-preserved c =
    let more = count_front c.args.kind c.args.held.now c.held.at c.get.result.now c.get.ensures in
    let one = c.one_of-count.ensures.one in
    let most = c.one_of-count.ensures.few in
    let count = c.held.invariant.count in
    let few = c.held.invariant.few in record { count = omega arith; few = omega arith }
