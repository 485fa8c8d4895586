use Rattle.std.proofs.Common.{arith}
use Rattle.device_ids.proofs.Places.{least_is}
use Rattle.device_ids.proofs.cuts.place_in_row.Goals as goal

pub returns : goal.returns
returns c = least_is c.args.row.now c.args.byte c.loop-at.at c.loop-at.place (omega arith) (omega arith) c.loop-at.invariant
