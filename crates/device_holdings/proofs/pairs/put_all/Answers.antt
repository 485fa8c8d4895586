use Rattle.std.proofs.Common.{arith}
use Rattle.device_holdings.proofs.Putting.{put_more, spare_put, count_left, own_one}
use Rattle.device_holdings.proofs.pairs.put_all.Goals as goal

pub put-requires : goal.put-requires
put-requires c =
    let kind = c.get.result.now.kind in
    let left = count_left kind c.args.held.now c.held.at c.get.result.now c.get.ensures in
    let own = own_one kind in
    let so_far = c.held.invariant.spare kind in
    let enough = c.requires kind in omega arith

pub held-preserved : goal.held-preserved
held-preserved c = record {
  put = λ rest before.
      put_more c.held.arbiters c.put.new.self c.args.owner c.args.held.now c.held.at c.get.result.now c.get.ensures rest c.put.ensures (c.held.invariant.put rest before);
  spare = λ kind.
      let one = spare_put c.held.arbiters c.put.new.self (c.args.owner, c.get.result.now) kind c.put.ensures in
      let left = count_left kind c.args.held.now c.held.at c.get.result.now c.get.ensures in
      let more = c.held.invariant.spare kind in omega arith;
}
