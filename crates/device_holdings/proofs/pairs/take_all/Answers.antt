use Rattle.std.proofs.Common.{arith}
use Rattle.device_holdings.proofs.Putting.{take_more, is_held, spare_taken}
use Rattle.device_holdings.proofs.pairs.take_all.Goals as goal

pub take-requires : goal.take-requires
take-requires c =
    is_held c.held.arbiters c.held.arbiters c.args.owner c.args.held.now c.held.at c.get.result.now c.get.ensures c.requires.0 (c.held.invariant.taken c.requires.0 c.requires.1)

pub held-preserved : goal.held-preserved
held-preserved c = record {
  taken = λ rest before.
      take_more c.held.arbiters c.take.new.self c.args.owner c.args.held.now c.held.at c.get.result.now c.get.ensures rest c.take.ensures.pairs (c.held.invariant.taken rest before);
  spare = λ kind.
      let one = spare_taken c.held.arbiters c.take.new.self (c.args.owner, c.get.result.now) kind c.take.ensures.pairs in
      let so_far = c.held.invariant.spare kind in omega arith;
}
