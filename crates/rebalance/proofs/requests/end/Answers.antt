use Rattle.rebalance.proofs.Whole.{ends_whole}
use Rattle.rebalance.proofs.requests.end.Goals as goal

pub returns-clause-whole : goal.returns-clause-whole
returns-clause-whole c =
    ends_whole c.args.tree.now c.end_walk.new.tree c.args.device.serial c.args.minor c.args.refused c.args.device.path c.end_walk.result c.end_walk.ensures.ended c.end_walk.ensures.next c.end_walk.ensures.mirrors
