use Rattle.std.proofs.Common.{arith}
use Rattle.pnp_machine.proofs.Groups.{one_more_short, all_short}
use Rattle.pnp_machine.proofs.needs.groups_are_few.Goals as goal

pub lists-preserved : goal.lists-preserved
lists-preserved c =
    one_more_short c.args.reqs.now c.lists.at c.get.result.now c.lists.invariant c.get.ensures.part
    (let within = c.len-few.ensures.within in let is = c.len-few.ensures.len in omega arith)

pub returns : goal.returns
returns c = all_short c.args.reqs.now c.lists.at c.lists.invariant (let is = c.len-at-end.ensures.len in omega arith)
