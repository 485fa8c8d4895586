use Rattle.std.proofs.Common.{Some, None}
use Rattle.devnode_tree.proofs.Counting.{count_is, handle_is, open_is}
use Rattle.devnode_tree.proofs.handles.Handles.count.Goals as goal

pub returns-in-Some-clause-count : goal.returns-in-Some-clause-count
returns-in-Some-clause-count c = rw (← c.self.view_is) (count_is c.args.serial c.self.inside.counts.entries (Some c.in-Some.count.now) c.in-Some.ensures.value)

pub returns-in-Some-clause-handle : goal.returns-in-Some-clause-handle
returns-in-Some-clause-handle c = rw (← c.self.view_is) (handle_is c.args.serial c.self.inside.counts.entries c.self.invariant (Some c.in-Some.count.now) c.in-Some.ensures.value)

pub returns-in-Some-clause-there : goal.returns-in-Some-clause-there
returns-in-Some-clause-there c = rw (← c.self.view_is) (open_is c.args.serial c.self.inside.counts.entries c.self.invariant (Some c.in-Some.count.now) c.in-Some.ensures.value)

pub returns-in-None-clause-count : goal.returns-in-None-clause-count
returns-in-None-clause-count c = rw (← c.self.view_is) (count_is c.args.serial c.self.inside.counts.entries None c.in-None.ensures.value)

pub returns-in-None-clause-handle : goal.returns-in-None-clause-handle
returns-in-None-clause-handle c = rw (← c.self.view_is) (handle_is c.args.serial c.self.inside.counts.entries c.self.invariant None c.in-None.ensures.value)

pub returns-in-None-clause-there : goal.returns-in-None-clause-there
returns-in-None-clause-there c = rw (← c.self.view_is) (open_is c.args.serial c.self.inside.counts.entries c.self.invariant None c.in-None.ensures.value)
