use Rattle.std.proofs.Common.{◌∙◌}
use Rattle.pnp_io.proofs.Names.{placed, appended}
use Rattle.pnp_io.proofs.memory.put.Goals as goal

pub returns-in-Some-clause-ok : goal.returns-in-Some-clause-ok
returns-in-Some-clause-ok c = placed c.args.entry.0 c.args.entry.1 c.name.result.now c.args.entries.now.items c.deref.result.now c.place_of.result c.in-Some.at c.name.ensures c.deref.ensures.value c.place_of.ensures c.in-Some.is

pub returns-in_ok-push-in-None-clause-ok : goal.returns-in_ok-push-in-None-clause-ok
returns-in_ok-push-in-None-clause-ok c =
    c.in_ok-push-in-None.ensures.items ∙ appended c.args.entry.0 c.args.entry.1 c.name.result.now c.args.entries.now.items c.deref.result.now c.place_of.result c.name.ensures c.deref.ensures.value c.place_of.ensures c.in-None.is
