use Rattle.std.proofs.Common.{true}
use Rattle.script_reader.specs.Script as scripts
use Rattle.front_check.specs.FrontChecks.{beginning}
use Rattle.front_hint.proofs.Walking.{line_is}
use Rattle.front_hint.proofs.allowed.line_by.Goals as goal

pub returns : goal.returns
returns c =
    line_is c.next_line.result c.args.answer c.args.infs.now c.args.budget (beginning c.args.kinds.now (scripts.trace true 0 c.args.script.now)) c.args.trace.now c.args.before c.in_ok-spot.spot
    c.in_ok-spot-2.spot c.in_ok-spot.ensures.begins c.in_ok-spot-2.ensures.leads c.next_line.ensures
