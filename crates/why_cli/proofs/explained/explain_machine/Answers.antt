use Rattle.why_cli.proofs.Explaining.{machine_explained}
use Rattle.why_cli.proofs.explained.explain_machine.Goals as goal

pub returns-in-Ok : goal.returns-in-Ok
returns-in-Ok g c = machine_explained c.args.manager c.new-front.result c.args.script.now c.in-Ok.play c.explain_play.result c.new-front.ensures c.in-Ok.ensures.begins c.explain_play.ensures
