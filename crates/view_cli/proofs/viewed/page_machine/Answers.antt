use Rattle.view_cli.proofs.Viewing.{machine_viewed}
use Rattle.view_cli.proofs.viewed.page_machine.Goals as goal

pub returns-in-Ok : goal.returns-in-Ok
returns-in-Ok g c = machine_viewed c.args.steps c.args.manager c.new-front.result c.args.script.now c.in-Ok.play c.page_play.result c.new-front.ensures c.in-Ok.ensures.begins c.page_play.ensures
