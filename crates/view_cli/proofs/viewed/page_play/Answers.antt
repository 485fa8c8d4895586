use Rattle.view_cli.proofs.Viewing.{play_viewed}
use Rattle.view_cli.proofs.viewed.page_play.Goals as goal

pub returns-in-Ok : goal.returns-in-Ok
returns-in-Ok g c =
    play_viewed c.args.steps c.args.play.now c.draw_play.new.play c.draw_play.new.page.marks c.in-Ok.status c.finished.result c.in-Ok.ensures.finished c.in-Ok.ensures.status c.finished.ensures.page c.finished.ensures.status
