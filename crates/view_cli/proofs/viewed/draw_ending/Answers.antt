use Rattle.view_cli.proofs.Viewing.{ended_by}
use Rattle.view_cli.proofs.viewed.draw_ending.Goals as goal

pub returns-clause-marks : goal.returns-clause-marks
returns-clause-marks c =
    ended_by c.args.ending.now c.split_at.result.0.now c.split_at.result.1.now c.place_of_rest.result c.args.page.now.marks c.draw_drawn.new.page.marks c.draw_second.new.page.marks c.split_at.ensures.front c.split_at.ensures.back
    c.in_ok-draw_drawn.ensures.marks c.in_ok-draw_second.ensures.marks
