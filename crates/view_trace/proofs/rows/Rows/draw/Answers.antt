use Rattle.view_trace.proofs.Taken.{taken}
use Rattle.view_trace.proofs.rows.Rows.draw.Goals as goal

pub returns-clause-marks : goal.returns-clause-marks
returns-clause-marks c = taken c.args.page.now.marks _ c.args.self.now _ _ c.args.label c.in_ok-draw_before.ensures.marks c.in_ok-wait.ensures
