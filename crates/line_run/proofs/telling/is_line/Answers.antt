use Rattle.std.proofs.Common.{◌∙◌}
use Rattle.line_run.proofs.telling.is_line.Goals as goal

pub returns : goal.returns
returns c = c.is_same.ensures c.args.label.now (c.deref.ensures.value ∙ c.in_ok-own.ensures)
