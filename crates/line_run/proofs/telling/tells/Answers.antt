use Rattle.std.proofs.Common.{IfOk, subst}
use Rattle.pnp_labels.specs.declared.label.Label.{Label}
use Rattle.line_run.specs.Lines.{IfLine}
use Rattle.line_run.proofs.telling.tells.Goals as goal

pub returns : goal.returns
returns c = subst (λ (l : Label). IfOk c.is_line.result (λ told. IfLine told c.args.line.now l)) c.in_ok-label.ensures c.is_line.ensures
