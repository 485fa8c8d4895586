use Rattle.lint_cli.proofs.Loops.{three_more}
use Rattle.lint_cli.proofs.warnings.push_missing.Goals as goal

pub returns : goal.returns
returns c = three_more _ _ _ _ _ _ _ c.in_ok-push_warning_head.ensures c.in_ok-push_quoted.ensures c.in_ok-extend_from_slice.ensures.items
