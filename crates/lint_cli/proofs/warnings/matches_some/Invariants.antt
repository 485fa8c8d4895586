use Rattle.std.proofs.Common.{◌≡◌, drop}
use Rattle.std.specs.List.{list_any}
use Rattle.lint_cli.specs.Warnings.{is_some_of}
use Rattle.lint_cli.proofs.warnings.matches_some.Given as goal

abbrev pub invariant-loop-at : goal.invariant-loop-at
invariant-loop-at l = list_any (is_some_of l.ids) (drop l.at l.line) ≡ list_any (is_some_of l.ids) l.line
