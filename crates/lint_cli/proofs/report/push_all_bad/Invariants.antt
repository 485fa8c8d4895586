use Rattle.std.proofs.Common.{◌≡◌, ◌++◌, drop, map}
use Rattle.std.specs.List.{flat_map}
use Rattle.script_lint.specs.Script.{told}
use Rattle.lint_cli.specs.Reports.{bad_text}
use Rattle.lint_cli.proofs.report.push_all_bad.Given as goal

abbrev pub invariant-loop-line : goal.invariant-loop-line
invariant-loop-line l =
    l.out.items ++ flat_map (bad_text l.file) (map told (drop l.line-index l.line-items)) ≡ l.initial.out.items ++ flat_map (bad_text l.file) (map told l.line-items)
