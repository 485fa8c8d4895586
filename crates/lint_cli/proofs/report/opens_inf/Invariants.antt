use Rattle.std.proofs.Common.{◌≡◌, drop}
use Rattle.lint_cli.specs.Reports.{opens_inf}
use Rattle.lint_cli.proofs.report.opens_inf.Given as goal

abbrev pub invariant-loop-byte : goal.invariant-loop-byte
invariant-loop-byte l = opens_inf (drop l.byte-index l.script) ≡ opens_inf l.script
