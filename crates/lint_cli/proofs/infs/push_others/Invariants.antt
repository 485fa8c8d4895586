use Rattle.lint_cli.specs.Reports.{IsFront}
use Rattle.lint_cli.proofs.infs.push_others.Given as goal

abbrev pub invariant-loop : goal.invariant-loop
invariant-loop l = IsFront l.initial.out.items l.out.items
