use Rattle.std.proofs.Common.{◌≡◌, ◌++◌, [], drop, map}
use Rattle.lint_cli.specs.Warnings.{seen, missing, missing_texts}
use Rattle.lint_cli.proofs.warnings.push_missing_all.Given as goal

abbrev pub invariant-loop-one : goal.invariant-loop-one
invariant-loop-one l =
    l.out.items ++ missing_texts l.file (missing l.drivers l.passed (map seen (drop l.one-index l.named)))
    ≡ l.initial.out.items ++ missing_texts l.file (missing l.drivers [] (map seen l.named))
