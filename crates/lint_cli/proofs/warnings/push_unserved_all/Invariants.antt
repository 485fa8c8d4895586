use Rattle.std.proofs.Common.{◌≡◌, ◌++◌, drop, map}
use Rattle.std.specs.List.{flat_map}
use Rattle.lint_cli.specs.Warnings.{unserved_text}
use Rattle.lint_cli.proofs.warnings.push_unserved_all.Given as goal

abbrev pub invariant-loop-line : goal.invariant-loop-line
invariant-loop-line l =
    l.out.items ++ flat_map (unserved_text l.file) (map (λ x. x.now) (drop l.line-index l.lines))
    ≡ l.initial.out.items ++ flat_map (unserved_text l.file) (map (λ x. x.now) l.lines)
