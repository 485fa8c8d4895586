use Rattle.std.proofs.Common.{◌≡◌, ◌++◌, drop, map}
use Rattle.lint_cli.specs.Warnings.{seen, names_in}
use Rattle.lint_cli.proofs.warnings.names_in.Given as goal

abbrev pub invariant-loop-line : goal.invariant-loop-line
invariant-loop-line l = map seen l.named.items ++ names_in (map (λ x. x.now) (drop l.line-index l.lines)) ≡ names_in (map (λ x. x.now) l.lines)
