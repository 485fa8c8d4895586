use Rattle.std.proofs.Common.{◌≡◌, ◌++◌, drop, map}
use Rattle.lint_cli.specs.Warnings.{seen}
use Rattle.lint_cli.proofs.drivers.push_names.Given as goal

abbrev pub invariant-loop-at : goal.invariant-loop-at
invariant-loop-at l =
    map seen l.named.items ++ map (λ name. (l.line, name)) (drop l.at l.names) ≡ map seen l.initial.named.items ++ map (λ name. (l.line, name)) l.names
