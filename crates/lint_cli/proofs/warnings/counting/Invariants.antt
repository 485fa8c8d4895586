use Rattle.std.proofs.Common.{◌≡◌, ◌++◌, drop, map}
use Rattle.std.specs.Option.{option_map}
use Rattle.std.specs.List.{filter}
use Rattle.lint_cli.specs.Warnings.{counts}
use Rattle.lint_cli.proofs.warnings.counting.Given as goal

abbrev pub invariant-loop-at : goal.invariant-loop-at
invariant-loop-at l =
    map (λ x. x.now) l.all.items ++ filter (counts (option_map (λ n. n.now) l.ids)) (drop l.at l.lines) ≡ filter (counts (option_map (λ n. n.now) l.ids)) l.lines
