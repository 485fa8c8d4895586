use Rattle.std.proofs.Common.{◌≡◌, ◌==◌, not, length, drop}
use Rattle.std.specs.List.{find}
use Rattle.lint_cli.proofs.warnings.matching_id.Given as goal

abbrev pub invariant-loop-at : goal.invariant-loop-at
invariant-loop-at l = find (λ id. not (length id == 0)) (drop l.at l.ids) ≡ find (λ id. not (length id == 0)) l.ids
