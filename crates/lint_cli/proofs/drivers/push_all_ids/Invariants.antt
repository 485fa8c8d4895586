use Rattle.std.proofs.Common.{◌≡◌, ◌++◌, drop, map}
use Rattle.std.specs.List.{flat_map}
use Rattle.lint_cli.specs.Warnings.{ids_of}
use Rattle.lint_cli.proofs.drivers.push_all_ids.Given as goal

abbrev pub invariant-loop-word : goal.invariant-loop-word
invariant-loop-word l = l.names ++ flat_map ids_of (map (λ w. w.now) (drop l.word-index l.words)) ≡ l.initial.names ++ flat_map ids_of (map (λ w. w.now) l.words)
