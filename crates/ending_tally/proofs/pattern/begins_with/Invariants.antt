use Rattle.std.proofs.Common.{◌≡◌, map, drop}
use Rattle.ending_tally.specs.Patterns.{begins_with}
use Rattle.ending_tally.proofs.pattern.begins_with.Given as goal

abbrev pub invariant-loop-word : goal.invariant-loop-word
invariant-loop-word l = begins_with (map (λ w. w.items) (drop l.word-index l.pattern)) (map (λ w. w.now) l.rest) ≡ begins_with (map (λ w. w.items) l.pattern) (map (λ w. w.now) l.words)
