use Rattle.std.proofs.Common.{◌≡◌, map, take}
use Rattle.ending_tally.proofs.words.copied.Given as goal

abbrev pub invariant-loop-word : goal.invariant-loop-word
invariant-loop-word l = map (λ w. w.items) l.words.items ≡ map (λ w. w.now) (take l.word-index l.found)
