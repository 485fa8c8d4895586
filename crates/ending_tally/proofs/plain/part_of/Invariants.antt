use Rattle.std.proofs.Common.{◌≡◌, ◌++◌, map, drop}
use Rattle.ending_tally.specs.Plain.{part_of}
use Rattle.ending_tally.proofs.plain.part_of.Given as goal

abbrev pub invariant-loop-line : goal.invariant-loop-line
invariant-loop-line l = map (λ line. line.now) l.part.items ++ part_of (map (λ line. line.now) (drop l.line-index l.lines)) ≡ part_of (map (λ line. line.now) l.lines)
