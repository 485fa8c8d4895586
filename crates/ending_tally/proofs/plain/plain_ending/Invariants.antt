use Rattle.std.proofs.Common.{◌≡◌, ◌++◌, map, drop}
use Rattle.ending_tally.specs.Plain.{parts_form, plain}
use Rattle.ending_tally.proofs.plain.plain_ending.Given as goal

abbrev pub invariant-loop-at : goal.invariant-loop-at
invariant-loop-at l = l.out.items ++ parts_form (map (λ line. line.now) (drop l.at l.lines.items)) ≡ plain l.text
