use Rattle.ending_tally.specs.Tallies.{mark_at}
use Rattle.ending_tally.proofs.Marks.{Marked}
use Rattle.ending_tally.proofs.tally.mark_all.Given as goal

abbrev pub invariant-loop-at : goal.invariant-loop-at
invariant-loop-at l = Marked l.fn.marks.items l.marks.items l.at (λ place. mark_at l.others place)
