use Rattle.ending_tally.specs.Tallies.{is_broken_at}
use Rattle.ending_tally.specs.Steps.{mark_if}
use Rattle.ending_tally.proofs.Marks.{Marked}
use Rattle.ending_tally.proofs.tally.mark_broken.Given as goal

abbrev pub invariant-loop-at : goal.invariant-loop-at
invariant-loop-at l = Marked l.fn.marks.items l.marks.items l.at (λ place. mark_if (is_broken_at l.broken place) l.number)
