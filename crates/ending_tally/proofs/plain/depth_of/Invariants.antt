use Rattle.std.proofs.Common.{◌≡◌, ◌+◌, drop}
use Rattle.ending_tally.specs.Plain.{depth_of}
use Rattle.ending_tally.proofs.plain.depth_of.Given as goal

abbrev pub invariant-loop-at : goal.invariant-loop-at
invariant-loop-at l = l.at + depth_of (drop l.at l.line) ≡ depth_of l.line
