use Rattle.std.proofs.Common.{◌≡◌, map, take}
use Rattle.ending_tally.specs.Patterns.{words_of}
use Rattle.explore_report.proofs.expected.patterns_of.Given as goal

abbrev pub invariant-loop-at : goal.invariant-loop-at
invariant-loop-at l = l.patterns.items ≡ map words_of (take l.at l.texts)
