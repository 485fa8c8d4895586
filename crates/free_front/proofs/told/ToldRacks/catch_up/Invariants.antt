use Rattle.std.proofs.Common.{vec_len}
use Rattle.free_front.specs.ToldRacks.{AreAlike}
use Rattle.free_front.proofs.told.ToldRacks.catch_up.Given as goal

abbrev pub invariant-names : goal.invariant-names
invariant-names l = AreAlike l.initial.self l.self

abbrev pub decreases-names : goal.decreases-names
decreases-names l = vec_len l.self.late
