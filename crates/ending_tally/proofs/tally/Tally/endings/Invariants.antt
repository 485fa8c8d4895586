use Rattle.std.proofs.Common.{◌≡◌, ◌++◌, map}
use Rattle.std.specs.Map.{values_of}
use Rattle.ending_tally.proofs.tally.Tally.endings.Given as goal

abbrev pub invariant-loop-ending : goal.invariant-loop-ending
invariant-loop-ending l = map (λ e. e.now) l.all.items ++ l.ending-iterator ≡ values_of l.self.endings.entries
