use Rattle.std.proofs.Common.{◌≡◌, map}
use Rattle.ending_tally.specs.Steps.{entry_of, with_all}
use Rattle.ending_tally.proofs.Maps.{endings_of}
use Rattle.ending_tally.proofs.tally.Tally.merge.Given as goal

-- what is left to be added gives what all of it gives
abbrev pub invariant-loop-kind : goal.invariant-loop-kind
invariant-loop-kind l = record {
  scripts : l.self.scripts ≡ l.initial.self.scripts;
  broken : l.self.broken.items ≡ l.initial.self.broken.items;
  endings : with_all (endings_of l.self.endings) (map entry_of l.kind-iterator) ≡ with_all (endings_of l.initial.self.endings) (map entry_of l.other.endings.entries);
}
