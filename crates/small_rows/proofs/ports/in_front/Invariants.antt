use Rattle.std.proofs.Common.{◌≡◌, []}
use Rattle.trial_journal.specs.Journals.{GoesBack}
use Rattle.small_rows.proofs.ports.in_front.Given as goal

abbrev pub invariant-turns : goal.invariant-turns
invariant-turns l = record {
  same_reference : l.trial.arbiters.ghost_name ≡ l.initial.trial.arbiters.ghost_name;
  journal : l.trial.journal ≡ record { entries = []; room = 1 };
  now : l.trial.arbiters.now ≡ l.initial.trial.arbiters.now;
  goes_back : GoesBack l.trial.journal.room l.trial.arbiters.now l.trial.journal.entries;
}
