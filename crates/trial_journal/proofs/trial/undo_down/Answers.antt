use Rattle.std.proofs.Common.{ap, ap₂, length, sym, ◌∙◌, arith}
use Rattle.trial_journal.specs.Journals.{back_to}
use Rattle.trial_journal.proofs.GoingBack.{back_here, entries_here, back_twice, length-entries_to}
use Rattle.trial_journal.proofs.trial.undo_down.Goals as goal

arbiters_are : goal.returns-clause-undone
arbiters_are c =
    let low = c.entries-test.false in
    sym (back_here c.args.mark c.entries.arbiters c.entries.journal.entries (omega (arith, c.len.ensures))) ∙ c.entries.invariant.undone

pub returns-clause-undone : goal.returns-clause-undone
returns-clause-undone c = arbiters_are c

pub returns-clause-left : goal.returns-clause-left
returns-clause-left c =
    let low = c.entries-test.false in
    let same = sym (entries_here c.args.mark c.entries.journal.entries (omega (arith, c.len.ensures))) ∙ c.entries.invariant.left in
    λ t. record { entries = same t; room = c.entries.invariant.room t }

pub returns-clause-few : goal.returns-clause-few
returns-clause-few c =
    let low = c.entries-test.false in
    let same = sym (entries_here c.args.mark c.entries.journal.entries (omega (arith, c.len.ensures))) ∙ c.entries.invariant.left in
    ap length same ∙ length-entries_to c.args.mark c.args.journal.now.entries

pub returns-clause-same_before : goal.returns-clause-same_before
returns-clause-same_before c m few =
    let low = c.entries-test.false in
    let same = sym (entries_here c.args.mark c.entries.journal.entries (omega (arith, c.len.ensures))) ∙ c.entries.invariant.left in
    ap₂ (back_to m) (arbiters_are c) same ∙ back_twice m c.args.mark c.args.arbiters.now c.args.journal.now.entries few
