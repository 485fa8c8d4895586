use Rattle.std.proofs.Common.{ap, sym, ◌∙◌, subst}
use Rattle.trial_journal.specs.Journals.{CanUndo, undone}
use Rattle.trial_journal.proofs.KindsApart.{Contains-put}
use Rattle.trial_journal.proofs.GoingBack.{taken_back}
use Rattle.trial_journal.proofs.trial.undo.Goals as goal

pub take-requires : goal.take-requires
take-requires c =
    let can = subst (CanUndo c.args.arbiters.now) c.in-Put.is c.requires in
    Contains-put _ c.args.arbiters.now (c.in-Put.owner, c.in-Put.res) can

pub returns-in-Put : goal.returns-in-Put
returns-in-Put c =
    taken_back c.args.arbiters.now c.take.new.self (c.in-Put.owner, c.in-Put.res) c.take.ensures.pairs c.take.ensures.spare
    ∙ ap (undone c.args.arbiters.now) (sym c.in-Put.is)
