use Rattle.std.proofs.Common.{subst}
use Rattle.notify_front.specs.Hands.{IsTurn}
use Rattle.notify_front.specs.declared.round.Turn.{Turn}
use Rattle.notify_front.proofs.FrontRuns.{begun_of, refused_of}
use Rattle.notify_front.proofs.desk.Desk.step_of_round.Goals as goal

pub begin-requires : goal.begin-requires
begin-requires g c = begun_of c.args.self.now c.requires.fits (subst (λ (t : Turn). IsTurn t c.args.self.now.hand) c.in-Begin.is c.requires.turn)

pub decline-requires-clause-is_due : goal.decline-requires-clause-is_due
decline-requires-clause-is_due g c =
    let w = c.in-Decline in
    (refused_of c.args.self.now w.kind w.serial c.requires.fits (subst (λ (t : Turn). IsTurn t c.args.self.now.hand) w.is c.requires.turn)).is_due

pub decline-requires-clause-in_order : goal.decline-requires-clause-in_order
decline-requires-clause-in_order g c =
    let w = c.in-Decline in
    (refused_of c.args.self.now w.kind w.serial c.requires.fits (subst (λ (t : Turn). IsTurn t c.args.self.now.hand) w.is c.requires.turn)).in_order
