use Rattle.std.proofs.Common.{sym, subst}
use Rattle.notify_front.specs.Desks.{Desk, IfFrontQuiet, front_of, told_of}
use Rattle.notify_front.specs.Hands.{Fits}
use Rattle.notify_front.proofs.FrontRuns.{tells_quiet}
use Rattle.notify_front.proofs.desk.Desk.is_quiet.Goals as goal

pub returns-in-Idle : goal.returns-in-Idle
returns-in-Idle g c =
    let d : Desk = record { manager = c.self.inside.manager; registrations = c.self.inside.registrations; hand = c.self.inside.round } in
    let fits = subst (λ (x : Desk). Fits x.manager.state x.hand) (sym c.self.view_is) c.requires in
    subst (λ (x : Desk). IfFrontQuiet c.is_quiet.result (told_of x) (front_of x)) c.self.view_is
    (tells_quiet c.is_quiet.result (told_of d) (front_of d) c.turn.result fits c.in-Idle.is c.turn.ensures c.is_quiet.ensures)
