use Rattle.std.proofs.Common.{sym, subst}
use Rattle.notify_front.proofs.Opening.{IsFit, fits_same}
use Rattle.notify_front.proofs.open_front.OpenFront.swap_rack.Goals as goal

pub invariant_of-self : goal.invariant_of-self
invariant_of-self g c =
    let d = c.self.inside.desk in
    subst IsFit (sym c.swap_rack.ensures.given) (fits_same d.manager.state (g.R.Drivers.rows c.args.rack.now) d.hand c.self.invariant)
