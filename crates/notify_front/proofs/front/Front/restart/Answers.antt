use Rattle.notify_front.proofs.FrontRuns.{reached_restarted}
use Rattle.notify_front.proofs.front.Front.restart.Goals as goal

pub invariant_of-self : goal.invariant_of-self
invariant_of-self g c =
    reached_restarted c.self.inside.desk c.restart.new.self c.self.invariant (g.R.Drivers.rows c.args.rack.now) c.restart.result c.restart.ensures.opens c.restart.ensures.err
