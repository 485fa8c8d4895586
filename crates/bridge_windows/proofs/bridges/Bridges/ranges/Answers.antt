use Rattle.std.proofs.Common.{◌∙◌, ap}
use Rattle.bridge_windows.specs.Ranges.{kept_in}
use Rattle.bridge_windows.proofs.bridges.Bridges.ranges.Goals as goal

pub returns-in-Some : goal.returns-in-Some
returns-in-Some c = rw (← c.self.view_is) (c.deref.ensures.value ∙ (ap kept_in c.in-Some.ensures.value ∙ c.self.invariant c.args.born))

pub returns-in-None : goal.returns-in-None
returns-in-None c = rw (← c.self.view_is) (ap kept_in c.in-None.ensures.value ∙ c.self.invariant c.args.born)
