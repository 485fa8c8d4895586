use Rattle.std.proofs.Common.{◌∙◌, sym}
use Rattle.driver_rack.proofs.Rows.{named}
use Rattle.driver_rack.proofs.rack.RackDrivers.find.Goals as goal

pub returns : goal.returns
returns g c = rw (← c.self.view_is) (c.find.ensures ∙ sym (named g.D.Driver.kind_of g.D.Driver.book c.args.name.now c.self.inside.names c.self.inside.drivers.items c.self.invariant.0))
