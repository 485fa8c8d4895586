use Rattle.std.proofs.Common.{◌∙◌, sym}
use Rattle.driver_rack.proofs.Rows.{name_at}
use Rattle.driver_rack.proofs.rack.RackDrivers.name_of.Goals as goal

pub returns : goal.returns
returns g c = rw (← c.self.view_is) (c.get.ensures ∙ sym (name_at g.D.Driver.kind_of g.D.Driver.book c.self.inside.names c.self.inside.drivers.items c.args.driver c.self.invariant.0))
