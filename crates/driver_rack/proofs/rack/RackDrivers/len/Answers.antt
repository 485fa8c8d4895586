use Rattle.std.proofs.Common.{arith}
use Rattle.driver_rack.proofs.Rows.{as_long}
use Rattle.driver_rack.proofs.rack.RackDrivers.len.Goals as goal

pub returns : goal.returns
returns g c = rw (← c.self.view_is) (as_long g.D.Driver.kind_of g.D.Driver.book c.self.inside.names c.self.inside.drivers.items c.len.result c.self.invariant.0 (omega (arith, c.len.ensures, c.self.inside.drivers.ok.0)))
