use Rattle.std.proofs.Common.{arith}
use Rattle.driver_rack.proofs.Rows.{rows_unnamed}
use Rattle.driver_rack.proofs.rack.Rack.make.Goals as goal

pub returns : goal.returns
returns g c = rows_unnamed g.D.Driver.kind_of g.D.Driver.book c.in_ok-names.names c.args.drivers.items c.len.result c.in_ok-names.ensures (omega (arith, c.len.ensures, c.args.drivers.ok.0))
