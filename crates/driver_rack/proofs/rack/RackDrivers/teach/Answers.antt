use Rattle.std.proofs.Common.{◌<◌, refl, length, arith}
use Rattle.std.proofs.lemmas.Option.{slice_get_read}
use Rattle.driver_rack.proofs.Rows.{taught, within_rows}
use Rattle.driver_rack.proofs.rack.RackDrivers.teach.Goals as goal

pub index_mut-requires : goal.index_mut-requires
index_mut-requires g c =
    let within : c.args.driver < length c.self.inside.drivers.items = within_rows g.D.Driver.kind_of g.D.Driver.book c.self.inside.names c.self.inside.drivers.items c.args.driver c.self.invariant.0 (rw c.self.view_is c.requires) in
    omega (arith, c.self.inside.drivers.ok.0)

pub returns : goal.returns
returns g c =
    let drivers = c.self.inside.drivers.items in
    let within : c.args.driver < length drivers = within_rows g.D.Driver.kind_of g.D.Driver.book c.self.inside.names drivers c.args.driver c.self.invariant.0 (rw c.self.view_is c.requires) in
    rw (← c.self.view_is) (taught g.D.Driver.kind_of g.D.Driver.book c.self.inside.names drivers c.args.driver c.index_mut.result.now c.teach.new.self c.args.rule c.teach.result c.self.invariant.0
    (slice_get_read drivers (length drivers) c.args.driver c.index_mut.result.now refl within c.index_mut.ensures.value)
    c.teach.ensures.learns c.teach.ensures.kind)
