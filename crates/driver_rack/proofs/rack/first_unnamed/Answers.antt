use Rattle.std.proofs.Common.{refl, length}
use Rattle.std.proofs.lemmas.Option.{slice_get_read}
use Rattle.driver_rack.proofs.Rows.{goes_on, stops, none_found}
use Rattle.driver_rack.proofs.rack.first_unnamed.Goals as goal

pub returns-then-is_unnamed : goal.returns-then-is_unnamed
returns-then-is_unnamed g c =
    let drivers = c.args.drivers.now in
    let read = slice_get_read drivers (length drivers) c.loop-i.i c.index-drivers-i.result refl c.loop-i-test.true c.index-drivers-i.is in
    stops g.D.Driver.kind_of g.D.Driver.book c.args.kind c.args.names.now drivers c.loop-i.i c.index-drivers-i.result c.requires.as_many read
    c.kind.result c.kind.ensures _ c.get.ensures c.is_unnamed.result c.is_unnamed.ensures c.loop-i-test.true c.if-is_unnamed.true c.loop-i.invariant

pub loop-i-preserved : goal.loop-i-preserved
loop-i-preserved g c =
    let drivers = c.args.drivers.now in
    let read = slice_get_read drivers (length drivers) c.loop-i.i c.index-drivers-i.result refl c.loop-i-test.true c.index-drivers-i.is in
    goes_on g.D.Driver.kind_of g.D.Driver.book c.args.kind c.args.names.now drivers c.loop-i.i c.index-drivers-i.result c.requires.as_many read
    c.kind.result c.kind.ensures _ c.get.ensures c.is_unnamed.result c.is_unnamed.ensures c.loop-i-test.true c.if-is_unnamed.false c.loop-i.invariant

pub returns : goal.returns
returns g c = none_found g.D.Driver.kind_of g.D.Driver.book c.args.kind c.args.names.now c.args.drivers.now c.loop-i.i c.requires.as_many c.loop-i-test.false c.loop-i.invariant
