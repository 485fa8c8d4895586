use Rattle.std.proofs.Common.{◌≡◌, ◌∙◌, sym, refl, rules, Err}
use Rattle.driver_rack.specs.declared.errors.NameError.{NameError}
use Rattle.driver_rack.proofs.Rows.{named, free_at, found_in, renamed}
use Rattle.driver_rack.proofs.rack.RackDrivers.name.Goals as goal

pub returns-in-Some : goal.returns-in-Some
returns-in-Some g c = rw (← c.self.view_is)
    ((c.in-Some.field-0, named g.D.Driver.kind_of g.D.Driver.book c.args.name.now c.self.inside.names c.self.inside.drivers.items c.self.invariant.0 ∙ sym c.in-Some.ensures), refl)

pub give-requires-clause-without : goal.give-requires-clause-without
give-requires-clause-without g c =
    let names = c.self.inside.names in
    let drivers = c.self.inside.drivers.items in
    free_at g.D.Driver.kind_of g.D.Driver.book c.args.kind names drivers c.in-Some-first_unnamed.driver c.self.invariant.0
    (found_in g.D.Driver.kind_of g.D.Driver.book c.args.kind names drivers c.deref.result.now _ c.deref.ensures.value c.in-Some-first_unnamed.ensures)

pub returns-in-None : goal.returns-in-None
returns-in-None g c =
    let names = c.self.inside.names in
    let drivers = c.self.inside.drivers.items in
    rw (← c.self.view_is) (
      named g.D.Driver.kind_of g.D.Driver.book c.args.name.now names drivers c.self.invariant.0 ∙ sym c.in_default.ensures,
      found_in g.D.Driver.kind_of g.D.Driver.book c.args.kind names drivers c.deref.result.now _ c.deref.ensures.value c.in-None.ensures,
      refl,
    )

pub returns-in_ok-give-in-Some-first_unnamed : goal.returns-in_ok-give-in-Some-first_unnamed
returns-in_ok-give-in-Some-first_unnamed g c =
    let names = c.self.inside.names in
    let drivers = c.self.inside.drivers.items in
    let found = found_in g.D.Driver.kind_of g.D.Driver.book c.args.kind names drivers c.deref.result.now _ c.deref.ensures.value c.in-Some-first_unnamed.ensures in
    rw (← c.self.view_is) (
      named g.D.Driver.kind_of g.D.Driver.book c.args.name.now names drivers c.self.invariant.0 ∙ sym c.in_default.ensures,
      found,
      renamed g.D.Driver.kind_of g.D.Driver.book c.args.kind c.args.name.now names c.give.new.self drivers c.in-Some-first_unnamed.driver found c.in_ok-give-in-Some-first_unnamed.ensures.ok,
    )

pub returns-in_err-give-in-Some-first_unnamed : goal.returns-in_err-give-in-Some-first_unnamed
returns-in_err-give-in-Some-first_unnamed g c =
    let names = c.self.inside.names in
    let drivers = c.self.inside.drivers.items in
    let found = found_in g.D.Driver.kind_of g.D.Driver.book c.args.kind names drivers c.deref.result.now _ c.deref.ensures.value c.in-Some-first_unnamed.ensures in
    let is : c.from_residual.result ≡ Err NameError.WantOfMemory = search rules in
    rw (is, c.in_err-give-in-Some-first_unnamed.ensures.err, ← c.self.view_is) (
      named g.D.Driver.kind_of g.D.Driver.book c.args.name.now names drivers c.self.invariant.0 ∙ sym c.in_default.ensures,
      (c.in-Some-first_unnamed.driver, found),
      refl,
    )
