use Rattle.std.proofs.Common.{◌≡◌, ◌∙◌, slice_get, slice_set, Some, None, position, ap, insert}
use Rattle.pnp_labels.specs.Texts.{Text}
use Rattle.pnp_model.specs.Books.{name_is}
use Rattle.driver_rack.proofs.Naming.{indexed_more, not_fresh}
use Rattle.driver_rack.proofs.names.Names.give.Goals as goal

pub invariant_of-self-in_ok-insert-2 : goal.invariant_of-self-in_ok-insert-2
invariant_of-self-in_ok-insert-2 c =
    let names = c.self.inside.names.items in
    let was : slice_get names c.args.driver ≡ Some None = rw c.self.view_is c.requires.without in
    let fresh : position (name_is c.args.name.now) names ≡ None = rw c.self.view_is c.requires.fresh in
    indexed_more names c.args.name.now c.args.driver was fresh c.self.inside.index.items c.in-Err.at c.self.invariant _ c.insert.new.self.items c.deref.result.now
    (ap (λ (t : Text). slice_set names c.args.driver (Some t)) c.in_ok-own.ensures) (c.in_ok-insert.ensures.items ∙ ap (λ (t : Text). insert c.self.inside.index.items c.in-Err.at (t, c.args.driver)) c.in_ok-copy.ensures) c.deref.ensures.value c.in-Err.ensures.within c.in-Err.ensures.place

pub returns-in_default-clause-ok : goal.returns-in_default-clause-ok
returns-in_default-clause-ok c =
    let names = c.self.inside.names.items in
    let fresh : position (name_is c.args.name.now) names ≡ None = rw c.self.view_is c.requires.fresh in
    absurd (not_fresh names c.self.inside.index.items c.self.invariant c.args.name.now c.in_default.field-0 c.deref.result.now c.deref.ensures.value c.in_default.ensures.within c.in_default.ensures.place fresh)
