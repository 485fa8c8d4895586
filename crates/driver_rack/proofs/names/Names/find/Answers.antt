use Rattle.std.proofs.Common.{◌∙◌, ap, Some, Option, List, position}
use Rattle.pnp_labels.specs.Texts.{Text}
use Rattle.pnp_model.specs.Books.{name_is}
use Rattle.driver_rack.specs.Naming.{Entry}
use Rattle.driver_rack.proofs.Naming.{found, absent}
use Rattle.driver_rack.proofs.names.Names.find.Goals as goal

pub returns-in-Ok : goal.returns-in-Ok
returns-in-Ok c =
    let here = found c.self.inside.names.items c.self.inside.index.items c.self.invariant c.args.name.now c.in-Ok.at c.deref.result.now c.deref.ensures.value
    c.in-Ok.ensures.within c.in-Ok.ensures.place c.index.result.now c.index.ensures in
    ap (λ (e : Entry). Some e.1) c.behind-self.view_is ∙ here ∙ ap (λ (names : List (Option Text)). position (name_is c.args.name.now) names) c.self.view_is

pub returns-in-Err : goal.returns-in-Err
returns-in-Err c =
    let here = absent c.self.inside.names.items c.self.inside.index.items c.self.invariant c.args.name.now c.in-Err.field-0 c.deref.result.now c.deref.ensures.value c.in-Err.ensures.place in
    here ∙ ap (λ (names : List (Option Text)). position (name_is c.args.name.now) names) c.self.view_is
