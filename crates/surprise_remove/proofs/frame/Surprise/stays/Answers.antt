use Rattle.std.proofs.Common.{◌≡◌, ◌∙◌, false, sym, ap}
use Rattle.pnp_model.specs.Tests.{has}
use Rattle.pnp_model.specs.Records.{Job}
use Rattle.pnp_model.specs.Handles.{is_open}
use Rattle.relations.specs.Leaving.{below}
use Rattle.surprise_remove.specs.Steps.{stays}
use Rattle.surprise_remove.specs.contracts.frame.Surprise.{the_view}
use Rattle.surprise_remove.proofs.Direct.{any-reverse, stays_so}
use Rattle.surprise_remove.proofs.frame.Surprise.stays.Goals as goal
use Rattle.surprise_remove.proofs.frame.Surprise.stays.Goals.{then-has, else-has}

pub returns-else-is_open : goal.returns-else-is_open
returns-else-is_open c =
    let nodes = c.args.tree.now.nodes in
    let rs = c.args.relations.now in
    let none : (has c.self.inside.told c.args.serial ≡ false) × (is_open c.args.handles.now c.args.serial ≡ false) =
    elim c.if-has.branch [
      | then-has w ↦ absurd (let f = c.if-is_open.false in let t = w.value-is in cc)
      | else-has w ↦ (sym c.has.ensures ∙ w.if-has.false, let f = c.if-is_open.false in let t = w.value-is in sym w.is_open.ensures ∙ (sym t ∙ f))
    ] in
    stays_so nodes rs (the_view c.self.inside) c.args.handles.now c.args.serial c.has_below.result none.0 none.1
    (c.has_below.ensures ∙ sym (any-reverse c.self.inside.behind (below nodes rs c.args.serial)))
    ∙ ap (λ (o : Job). stays nodes rs o c.args.handles.now c.args.serial) c.self.view_is
