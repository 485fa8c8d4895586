use Rattle.std.proofs.Common.{◌||◌, ◌&&◌, ◌∙◌, sym, ap}
use Rattle.std.specs.List.{list_any}
use Rattle.pnp_model.specs.Tests.{has}
use Rattle.relations.specs.Leaving.{is_there}
use Rattle.surprise_remove.proofs.Direct.{any_below}
use Rattle.surprise_remove.proofs.behind.has_below.Goals as goal

pub returns-else-has_one : goal.returns-else-has_one
returns-else-has_one c =
    c.has_end.ensures
    ∙ (ap (λ b. b || list_any (λ e. has c.args.set.now e.to && is_there c.args.tree.now.nodes e.to) c.owned.result.now) (sym c.if-has_one.false ∙ (c.has_one.ensures ∙ ap (list_any (has c.args.set.now)) c.children.ensures))
    ∙ any_below c.args.tree.now.nodes c.args.relations.now (has c.args.set.now) c.args.serial c.owned.result.now c.owned.ensures)
