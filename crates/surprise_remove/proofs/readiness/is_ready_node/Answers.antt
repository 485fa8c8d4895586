use Rattle.std.proofs.Common.{◌∙◌, true, false, refl, ap, sym}
use Rattle.std.specs.List.{list_any}
use Rattle.pnp_model.specs.Records.{Node}
use Rattle.relations.specs.Leaving.{below}
use Rattle.surprise_remove.proofs.Hanging.{full_at, ready_is}
use Rattle.surprise_remove.proofs.readiness.is_ready_node.Goals as goal

pub returns-then-is_let_go : goal.returns-then-is_let_go
returns-then-is_let_go c =
    let nodes = c.args.tree.now.nodes in
    let rs = c.args.relations.now in
    λ around. ready_is c.args.tree.now rs c.args.handles.now c.args.node.now true c.is_held_back.result c.requires (sym c.if-is_let_go.true ∙ c.is_let_go.ensures)
    (c.is_held_back.ensures ∙ ap (λ (n : Node). list_any (full_at nodes) (below nodes rs n.serial)) c.node.view_is)

pub returns-else-is_let_go : goal.returns-else-is_let_go
returns-else-is_let_go c =
    let nodes = c.args.tree.now.nodes in
    let rs = c.args.relations.now in
    let node = c.args.node.now in
    λ around. c.if-is_let_go.false
    ∙ ready_is c.args.tree.now rs c.args.handles.now node false (list_any (full_at nodes) (below nodes rs node.serial)) c.requires (sym c.if-is_let_go.false ∙ c.is_let_go.ensures) refl
