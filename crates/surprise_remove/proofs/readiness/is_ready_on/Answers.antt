use Rattle.std.proofs.Common.{◌∙◌, true, false, refl, ap, sym}
use Rattle.std.specs.List.{list_any}
use Rattle.pnp_model.specs.Records.{Node}
use Rattle.relations.specs.Leaving.{below}
use Rattle.surprise_remove.proofs.Hanging.{full_at, ready_is}
use Rattle.surprise_remove.proofs.readiness.is_ready_on.Goals as goal

pub returns-then-is_let_go_on-clause-ready : goal.returns-then-is_let_go_on-clause-ready
returns-then-is_let_go_on-clause-ready c =
    let nodes = c.args.tree.now.nodes in
    let rs = c.args.relations.now in
    λ handles same around. ready_is c.args.tree.now rs handles c.args.node.now true c.is_held_back.result c.requires (sym c.if-is_let_go_on.true ∙ c.is_let_go_on.ensures.let_go handles same)
    (c.is_held_back.ensures ∙ ap (λ (n : Node). list_any (full_at nodes) (below nodes rs n.serial)) c.node.view_is)

pub returns-else-is_let_go_on-clause-ready : goal.returns-else-is_let_go_on-clause-ready
returns-else-is_let_go_on-clause-ready c =
    let nodes = c.args.tree.now.nodes in
    let rs = c.args.relations.now in
    let node = c.args.node.now in
    λ handles same around. c.if-is_let_go_on.false
    ∙ ready_is c.args.tree.now rs handles node false (list_any (full_at nodes) (below nodes rs node.serial)) c.requires (sym c.if-is_let_go_on.false ∙ c.is_let_go_on.ensures.let_go handles same) refl
