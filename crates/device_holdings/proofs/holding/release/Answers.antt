use Rattle.std.proofs.Common.{◌∙◌, subst, sym}
use Rattle.pnp_model.specs.Cores.{node_at}
use Rattle.devnode_tree.specs.Trees.{Tree}
use Rattle.device_holdings.specs.Mirrors.{Mirrors}
use Rattle.device_holdings.proofs.Apart.{unwrapped, pairs_beside, own_first, released}
use Rattle.device_holdings.proofs.holding.release.Goals as goal

pub take_all-requires : goal.take_all-requires
take_all-requires c =
    let k = c.args.serial in let nodes = c.args.tree.now.nodes in
    (pairs_beside c.requires.0 k nodes, own_first c.requires.0 k nodes c.strip-held.result (c.strip-held.ensures.old ∙ unwrapped (node_at k nodes)) c.args.arbiters.now c.requires.1)

pub returns-clause-mirrors : goal.returns-clause-mirrors
returns-clause-mirrors c = λ reserved m.
    let k = c.args.serial in let nodes = c.args.tree.now.nodes in
    subst (λ (t : Tree). Mirrors reserved t.nodes c.take_all.new.arbiters) (sym c.strip-held.ensures.set)
    (released reserved k nodes c.strip-held.result (c.strip-held.ensures.old ∙ unwrapped (node_at k nodes)) c.args.arbiters.now m c.take_all.new.arbiters c.take_all.ensures.taken)
