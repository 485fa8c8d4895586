use Rattle.std.proofs.Common.{◌∙◌, List, map, Option, ap, sym, subst}
use Rattle.resource_reqs.specs.Resources.{Reqs}
use Rattle.pnp_model.specs.Records.{Node}
use Rattle.devnode_tree.specs.Trees.{Tree}
use Rattle.device_holdings.specs.Mirrors.{KeepsMirror}
use Rattle.operation_frame.proofs.Mirroring.{mirror_reqs}
use Rattle.rebalance.specs.Parts.{required}
use Rattle.rebalance.proofs.Requiring.{none_required, one_required}
use Rattle.rebalance.proofs.settling.require.Goals as goal

pub returns-in-Some-clause-required : goal.returns-in-Some-clause-required
returns-in-Some-clause-required c =
    let t = c.args.tree.now in
    c.swap_reqs.ensures.set
    ∙ (one_required c.in-Some.reqs c.args.serial t c.swap_reqs.ensures.tree
    ∙ ap (λ (wanted : Option Reqs). record t { nodes = map (required wanted c.args.serial) t.nodes }) (sym c.in-Some.is))

pub returns-in-Some-clause-mirrors : goal.returns-in-Some-clause-mirrors
returns-in-Some-clause-mirrors c = λ arbiters.
    let nodes = c.args.tree.now.nodes in subst (λ (t : Tree). KeepsMirror nodes arbiters t.nodes arbiters) (sym c.swap_reqs.ensures.set) (mirror_reqs c.args.serial nodes arbiters c.in-Some.reqs)

pub returns-in_default-clause-required : goal.returns-in_default-clause-required
returns-in_default-clause-required c =
    let t = c.args.tree.now in
    ap (λ (ns : List Node). record t { nodes = ns }) (sym (none_required c.args.serial t.nodes))
    ∙ ap (λ (wanted : Option Reqs). record t { nodes = map (required wanted c.args.serial) t.nodes }) (sym c.in_default.is)
