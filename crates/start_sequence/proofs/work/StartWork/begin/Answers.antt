use Rattle.std.proofs.Common.{◌∙◌, None, Some, sym, ap, subst}
use Rattle.pnp_model.specs.Records.{Node}
use Rattle.devnode_tree.specs.Trees.{Tree}
use Rattle.device_holdings.specs.Mirrors.{KeepsMirror}
use Rattle.start_sequence.proofs.Mirroring.{mirror_problem}
use Rattle.start_sequence.proofs.Finding.{own_serial}
use Rattle.start_sequence.proofs.work.StartWork.begin.Goals as goal

pub returns-in_ok-driver-in-Drivers-clause-device : goal.returns-in_ok-driver-in-Drivers-clause-device
returns-in_ok-driver-in-Drivers-clause-device g c =
    ap (λ (n : Node). n.serial) c.node.view_is ∙ own_serial c.args.serial c.at-node.result.now c.args.tree.now.nodes (sym c.at-node.ensures.node)

pub returns-in-Trouble-clause-mirrors : goal.returns-in-Trouble-clause-mirrors
returns-in-Trouble-clause-mirrors g c =
    λ arbiters. subst (λ (t : Tree). KeepsMirror c.args.tree.now.nodes arbiters t.nodes arbiters) (sym c.set_problem.ensures) (mirror_problem _ (Some c.in-Trouble.problem) c.args.tree.now.nodes arbiters)

pub returns-in_ok-driver-in-Drivers-clause-mirrors : goal.returns-in_ok-driver-in-Drivers-clause-mirrors
returns-in_ok-driver-in-Drivers-clause-mirrors g c =
    λ arbiters. subst (λ (t : Tree). KeepsMirror c.args.tree.now.nodes arbiters t.nodes arbiters) (sym c.set_problem-in-Drivers.ensures) (mirror_problem _ None c.args.tree.now.nodes arbiters)
