use Rattle.std.proofs.Common.{subst, sym, Some}
use Rattle.devnode_tree.specs.Trees.{Tree}
use Rattle.device_holdings.specs.Mirrors.{KeepsMirror}
use Rattle.operation_frame.proofs.Mirroring.{mirror_problem}
use Rattle.operation_frame.proofs.leaving.remain.Goals as goal

pub returns-clause-mirrors : goal.returns-clause-mirrors
returns-clause-mirrors c =
    λ arbiters. subst (λ (t : Tree). KeepsMirror c.args.tree.now.nodes arbiters t.nodes arbiters) (sym c.set_problem.ensures)
    (mirror_problem c.args.serial c.args.tree.now.nodes arbiters (Some c.args.problem))
