use Rattle.std.proofs.Common.{subst, sym}
use Rattle.devnode_tree.specs.Trees.{Tree}
use Rattle.device_holdings.specs.Mirrors.{KeepsMirror}
use Rattle.operation_frame.proofs.Mirroring.{mirror_gone}
use Rattle.operation_frame.proofs.leaving.leave.Goals as goal

pub returns-clause-mirrors : goal.returns-clause-mirrors
returns-clause-mirrors c =
    λ arbiters. subst (λ (t : Tree). KeepsMirror c.args.tree.now.nodes arbiters t.nodes arbiters) (sym c.leave.ensures)
    (mirror_gone c.args.serial c.args.tree.now.nodes arbiters c.requires.may_leave c.requires.bare)
