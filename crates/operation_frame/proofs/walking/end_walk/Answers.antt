use Rattle.std.proofs.Common.{subst, sym}
use Rattle.devnode_tree.specs.Trees.{Tree}
use Rattle.device_holdings.specs.Mirrors.{KeepsMirror}
use Rattle.operation_frame.proofs.Mirroring.{mirror_state}
use Rattle.operation_frame.proofs.walking.end_walk.Goals as goal

pub returns-clause-mirrors : goal.returns-clause-mirrors
returns-clause-mirrors c =
    λ arbiters. subst (λ (t : Tree). KeepsMirror c.args.tree.now.nodes arbiters t.nodes arbiters) (sym c.set_state.ensures) (mirror_state _ c.args.tree.now.nodes arbiters _)
