use Rattle.std.proofs.Common.{subst, sym}
use Rattle.devnode_tree.specs.Trees.{Tree}
use Rattle.device_holdings.specs.Mirrors.{KeepsMirror}
use Rattle.start_sequence.proofs.Mirroring.{mirror_state}
use Rattle.start_sequence.proofs.next.start.Goals as goal

pub returns-then-refused-clause-mirrors : goal.returns-then-refused-clause-mirrors
returns-then-refused-clause-mirrors g c =
    λ arbiters. subst (λ (t : Tree). KeepsMirror c.args.tree.now.nodes arbiters t.nodes arbiters) (sym c.set_state.ensures) (mirror_state _ _ c.args.tree.now.nodes arbiters)

pub returns-else-refused-clause-mirrors : goal.returns-else-refused-clause-mirrors
returns-else-refused-clause-mirrors g c =
    λ arbiters. subst (λ (t : Tree). KeepsMirror c.args.tree.now.nodes arbiters t.nodes arbiters) (sym c.set_state.ensures) (mirror_state _ _ c.args.tree.now.nodes arbiters)
