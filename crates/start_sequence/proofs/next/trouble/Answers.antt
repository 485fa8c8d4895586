use Rattle.std.proofs.Common.{subst, sym, Some}
use Rattle.devnode_tree.specs.Trees.{Tree}
use Rattle.device_holdings.specs.Mirrors.{KeepsMirror}
use Rattle.start_sequence.proofs.Mirroring.{mirror_problem}
use Rattle.start_sequence.proofs.next.trouble.Goals as goal

pub returns-clause-mirrors : goal.returns-clause-mirrors
returns-clause-mirrors c =
    λ arbiters. subst (λ (t : Tree). KeepsMirror c.args.tree.now.nodes arbiters t.nodes arbiters) (sym c.set_problem.ensures) (mirror_problem _ (Some c.args.problem) c.args.tree.now.nodes arbiters)
