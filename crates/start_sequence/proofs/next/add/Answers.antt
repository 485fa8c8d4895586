use Rattle.std.proofs.Common.{◌∙◌, subst, sym}
use Rattle.devnode_tree.specs.Trees.{Tree}
use Rattle.device_holdings.specs.Mirrors.{KeepsMirror}
use Rattle.start_sequence.proofs.Mirroring.{mirror_stack}
use Rattle.start_sequence.proofs.next.add.Goals as goal
use Rattle.start_sequence.proofs.next.add.Goals.{then-ok, else-ok}

pub returns-clause-mirrors : goal.returns-clause-mirrors
returns-clause-mirrors g c = λ arbiters.
    elim c.if-ok.branch [
      | then-ok w ↦
          subst (λ (t : Tree). KeepsMirror c.args.tree.now.nodes arbiters t.nodes arbiters) (sym (w.tree-is ∙ w.set_stack.ensures)) (mirror_stack _ _ _ c.args.tree.now.nodes arbiters)
      | else-ok w ↦ subst (λ (t : Tree). KeepsMirror c.args.tree.now.nodes arbiters t.nodes arbiters) (sym w.tree-is) (λ reserved m. m)
    ]
