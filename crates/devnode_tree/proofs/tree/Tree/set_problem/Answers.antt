use Rattle.std.proofs.Common.{refl}
use Rattle.pnp_model.specs.Cores.{with_problem}
use Rattle.devnode_tree.proofs.Changes.{kept_set, births_set, seen_set, unchanged}
use Rattle.devnode_tree.proofs.Lowering.{quiet_set}
use Rattle.devnode_tree.proofs.Keeping.{keeps_problem}
use Rattle.devnode_tree.proofs.tree.Tree.set_problem.Goals as goal

pub invariant_of-self : goal.invariant_of-self
invariant_of-self c = record {
  kept = kept_set (with_problem c.args.problem) (keeps_problem c.args.problem) c.self.inside.entries.items c.deref.result.now c.deref.ensures.value c.self.inside.next c.args.serial c.in-Some.place c.in-Some.ensures c.index_mut.result.now c.set_problem.new.self c.index_mut.ensures.value c.set_problem.ensures _ c.self.invariant.kept;
  births_are = births_set (with_problem c.args.problem) (keeps_problem c.args.problem) c.self.inside.entries.items c.deref.result.now c.deref.ensures.value c.self.inside.next c.args.serial c.in-Some.place c.in-Some.ensures c.index_mut.result.now c.set_problem.new.self c.index_mut.ensures.value c.set_problem.ensures _ c.self.invariant.births_are;
  bottoms_are = quiet_set (with_problem c.args.problem) (keeps_problem c.args.problem) c.self.inside.entries.items c.deref.result.now c.deref.ensures.value c.self.inside.next c.args.serial c.in-Some.place c.in-Some.ensures c.index_mut.result.now c.set_problem.new.self c.index_mut.ensures.value c.set_problem.ensures c.self.inside.lowest c.self.invariant.bottoms_are (λ x. refl) (λ x. refl);
}

pub returns-in-Some : goal.returns-in-Some
returns-in-Some c = rw (← c.self.view_is) (seen_set (with_problem c.args.problem) (keeps_problem c.args.problem) c.self.inside.entries.items c.deref.result.now c.deref.ensures.value c.self.inside.next c.args.serial c.in-Some.place c.in-Some.ensures c.index_mut.result.now c.set_problem.new.self c.index_mut.ensures.value c.set_problem.ensures)

pub returns-in_default : goal.returns-in_default
returns-in_default c = rw (← c.self.view_is) (unchanged (with_problem c.args.problem) c.self.inside.entries.items c.deref.result.now c.deref.ensures.value c.self.inside.next c.args.serial c.in_default.ensures)
