use Rattle.std.proofs.Common.{◌==◌, ◌∙◌, ap, sym, subst}
use Rattle.pnp_model.proofs.Keyed.{without_first_at, without_first_none}
use Rattle.devnode_tree.specs.Entries.{Entry}
use Rattle.devnode_tree.specs.Trees.{Ascends}
use Rattle.devnode_tree.proofs.Changes.{with_children}
use Rattle.devnode_tree.proofs.entry.Entry.forget_child.Goals as goal

pub place_in-requires : goal.place_in-requires
place_in-requires c = rw c.deref.ensures.value (subst (λ (e : Entry). Ascends 0 e.children) (sym c.self.view_is) c.requires)

pub returns-in-Some : goal.returns-in-Some
returns-in-Some c =
    rw (← c.self.view_is)
    (ap (with_children c.self.inside.node)
    (c.remove.ensures.items ∙ without_first_at (λ x. x == c.args.serial) c.self.inside.children.items c.in-Some.place (sym (rw c.deref.ensures.value at c.in-Some.ensures))))

pub returns-in_default : goal.returns-in_default
returns-in_default c =
    rw (← c.self.view_is)
    (ap (with_children c.self.inside.node) (sym (without_first_none (λ x. x == c.args.serial) c.self.inside.children.items (sym (rw c.deref.ensures.value at c.in_default.ensures)))))
