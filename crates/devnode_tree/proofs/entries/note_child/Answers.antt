use Rattle.std.proofs.Common.{sym}
use Rattle.pnp_model.proofs.Keyed.{changed_first_at, changed_first_none}
use Rattle.devnode_tree.specs.Entries.{has_serial, with_child}
use Rattle.devnode_tree.proofs.entries.note_child.Goals as goal

pub returns-in_ok-add_child-clause-noted : goal.returns-in_ok-add_child-clause-noted
returns-in_ok-add_child-clause-noted c =
    changed_first_at (has_serial c.args.parent) (with_child c.args.serial) c.args.entries.now c.in-Some.place c.add_child.new.self c.index-entries-place.result (sym c.in-Some.ensures) c.in_ok-add_child.ensures.added

pub returns-in_default-clause-noted : goal.returns-in_default-clause-noted
returns-in_default-clause-noted c = sym (changed_first_none (has_serial c.args.parent) (with_child c.args.serial) c.args.entries.now (sym c.in_default.ensures))
