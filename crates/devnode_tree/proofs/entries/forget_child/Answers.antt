use Rattle.std.proofs.Common.{sym}
use Rattle.pnp_model.proofs.Keyed.{changed_first_at, changed_first_none}
use Rattle.devnode_tree.specs.Entries.{has_serial, without_child}
use Rattle.devnode_tree.proofs.entries.forget_child.Goals as goal

pub returns-in-Some : goal.returns-in-Some
returns-in-Some c =
    changed_first_at (has_serial c.args.parent) (without_child c.args.serial) c.args.entries.now c.in-Some.place c.forget_child.new.self c.index-entries-place.result (sym c.in-Some.ensures) c.forget_child.ensures

pub returns-in_default : goal.returns-in_default
returns-in_default c = sym (changed_first_none (has_serial c.args.parent) (without_child c.args.serial) c.args.entries.now (sym c.in_default.ensures))
