use Rattle.std.proofs.Common.{◌≡◌, ◌++◌, refl, sym, subst, option_map}
use Rattle.pnp_laws.specs.Kept.{InOrder}
use Rattle.pnp_model.specs.Endings.{joined}
use Rattle.pnp_model.specs.Records.{State}
use Rattle.free_model.specs.Frees.{with_rack}
use Rattle.pnp_machine.specs.Endings.{below_tree}
use Rattle.pnp_machine.specs.Managers.{IsOfRun}
use Rattle.pnp_machine.specs.Machines.{state_of}
use Rattle.pnp_machine.specs.Operations.{operation_of}
use Rattle.pnp_machine.proofs.ButBooks.{one_rack}
use Rattle.pnp_machine.proofs.Givens.{orderly, alone}
use Rattle.pnp_machine.proofs.EndLines.{below_is}
use Rattle.pnp_machine.proofs.machine.Machine.add_below_tree.Goals as goal

pub returns : goal.returns
returns g c =
    let s : State = state_of c.self.inside.devices (g.R.Drivers.rows c.self.inside.rack) c.self.inside.disabled.paths c.self.inside.starts.works (option_map operation_of c.self.inside.operation) c.self.inside.tasks.tasks in
    let run : IsOfRun s = subst (λ (x : State). IsOfRun x) (sym c.self.view_is) c.requires in
    let one = one_rack s run in
    let old : State = with_rack one.here s in
    let held = orderly one.told one.rack one.entries old one.reaches in
    let order : InOrder 0 s.activities = c.works.ensures.order in
    subst (λ (x : State). c.add_handles.new.out.items ≡ c.args.out.now.items ++ joined (below_tree x)) c.self.view_is
    (below_is s order (alone one.told one.rack one.entries old one.reaches) c.in_ok-rows.rows.items c.args.out.now.items c.extend_from_slice.new.self.items
    c.add_rows.new.out.items c.extend_from_slice-2.new.self.items c.add_operation.new.out.items c.add_works.new.out.items c.add_handles.new.out.items
    (c.in_ok-rows.ensures s.core refl refl (record { clear = held.clear; ascends = held.ascends; root = held.root }))
    c.in_ok-extend_from_slice.ensures.items (rw (c.tree-tree.ensures, c.deref.ensures.value) at c.in_ok-add_rows.ensures) c.in_ok-extend_from_slice-2.ensures.items
    (rw c.tree-tree.ensures at c.in_ok-add_operation.ensures) (rw (c.tree-tree.ensures, c.works.ensures.works) at c.in_ok-add_works.ensures)
    (rw (c.tree-tree.ensures, c.handles.ensures) at c.in_ok-add_handles.ensures))
