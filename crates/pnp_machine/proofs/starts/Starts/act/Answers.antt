use Rattle.std.proofs.Common.{◌≡◌, ◌∙◌, sym, ap, subst, arith, length, position, Some, false}
use Rattle.std.specs.Option.{IsSome}
use Rattle.pnp_model.specs.Cores.{node_at}
use Rattle.pnp_model.specs.Handles.{was_told}
use Rattle.pnp_model.specs.States.{is_activity, with_phase}
use Rattle.pnp_model.specs.Machine.{phase_walk, is_waiting, is_ready}
use Rattle.pnp_model.proofs.Keyed.{find_from_position, find_from_none}
use Rattle.pnp_laws.specs.Kept.{InOrder}
use Rattle.pnp_laws.proofs.Lookups.{own_activity}
use Rattle.pnp_machine.specs.Starts.{ready_serials}
use Rattle.pnp_machine.proofs.Indexes.{first_there, ready_at, find_passes, goes_not_waits, some_ready, works_acted, index_acted, order_acted, acts_for}
use Rattle.pnp_machine.proofs.starts.Starts.act.Goals as goal

pub unreachable-requires : goal.unreachable-requires
unreachable-requires g c =
    let xs = c.self.inside.works.items in
    let first = rw (← c.self.view_is) at c.requires.first in
    first_there c.args.serial xs c.self.invariant.order first
    (find_from_none (is_activity c.args.serial) xs (rw c.deref.ensures.value at (sym {b = position (is_activity c.args.serial) c.deref.result.now} c.in_default.ensures)))

pub act-requires-clause-there : goal.act-requires-clause-there
act-requires-clause-there g c =
    let xs = c.self.inside.works.items in
    let place : position (is_activity c.args.serial) c.self.inside.works.items ≡ Some c.in-Some.place = rw c.deref.ensures.value at (sym {b = position (is_activity c.args.serial) c.deref.result.now} c.in-Some.ensures) in
    let held = find_from_position (is_activity c.args.serial) xs c.in-Some.place c.index_mut-work.result.now place ∙ sym (ap Some c.index_mut-work.ensures.value) in
    subst (λ k. IsSome (node_at k c.args.devices.now.tree.nodes)) (sym (own_activity c.args.serial c.index_mut-work.result.now xs held)) c.requires.there

pub act-requires-clause-untold : goal.act-requires-clause-untold
act-requires-clause-untold g c =
    let xs = c.self.inside.works.items in
    let place : position (is_activity c.args.serial) c.self.inside.works.items ≡ Some c.in-Some.place = rw c.deref.ensures.value at (sym {b = position (is_activity c.args.serial) c.deref.result.now} c.in-Some.ensures) in
    let held = find_from_position (is_activity c.args.serial) xs c.in-Some.place c.index_mut-work.result.now place ∙ sym (ap Some c.index_mut-work.ensures.value) in
    subst (λ k. was_told (node_at k c.args.devices.now.tree.nodes) ≡ false) (sym (own_activity c.args.serial c.index_mut-work.result.now xs held)) c.requires.untold

pub act-requires-clause-goes : goal.act-requires-clause-goes
act-requires-clause-goes g c =
    let xs = c.self.inside.works.items in
    let a = c.index_mut-work.result.now in
    let first = rw (← c.self.view_is) at c.requires.first in
    let place : position (is_activity c.args.serial) c.self.inside.works.items ≡ Some c.in-Some.place = rw c.deref.ensures.value at (sym {b = position (is_activity c.args.serial) c.deref.result.now} c.in-Some.ensures) in
    let held = find_from_position (is_activity c.args.serial) xs c.in-Some.place a place ∙ sym (ap Some c.index_mut-work.ensures.value) in
    goes_not_waits (is_waiting (phase_walk a.phase))
    (find_passes is_ready xs a (ready_at c.args.serial xs a c.self.invariant.order first held))

pub drop_first-requires : goal.drop_first-requires
drop_first-requires g c =
    let first = rw (← c.self.view_is) at c.requires.first in
    let some = some_ready c.args.serial c.self.inside.works.items first in
    let same = ap length c.self.invariant.index in
    omega (arith, c.self.inside.ready.ok.0)

pub invariant_of-self-2 : goal.invariant_of-self-2
invariant_of-self-2 g c =
    let xs = c.self.inside.works.items in
    let k = c.args.serial in
    let a = c.index_mut-work.result.now in
    let b = c.act.new.work in
    let step = c.in_ok-step.step in
    let first = rw (← c.self.view_is) at c.requires.first in
    let place : position (is_activity c.args.serial) c.self.inside.works.items ≡ Some c.in-Some.place = rw c.deref.ensures.value at (sym {b = position (is_activity c.args.serial) c.deref.result.now} c.in-Some.ensures) in
    let held = find_from_position (is_activity k) xs c.in-Some.place a place ∙ sym (ap Some c.index_mut-work.ensures.value) in
    let found = ready_at k xs a c.self.invariant.order first held in
    let own = own_activity k a xs held in
    let changed : b ≡ with_phase b.phase a = ap (λ s. record { serial = s; phase = b.phase }) c.act.ensures.serial in
    let items = works_acted step k b.phase xs c.drop_over.new.works.items a b c.in-Some.place place c.index_mut-work.ensures.value changed (rw c.is_over.ensures at c.drop_over.ensures.items) in
    let over = c.leaves.ensures in
    let kept = rw c.self.invariant.index at c.drop_first.ensures.items in
    record {
      order = subst (InOrder 0) (sym items) (order_acted step k b.phase xs c.self.invariant.order);
      index = index_acted step k b.phase xs a b c.leaves.result c.drop_first.new.numbers.items c.self.invariant.order found own changed over kept ∙ ap ready_serials (sym items);
      works_room = omega (arith, c.drop_over.ensures.len, c.drop_over.ensures.capacity, c.self.invariant.works_room);
      ready_room = omega (arith, c.drop_over.ensures.len, c.drop_first.ensures.capacity, c.self.invariant.ready_room);
    }

pub returns-clause-acts : goal.returns-clause-acts
returns-clause-acts g c =
    let xs = c.self.inside.works.items in
    let k = c.args.serial in
    let a = c.index_mut-work.result.now in
    let b = c.act.new.work in
    let step = c.in_ok-step.step in
    let place : position (is_activity c.args.serial) c.self.inside.works.items ≡ Some c.in-Some.place = rw c.deref.ensures.value at (sym {b = position (is_activity c.args.serial) c.deref.result.now} c.in-Some.ensures) in
    let held = find_from_position (is_activity k) xs c.in-Some.place a place ∙ sym (ap Some c.index_mut-work.ensures.value) in
    let changed : b ≡ with_phase b.phase a = ap (λ s. record { serial = s; phase = b.phase }) c.act.ensures.serial in
    let items = works_acted step k b.phase xs c.drop_over.new.works.items a b c.in-Some.place place c.index_mut-work.ensures.value changed (rw c.is_over.ensures at c.drop_over.ensures.items) in
    rw (← c.self.view_is)
    (acts_for c.args.budget step k xs c.drop_over.new.works.items a b.phase _ _ _ _ held c.in_ok-step.ensures.acts items)
