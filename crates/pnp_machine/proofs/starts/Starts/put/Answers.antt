use Rattle.std.proofs.Common.{◌≡◌, ◌∙◌, sym, ap, subst, arith, length}
use Rattle.devnode_tree.specs.Trees.{Ascends}
use Rattle.pnp_model.specs.States.{entered}
use Rattle.pnp_laws.specs.Kept.{InOrder}
use Rattle.pnp_laws.proofs.Lookups.{InOrder-entered}
use Rattle.pnp_machine.specs.Starts.{ready_serials}
use Rattle.pnp_machine.proofs.Ready.{ready_short, ready_ascends}
use Rattle.pnp_machine.proofs.Indexes.{index_put}
use Rattle.pnp_machine.proofs.starts.Starts.put.Goals as goal

pub note-requires-clause-order : goal.note-requires-clause-order
note-requires-clause-order c = subst (Ascends 0) (sym c.self.invariant.index) (ready_ascends 0 c.self.inside.works.items c.self.invariant.order)

pub note-requires-clause-room : goal.note-requires-clause-room
note-requires-clause-room c =
    let short = ready_short c.self.inside.works.items in
    let same = ap length c.self.invariant.index in
    let room = rw (← c.self.view_is) at c.requires.room in
    omega (arith, c.self.inside.works.ok.0, c.self.inside.ready.ok.0, c.self.invariant.ready_room)

pub invariant_of-self : goal.invariant_of-self
invariant_of-self c =
    let xs = c.self.inside.works.items in
    let room = rw (← c.self.view_is) at c.requires.room in
    let new = rw (← c.self.view_is) at c.requires.new in
    let ok = c.insert.ensures.succeeds (omega (arith, c.self.invariant.works_room)) in
    let put = rw (c.deref.ensures.value, c.serial-serial.ensures) at (c.place_for-place.ensures.place c.args.work) in
    let items : c.insert.new.self.items ≡ entered c.args.work xs = rw ok at c.insert.ensures.items ∙ put in
    let len = rw ok at c.insert.ensures.len in
    let noted = rw (c.serial-serial.ensures, c.self.invariant.index) at c.note.ensures.items in
    record {
      order = subst (InOrder 0) (sym items) (InOrder-entered 0 c.args.work xs (omega arith) c.self.invariant.order new);
      index = index_put c.args.work xs c.goes.result c.note.new.numbers.items c.self.invariant.order new c.goes.ensures noted ∙ ap ready_serials (sym items);
      works_room = omega (arith, len, c.insert.ensures.capacity, c.self.invariant.works_room);
      ready_room = omega (arith, len, c.note.ensures.capacity, c.self.invariant.ready_room);
    }
