use Rattle.std.proofs.Common.{ℕ, ◌≡◌, [], None, IsSome, ◌∙◌, sym, ap, cond, nat_eq, Some, Result, Ok, Err, OnErr, refl, arith, subst}
use Rattle.pnp_model.specs.Cores.{fresh_node}
use Rattle.devnode_tree.specs.Trees.{IsTree}
use Rattle.devnode_tree.proofs.Joins.{from_ok}
use Rattle.pnp_model.specs.States.{device_born, device_of}
use Rattle.script_bus.specs.Worlds.{World}
use Rattle.script_bus.proofs.Places.{place_there, no_place}
use Rattle.script_bus.proofs.Changes.{kept_same, world_same, kept_joined, world_joined}
use Rattle.script_bus.proofs.world.World.add.Goals as goal

on_err : {T E P : Type 0} (r : Result T E) → P → OnErr r P
on_err (Ok x) p = tt
on_err (Err e) p = p

pub place-requires-clause-parent : goal.place-requires-clause-parent
place-requires-clause-parent c =
    place_there c.self.inside.parts c.args.parent c.self.inside.places.nodes (subst (λ (w : World). IsSome (device_born c.args.parent w.devices)) (sym c.self.view_is) c.requires.parent)

pub place-requires-clause-path : goal.place-requires-clause-path
place-requires-clause-path c =
    no_place c.self.inside.parts c.args.device.path c.self.inside.places.nodes (subst (λ (w : World). device_of c.args.device.path w.devices ≡ None) (sym c.self.view_is) c.requires.path)

pub invariant_of-self-in_err-born : goal.invariant_of-self-in_err-born
invariant_of-self-in_err-born c = rw c.in_err-born.ensures.err (kept_same c.self.inside.parts c.reserve.new.self c.self.inside.places c.in_ok-reserve.ensures.entries.2 c.self.invariant)

pub invariant_of-self-2 : goal.invariant_of-self-2
invariant_of-self-2 c =
    let updates = from_ok _ c.insert.result (c.insert.ensures.succeeds (omega (arith, c.in_ok-reserve.ensures.ok))) c.insert.ensures.updates in
    let change = λ (q : ℕ). updates.0 q ∙ ap (cond (nat_eq c.in_ok-born.born q) (Some c.args.device)) (c.in_ok-reserve.ensures.entries.2 q) in
    let n = fresh_node c.self.inside.places.next c.args.parent 0 c.args.device.path [] [] [] in
    rw c.in_ok-born.ensures.joined
    (kept_joined c.self.inside.parts c.insert.new.self c.in_ok-born.born (Some c.args.device) change c.self.inside.places c.self.invariant n c.args.device c.in_ok-born.ensures.born (sym c.in_ok-born.ensures.born) refl refl
    (subst IsTree c.in_ok-born.ensures.joined c.in_ok-born.ensures.tree) refl)

pub returns-clause-added : goal.returns-clause-added
returns-clause-added c =
    let updates = from_ok _ c.insert.result (c.insert.ensures.succeeds (omega (arith, c.in_ok-reserve.ensures.ok))) c.insert.ensures.updates in
    let change = λ (q : ℕ). updates.0 q ∙ ap (cond (nat_eq c.in_ok-born.born q) (Some c.args.device)) (c.in_ok-reserve.ensures.entries.2 q) in
    let n = fresh_node c.self.inside.places.next c.args.parent 0 c.args.device.path [] [] [] in
    rw (← c.self.view_is, c.in_ok-born.ensures.joined)
    (world_joined c.self.inside.parts c.insert.new.self c.in_ok-born.born (Some c.args.device) change c.self.inside.places c.self.invariant n c.args.device c.in_ok-born.ensures.born (sym c.in_ok-born.ensures.born) refl refl)

pub returns-in_err-born-clause-err : goal.returns-in_err-born-clause-err
returns-in_err-born-clause-err c = rw (← c.self.view_is, c.in_err-born.ensures.err) (on_err c.from_residual-in_err-born.result (world_same c.self.inside.parts c.reserve.new.self c.self.inside.places c.in_ok-reserve.ensures.entries.2))
