use Rattle.std.proofs.Common.{sym, subst, refl, Option, IsSome}
use Rattle.script_bus.specs.declared.device.Device as shown
use Rattle.script_bus.proofs.Changes.{none_changed, kept_changed, world_changed}
use Rattle.script_bus.proofs.world.World.change_reqs.Goals as goal

pub invariant_of-self : goal.invariant_of-self
invariant_of-self c = rw c.get_mut.follows.holds-at-none c.self.invariant

pub returns-in_default : goal.returns-in_default
returns-in_default c =
    rw (← c.self.view_is, c.get_mut.follows.holds-at-none) (none_changed c.self.inside.parts c.args.born c.args.reqs (sym c.in_default.ensures.value) c.self.inside.places c.self.invariant)

pub invariant_of-self-2 : goal.invariant_of-self-2
invariant_of-self-2 c =
    let d = c.in-Some.device.now in
    let e = record d { reqs = c.args.reqs } in
    let was = sym c.in-Some.ensures.value in
    let updates = (c.get_mut.follows.holds e).3 (subst (λ (o : Option shown.Device). IsSome o) c.in-Some.ensures.value refl) in
    kept_changed c.self.inside.parts (c.get_mut.follows.lender e) c.args.born _ updates.0 c.args.reqs d was refl c.self.inside.places c.self.invariant

pub returns : goal.returns
returns c =
    let d = c.in-Some.device.now in
    let e = record d { reqs = c.args.reqs } in
    let was = sym c.in-Some.ensures.value in
    let updates = (c.get_mut.follows.holds e).3 (subst (λ (o : Option shown.Device). IsSome o) c.in-Some.ensures.value refl) in
    rw (← c.self.view_is)
    (world_changed c.self.inside.parts (c.get_mut.follows.lender e) c.args.born _ updates.0 c.args.reqs d was refl c.self.inside.places c.self.invariant.tree)
