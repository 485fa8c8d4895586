use Rattle.std.proofs.Common.{◌≡◌, [], IsTrue, None, sym, subst}
use Rattle.pnp_model.specs.States.{is_in_world}
use Rattle.script_bus.specs.Worlds.{World, child_births}
use Rattle.script_bus.proofs.Changes.{can_leave, no_children, kept_left, world_left}
use Rattle.script_bus.proofs.world.World.take_leaf.Goals as goal

pub leave-requires : goal.leave-requires
leave-requires c =
    let there = subst (λ (w : World). IsTrue (is_in_world w.devices c.args.born)) (sym c.self.view_is) c.requires.there in
    let leaf = subst (λ (w : World). child_births w.devices c.args.born ≡ []) (sym c.self.view_is) c.requires.leaf in
    can_leave c.self.inside.parts c.self.inside.places c.self.invariant c.args.born c.requires.no_root there leaf

pub invariant_of-self : goal.invariant_of-self
invariant_of-self c =
    let leaf = subst (λ (w : World). child_births w.devices c.args.born ≡ []) (sym c.self.view_is) c.requires.leaf in
    rw c.leave.ensures
    (kept_left c.self.inside.parts c.remove.new.self c.args.born None c.remove.ensures.updates.0 c.self.inside.places c.self.invariant c.requires.no_root
    (no_children c.self.inside.parts c.self.inside.places c.self.invariant c.args.born c.requires.no_root leaf))

pub returns : goal.returns
returns c =
    rw (← c.self.view_is, c.leave.ensures) (world_left c.self.inside.parts c.remove.new.self c.args.born None c.remove.ensures.updates.0 c.self.inside.places c.self.invariant.tree)
