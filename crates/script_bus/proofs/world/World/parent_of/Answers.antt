use Rattle.std.proofs.Common.{◌≡◌, Some, ◌∙◌, ap, sym, option_map, arith}
use Rattle.std.specs.Option.{option_copied}
use Rattle.pnp_model.specs.Records.{Node}
use Rattle.std.proofs.lemmas.Bool.Decides.{nat_tests}
use Rattle.script_bus.proofs.Places.{parent_in_is, is_world}
use Rattle.script_bus.proofs.world.World.parent_of.Goals as goal

pub returns-in-Some-clause-parent : goal.returns-in-Some-clause-parent
returns-in-Some-clause-parent c =
    let other : c.args.born ≡ 0 → ⊥ = λ e. grind (arith, nat_tests) in
    rw (← c.self.view_is)
    (ap (λ (n : Node). Some n.parent) c.node.view_is ∙ (ap (option_map (λ (n : Node). n.parent)) (sym (ap option_copied c.in-Some.is) ∙ c.node-place.ensures.node) ∙ sym (parent_in_is c.self.inside.parts c.args.born c.self.inside.places.nodes other)))

pub returns-in-None-clause-parent : goal.returns-in-None-clause-parent
returns-in-None-clause-parent c =
    let other : c.args.born ≡ 0 → ⊥ = λ e. grind (arith, nat_tests) in
    rw (← c.self.view_is) (ap (option_map (λ (n : Node). n.parent)) (sym (ap option_copied c.in-None.is) ∙ c.node-place.ensures.node) ∙ sym (parent_in_is c.self.inside.parts c.args.born c.self.inside.places.nodes other))

pub returns-then-born-eq0-clause-world : goal.returns-then-born-eq0-clause-world
returns-then-born-eq0-clause-world c = rw (← c.self.view_is) (is_world c.self.inside.parts c.self.inside.places c.self.invariant.tree)

pub returns-in-Some-clause-world : goal.returns-in-Some-clause-world
returns-in-Some-clause-world c = rw (← c.self.view_is) (is_world c.self.inside.parts c.self.inside.places c.self.invariant.tree)

pub returns-in-None-clause-world : goal.returns-in-None-clause-world
returns-in-None-clause-world c = rw (← c.self.view_is) (is_world c.self.inside.parts c.self.inside.places c.self.invariant.tree)
