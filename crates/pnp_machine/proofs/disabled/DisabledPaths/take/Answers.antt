use Rattle.std.proofs.Common.{◌≡◌, ◌∙◌, ap, sym, arith}
use Rattle.device_ids.specs.Folding.{same}
use Rattle.pnp_model.proofs.Keyed.{without_first_at, without_first_none}
use Rattle.pnp_machine.proofs.disabled.DisabledPaths.take.Goals.{in-Some-1, in-None-1}
use Rattle.pnp_machine.proofs.disabled.DisabledPaths.take.Goals as goal
use Rattle.pnp_machine.specs.DisabledPaths.{DisabledPaths}

pub invariant_of-self : goal.invariant_of-self
invariant_of-self c = omega (arith, c.shift_remove_index.ensures.room.0, c.self.invariant)

pub returns-in-Some-clause-paths : goal.returns-in-Some-clause-paths
returns-in-Some-clause-paths c =
    let left : c.match-shift_remove_index.self.paths ≡ c.shift_remove_index.new.self.keys = elim c.match-shift_remove_index.branch [ in-Some-1 w ↦ ap (λ (d : DisabledPaths). d.paths) w.self-is | in-None-1 w ↦ ap (λ (d : DisabledPaths). d.paths) w.self-is ] in
    rw (← c.self.view_is)
    (left ∙ c.shift_remove_index.ensures.keys ∙ without_first_at (same c.args.path.now) c.self.inside.paths.keys c.in-Some.place (sym c.in-Some.ensures.index))

pub returns-in_default-clause-paths : goal.returns-in_default-clause-paths
returns-in_default-clause-paths c =
    rw (← c.self.view_is)
    (sym (without_first_none (same c.args.path.now) c.self.inside.paths.keys (sym c.in_default.ensures.index)))
