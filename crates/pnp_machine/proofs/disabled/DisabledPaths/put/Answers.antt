use Rattle.std.proofs.Common.{◌∙◌, ap, arith, if◌then◌else◌, ◌++◌, [], ◌∷◌}
use Rattle.devnode_tree.proofs.Joins.{from_ok}
use Rattle.pnp_machine.proofs.disabled.DisabledPaths.put.Goals as goal

pub invariant_of-self : goal.invariant_of-self
invariant_of-self c = omega (arith, c.insert.ensures.spare, c.self.invariant)

pub returns-clause-paths : goal.returns-clause-paths
returns-clause-paths c =
    let keys = c.self.inside.paths.keys in
    let room = rw (← c.self.view_is) at c.requires.room in
    let absent = rw (← c.self.view_is) at c.requires.new in
    let added = from_ok _ c.insert.result (c.insert.ensures.succeeds (omega (arith, c.self.invariant))) c.insert.ensures.keys in
    rw (← c.self.view_is) (added ∙ ap (λ b. if b then keys else keys ++ c.args.path ∷ []) absent)
