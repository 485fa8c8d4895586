use Rattle.std.proofs.Common.{◌≡◌, false, sym, subst}
use Rattle.pnp_model.specs.Cores.{node_at}
use Rattle.pnp_model.specs.Handles.{was_told}
use Rattle.pnp_machine.specs.Devices.{Devices}
use Rattle.pnp_machine.proofs.Joins.{kept_acted}
use Rattle.pnp_machine.proofs.OneNode.{here_begun}
use Rattle.pnp_machine.proofs.devices.Devices.begin.Goals as goal

pub invariant_of-self : goal.invariant_of-self
invariant_of-self g c =
    let s = c.self.inside in
    kept_acted s.world s.tree c.begin.new.tree s.reserved s.arbiters s.arbiters s.over s.from s.whole s.whole c.self.invariant c.begin.ensures.keeps
    (λ k e. here_begun s.world.devices k c.args.serial s.tree c.begin.new.tree (subst (λ (d : Devices). was_told (node_at c.args.serial d.tree.nodes) ≡ false) (sym c.self.view_is) c.requires.untold) (c.self.invariant.here k e) c.args.infs.now (g.R.Drivers.rows c.args.rack.now) c.args.disabled c.begin.result c.begin.ensures.begun c.begin.ensures.tree)
    (c.begin.ensures.mirrors s.arbiters s.reserved c.self.invariant.mirrors)
