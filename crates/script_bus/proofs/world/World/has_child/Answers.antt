use Rattle.std.proofs.Common.{◌∙◌, ap, not, length, ◌==◌, List, ℕ}
use Rattle.pnp_model.specs.Records.{Device}
use Rattle.script_bus.specs.Worlds.{is_child}
use Rattle.script_bus.proofs.Places.{some_those}
use Rattle.script_bus.proofs.world.World.has_child.Goals as goal

pub returns-clause-child : goal.returns-clause-child
returns-clause-child c =
    ap not (c.is_empty.ensures ∙ ap (λ (births : List ℕ). length births == 0) c.children.ensures.children)
    ∙ some_those (λ (d : Device). d.born) (is_child c.args.born) c.args.self.now.devices
