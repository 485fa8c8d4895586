use Rattle.std.proofs.Common.{◌∙◌, ap, is_some}
use Rattle.pnp_model.specs.Tasks.{is_surprise_of}
use Rattle.pnp_machine.proofs.Counting.{is_some-counted}
use Rattle.pnp_machine.proofs.tasks.Tasks.has_surprise.Goals as goal

pub returns : goal.returns
returns c =
    rw (← c.self.view_is)
    (c.contains_key.ensures
    ∙ ap is_some (c.self.invariant.index c.args.serial)
    ∙ is_some-counted (is_surprise_of c.args.serial) c.self.inside.tasks.items)
