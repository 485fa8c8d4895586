use Rattle.std.proofs.Common.{◌∙◌}
use Rattle.script_bus.proofs.Joining.{new_found}
use Rattle.script_bus.proofs.listing.is_new_born.Goals as goal

pub returns-in-Some : goal.returns-in-Some
returns-in-Some c = c.is_new.ensures ∙ new_found c.args.world.now c.args.tree.now c.args.born c.in-Some.part.now c.in-Some.ensures.part
