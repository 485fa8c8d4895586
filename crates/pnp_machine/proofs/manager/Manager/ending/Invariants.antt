use Rattle.std.proofs.Common.{◌≡◌, ◌++◌, length}
use Rattle.pnp_model.specs.Endings.{ending, joined}
use Rattle.pnp_machine.proofs.manager.Manager.ending.Given as goal

abbrev pub invariant-parts : goal.invariant-parts
invariant-parts g l = l.out.items ++ l.parts ≡ joined (ending l.self.state)

abbrev pub decreases-parts : goal.decreases-parts
decreases-parts g l = length l.parts
