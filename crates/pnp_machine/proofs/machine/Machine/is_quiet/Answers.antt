use Rattle.start_sequence.specs.Begins.{settings_of}
use Rattle.pnp_machine.proofs.Turns.{turn_goes}
use Rattle.pnp_machine.proofs.machine.Machine.is_quiet.Goals as goal

pub returns-in_default : goal.returns-in_default
returns-in_default g c = λ infs budget. turn_goes (settings_of infs budget) c.args.self.now c.turn.result c.in_default.not-Quiet c.requires c.turn.ensures
