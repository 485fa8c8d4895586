use Rattle.drive_cli.proofs.Machines.{stands_own}
use Rattle.drive_cli.proofs.machine.ProgramMachineMachine.step_own.Goals as goal

pub invariant_of-self : goal.invariant_of-self
invariant_of-self c = stands_own c.self.inside.run c.step_own.new.self c.step_own.result c.step_own.ensures.moves c.step_own.ensures.same c.step_own.ensures.err c.self.invariant
