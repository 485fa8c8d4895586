use Rattle.drive_cli.proofs.Machines.{stands_by}
use Rattle.drive_cli.proofs.machine.ProgramMachineMachine.step_by.Goals as goal

pub invariant_of-self : goal.invariant_of-self
invariant_of-self c = stands_by c.args.answer c.self.inside.run c.step.new.self c.step.result c.step.ensures.moves c.step.ensures.same c.step.ensures.err c.self.invariant
