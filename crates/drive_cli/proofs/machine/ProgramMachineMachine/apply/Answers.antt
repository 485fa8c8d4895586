use Rattle.std.proofs.Common.{◌≡◌, subst}
use Rattle.pnp_model.specs.Machine.{IsQuiet}
use Rattle.free_run.specs.FreeRuns.{Free, settings}
use Rattle.drive_cli.proofs.Machines.{stands_after}
use Rattle.drive_cli.proofs.machine.ProgramMachineMachine.apply.Goals as goal

pub invariant_of-self : goal.invariant_of-self
invariant_of-self c =
    let view = c.self.view_is in
    let is : c.args.self.now ≡ c.self.inside.run = cc in
    let quiet : IsQuiet (settings c.self.inside.run) c.self.inside.run.state = subst (λ (f : Free). IsQuiet (settings f) f.state) is c.requires.quiet in
    stands_after c.args.event c.self.inside.run c.apply.new.self c.apply.result quiet c.apply.ensures.happened c.apply.ensures.err c.self.invariant
