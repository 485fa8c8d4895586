use Rattle.std.proofs.Common.{Err, ap}
use Rattle.drive_cli.specs.declared.fault.DriveFault.{DriveFault}
use Rattle.drive_cli.proofs.Outcomes.{of_fault, ran_of}
use Rattle.drive_cli.proofs.program.run_named.Goals as goal

pub returns-in-Ok-clause-outcome : goal.returns-in-Ok-clause-outcome
returns-in-Ok-clause-outcome g c = ran_of _ _ _ _ _ _ _ _ _ _ _ _ c.in-Ok.ensures.named c.budget.ensures.budget c.run_machine.ensures.runs

pub returns-in-Err-clause-outcome : goal.returns-in-Err-clause-outcome
returns-in-Err-clause-outcome g c = of_fault _ _ _ _ _ _ c.in-Err.fault _ _ _ c.answer_fault.ensures.says (λ e. c.in-Err.ensures.client (ap (λ (f : DriveFault). Err f) e))
    (λ e. c.in-Err.ensures.words (ap (λ (f : DriveFault). Err f) e))
