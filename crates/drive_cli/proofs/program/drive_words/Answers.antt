use Rattle.std.proofs.Common.{refl, arith}
use Rattle.drive_cli.specs.Runs.{SaysOf}
use Rattle.drive_cli.proofs.program.drive_words.Goals as goal

pub returns-in-Ok-clause-says : goal.returns-in-Ok-clause-says
returns-in-Ok-clause-says g c = SaysOf.names _ _ _ _ c.answer.ensures.answered

pub returns-in-Err-WantOfMemory-clause-says : goal.returns-in-Err-WantOfMemory-clause-says
returns-in-Err-WantOfMemory-clause-says g c = SaysOf.memory refl refl

pub returns-in-Err : goal.returns-in-Err
returns-in-Err g c = record { says = SaysOf.bad refl refl; write_fault = λ e. absurd (cc); read_fault = λ e. absurd (cc); writes = omega arith }
