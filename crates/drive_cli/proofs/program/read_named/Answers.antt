use Rattle.std.proofs.Common.{ap}
use Rattle.free_run.specs.FreeRuns.{Free}
use Rattle.drive_cli.proofs.Machines.{stands_first}
use Rattle.drive_cli.proofs.program.read_named.Goals as goal

pub new-machine-requires : goal.new-machine-requires
new-machine-requires g c = stands_first c.in_ok-run.run' _ (ap (λ (f : Free). f.state) c.in_ok-run.ensures)
