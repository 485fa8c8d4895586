use Rattle.std.proofs.Common.{subst, Err, option_map}
use Rattle.driver_rack.specs.Rows.{Named}
use Rattle.driver_rack.specs.declared.errors.NameError.{NameError}
use Rattle.pnp_machine.specs.Operations.{operation_of}
use Rattle.pnp_machine.proofs.EventSteps.{name_given, name_taken, name_none}
use Rattle.pnp_machine.proofs.machine.Machine.name.Goals as goal

pub returns-in-Ok-clause-done : goal.returns-in-Ok-clause-done
returns-in-Ok-clause-done g c =
    rw (← c.self.view_is)
    (name_given c.self.inside.devices (g.R.Drivers.rows c.self.inside.rack) (g.R.Drivers.rows c.name.new.self) c.self.inside.disabled.paths c.self.inside.starts.works
    (option_map operation_of c.self.inside.operation) c.self.inside.tasks.tasks c.args.kind c.args.name c.in-Ok.field-0 c.in-Ok.ensures)

pub returns-in-Err-SameName-clause-done : goal.returns-in-Err-SameName-clause-done
returns-in-Err-SameName-clause-done g c =
    let N : NameError → Type 0 = λ e. Named (Err e) c.args.kind c.args.name (g.R.Drivers.rows c.self.inside.rack) (g.R.Drivers.rows c.name.new.self) in
    rw (c.refusal.ensures, ← c.self.view_is)
    (name_taken c.self.inside.devices (g.R.Drivers.rows c.self.inside.rack) (g.R.Drivers.rows c.name.new.self) c.self.inside.disabled.paths c.self.inside.starts.works
    (option_map operation_of c.self.inside.operation) c.self.inside.tasks.tasks c.args.kind c.args.name (subst N c.in-Err-SameName.field-0-is c.in-Err-SameName.ensures))

pub returns-in-Err-RackEmpty-clause-done : goal.returns-in-Err-RackEmpty-clause-done
returns-in-Err-RackEmpty-clause-done g c =
    let N : NameError → Type 0 = λ e. Named (Err e) c.args.kind c.args.name (g.R.Drivers.rows c.self.inside.rack) (g.R.Drivers.rows c.name.new.self) in
    rw (c.refusal-in-Err-RackEmpty.ensures, ← c.self.view_is)
    (name_none c.self.inside.devices (g.R.Drivers.rows c.self.inside.rack) (g.R.Drivers.rows c.name.new.self) c.self.inside.disabled.paths c.self.inside.starts.works
    (option_map operation_of c.self.inside.operation) c.self.inside.tasks.tasks c.args.kind c.args.name (subst N c.in-Err-RackEmpty.field-0-is c.in-Err-RackEmpty.ensures))
