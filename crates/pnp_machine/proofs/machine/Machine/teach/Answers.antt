use Rattle.std.proofs.Common.{◌∙◌, sym, subst, refl, Err, option_map}
use Rattle.driver_rack.specs.Rows.{TaughtOne}
use Rattle.driver_rack.specs.declared.errors.TeachError.{TeachError}
use Rattle.pnp_machine.specs.Operations.{operation_of}
use Rattle.pnp_machine.proofs.EventSteps.{teach_none, teach_done, teach_not, teach_full}
use Rattle.pnp_machine.proofs.machine.Machine.teach.Goals as goal

pub returns-in_default-clause-done : goal.returns-in_default-clause-done
returns-in_default-clause-done g c =
    rw (c.refusal.ensures, ← c.self.view_is)
    (teach_none c.self.inside.devices (g.R.Drivers.rows c.self.inside.rack) (g.R.Drivers.rows c.self.inside.rack) c.self.inside.disabled.paths c.self.inside.starts.works
    (option_map operation_of c.self.inside.operation) c.self.inside.tasks.tasks c.args.name.now c.args.rule (sym c.find.ensures ∙ c.in_default.is) refl)

pub returns-in-Ok-clause-done : goal.returns-in-Ok-clause-done
returns-in-Ok-clause-done g c =
    rw (c.in_ok-driver.ensures, ← c.self.view_is)
    (teach_done c.self.inside.devices (g.R.Drivers.rows c.self.inside.rack) (g.R.Drivers.rows c.teach.new.self) c.self.inside.disabled.paths c.self.inside.starts.works
    (option_map operation_of c.self.inside.operation) c.self.inside.tasks.tasks c.args.name.now c.args.rule c.in-Some.number c.in-Ok.ensures.driver
    (sym c.find.ensures ∙ c.in-Some.is) c.in-Ok.ensures.was c.in-Ok.ensures.taught)

pub returns-in-Err-NotTeachable-clause-done : goal.returns-in-Err-NotTeachable-clause-done
returns-in-Err-NotTeachable-clause-done g c =
    let old = g.R.Drivers.rows c.self.inside.rack in
    let new = g.R.Drivers.rows c.teach.new.self in
    let h = c.in-Err-NotTeachable.ensures in
    let T : TeachError → Type 0 = λ e. TaughtOne h.driver c.in-Some.number c.args.rule (Err e) old new in
    rw (c.refusal-in-Err-NotTeachable.ensures, ← c.self.view_is)
    (teach_not c.self.inside.devices old new c.self.inside.disabled.paths c.self.inside.starts.works (option_map operation_of c.self.inside.operation) c.self.inside.tasks.tasks c.args.name.now
    c.args.rule c.in-Some.number h.driver (sym c.find.ensures ∙ c.in-Some.is) h.was (subst T c.in-Err-NotTeachable.field-0-is h.taught))

pub returns-clause-done : goal.returns-clause-done
returns-clause-done g c =
    let old = g.R.Drivers.rows c.self.inside.rack in
    let new = g.R.Drivers.rows c.teach.new.self in
    let h = c.in-Err-BookFull.ensures in
    let T : TeachError → Type 0 = λ e. TaughtOne h.driver c.in-Some.number c.args.rule (Err e) old new in
    rw (c.refusal-in-Err-BookFull.ensures, ← c.self.view_is)
    (teach_full c.self.inside.devices old new c.self.inside.disabled.paths c.self.inside.starts.works (option_map operation_of c.self.inside.operation) c.self.inside.tasks.tasks c.args.name.now
    c.args.rule c.in-Some.number h.driver (sym c.find.ensures ∙ c.in-Some.is) h.was (subst T c.in-Err-BookFull.field-0-is h.taught))
