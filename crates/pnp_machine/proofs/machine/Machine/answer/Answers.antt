use Rattle.std.proofs.Common.{◌≡◌, Bool, None, Some, ap, refl, rules, subst, option_map}
use Rattle.pnp_model.specs.Events.{operation_waits}
use Rattle.pnp_machine.specs.Machines.{CompletesOperation, IsAnswered, state_of}
use Rattle.pnp_model.specs.Records.{State}
use Rattle.pnp_machine.specs.Operations.{operation_of}
use Rattle.pnp_machine.proofs.Completions.{answered_idle, answered_not}
use Rattle.pnp_machine.proofs.machine.Machine.answer.Goals as goal
use Rattle.pnp_machine.proofs.machine.Machine.answer.Goals.{in_default-via-in-None-1, in_default-via-in-Some+else-complete}

pub returns-2 : goal.returns-2
returns-2 g c =
    elim c.in_default.branch [
      | in_default-via-in-None-1 w ↦
          let none : c.self.inside.operation ≡ None = search rules in
          rw w.self-inside-is
          (subst (λ (s : State). IsAnswered s c.args.serial c.args.minor c.args.ok c.complete-2.result (state_of c.self.inside.devices (g.R.Drivers.rows c.self.inside.rack) c.self.inside.disabled.paths
          c.complete-2.new.self.works (option_map operation_of c.self.inside.operation) c.self.inside.tasks.tasks)) c.self.view_is
          (answered_idle c.self.inside.devices (g.R.Drivers.rows c.self.inside.rack) c.self.inside.disabled.paths c.self.inside.starts.works c.complete-2.new.self.works
          (option_map operation_of c.self.inside.operation) (option_map operation_of c.self.inside.operation) c.self.inside.tasks.tasks c.args.minor c.args.ok c.args.serial c.complete-2.result
          (ap (option_map operation_of) none) refl (rw w.self-inside-is at c.complete-2.ensures)))
      | in_default-via-in-Some+else-complete w ↦
          let o = operation_of w.in-Some.operation in
          let o' = operation_of w.complete.new.self in
          let was : CompletesOperation (operation_waits c.args.minor c.args.serial o) o c.args.ok w.complete.result o' = w.complete.ensures in
          let C : Bool → Type 0 = λ b. CompletesOperation (operation_waits c.args.minor c.args.serial o) o c.args.ok b o' in
          rw w.self-inside-is
          (subst (λ (s : State). IsAnswered s c.args.serial c.args.minor c.args.ok c.complete-2.result (state_of c.self.inside.devices (g.R.Drivers.rows c.self.inside.rack) c.self.inside.disabled.paths
          c.complete-2.new.self.works (Some o') c.self.inside.tasks.tasks)) c.self.view_is
          (answered_not c.self.inside.devices (g.R.Drivers.rows c.self.inside.rack) c.self.inside.disabled.paths c.self.inside.starts.works c.complete-2.new.self.works
          (option_map operation_of c.self.inside.operation) (Some o') c.self.inside.tasks.tasks c.args.minor c.args.ok o o' (ap (option_map operation_of) w.in-Some.is) refl
          c.args.serial c.complete-2.result (subst C w.if-complete.false was) (rw w.self-inside-is at c.complete-2.ensures)))
    ]
