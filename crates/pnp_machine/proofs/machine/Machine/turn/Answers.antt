use Rattle.std.proofs.Common.{sym, ap, ◌∙◌, option_map}
use Rattle.pnp_model.specs.Records.{State}
use Rattle.pnp_machine.specs.Operations.{operation_of}
use Rattle.pnp_machine.proofs.Turns.{waits_not}
use Rattle.pnp_machine.proofs.machine.Machine.turn.Goals as goal

pub returns-in-None : goal.returns-in-None
returns-in-None g c =
    let runs = operation_of c.in-Some.operation in (
      runs,
      ap (λ (s : State). s.operation) (sym c.self.view_is) ∙ ap (option_map operation_of) c.in-Some.is,
      waits_not runs.walk (sym c.in-None.is ∙ c.waits.ensures),
    )
