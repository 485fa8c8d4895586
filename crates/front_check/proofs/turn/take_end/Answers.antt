use Rattle.std.proofs.Common.{◌≡◌, ◌∙◌, subst}
use Rattle.pnp_labels.specs.Texts.{Text}
use Rattle.pnp_model.specs.Endings.{ending}
use Rattle.free_model.specs.Checks.{end_bytes}
use Rattle.front_check.specs.FrontChecks.{Ends}
use Rattle.front_check.specs.Turns.{Tells}
use Rattle.front_check.proofs.turn.take_end.Goals as goal

pub returns : goal.returns
returns c =
    let due : c.deref.result.now ≡ end_bytes c.args.run.now.manager.state = c.deref.ensures.value ∙ c.in_ok-due.ensures in
    record { tells = λ told. subst (λ (t : Text). Tells c.held_against.result told (Ends t) c.args.rest.now c.args.lines) due (c.held_against.ensures told (ending c.args.run.now.manager.state) due) }
