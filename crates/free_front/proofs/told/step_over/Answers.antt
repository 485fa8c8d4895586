use Rattle.std.proofs.Common.{◌≡◌, ◌∙◌, Ok, Err, ap}
use Rattle.std.proofs.lemmas.Result.{IfOk-from_err, IfErr-at_err, MatchResult-from_err}
use Rattle.pnp_machine.specs.declared.manager.Moved.TheVariants.{Label as Printed, Quiet}
use Rattle.free_front.proofs.Steps.{faces_so, faces_again, over}
use Rattle.free_front.proofs.told.step_over.Goals as goal

pub swap_rack-requires : goal.swap_rack-requires
swap_rack-requires c = record { faces = faces_so _ _ c.requires }

pub swap_rack-requires-2 : goal.swap_rack-requires-2
swap_rack-requires-2 c =
    let swap = c.swap_rack.ensures in
    let step = c.step-moved.ensures in
    record { faces = faces_again _ _ _ _ _ c.requires swap.given swap.back c.step-moved.result step.moves step.same step.err }

pub returns-in_err-label : goal.returns-in_err-label
returns-in_err-label c =
    let swap = c.swap_rack.ensures in
    let step = c.step-moved.ensures in
    let again = c.swap_rack-2.ensures in
    let h = over _ _ _ _ _ c.requires swap.given swap.back c.step-moved.result step.moves step.same step.err _ _ again.given again.back in
    let is : c.step-moved.result ≡ Err c.in_err-label.field-0.0 = c.in_err-label.was in
    record {
      moves = IfOk-from_err c.from_residual.result _ c.from_residual.ensures.0;
      same = h.same;
      own = h.own;
      told = h.told;
      err = MatchResult-from_err c.from_residual.result _ _ c.from_residual.ensures.0 (λ e. IfErr-at_err _ is h.err);
    }

pub returns-in-Label : goal.returns-in-Label
returns-in-Label c =
    let swap = c.swap_rack.ensures in
    let step = c.step-moved.ensures in
    let again = c.swap_rack-2.ensures in
    let h = over _ _ _ _ _ c.requires swap.given swap.back c.step-moved.result step.moves step.same step.err _ _ again.given again.back in
    record { moves = h.moves (Printed c.in-Label.label) (c.in_ok-label.was ∙ ap Ok c.in-Label.is); same = h.same; own = h.own; told = h.told; err = tt }

pub returns-in-Quiet : goal.returns-in-Quiet
returns-in-Quiet c =
    let swap = c.swap_rack.ensures in
    let step = c.step-moved.ensures in
    let again = c.swap_rack-2.ensures in
    let h = over _ _ _ _ _ c.requires swap.given swap.back c.step-moved.result step.moves step.same step.err _ _ again.given again.back in
    record { moves = h.moves Quiet (c.in_ok-label.was ∙ ap Ok c.in-Quiet.is); same = h.same; own = h.own; told = h.told; err = tt }
