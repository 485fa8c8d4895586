use Rattle.std.proofs.Common.{List, None, Some, ◌≡◌, ap, subst, sym, ◌∙◌}
use Rattle.std.specs.Prelude.{option_map}
use Rattle.std.specs.List.{position}
use Rattle.live_model.specs.Trails as trails
use Rattle.live_model.specs.Trails.{is_request}
use Rattle.live_run.specs.Views.{waiting_of}
use Rattle.live_run.specs.declared.trail.Waiting.{Waiting}
use Rattle.live_run.proofs.Trailing.{no_request, request_found}
use Rattle.live_run.proofs.trail.Trail.driver_at.Goals as goal

pub returns-in_err-at : goal.returns-in_err-at
returns-in_err-at c =
    ap (option_map (λ d. d.now)) c.from_residual.ensures
    ∙ sym (ap (option_map (λ (w : trails.Waiting). w.driver)) (no_request c.args.path.now c.args.minor c.args.self.now.waiting.items
    (subst (λ (ws : List Waiting). position (λ w. is_request c.args.path.now c.args.minor (waiting_of w)) ws ≡ None) c.deref.ensures.value (sym c.place_of.ensures.place ∙ c.in_err-at.was))))

pub returns : goal.returns
returns c =
    sym (ap (option_map (λ (w : trails.Waiting). w.driver)) (request_found c.args.path.now c.args.minor c.args.self.now.waiting.items c.in_ok-at.at c.index.result.now
    (subst (λ (ws : List Waiting). position (λ w. is_request c.args.path.now c.args.minor (waiting_of w)) ws ≡ Some c.in_ok-at.at) c.deref.ensures.value (sym c.place_of.ensures.place ∙ c.in_ok-at.was)) c.index.ensures))
