use Rattle.std.proofs.Common.{List, None, Some, ◌≡◌, arith, subst, sym, ◌∙◌}
use Rattle.std.specs.List.{position}
use Rattle.pnp_model.proofs.Keyed.{find_from_none, without_first_at}
use Rattle.live_model.specs.Trails.{is_request}
use Rattle.live_run.specs.Views.{waiting_of}
use Rattle.live_run.specs.declared.trail.Waiting.{Waiting}
use Rattle.live_run.proofs.Trailing.{kept_all}
use Rattle.live_run.proofs.trail.complete.Goals as goal

pub returns-in-Some : goal.returns-in-Some
returns-in-Some c =
    let place = subst (λ (ws : List Waiting). position (λ w. is_request c.args.path.now c.args.minor (waiting_of w)) ws ≡ Some c.in-Some.at) c.deref.ensures.value (sym c.place_of.ensures.place ∙ c.in-Some.is) in
    let without = without_first_at (λ (w : Waiting). is_request c.args.path.now c.args.minor (waiting_of w)) c.args.waiting.now.items c.in-Some.at place in
    grind (arith, without, c.remove.ensures)

pub returns-in_default : goal.returns-in_default
returns-in_default c =
    kept_all (λ (w : Waiting). is_request c.args.path.now c.args.minor (waiting_of w)) c.args.waiting.now.items
    (find_from_none (λ (w : Waiting). is_request c.args.path.now c.args.minor (waiting_of w)) c.args.waiting.now.items
    (subst (λ (ws : List Waiting). position (λ w. is_request c.args.path.now c.args.minor (waiting_of w)) ws ≡ None) c.deref.ensures.value (sym c.place_of.ensures.place ∙ c.in_default.is)))
