use Rattle.std.proofs.Common.{List, ap, arith, map, not, sym, ◌≡◌, ◌∙◌}
use Rattle.pnp_labels.specs.declared.deed.Deed.{Deed}
use Rattle.pnp_labels.specs.declared.label.Label.{Label}
use Rattle.pnp_labels.specs.declared.states.DevState.{DevState}
use Rattle.live_model.specs.Trails as trails
use Rattle.live_model.specs.Trails.{Trail, follow, is_at, is_request}
use Rattle.live_run.specs.Views.{attached_of, lives_of, trail_of, waiting_of}
use Rattle.live_run.proofs.Trailing.{filter_seen, without_seen}
use Rattle.live_run.proofs.trail.Trail.follow.Goals as goal

pub returns-in-State-default-NoStack : goal.returns-in-State-default-NoStack
returns-in-State-default-NoStack c =
    let label : c.args.label.now ≡ Label.State c.in-State-default-NoStack.path DevState.NoStack = grind (arith, c.in-State-default-NoStack.is, c.in-State-default-NoStack.state-is) in
    let t = trail_of c.args.self.now in
    let kept = ap (map attached_of) c.detach.ensures ∙ filter_seen attached_of (λ a. not (is_at c.in-State-default-NoStack.path a)) c.args.self.now.attached.items in
    ap (λ (list : List trails.Attached). record t { attached = list }) kept
    ∙ ap (λ (l : Label). follow (lives_of c.args.live.now) l t) (sym label)

pub returns-in-Did-Completed : goal.returns-in-Did-Completed
returns-in-Did-Completed c =
    let label : c.args.label.now ≡ Label.Did (Deed.Completed c.in-Did-Completed.path c.in-Did-Completed.minor c.in-Did-Completed.field-0-2) = grind (arith, c.in-Did-Completed.is, c.in-Did-Completed.field-0-is, c.in-Did-Completed.path-is, c.in-Did-Completed.minor-is) in
    let t = trail_of c.args.self.now in
    let kept = ap (map waiting_of) c.complete.ensures ∙ without_seen waiting_of (is_request c.in-Did-Completed.path c.in-Did-Completed.minor) c.args.self.now.waiting.items in
    ap (λ (ws : List trails.Waiting). record t { waiting = ws }) kept
    ∙ ap (λ (l : Label). follow (lives_of c.args.live.now) l t) (sym label)
