use Rattle.std.proofs.Common.{map, refl, sym, ◌∙◌}
use Rattle.live_run.specs.Views.{trail_of}
use Rattle.live_run.proofs.Polling.{not_ended}
use Rattle.live_run.proofs.poll.take_completion.Goals as goal

pub returns-in_default-ok_of : goal.returns-in_default-ok_of
returns-in_default-ok_of c =
    (not_ended (trail_of c.args.trail.now) c.args.word.now c.args.path.now c.args.minor.now c.args.ok.now (map (λ t. t.now) c.args.tags.now) (sym c.ok_of.ensures ∙ c.in_default-ok_of.is), refl)
