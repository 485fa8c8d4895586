-- What each line says is so.
use Rattle.std.proofs.Common.{◌≡◌, Option, Some, None, refl}
use Rattle.pnp_model.specs.Records.{Job, Settings, State, Step}
use Rattle.pnp_model.specs.Machine.{IsStep, next}
use Rattle.pnp_laws.proofs.RunsStand.{Kept, reaches_kept}
use Rattle.pnp_promises.specs.Lines.{LinesMeanWhatTheySayLaw}
use Rattle.pnp_promises.proofs.LinesIdle.{Meant, idle_means}
use Rattle.pnp_promises.proofs.LinesOperations.{begun_means, operation_means}

means : (settings : Settings) (s : State) → Kept s → (step : Step) → IsStep settings (next settings s) step → Meant settings s step
means settings s kept step is = by_operation s.operation refl
  where
    by_operation : (o : Option Job) → s.operation ≡ o → Meant settings s step
    by_operation (Some o) runs = operation_means settings s kept.good.serials o runs step is
    by_operation None none =
        idle_means settings s none kept.good.serials kept.good.order
        (λ alone kind n at. begun_means settings s none alone kept.stands.tree.rank kept.good.serials kept.stands.tree.ranked n at kind) step is

pub lines_mean_what_they_say : LinesMeanWhatTheySayLaw
lines_mean_what_they_say settings rack entries s label t run goes =
    means settings s (reaches_kept settings rack entries s run) (record { label = label; state = t }) goes
