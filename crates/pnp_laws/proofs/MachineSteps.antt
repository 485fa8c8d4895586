-- Each step of the machine keeps what a run keeps.
use Rattle.std.proofs.Common.{◌≡◌, List, [], Option, Some, None, refl, ap, subst}
use Rattle.pnp_model.specs.Records.{Activity, Course, Job, Settings, Stage, State, Step, Walk, course_of}
use Rattle.std.specs.Option.{option_map}
use Rattle.pnp_model.specs.Walks.{after}
use Rattle.pnp_model.specs.Machine.{is_back, next, IsStep}
use Rattle.pnp_laws.specs.Kept.{Good, IsGood, IsOwn, Lawful, asked_in, RebalanceKeeps, RemovalKeeps, SurpriseKeeps, FinishKeeps}
use Rattle.pnp_laws.specs.RunsWell.{MayBegin}
use Rattle.pnp_laws.proofs.EffectViews.{acting_fits}
use Rattle.pnp_laws.proofs.EventSteps.{walked_fits}
use Rattle.pnp_laws.proofs.FitsBy.{answered_own, fits_by, fits_own}
use Rattle.pnp_laws.proofs.IdleSteps.{MachineStep, machine_step}
use Rattle.pnp_laws.proofs.OpSteps.{lawful_still}
use Rattle.pnp_laws.proofs.Stages.{OperationStep, own_step, reply}
use Rattle.pnp_laws.proofs.StartSteps.{lawful_act}
use Rattle.pnp_laws.proofs.TaskSteps.{lawful_task}
use Rattle.pnp_laws.proofs.RebalanceSteps.{lawful_rebalance}
use Rattle.pnp_laws.proofs.RemovalSteps.{lawful_removal}
use Rattle.pnp_laws.proofs.SurpriseSteps.{lawful_surprise}
use Rattle.pnp_laws.proofs.FinishingSteps.{lawful_finish}
use Rattle.pnp_laws.proofs.Turns.{running_good}
use Rattle.pnp_model.specs.Jobs.{begins}

lawful_operation : (s : State) (o : Job) (step : Step) → Good s.next_serial s.core.nodes s.activities (Some o) → OperationStep s o step → Lawful step.state
lawful_operation s o step good is = by_step step is
  where
    g : Good s.next_serial s.core.nodes [] (Some o)
    g = subst (λ (x : List Activity). Good s.next_serial s.core.nodes x (Some o)) good.alone good

    by_step : (x : Step) → OperationStep s o x → Lawful x.state
    by_step _ (OperationStep.asks node w asks) =
        let walk : Option Walk = Some (after w (reply s.core node w)) in
        let course = course_of o.kind in
        let own = subst (λ (x : Option Walk). IsOwn x (asked_in course o.stage)) (ap (option_map (λ (v : Walk). after v (reply s.core node w))) asks.walk) (answered_own (reply s.core node w) o.walk (asked_in course o.stage) (fits_own course o s.core.nodes good.fits)) in
        lawful_still s _ o (record o { walk = walk }) refl refl good.alone refl (walked_fits course o walk s.core.nodes own good.fits) g
    by_step _ (OperationStep.rebalances stage m course is x) = lawful_rebalance s o course good.alone g stage m (subst (λ (y : Stage). RebalanceKeeps o y s.core.nodes) is (fits_by Course.Rebalancing _ _ course good.fits)) x
    by_step _ (OperationStep.removes stage m course is x) = lawful_removal s o course good.alone g stage m (subst (λ (y : Stage). RemovalKeeps o y s.core.nodes) is (fits_by Course.Removing _ _ course good.fits)) x
    by_step _ (OperationStep.surprises stage m course is x) = lawful_surprise s o course good.alone g (is_back s o Course.Surprising) s.handles stage m (subst (λ (y : Stage). SurpriseKeeps o y s.core.nodes) is (fits_by Course.Surprising _ _ course good.fits)) x
    by_step _ (OperationStep.finishes stage m course is x) = lawful_finish s o course good.alone g (is_back s o Course.Finishing) s.handles stage m (subst (λ (y : Stage). FinishKeeps o y s.core.nodes) is (fits_by Course.Finishing _ _ course good.fits)) x

pub lawful_step : (settings : Settings) (s : State) (step : Step) → MayBegin s → IsGood s → IsStep settings (next settings s) step → Lawful step.state
lawful_step settings s step begins good h = by_step step (machine_step settings s step h)
  where
    calm : s.operation ≡ None → Good s.next_serial s.core.nodes s.activities None
    calm none = subst (λ (x : Option Job). Good s.next_serial s.core.nodes s.activities x) none good

    by_step : (x : Step) → MachineStep s x → Lawful x.state
    by_step _ (MachineStep.operates o x runs taken) =
        let now = running_good s taken.now (record { before = o; runs = runs; turn = taken.turn }) good in
        lawful_operation s taken.now x now (own_step s taken.now x now.fits taken.is)
    by_step _ (MachineStep.starts node phase m at acting is) =
        let fit = acting_fits s node.serial node phase at acting good in
        lawful_act s node acting.none at fit.0 (calm acting.none) phase m fit.1 is
    by_step _ (MachineStep.does x none is) = lawful_task s none (calm none) x good (begins none) is
