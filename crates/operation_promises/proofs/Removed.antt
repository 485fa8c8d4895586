-- Where a device is asked REMOVE nothing depends on it any more.
use Rattle.std.proofs.Common.{ℕ, ◌≡◌, true, List, [], ◌∷◌, Option, Some, refl, sym, ap, subst, ◌∙◌}
use Rattle.std.specs.List.{slice_get}
use Rattle.std.specs.Option.{option_map}
use Rattle.pnp_labels.specs.declared.words.Minor.{Minor}
use Rattle.pnp_model.specs.Machine.{phase_walk}
use Rattle.pnp_model.specs.Records.{Course, Job, Node, Phase, Stage, State, Walk, course_of}
use Rattle.pnp_model.specs.Tests.{has}
use Rattle.pnp_model.specs.Trees.{dependents}
use Rattle.pnp_laws.specs.Kept.{Fits, IsOwn, JobFits, OperationFits, RemovalAsks, asked_in, is_idle}
use Rattle.pnp_laws.specs.Told.{IsWalkOf}
use Rattle.pnp_laws.proofs.Finishes.{head_free}
use Rattle.pnp_laws.proofs.Lists.{HeadIs, head_has}
use Rattle.pnp_laws.proofs.RunsStand.{Kept, reaches_kept}
use Rattle.pnp_laws.proofs.SoundStarts.{no_dependents}
use Rattle.pnp_laws.proofs.Standing.{FinishOrder, IsFree, JobKept, RemovalOrder, StageKept, SurpriseOrder}
use Rattle.pnp_laws.proofs.Truths.{untrue}
use Rattle.operation_promises.specs.Below.{RemovedAfterAllThatDependLaw}

-- where REMOVE is asked
remove_stage : (course : Course) (stage : Stage) → asked_in course stage ≡ Some Minor.Remove → stage ≡ Stage.Removing
remove_stage Course.Removing Stage.Removing e = refl
remove_stage Course.Removing Stage.Asking e = absurd (cc)
remove_stage Course.Removing Stage.TakingBack e = absurd (cc)
remove_stage Course.Removing Stage.Cancelling e = absurd (cc)
remove_stage Course.Removing _ e = absurd (cc)
remove_stage Course.Surprising Stage.Removing e = refl
remove_stage Course.Surprising Stage.Telling e = absurd (cc)
remove_stage Course.Surprising _ e = absurd (cc)
remove_stage Course.Finishing Stage.Removing e = refl
remove_stage Course.Finishing _ e = absurd (cc)
remove_stage Course.Rebalancing Stage.Asking e = absurd (cc)
remove_stage Course.Rebalancing Stage.TakingBack e = absurd (cc)
remove_stage Course.Rebalancing Stage.Cancelling e = absurd (cc)
remove_stage Course.Rebalancing Stage.Stopping e = absurd (cc)
remove_stage Course.Rebalancing Stage.Restarting e = absurd (cc)
remove_stage Course.Rebalancing _ e = absurd (cc)

pub own_minor : (course : Course) (o : Job) (nodes : List Node) → JobFits course o nodes → IsOwn o.walk (asked_in course o.stage)
own_minor Course.Rebalancing o nodes h = h.own
own_minor Course.Removing o nodes h = h.own
own_minor Course.Surprising o nodes h = h.own
own_minor Course.Finishing o nodes h = h.own

front : (k : ℕ) (todo : List ℕ) → slice_get todo 0 ≡ Some k → HeadIs k todo
front k [] first = absurd (cc)
front k (i ∷ is) first = cc

module _ (s : State) (good : Kept s) (k : ℕ) where
  -- of the operation that runs
  free_in : (course : Course) (o : Job) → JobFits course o s.core.nodes → JobKept course o s.core → HeadIs k o.todo → asked_in course o.stage ≡ Some Minor.Remove → IsFree s.core k
  free_in Course.Removing o fits stands head is =
      let stage = remove_stage Course.Removing o.stage is in
      let within = subst (λ (x : Stage). RemovalAsks o x) stage fits.asks in
      head_free s.next_serial s.core o.set o.todo k good.good.serials good.stands.tree head (within k (head_has k o.todo head)) (subst (λ (x : Stage). RemovalOrder s.core o x) stage stands.0)
  free_in Course.Surprising o fits stands head is =
      let stage = remove_stage Course.Surprising o.stage is in (subst (λ (x : Stage). SurpriseOrder s.core o x) stage stands.0).1 k head
  free_in Course.Finishing o fits stands head is =
      let stage = remove_stage Course.Finishing o.stage is in subst (λ (x : Stage). FinishOrder s.core o x) stage stands.0 k head
  free_in Course.Rebalancing o fits stands head is = absurd (never o.stage is)
    where
      never : (stage : Stage) → asked_in Course.Rebalancing stage ≡ Some Minor.Remove → ⊥
      never Stage.Asking e = cc
      never Stage.TakingBack e = cc
      never Stage.Cancelling e = cc
      never Stage.Stopping e = cc
      never Stage.Restarting e = cc
      never _ e = cc

  -- a device that is being started was never up
  never_up : (phase : Phase) (w : Walk) (n : Node) → phase_walk phase ≡ Some w → Fits phase n.state → is_idle n.state ≡ true
  never_up (Phase.Adding ds) w n walk fits = absurd (cc)
  never_up Phase.Searching w n walk fits = absurd (cc)
  never_up (Phase.Starting v) w n walk fits = ap is_idle fits
  never_up (Phase.Removing v) w n walk fits = ap is_idle fits
  never_up (Phase.Due problem) w n walk fits = absurd (cc)

  free : (w : Walk) → IsWalkOf s k w → w.minor ≡ Minor.Remove → IsFree s.core k
  free w (IsWalkOf.operates o runs first walk) is =
      let fits = subst (λ (x : Option Job). OperationFits x s.core.nodes) runs good.good.fits in
      let minor : asked_in (course_of o.kind) o.stage ≡ Some Minor.Remove = sym (own_minor (course_of o.kind) o s.core.nodes fits) ∙ ap (option_map (λ (v : Walk). v.minor)) walk ∙ ap Some is in
      free_in (course_of o.kind) o fits (subst (λ (x : Option Job). StageKept x s.core) runs good.stands.stage) (front k o.todo first) minor
  free w (IsWalkOf.starts a none at walk) is =
      let n = good.good.phases k a at in
      good.stands.tree.idle k n.0 n.1 (never_up a.phase w n.0 walk n.3)

pub removed_after_all_that_depend : RemovedAfterAllThatDependLaw
removed_after_all_that_depend settings rack entries s k w j run asked is =
    let good = reaches_kept settings rack entries s run in
    untrue (has (dependents s.core k) j) (no_dependents s.core k good.good.serials (free s good k w asked is) j)
