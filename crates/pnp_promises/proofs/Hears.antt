-- A device that refuses is told at once that it stays, and devices are asked whether they may stop from the greatest serial down.
use Rattle.std.proofs.Common.{ℕ, ◌<◌, ◌≡◌, Bool, true, List, [], ◌∷◌, length, nat_le, Option, Some, refl, sym, ap, subst, ◌∙◌}
use Rattle.std.specs.List.{slice_get}
use Rattle.pnp_labels.specs.declared.words.Minor.{Minor}
use Rattle.pnp_model.specs.Frames.{first_node, rest}
use Rattle.pnp_model.specs.Machine.{after_end, is_back}
use Rattle.pnp_model.specs.Records.{Course, Job, Node, Stage, State, Step, Walk, course_of}
use Rattle.pnp_model.specs.Tests.{has}
use Rattle.pnp_model.specs.Walks.{has_ended, is_bad, walk_of}
use Rattle.pnp_model.specs.Rebalances as re
use Rattle.pnp_model.specs.Removals as rm
use Rattle.pnp_laws.specs.Effects.{Turn}
use Rattle.pnp_laws.specs.Kept.{OperationFits, asked_in}
use Rattle.pnp_laws.specs.Rebalanced.{Falling}
use Rattle.pnp_laws.proofs.IdleSteps.{MachineStep, machine_step}
use Rattle.pnp_laws.proofs.Lists.{cons_here}
use Rattle.pnp_laws.proofs.Lookups.{some_same}
use Rattle.pnp_laws.proofs.RunsStand.{Kept, reaches_kept}
use Rattle.pnp_laws.proofs.Stages.{JobStep}
use Rattle.pnp_laws.proofs.Standing.{OrderKept, Ordered, StageKept, kept_by}
use Rattle.pnp_laws.proofs.Truths.{or_left}
use Rattle.pnp_promises.specs.Hears.{RefusersHearLaw, IsAsked, AskedFromTheGreatestLaw, TakesBack}
use Rattle.pnp_promises.proofs.Asks.{front_is}
use Rattle.pnp_promises.proofs.Fitting.{asked_is}

-- where which request is asked ---------------------------------------------------------------------------

record Where (course : Course) (stage : Stage) (own : Course) : Type 0 where
  course_is : course ≡ own
  stage_is : stage ≡ Stage.Asking

remove_where : (course : Course) (stage : Stage) → asked_in course stage ≡ Some Minor.QueryRemove → Where course stage Course.Removing
remove_where Course.Removing Stage.Asking e = record { course_is = refl; stage_is = refl }
remove_where Course.Removing Stage.TakingBack e = absurd (cc)
remove_where Course.Removing Stage.Cancelling e = absurd (cc)
remove_where Course.Removing Stage.Removing e = absurd (cc)
remove_where Course.Removing _ e = absurd (cc)
remove_where Course.Rebalancing Stage.Asking e = absurd (cc)
remove_where Course.Rebalancing Stage.TakingBack e = absurd (cc)
remove_where Course.Rebalancing Stage.Cancelling e = absurd (cc)
remove_where Course.Rebalancing Stage.Stopping e = absurd (cc)
remove_where Course.Rebalancing Stage.Restarting e = absurd (cc)
remove_where Course.Rebalancing _ e = absurd (cc)
remove_where Course.Surprising Stage.Telling e = absurd (cc)
remove_where Course.Surprising Stage.Removing e = absurd (cc)
remove_where Course.Surprising _ e = absurd (cc)
remove_where Course.Finishing Stage.Removing e = absurd (cc)
remove_where Course.Finishing _ e = absurd (cc)

stop_where : (course : Course) (stage : Stage) → asked_in course stage ≡ Some Minor.QueryStop → Where course stage Course.Rebalancing
stop_where Course.Rebalancing Stage.Asking e = record { course_is = refl; stage_is = refl }
stop_where Course.Rebalancing Stage.TakingBack e = absurd (cc)
stop_where Course.Rebalancing Stage.Cancelling e = absurd (cc)
stop_where Course.Rebalancing Stage.Stopping e = absurd (cc)
stop_where Course.Rebalancing Stage.Restarting e = absurd (cc)
stop_where Course.Rebalancing _ e = absurd (cc)
stop_where Course.Removing Stage.Asking e = absurd (cc)
stop_where Course.Removing Stage.TakingBack e = absurd (cc)
stop_where Course.Removing Stage.Cancelling e = absurd (cc)
stop_where Course.Removing Stage.Removing e = absurd (cc)
stop_where Course.Removing _ e = absurd (cc)
stop_where Course.Surprising Stage.Telling e = absurd (cc)
stop_where Course.Surprising Stage.Removing e = absurd (cc)
stop_where Course.Surprising _ e = absurd (cc)
stop_where Course.Finishing Stage.Removing e = absurd (cc)
stop_where Course.Finishing _ e = absurd (cc)

-- The step after a refusal ----------------------------------------------------------------------------------

module _ (s : State) (o : Job) (node : Node) (first : first_node s.core.nodes o.todo ≡ Some node) where
  taken_back : (minor : Minor) (back : Minor) (p : Job) → TakesBack minor back → asked_in (course_of o.kind) o.stage ≡ Some minor → after_end s.core o (is_back s o (course_of o.kind)) node true (course_of o.kind) ≡ Some p → (slice_get p.todo 0 ≡ Some node.serial) × (p.walk ≡ Some (walk_of back))
  taken_back _ _ p TakesBack.remove is after =
      let place = remove_where (course_of o.kind) o.stage is in
      let one : after_end s.core o (is_back s o Course.Removing) node true Course.Removing ≡ Some p = subst (λ (x : Course). after_end s.core o (is_back s o x) node true x ≡ Some p) place.course_is after in
      let two : rm.after_end s.core o node true Stage.Asking ≡ Some p = subst (λ (x : Stage). rm.after_end s.core o node true x ≡ Some p) place.stage_is one in
      let three : Some (rm.answers s.core o node true) ≡ Some p = two in
      let same : rm.answers s.core o node true ≡ p = cc in
      (ap (λ (x : Job). slice_get x.todo 0) (sym same) ∙ front_is s.core.nodes o.todo node first, ap (λ (x : Job). x.walk) (sym same))
  taken_back _ _ p TakesBack.stop is after =
      let place = stop_where (course_of o.kind) o.stage is in
      let one : after_end s.core o (is_back s o Course.Rebalancing) node true Course.Rebalancing ≡ Some p = subst (λ (x : Course). after_end s.core o (is_back s o x) node true x ≡ Some p) place.course_is after in
      let two : re.after_end s.core o node true Stage.Asking ≡ Some p = subst (λ (x : Stage). re.after_end s.core o node true x ≡ Some p) place.stage_is one in
      let three : Some (re.answers o node true) ≡ Some p = two in
      let same : re.answers o node true ≡ p = cc in
      (ap (λ (x : Job). slice_get x.todo 0) (sym same) ∙ front_is s.core.nodes o.todo node first, ap (λ (x : Job). x.walk) (sym same))

fits_of : (s : State) (o : Job) → Kept s → s.operation ≡ Some o → OperationFits (Some o) s.core.nodes
fits_of s o kept runs = subst (λ (x : Option Job). OperationFits x s.core.nodes) runs kept.good.fits

module _ (s : State) (kept : Kept s) (k : ℕ) (w : Walk) (back : Minor) (asked : IsAsked s k w) (bad : is_bad w ≡ true) (takes : TakesBack w.minor back) where
  by_job : (o p : Job) (step : Step) → s.operation ≡ Some o → Turn s o p → JobStep s p step → IsAsked step.state k (walk_of back)
  by_job o _ step runs (Turn.same _) is =
      let same : asked.operation ≡ o = some_same s.operation asked.operation o asked.runs runs in
      by_step step is (subst (λ (x : Job). slice_get x.todo 0 ≡ Some k) same asked.first) (subst (λ (x : Job). x.walk ≡ Some w) same asked.walk)
    where
      front_one : (node : Node) → first_node s.core.nodes o.todo ≡ Some node → slice_get o.todo 0 ≡ Some k → node.serial ≡ k
      front_one node first at = let z = front_is s.core.nodes o.todo node first in cc

      by_step : (step : Step) → JobStep s o step → slice_get o.todo 0 ≡ Some k → o.walk ≡ Some w → IsAsked step.state k (walk_of back)
      by_step _ (JobStep.asks node v asks) at walk =
          let one : v ≡ w = some_same o.walk v w asks.walk walk in
          let more = asks.more kept.good.serials in
          let over : has_ended v (length node.stack) ≡ true = or_left (is_bad v) (nat_le (length node.stack) v.asked) (ap is_bad one ∙ bad) in
          absurd (cc)
      by_step _ (JobStep.acts m none act) at walk = absurd (cc)
      by_step _ (JobStep.ends node v p ends after) at walk =
          let one : v ≡ w = some_same o.walk v w ends.walk walk in
          let is_so : is_bad v ≡ true = ap is_bad one ∙ bad in
          let now : after_end s.core o (is_back s o (course_of o.kind)) node true (course_of o.kind) ≡ Some p = subst (λ (b : Bool). after_end s.core o (is_back s o (course_of o.kind)) node b (course_of o.kind) ≡ Some p) is_so after in
          let told = taken_back s o node ends.first w.minor back p takes (asked_is o s.core.nodes w (fits_of s o kept runs) walk) now in
          record { operation = p; runs = refl; first = told.0 ∙ ap Some (front_one node ends.first at); walk = told.1 }
  by_job _ _ step runs (Turn.queries o n course stage idle first willing) is = absurd (let same = some_same s.operation asked.operation o asked.runs runs in let walk = subst (λ (x : Job). x.walk ≡ Some w) same asked.walk in cc)
  by_job _ _ step runs (Turn.removes o n d ds course stage idle first goes full) is = absurd (let same = some_same s.operation asked.operation o asked.runs runs in let walk = subst (λ (x : Job). x.walk ≡ Some w) same asked.walk in cc)
  by_job _ _ step runs (Turn.settles o n course stage idle first goes empty) is = absurd (let same = some_same s.operation asked.operation o asked.runs runs in let walk = subst (λ (x : Job). x.walk ≡ Some w) same asked.walk in cc)
  by_job _ _ step runs (Turn.finishes f i n course stage idle ready at) is = absurd (let same = some_same s.operation asked.operation f asked.runs runs in let walk = subst (λ (x : Job). x.walk ≡ Some w) same asked.walk in cc)

  by_machine : (step : Step) → MachineStep s step → IsAsked step.state k (walk_of back)
  by_machine step (MachineStep.operates o _ runs taken) = by_job o taken.now step runs taken.turn taken.is
  by_machine _ (MachineStep.starts node phase m at acts is) = absurd (let none = acts.none in let runs = asked.runs in cc)
  by_machine _ (MachineStep.does step none is) = absurd (let runs = asked.runs in cc)

pub refusers_hear : RefusersHearLaw
refusers_hear settings rack entries s label t k w back run asked bad takes goes =
    by_machine s (reaches_kept settings rack entries s run) k w back asked bad takes (record { label = label; state = t }) (machine_step settings s (record { label = label; state = t }) goes)

-- The order of asking ---------------------------------------------------------------------------------------

pub falls : (k : ℕ) (todo : List ℕ) → slice_get todo 0 ≡ Some k → Falling todo → (j : ℕ) → has (rest todo) j ≡ true → j < k
falls k [] at falling j h = absurd (cc)
falls k (i ∷ is) at falling j h = let same : i ≡ k = cc in subst (λ (x : ℕ). j < x) same (falling.0 j h)

head_in : (k : ℕ) (todo : List ℕ) → slice_get todo 0 ≡ Some k → has todo k ≡ true
head_in k [] at = absurd (cc)
head_in k (i ∷ is) at = let same : i ≡ k = cc in subst (λ (x : ℕ). has (i ∷ is) x ≡ true) same (cons_here i is)

pub asked_from_the_greatest : AskedFromTheGreatestLaw
asked_from_the_greatest settings rack entries s k w run asked is =
    let kept = reaches_kept settings rack entries s run in
    let o = asked.operation in
    let place = stop_where (course_of o.kind) o.stage (asked_is o s.core.nodes w (fits_of s o kept asked.runs) asked.walk ∙ ap Some is) in
    let all = kept_by Course.Rebalancing o s.core place.course_is (subst (λ (x : Option Job). StageKept x s.core) asked.runs kept.stands.stage) in
    let order : Ordered o.todo o.agreed = subst (λ (x : Stage). OrderKept o x) place.stage_is all.0 in
    record { left = falls k o.todo asked.first order.falling; agreed = λ j h. order.over k j (head_in k o.todo asked.first) h }
