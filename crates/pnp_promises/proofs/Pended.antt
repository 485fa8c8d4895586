-- What is pended waits until it is completed.
use Rattle.std.proofs.Common.{ℕ, ◌≡◌, ◌≢◌, ◌⊎◌, inl, inr, Bool, true, false, List, [], Option, Some, None, refl, sym, ap, subst, ◌∙◌}
use Rattle.std.proofs.lemmas.Bool.{cases_eq}
use Rattle.std.specs.List.{slice_get}
use Rattle.pnp_labels.specs.declared.event.Event.{Event}
use Rattle.pnp_labels.specs.declared.label.Label.{Label}
use Rattle.pnp_labels.specs.declared.label.OpKind.{OpKind}
use Rattle.pnp_labels.specs.declared.words.Minor.{Minor}
use Rattle.pnp_model.specs.Machine as ma
use Rattle.pnp_model.specs.Records.{Activity, Duty, Job, Node, Phase, State, Step, Walk}
use Rattle.pnp_model.specs.Runs.{Entry, Goes}
use Rattle.pnp_model.specs.Runs.Entry.{Happens, Did, Declines}
use Rattle.pnp_model.specs.Starts.{StartBeside, StartMove}
use Rattle.pnp_model.specs.States.{activity_at, with_core}
use Rattle.pnp_model.specs.Tasks as tk
use Rattle.pnp_laws.specs.Effects.{Acting}
use Rattle.pnp_laws.specs.Kept.{InOrder}
use Rattle.pnp_laws.specs.Quiet.{RestsWith}
use Rattle.pnp_laws.specs.Words.{IsWord}
use Rattle.pnp_laws.proofs.EventChanges.{happens_outside}
use Rattle.pnp_laws.proofs.IdleSteps.{MachineStep, TaskStep, machine_step}
use Rattle.pnp_laws.proofs.Lookups.{ended_other, entered_other, find_passes, phase_set_other, ready_found, some_same}
use Rattle.pnp_laws.proofs.RunsFacts.{facts_are_kept}
use Rattle.pnp_laws.proofs.RunsStand.{reaches_kept}
use Rattle.pnp_laws.proofs.RunsStep.{quiet_where_it_rests}
use Rattle.pnp_laws.proofs.Truths.{not_true}
use Rattle.pnp_promises.proofs.Events.{accepted_is_done, refused_changes_nothing}
use Rattle.pnp_promises.specs.Accepted.{ClosedHandle, GotAnswer, IsDone}
use Rattle.pnp_promises.specs.Pended.{IsCompletion, WhatIsPendedWaitsLaw}
use Rattle.pnp_promises.specs.Refusals.{AwaitsAnswer, ChangesNothing, TheNode}

-- where operation and activities stay
stays : (s t : State) (k : ℕ) (minor : Minor) → t.operation ≡ s.operation → t.activities ≡ s.activities → AwaitsAnswer s k minor → AwaitsAnswer t k minor
stays s t k minor same still (AwaitsAnswer.operates o w runs first walk waits own) = AwaitsAnswer.operates o w (same ∙ runs) first walk waits own
stays s t k minor same still (AwaitsAnswer.starts a w at walk waits own) = AwaitsAnswer.starts a w (ap (activity_at k) still ∙ at) walk waits own

-- Events --------------------------------------------------------------------------------------------------

module _ (s t : State) (k : ℕ) (minor : Minor) (alone : (o : Job) → s.operation ≡ Some o → s.activities ≡ []) (waits : AwaitsAnswer s k minor) where
  abbrev Goal : Event → Label → Type 0
  Goal event label = AwaitsAnswer t k minor ⊎ IsCompletion s (Happens event label) k minor

  as_it_was : (u : State) → u.operation ≡ s.operation → u.activities ≡ s.activities → t ≡ u → AwaitsAnswer t k minor
  as_it_was u same still e = stays s t k minor (ap (λ (x : State). x.operation) e ∙ same) (ap (λ (x : State). x.activities) e ∙ still) waits

  -- another answer comes, or this one
  got_answer : (path : List ℕ) (own : Minor) (ok : Bool) (label : Label) (n : Node) → (TheNode s path (λ m. m.serial ≡ n.serial)) → GotAnswer s n.serial own ok t → Goal (Event.Complete path own ok) label
  got_answer path own ok label n (m, at, same) (GotAnswer.operates o w runs first walk asks is e) = by_own waits
    where
      by_own : AwaitsAnswer s k minor → Goal (Event.Complete path own ok) label
      by_own (AwaitsAnswer.operates p v runs2 first2 walk2 waits2 own2) =
          let one : o ≡ p = some_same s.operation o p runs runs2 in
          let k_is : n.serial ≡ k = some_same (slice_get o.todo 0) n.serial k first (subst (λ (x : Job). slice_get x.todo 0 ≡ Some k) (sym one) first2) in
          let w_is : w ≡ v = some_same o.walk w v walk (subst (λ (x : Job). x.walk ≡ Some v) (sym one) walk2) in
          inr (m, at, (same ∙ k_is, sym is ∙ ap (λ (x : Walk). x.minor) w_is ∙ own2))
      by_own (AwaitsAnswer.starts a v at2 walk2 waits2 own2) = absurd (let none = ap (activity_at k) (alone o runs) in cc)
  got_answer path own ok label n (m, at, same) (GotAnswer.starts a w here walk asks is e) = by_serial (cases_eq n.serial k)
    where
      by_same : n.serial ≡ k → AwaitsAnswer s k minor → Goal (Event.Complete path own ok) label
      by_same k_is (AwaitsAnswer.operates p v runs2 first2 walk2 waits2 own2) = absurd (let none = ap (activity_at n.serial) (alone p runs2) in cc)
      by_same k_is (AwaitsAnswer.starts b v at2 walk2 waits2 own2) =
          let one : a ≡ b = some_same (activity_at n.serial s.activities) a b here (subst (λ (i : ℕ). activity_at i s.activities ≡ Some b) (sym k_is) at2) in
          let w_is : w ≡ v = some_same (ma.phase_walk a.phase) w v walk (subst (λ (x : Activity). ma.phase_walk x.phase ≡ Some v) (sym one) walk2) in
          inr (m, at, (same ∙ k_is, sym is ∙ ap (λ (x : Walk). x.minor) w_is ∙ own2))

      by_other : n.serial ≢ k → AwaitsAnswer s k minor → Goal (Event.Complete path own ok) label
      by_other other (AwaitsAnswer.operates p v runs2 first2 walk2 waits2 own2) = absurd (let none = ap (activity_at n.serial) (alone p runs2) in cc)
      by_other other (AwaitsAnswer.starts b v at2 walk2 waits2 own2) =
          inl (AwaitsAnswer.starts b v (ap (λ (x : State). activity_at k x.activities) e ∙ phase_set_other n.serial k _ s.activities other ∙ at2) walk2 waits2 own2)

      by_serial : (n.serial ≡ k) ⊎ (n.serial ≢ k) → Goal (Event.Complete path own ok) label
      by_serial (inl e) = by_same e waits
      by_serial (inr other) = by_other other waits

  closed : (path : List ℕ) (label : Label) (n : Node) → ClosedHandle s n t → Goal (Event.CloseHandle path) label
  closed path label n (ClosedHandle.goes_on why e) = inl (as_it_was _ refl refl e)
  closed path label n (ClosedHandle.last none gone e) = inl (as_it_was _ refl refl e)

  done_waits : (event : Event) (label : Label) → IsDone s event label t → IsWord label → (ChangesNothing s label t) → Goal event label
  done_waits event (Label.Refused word reason) done word_is same = inl (as_it_was s refl refl same)
  done_waits (Event.Plug parent path hw compat reqs) (Label.Did deed) (said, (over, at, e)) word_is same = inl (as_it_was _ refl refl e)
  done_waits (Event.Pull path) (Label.Did deed) (d, at, (said, e)) word_is same = inl (as_it_was _ refl refl e)
  done_waits (Event.Window path res) (Label.Did deed) (d, at, (said, e)) word_is same = inl (as_it_was _ refl refl e)
  done_waits (Event.Name name kind) (Label.Did deed) (said, e) word_is same = inl (as_it_was _ refl refl e)
  done_waits (Event.Teach name rule) (Label.Did deed) (d, at, (said, e)) word_is same = inl (as_it_was _ refl refl e)
  done_waits (Event.Disable path) (Label.Did deed) (n, at, (said, e)) word_is same = inl (as_it_was _ refl refl e)
  done_waits (Event.Enable path) (Label.Did deed) (own, at, said, e) word_is same = inl (as_it_was _ refl refl e)
  done_waits (Event.Eject path) (Label.Did deed) (n, at, (said, e)) word_is same = inl (as_it_was _ refl refl e)
  done_waits (Event.Change path reqs) (Label.Did deed) (n, at, (said, e)) word_is same = inl (as_it_was _ refl refl e)
  done_waits (Event.OpenHandle path) (Label.Did deed) (n, at, (said, one, e)) word_is same = inl (as_it_was _ refl refl e)
  done_waits (Event.CloseHandle path) (Label.Did deed) (n, at, (said, one, handle)) word_is same = closed path (Label.Did deed) n handle
  done_waits (Event.Relate kind owner member) (Label.Did deed) (o, at, (m, there, (said, e))) word_is same = inl (as_it_was _ refl refl e)
  done_waits (Event.Reserve res) (Label.Did deed) (said, e) word_is same = inl (as_it_was _ refl refl e)
  done_waits (Event.Complete path own ok) (Label.Did deed) (n, at, answer) word_is same = got_answer path own ok (Label.Did deed) n (n, at, refl) answer
  done_waits (Event.Watch client path agrees) (Label.Did deed) done word_is same = absurd done
  done_waits (Event.Unwatch client path) (Label.Did deed) done word_is same = absurd done
  done_waits event _ done word_is same = absurd word_is

-- Steps ----------------------------------------------------------------------------------------------------

module _ (s : State) (k : ℕ) (minor : Minor) (order : InOrder 0 s.activities) (none : s.operation ≡ None) (a : Activity) (w : Walk) (at : activity_at k s.activities ≡ Some a) (walk : ma.phase_walk a.phase ≡ Some w) (waits : w.waits ≡ true) (own : w.minor ≡ minor) where
  still : (t : State) → activity_at k t.activities ≡ activity_at k s.activities → AwaitsAnswer t k minor
  still t same = AwaitsAnswer.starts a w (same ∙ at) walk waits own

  -- who acts is another
  acts_other : (j : ℕ) (phase : Phase) → Acting s j phase → j ≢ k
  acts_other j phase acts e =
      let one : acts.activity ≡ a = some_same (activity_at k s.activities) acts.activity a (subst (λ (i : ℕ). activity_at i s.activities ≡ Some acts.activity) e acts_at) at in
      let ready : ma.is_waiting (ma.phase_walk acts.activity.phase) ≡ false = not_true (ma.is_waiting (ma.phase_walk acts.activity.phase)) (find_passes ma.is_ready s.activities acts.activity acts.ready) in
      let blocked : ma.is_waiting (ma.phase_walk a.phase) ≡ true = ap ma.is_waiting walk ∙ waits in
      let same : ma.is_waiting (ma.phase_walk acts.activity.phase) ≡ ma.is_waiting (ma.phase_walk a.phase) = ap (λ (x : Activity). ma.is_waiting (ma.phase_walk x.phase)) one in
      cc
    where
      acts_at : activity_at j s.activities ≡ Some acts.activity
      acts_at = subst (λ (i : ℕ). activity_at i s.activities ≡ Some acts.activity) acts.own (ready_found ma.is_ready 0 s.activities acts.activity order acts.ready).1

  start_still : (node : Node) (phase : Phase) (m : StartMove) → Acting s node.serial phase → AwaitsAnswer (ma.start_lifted s node.serial m).state k minor
  start_still node phase m acts = by_beside m.beside
    where
      other : node.serial ≢ k
      other = acts_other node.serial phase acts

      by_beside : (beside : StartBeside) → AwaitsAnswer (ma.after_start node.serial m.frame beside (with_core m.core s)) k minor
      by_beside StartBeside.On = still (ma.after_start node.serial m.frame StartBeside.On (with_core m.core s)) (phase_set_other node.serial k m.frame s.activities other)
      by_beside StartBeside.Needs = still (ma.after_start node.serial m.frame StartBeside.Needs (with_core m.core s)) (ended_other node.serial k s.activities other)
      by_beside StartBeside.Up = still (ma.after_start node.serial m.frame StartBeside.Up (with_core m.core s)) (ended_other node.serial k s.activities other)
      by_beside StartBeside.Over = still (ma.after_start node.serial m.frame StartBeside.Over (with_core m.core s)) (ended_other node.serial k s.activities other)

  task_still : (step : Step) → TaskStep s step → AwaitsAnswer step.state k minor
  task_still _ (TaskStep.skips duty i j first other) = still (tk.skip duty j s).state refl
  task_still _ (TaskStep.misses i first gone) = still (tk.skip (Duty.Begins OpKind.Surprise) i s).state refl
  task_still _ (TaskStep.told node first there state) = still (tk.skip (Duty.Begins OpKind.Surprise) node.serial s).state refl
  task_still _ (TaskStep.lists i node first) = still (tk.gone_or_listed s node None).state refl
  task_still _ (TaskStep.finds_gone node child found) = still (tk.gone_or_listed s node (Some child)).state refl
  task_still _ (TaskStep.joins node d there up found) = still (tk.join_step s node d).state refl
  task_still _ (TaskStep.troubles node problem bare other) = still (tk.begin_trouble s node problem).state refl
  task_still _ (TaskStep.installs node rank driver drivers bare chosen) =
      still (tk.install s node rank driver drivers).state (entered_other _ k s.activities (λ e. let free = bare.free in let here = subst (λ (i : ℕ). activity_at i s.activities ≡ Some a) (sym e) at in cc))
  task_still _ (TaskStep.begins kind node first alone there why) = absurd (let gone = ap (activity_at k) alone in cc)

  machine_still : (step : Step) → MachineStep s step → AwaitsAnswer step.state k minor
  machine_still step (MachineStep.operates o _ runs taken) = absurd (cc)
  machine_still _ (MachineStep.starts node phase m there acts is) = start_still node phase m acts
  machine_still step (MachineStep.does _ idle is) = task_still step is

pub what_is_pended_waits : WhatIsPendedWaitsLaw
what_is_pended_waits settings rack entries s entry t k minor run goes waits = by_entry entry goes
  where
    alone : (o : Job) → s.operation ≡ Some o → s.activities ≡ []
    alone = (facts_are_kept settings rack entries s run).alone

    -- an operation whose request waits takes no step
    no_step : (o : Job) (w : Walk) (label : Label) → s.operation ≡ Some o → o.walk ≡ Some w → w.waits ≡ true → Goes settings s (Did label) t → ⊥
    no_step o w label runs walk is steps =
        let rests : RestsWith s (Some o) = ap ma.is_waiting walk ∙ is in
        let quiet : ma.next settings s ≡ None = (quiet_where_it_rests settings rack entries s run).1 (subst (λ (x : Option Job). RestsWith s x) (sym runs) rests) in
        subst (λ x. ma.IsStep settings x (record { label = label; state = t })) quiet steps

    by_wait : (label : Label) → Goes settings s (Did label) t → AwaitsAnswer s k minor → AwaitsAnswer t k minor
    by_wait label steps (AwaitsAnswer.operates o w runs first walk is own) = absurd (no_step o w label runs walk is steps)
    by_wait label steps (AwaitsAnswer.starts a w at walk is own) =
        machine_still s k minor (reaches_kept settings rack entries s run).good.order (idle s.operation refl) a w at walk is own (record { label = label; state = t }) (machine_step settings s (record { label = label; state = t }) steps)
      where
        idle : (o : Option Job) → s.operation ≡ o → s.operation ≡ None
        idle None e = e
        idle (Some o) e = absurd (let gone = ap (activity_at k) (alone o e) in cc)

    by_entry : (entry : Entry) → Goes settings s entry t → AwaitsAnswer t k minor ⊎ IsCompletion s entry k minor
    by_entry (Happens event label) goes =
        done_waits s t k minor alone waits event label (accepted_is_done settings rack entries s event label t run goes) (subst (λ (x : Step). IsWord x.label) goes.1 (happens_outside s event).word) (refused_changes_nothing settings rack entries s event label t run goes)
    by_entry (Did label) goes = inl (by_wait label goes waits)
    by_entry (Declines label) goes = inl (stays s t k minor (ap (λ (x : State). x.operation) goes.dropped) (ap (λ (x : State). x.activities) goes.dropped) waits)
