-- In each state of a run in which neither a surprise removal nor a finish runs, each device that is ready to be finished has a task for it.
use Rattle.std.proofs.Common.{ℕ, ◌≡◌, ◌⊎◌, ◌∙◌, inl, inr, true, false, List, Option, Some, None, refl, sym, ap, subst}
use Rattle.pnp_labels.specs.declared.event.Event.{Event}
use Rattle.pnp_labels.specs.declared.label.Label.{Label}
use Rattle.pnp_labels.specs.declared.label.OpKind.{OpKind}
use Rattle.std.specs.Option.{option_map}
use Rattle.pnp_model.specs.Walks.{after}
use Rattle.pnp_model.specs.Cores.{node_at}
use Rattle.pnp_model.specs.Events.{answer_of}
use Rattle.pnp_model.specs.Records.{Course, Driver, Handle, Job, Node, Settings, State, course_of}
use Rattle.pnp_model.specs.Handles.{is_open}
use Rattle.pnp_model.specs.Runs.{Entry, Goes, opening, printed}
use Rattle.pnp_model.specs.Runs.Entry.{Happens, Did, Declines}
use Rattle.pnp_laws.specs.Effects.{AnswerEffect, Effect, Running, Turn}
use Rattle.pnp_laws.specs.Reached.{IsReached}
use Rattle.pnp_laws.specs.Waiting.{IsNeither, NeitherRuns, ReadyOnesAreDueLaw, is_to_finish}
use Rattle.pnp_laws.specs.Words.{IsWord}
use Rattle.pnp_laws.proofs.Declined.{idle_before}
use Rattle.pnp_laws.proofs.EffectsOf.{effect_goes}
use Rattle.pnp_laws.proofs.EffectsOfOperations.{turn_work}
use Rattle.pnp_laws.proofs.EventChanges.{relations_stay}
use Rattle.pnp_laws.proofs.FirstFinish.{IsFinishing, StaysDue, command_on, declined_on, running_on, steps_on}
use Rattle.pnp_laws.proofs.Readied.{Readied, bare_still, readied_ready, ready_readied}
use Rattle.pnp_laws.proofs.Reaching.{kept}
use Rattle.pnp_laws.proofs.ReadyEffects.{bare_was, shut_was, waited}
use Rattle.pnp_laws.proofs.ReadySteps.{IsLeft, LeftIn, ReadySeen, walked_left, ready_operation, turn_left}
use Rattle.pnp_laws.proofs.Runs.{root_is}
use Rattle.pnp_laws.proofs.RunsStand.{reaches_kept}
use Rattle.pnp_laws.proofs.Stages.{operation_step, own_step}
use Rattle.pnp_laws.proofs.Standing.{Kept}
use Rattle.pnp_laws.proofs.Turns.{running_good}
use Rattle.pnp_laws.proofs.TurnsKept.{running_stage, running_told}
use Rattle.pnp_laws.proofs.WaitsSteps.{steps_handles}

abbrev Seen : State → Type 0
Seen s = ReadySeen s.tasks s.handles s.operation s.core

-- Neither runs -------------------------------------------------------------------------------------------

none_left : (o : Option Job) (k : ℕ) → NeitherRuns o → IsLeft o k → ⊥
none_left None k neither left = left
none_left (Some o) k neither left = by_course (course_of o.kind) neither left
  where
    by_course : (course : Course) → IsNeither course → LeftIn course o k → ⊥
    by_course Course.Surprising neither left = neither
    by_course Course.Finishing neither left = neither
    by_course _ neither left = left

finishing_left : (o : Option Job) (k : ℕ) → IsFinishing o → IsLeft o k
finishing_left None k h = absurd h
finishing_left (Some o) k h = subst (λ (x : Course). LeftIn x o k) (sym h) tt

-- where one of them runs, one still runs when the next device is taken
either_taken : (s : State) (o p : Job) → Turn s o p → (NeitherRuns (Some o) → ⊥) → NeitherRuns (Some p) → ⊥
either_taken s o p turn either h = either (subst (λ (x : OpKind). IsNeither (course_of x)) (turn_work s o p turn).kind h)

still_due : (t : State) (k : ℕ) → StaysDue t k → (is_to_finish t.tasks k ≡ true) ⊎ IsLeft t.operation k
still_due t k (inl due) = inl due
still_due t k (inr finishing) = inr (finishing_left t.operation k finishing)

module _ (settings : Settings) (s : State) (was : Kept s) (seen : Seen s) where
  -- a device that was ready
  module _ (k : ℕ) (n : Node) (at : node_at k s.core.nodes ≡ Some n) (ready : Readied s.core s.handles k n) where
    due_on : (entry : Entry) (t : State) → Goes settings s entry t → Effect s entry t → is_to_finish s.tasks k ≡ true → (is_to_finish t.tasks k ≡ true) ⊎ IsLeft t.operation k
    due_on (Happens event label) t goes effect due = inl (command_on s t k effect.tasks due)
    due_on (Did label) t goes effect due = still_due t k (steps_on settings s label t k n at (readied_ready s.core s.handles k n was.good.serials was.good.stacks at ready) due goes effect.tasks)
    due_on (Declines label) t goes effect due = inl (declined_on s label t k goes due)

  beside_goes : (entry : Entry) (t : State) → Goes settings s entry t → NeitherRuns s.operation → Seen t
  beside_goes entry t goes neither k m now ready =
      let effect = effect_goes settings s entry t goes in
      let label = printed entry in
      let old = waited s was neither label t effect.nodes k m now ready.state in
      elim (shut_was s entry t was k old.0 old.1 old.2 effect.handles ready.shut) [
        | inr due ↦ inl due
        | inl shut ↦
            let before : Readied s.core s.handles k old.0 = record { state = old.2; shut = shut; bare = bare_was s was neither label t effect.nodes k m now ready.state ready.bare effect.nodes } in
            elim (seen k old.0 old.1 before) [
              | inl due ↦ due_on k old.0 old.1 before entry t goes effect due
              | inr left ↦ absurd (none_left s.operation k neither left)
            ]
      ]

  -- One of them runs --------------------------------------------------------------------------------------

  module _ (o : Job) (runs : s.operation ≡ Some o) where
    seen_by : (p : Job) → Running s p → ReadySeen s.tasks s.handles (Some p) s.core
    seen_by p running k n at ready =
        elim (seen k n at ready) [
          | inl due ↦ inl due
          | inr left ↦ inr (turn_left s running.before p k running.turn (subst (λ (x : Option Job). IsLeft x k) running.runs left))
        ]

    step_goes : (label : Label) (t : State) → Goes settings s (Did label) t → (NeitherRuns (Some o) → ⊥) → Seen t
    step_goes label t goes either k m now ready =
        let effect = effect_goes settings s (Did label) t goes in
        let taken = operation_step settings s o (record { label = label; state = t }) runs goes in
        let running : Running s taken.now = record { before = o; runs = runs; turn = taken.turn } in
        let after = ready_operation s taken.now (record { label = label; state = t }) (running_good s taken.now running was.good) was.stands.tree (running_stage s taken.now running was) (running_told s taken.now running was) (either_taken s o taken.now taken.turn either)
        (seen_by taken.now running) (own_step s taken.now (record { label = label; state = t }) (running_good s taken.now running was.good).fits taken.is) in
        elim (after k m now (record { state = ready.state; shut = subst (λ (hs : List Handle). is_open hs k ≡ false) (steps_handles s label t effect.handles) ready.shut; bare = ready.bare })) [
          | inl due ↦ inl (running_on s t o k runs effect.tasks due)
          | inr left ↦ inr left
        ]

    -- an event changes no node and no relation
    stays_seen : (event : Event) (label : Label) (t : State) → Effect s (Happens event label) t → IsWord label → t.core.nodes ≡ s.core.nodes → ((k : ℕ) → IsLeft (Some o) k → IsLeft t.operation k) → Seen t
    stays_seen event label t effect word nodes left_on k m now ready =
        let at = subst (λ (x : List Node). node_at k x ≡ Some m) nodes now in
        elim (shut_was s (Happens event label) t was k m at ready.state effect.handles ready.shut) [
          | inr due ↦ inl due
          | inl shut ↦
              elim (seen k m at (record { state = ready.state; shut = shut; bare = bare_still s.core t.core k nodes (relations_stay s label t o word runs effect.nodes) ready.bare })) [
                | inl due ↦ inl (command_on s t k effect.tasks due)
                | inr left ↦ inr (left_on k (subst (λ (x : Option Job). IsLeft x k) runs left))
              ]
        ]

    event_seen : (event : Event) (label : Label) (t : State) → Effect s (Happens event label) t → AnswerEffect s label t → Seen t
    event_seen event label t effect (AnswerEffect.stays word nodes acts now) = stays_seen event label t effect word nodes (λ k left. subst (λ (x : Option Job). IsLeft x k) (sym (now ∙ runs)) left)
    event_seen event label t effect (AnswerEffect.answers word nodes j a ok at acts now) = stays_seen event label t effect word nodes (λ k left. subst (λ (x : Option Job). IsLeft x k) (sym (now ∙ runs)) left)
    event_seen event label t effect (AnswerEffect.answered word nodes acts ok p own now) =
        stays_seen event label t effect word nodes
        (λ k left. subst (λ (x : Option Job). IsLeft x k) (sym now) (walked_left p (option_map (λ w. after w (answer_of ok)) p.walk) k (subst (λ (x : Option Job). IsLeft x k) (sym runs ∙ own) left)))

    runs_goes : (entry : Entry) (t : State) → Goes settings s entry t → (NeitherRuns (Some o) → ⊥) → Seen t
    runs_goes (Happens event label) t goes either = let effect = effect_goes settings s (Happens event label) t goes in event_seen event label t effect effect.operation
    runs_goes (Did label) t goes either = step_goes label t goes either
    runs_goes (Declines label) t goes either = absurd (let none = idle_before s label t goes in cc)

seen_goes : (settings : Settings) (s : State) (entry : Entry) (t : State) → Kept s → Goes settings s entry t → Seen s → Seen t
seen_goes settings s entry t was goes seen = by_operation s.operation refl
  where
    by_operation : (o : Option Job) → s.operation ≡ o → Seen t
    by_operation None e = beside_goes settings s was seen entry t goes (subst (λ (x : Option Job). NeitherRuns x) (sym e) tt)
    by_operation (Some o) e = by_course (course_of o.kind) refl
      where
        by_course : (course : Course) → course_of o.kind ≡ course → Seen t
        by_course Course.Surprising course = runs_goes settings s was seen o e entry t goes (λ h. subst (λ (x : Course). IsNeither x) course h)
        by_course Course.Finishing course = runs_goes settings s was seen o e entry t goes (λ h. subst (λ (x : Course). IsNeither x) course h)
        by_course Course.Rebalancing course = beside_goes settings s was seen entry t goes (subst (λ (x : Option Job). NeitherRuns x) (sym e) (subst (λ (x : Course). IsNeither x) (sym course) tt))
        by_course Course.Removing course = beside_goes settings s was seen entry t goes (subst (λ (x : Option Job). NeitherRuns x) (sym e) (subst (λ (x : Course). IsNeither x) (sym course) tt))

-- the root alone does not wait
opening_seen : (rack : List Driver) → Seen (opening rack)
opening_seen rack k n at ready = absurd (let root = ap (λ (x : Node). x.state) (root_is k n at).0 in let state = ready.state in cc)

seen_run : (settings : Settings) (rack : List Driver) (s : State) → IsReached settings rack s → Seen s
seen_run settings rack s reached = kept Seen settings rack (λ old entry new from h goes. seen_goes settings old entry new (reaches_kept settings rack from.0 old from.1) goes h) (opening_seen rack) s reached

pub ready_ones_are_due : ReadyOnesAreDueLaw
ready_ones_are_due settings rack entries s run neither k n at ready =
    let was = reaches_kept settings rack entries s run in
    elim (seen_run settings rack s (entries, run) k n at (ready_readied s.next_serial s.core s.handles k n was.good.stacks was.stands.tree at ready)) [
      | inl due ↦ due
      | inr left ↦ absurd (none_left s.operation k neither left)
    ]
