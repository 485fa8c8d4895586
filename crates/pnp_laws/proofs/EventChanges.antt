-- What an event leaves as it is: every node; and in an operation all but its walk.
use Rattle.std.proofs.Common.{ℕ, ◌+◌, arith, ◌≡◌, ◌⊎◌, inl, inr, Bool, List, Option, Some, refl, ap, ◌∙◌, subst}
use Rattle.pnp_labels.specs.declared.words.Answer.{Answer}
use Rattle.pnp_labels.specs.declared.event.Event.{Event}
use Rattle.pnp_labels.specs.declared.label.Label.{Label}
use Rattle.pnp_model.specs.Keyed.{changed_first}
use Rattle.pnp_model.specs.Records.{Activity, Phase, State, Step, Job}
use Rattle.pnp_model.specs.Records.Phase.{Adding, Due}
use Rattle.pnp_model.specs.Runs.{Entry}
use Rattle.pnp_model.specs.States.{activity_at, is_activity, with_phase}
use Rattle.pnp_laws.specs.Effects.{AnswerEffect, NodeEffect, RangeEffect}
use Rattle.pnp_laws.specs.Holdings.{is_starting}
use Rattle.pnp_laws.specs.Words.{IsWord, IsBeside, DueFine, joined}
use Rattle.pnp_laws.proofs.EffectsOfEvents.{event_effect}
use Rattle.pnp_laws.proofs.Lookups.{phase_from}
use Rattle.pnp_model.specs.Events as ev

pub beside_word : (label : Label) → IsWord label → IsBeside label
beside_word (Label.Did deed) h = tt
beside_word (Label.Refused word reason) h = tt
beside_word _ h = absurd h

-- the operation is as it was, but for the answer that its walk got
abbrev pub Answered : Option Job → Option Job → Type 0
Answered old new = (new ≡ old) ⊎ ((ok : Bool) × (o : Job) × (old ≡ Some o) × (new ≡ Some (ev.completed (ev.answer_of ok) o)))

pub record Outside (s : State) (step : Step) : Type 0 where
  pub word : IsWord step.label
  pub nodes : step.state.core.nodes ≡ s.core.nodes
  pub relations : (o : Job) → s.operation ≡ Some o → step.state.core.relations ≡ s.core.relations
  pub reserved : (o : Job) → s.operation ≡ Some o → step.state.core.reserved ≡ s.core.reserved
  pub activities : (k : ℕ) (a : Activity) → activity_at k step.state.activities ≡ Some a → (b : Activity) × (activity_at k s.activities ≡ Some b) × (is_starting a.phase ≡ is_starting b.phase)
  pub operation : Answered s.operation step.state.operation

-- an answer starts no START and ends none
pub starting_still : (answer : Answer) (phase : Phase) → is_starting (ev.completed_phase answer phase) ≡ is_starting phase
starting_still answer (Adding drivers) = refl
starting_still answer _ = refl

pub answered_fine : (answer : Answer) (phase : Phase) → DueFine phase → DueFine (ev.completed_phase answer phase)
answered_fine answer (Due problem) h = h
answered_fine answer _ h = tt

-- j is where the activity was found
answered_activities : (answer : Answer) (j : ℕ) (a : Activity) (activities : List Activity) → activity_at j activities ≡ Some a →
    (k : ℕ) (x : Activity) → activity_at k (changed_first (is_activity j) (with_phase (ev.completed_phase answer a.phase)) activities) ≡ Some x →
    (b : Activity) × (activity_at k activities ≡ Some b) × (is_starting x.phase ≡ is_starting b.phase)
answered_activities answer j a activities at k x g =
    elim (phase_from j k (ev.completed_phase answer a.phase) activities x g) [
      | inl (e, (y, q, r)) ↦
          let at_k = subst (λ (i : ℕ). activity_at i activities ≡ Some a) e at in
          (a, at_k, ap (λ (z : Activity). is_starting z.phase) r ∙ starting_still answer a.phase)
      | inr (d, q) ↦ (x, q, refl)
    ]

-- an event gives no serial
pub still_serial : (old new : ℕ) (label : Label) → IsWord label → new ≡ old + joined label → new ≡ old
still_serial old new (Label.Did deed) w e = omega arith
still_serial old new (Label.Refused word reason) w e = omega arith
still_serial old new _ w e = absurd w

-- ranges stay while an operation runs
pub ranges_stay : (s t : State) {entry : Entry} (o : Job) → s.operation ≡ Some o → RangeEffect s entry t → t.core.reserved ≡ s.core.reserved
ranges_stay s t o runs (RangeEffect.same e) = e
ranges_stay s t o runs (RangeEffect.reserves res none free nodes e event label is) = absurd (cc)

-- and so do relations in an event
pub relations_stay : (s : State) (label : Label) (t : State) (o : Job) → IsWord label → s.operation ≡ Some o → NodeEffect s label t → t.core.relations ≡ s.core.relations
relations_stay s label t o word runs (NodeEffect.same nodes e) = e
relations_stay s label t o word runs (NodeEffect.changed j f alters nodes e) = e
relations_stay s label t o word runs (NodeEffect.stripped node w at request ends prints nodes e) = absurd (subst (λ (x : Label). IsWord x) prints word)
relations_stay s label t o word runs (NodeEffect.commits r own course is nodes e) = e
relations_stay s label t o word runs (NodeEffect.joins node d none at up there is) = absurd (cc)
relations_stay s label t o word runs (NodeEffect.left node p own first nodes e) = e
relations_stay s label t o word runs (NodeEffect.related r related nodes e) = absurd (let none = related.none in cc)

outside_by : (s : State) (label : Label) (t : State) {entry : Entry} → NodeEffect s label t → RangeEffect s entry t → AnswerEffect s label t → Outside s (record { label = label; state = t })
outside_by s label t nodes ranges (AnswerEffect.stays word same acts now) =
    record {
      word = word;
      nodes = same;
      relations = λ o runs. relations_stay s label t o word runs nodes;
      reserved = λ o runs. ranges_stay s t o runs ranges;
      activities = λ k a at. (a, subst (λ (x : List Activity). activity_at k x ≡ Some a) acts at, refl);
      operation = inl now;
    }
outside_by s label t nodes ranges (AnswerEffect.answers word same j a ok there acts now) =
    let phase = ev.completed_phase (ev.answer_of ok) a.phase in
    record {
      word = word;
      nodes = same;
      relations = λ o runs. relations_stay s label t o word runs nodes;
      reserved = λ o runs. ranges_stay s t o runs ranges;
      activities = λ k x at. answered_activities (ev.answer_of ok) j a s.activities there k x (subst (λ (y : List Activity). activity_at k y ≡ Some x) acts at);
      operation = inl now;
    }
outside_by s label t nodes ranges (AnswerEffect.answered word same acts ok o own now) =
    record {
      word = word;
      nodes = same;
      relations = λ p runs. relations_stay s label t p word runs nodes;
      reserved = λ p runs. ranges_stay s t p runs ranges;
      activities = λ k a at. (a, subst (λ (x : List Activity). activity_at k x ≡ Some a) acts at, refl);
      operation = inr (ok, o, own, now);
    }

pub happens_outside : (s : State) (event : Event) → Outside s (ev.happens s event)
happens_outside s event =
    let effect = event_effect s event in
    let step = ev.happens s event in
    outside_by s step.label step.state effect.nodes effect.ranges effect.operation
