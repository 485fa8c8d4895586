-- Each event keeps what a run keeps.
use Rattle.std.proofs.Common.{ℕ, ◌≡◌, ◌≢◌, inl, inr, List, ◌∷◌, Option, Some, None, sym, ap, subst}
use Rattle.pnp_model.specs.Keyed.{changed_first}
use Rattle.pnp_model.specs.Records.{Course, Job, Node, Activity, Phase, State, Walk, course_of}
use Rattle.pnp_model.specs.Records.Phase.{Adding}
use Rattle.pnp_model.specs.Cores.{node_at}
use Rattle.pnp_model.specs.States.{is_activity, with_phase}
use Rattle.pnp_model.specs.Walks.{after}
use Rattle.std.specs.Option.{option_map}
use Rattle.pnp_model.specs.Events.{answer_of, completed, completed_phase, happens}
use Rattle.pnp_laws.specs.Effects.{AnswerEffect}
use Rattle.pnp_laws.specs.Kept.{Good, IsGood, Lawful, Fits, OperationFits, Alone, IsOwn, JobFits, asked_in}
use Rattle.pnp_labels.specs.declared.states.DevState.{DevState}
use Rattle.pnp_labels.specs.declared.words.Answer.{Answer}
use Rattle.pnp_labels.specs.declared.event.Event.{Event}
use Rattle.pnp_labels.specs.declared.label.Label.{Label}
use Rattle.pnp_laws.proofs.Lookups.{phase_from, InOrder-set_phase}
use Rattle.pnp_laws.proofs.EffectsOfEvents.{event_effect}
use Rattle.pnp_laws.proofs.EventChanges.{happens_outside, still_serial}
use Rattle.pnp_laws.proofs.FitsBy.{answered_own, fits_own}
use Rattle.pnp_laws.proofs.Kept.{lawful_by, Good_nodes}
use Rattle.pnp_laws.proofs.TaskSteps.{unchanged}

completed_fits : (answer : Answer) (phase : Phase) (x : DevState) → Fits phase x → Fits (completed_phase answer phase) x
completed_fits answer (Adding (d ∷ ds)) x h = h
completed_fits answer _ x h = h

-- a request that gets its answer changes nothing else
pub walked_fits : (course : Course) (o : Job) (walk : Option Walk) (nodes : List Node) → IsOwn walk (asked_in course o.stage) → JobFits course o nodes → JobFits course (record o { walk = walk }) nodes
walked_fits Course.Rebalancing o walk nodes own k = record { kind = k.kind; own = own; todo = k.todo; agreed = k.agreed; rootless = k.rootless; no_root = k.no_root; asks = k.asks; each = k.each; waits = k.waits }
walked_fits Course.Removing o walk nodes own k = record { own = own; set = k.set; rootless = k.rootless; todo = k.todo; agreed = k.agreed; asks = k.asks; each = k.each }
walked_fits Course.Surprising o walk nodes own k = record { own = own; set = k.set; rootless = k.rootless; last = k.last; todo = k.todo; inside = k.inside; ends = k.ends; each = k.each; calm = k.calm }
walked_fits Course.Finishing o walk nodes own k = record { own = own; one = k.one; each = k.each }

pub completed_operation : (answer : Answer) (o : Job) (nodes : List Node) → OperationFits (Some o) nodes → OperationFits (Some (completed answer o)) nodes
completed_operation answer o nodes h =
    let course = course_of o.kind in
    walked_fits course o (option_map (λ w. after w answer) o.walk) nodes (answered_own answer o.walk (asked_in course o.stage) (fits_own course o nodes h)) h

still_alone : (o : Option Job) (acts : List Activity) (k : ℕ) (phase : Phase) → Alone o acts → Alone o (changed_first (is_activity k) (with_phase phase) acts)
still_alone None acts k phase h = tt
still_alone (Some o) acts k phase h = ap (changed_first (is_activity k) (with_phase phase)) h

lawful_answer : (s : State) (label : Label) (t : State) → t.next_serial ≡ s.next_serial → AnswerEffect s label t → IsGood s → Lawful t
lawful_answer s label t serial (AnswerEffect.stays word nodes acts now) good = unchanged s t serial nodes acts now good
lawful_answer s label t serial (AnswerEffect.answers word nodes k a ok at acts now) good =
    let phase = completed_phase (answer_of ok) a.phase in
    let new = changed_first (is_activity k) (with_phase phase) s.activities in
    lawful_by t s.next_serial s.core.nodes new s.operation serial nodes acts now
    (Good_nodes s.next_serial s.core.nodes s.activities new s.operation s.operation (InOrder-set_phase 0 k phase s.activities good.order)
    (λ i x g. elim (phase_from k i phase s.activities x g) [
      | inl (e, (y, q, r)) ↦
          let old = good.phases k a at in (
            old.0,
            subst (λ (z : ℕ). node_at z s.core.nodes ≡ Some old.0) e old.1,
            subst (λ (z : ℕ). z ≢ 0) e old.2,
            subst (λ (z : Activity). Fits z.phase old.0.state) (sym r) (completed_fits (answer_of ok) a.phase old.0.state old.3),
          )
      | inr (d, q) ↦ good.phases i x q
    ])
    (still_alone s.operation s.activities k phase good.alone) good.fits good)
lawful_answer s label t serial (AnswerEffect.answered word nodes acts ok o runs now) good =
    let g = subst (λ (x : Option Job). Good s.next_serial s.core.nodes s.activities x) runs good in
    let fits = completed_operation (answer_of ok) o s.core.nodes g.fits in
    lawful_by t s.next_serial s.core.nodes s.activities (Some (completed (answer_of ok) o)) serial nodes acts now
    (Good_nodes s.next_serial s.core.nodes s.activities s.activities (Some o) (Some (completed (answer_of ok) o)) g.order g.phases g.alone fits g)

pub lawful_happens : (s : State) (event : Event) → IsGood s → Lawful (happens s event).state
lawful_happens s event good =
    let effect = event_effect s event in
    let step = happens s event in
    lawful_answer s step.label step.state (still_serial s.next_serial step.state.next_serial step.label (happens_outside s event).word effect.serial) effect.operation good
