-- Each step and each event keeps what is kept of devices that wait to be finished and of open handles.
use Rattle.std.proofs.Common.{ℕ, ◌≡◌, ◌∙◌, true, false, nat_lt, List, Option, Some, None, refl, sym, subst}
use Rattle.pnp_labels.specs.declared.event.Event.{Event}
use Rattle.pnp_labels.specs.declared.label.Label.{Label}
use Rattle.pnp_model.specs.Handles.{is_open}
use Rattle.pnp_model.specs.Records.{Handle, State, Step, Settings, Job, Stage, Course, course_of}
use Rattle.pnp_model.specs.Runs.{Entry, Goes}
use Rattle.pnp_model.specs.Runs.Entry.{Happens, Did, Declines}
use Rattle.pnp_laws.specs.Effects.{AnswerEffect, Effect, HandleEffect, Running}
use Rattle.pnp_laws.specs.Kept.{Good}
use Rattle.pnp_laws.proofs.Declined.{idle_after, idle_before}
use Rattle.pnp_laws.proofs.EffectsOf.{effect_goes}
use Rattle.pnp_laws.proofs.HandlesKept.{held_goes, open_closed}
use Rattle.pnp_laws.proofs.IdleSteps.{MachineStep, machine_step}
use Rattle.pnp_laws.proofs.ShutSteps.{shut_none, shut_operation, shut_start, shut_task}
use Rattle.pnp_laws.proofs.SoundMachine.{begins_well}
use Rattle.pnp_laws.proofs.Standing.{FinishShut, Kept, RemovalShut, StageShut, SurpriseShut, Told, ToldKept, Waits, shut_walked, JobShut}
use Rattle.pnp_laws.proofs.ToldMachine.{told_event, told_idle, told_operation}
use Rattle.pnp_laws.proofs.Truths.{untrue}
use Rattle.pnp_laws.proofs.Turns.{running_good}
use Rattle.pnp_laws.proofs.TurnsKept.{running_shut, running_stage, running_told}
use Rattle.pnp_model.specs.Events as ev
use Rattle.pnp_laws.proofs.Stages.{own_step}

-- Handles -------------------------------------------------------------------------------------------

-- in a step handles stay
pub steps_handles : (s : State) (label : Label) (t : State) → HandleEffect s (Did label) t → t.handles ≡ s.handles
steps_handles s label t (HandleEffect.same e) = e
steps_handles s label t (HandleEffect.opens node path own none found up started event is) = absurd (cc)
steps_handles s label t (HandleEffect.closes node path own handle found at event handles is) = absurd (cc)

-- fewer are open
abbrev Fewer : List Handle → List Handle → Type 0
Fewer handles more = (k : ℕ) → is_open handles k ≡ true → is_open more k ≡ true

still_shut : (handles more : List Handle) (k : ℕ) → Fewer handles more → is_open more k ≡ false → is_open handles k ≡ false
still_shut handles more k fewer shut = untrue (is_open handles k) (λ e. let z = fewer k e in cc)

module _ (handles more : List Handle) (o : Job) (fewer : Fewer handles more) where
  fewer_removal : (stage : Stage) → RemovalShut more o stage → RemovalShut handles o stage
  fewer_removal Stage.Asking h = (λ k g. still_shut handles more k fewer (h.0 k g), λ k g. still_shut handles more k fewer (h.1 k g))
  fewer_removal _ h = λ k g. still_shut handles more k fewer (h k g)

  fewer_surprise : (stage : Stage) → SurpriseShut more o stage → SurpriseShut handles o stage
  fewer_surprise Stage.Removing h = λ k g. still_shut handles more k fewer (h k g)
  fewer_surprise _ h = tt

  fewer_finish : (stage : Stage) → FinishShut more o stage → FinishShut handles o stage
  fewer_finish Stage.Removing h = λ k g. still_shut handles more k fewer (h k g)
  fewer_finish _ h = tt

  fewer_by : (course : Course) → JobShut more course o → JobShut handles course o
  fewer_by Course.Rebalancing h = tt
  fewer_by Course.Removing h = fewer_removal o.stage h
  fewer_by Course.Surprising h = fewer_surprise o.stage h
  fewer_by Course.Finishing h = fewer_finish o.stage h

fewer_shut : (handles more : List Handle) (o : Option Job) → Fewer handles more → StageShut more o → StageShut handles o
fewer_shut handles more None fewer h = tt
fewer_shut handles more (Some o) fewer h = fewer_by handles more o fewer (course_of o.kind) h

-- while an operation runs none is opened
runs_fewer : (s : State) (entry : Entry) (t : State) (o : Job) → s.operation ≡ Some o → HandleEffect s entry t → Fewer t.handles s.handles
runs_fewer s entry t o runs (HandleEffect.same e) k h = subst (λ (hs : List Handle). is_open hs k ≡ true) e h
runs_fewer s entry t o runs (HandleEffect.opens node path own none found up started event is) k h = absurd (cc)
runs_fewer s entry t o runs (HandleEffect.closes node path own handle found at event handles is) k h =
    open_closed node.serial k s.handles (nat_lt 1 handle.count) (subst (λ (hs : List Handle). is_open hs k ≡ true) handles h)

-- Steps ---------------------------------------------------------------------------------------------

module _ (s : State) (kept : Kept s) where
  calm : s.operation ≡ None → Good s.next_serial s.core.nodes s.activities None
  calm none = subst (λ (x : Option Job). Good s.next_serial s.core.nodes s.activities x) none kept.good

  untold : s.operation ≡ None → Told s.core
  untold none = subst (λ (x : Option Job). ToldKept x s.core) none kept.waits.told

  step_shut : (step : Step) → MachineStep s step → StageShut s.handles step.state.operation
  step_shut step (MachineStep.operates o _ runs taken) =
      let running : Running s taken.now = record { before = o; runs = runs; turn = taken.turn } in
      let good = running_good s taken.now running kept.good in
      shut_operation s taken.now step good kept.waits.held (running_shut s taken.now running kept) (own_step s taken.now step good.fits taken.is)
  step_shut _ (MachineStep.starts node phase m at acting is) = shut_start s node.serial m acting.none
  step_shut step (MachineStep.does _ none is) = shut_task s step none (begins_well s none kept.good kept.stands) (calm none).fits kept.waits.held is

  step_told : (step : Step) → MachineStep s step → Effect s (Did step.label) step.state → ToldKept step.state.operation step.state.core
  step_told step (MachineStep.operates o _ runs taken) effect =
      let running : Running s taken.now = record { before = o; runs = runs; turn = taken.turn } in
      let good = running_good s taken.now running kept.good in
      told_operation s taken.now step good kept.stands.tree (running_stage s taken.now running kept) kept.waits.held (running_told s taken.now running kept) (own_step s taken.now step good.fits taken.is)
  step_told step (MachineStep.starts node phase m at acting is) effect = told_idle s step.label step.state kept.good kept.stands.tree acting.none (untold acting.none) effect.nodes effect.operation
  step_told step (MachineStep.does _ none is) effect = told_idle s step.label step.state kept.good kept.stands.tree none (untold none) effect.nodes effect.operation

pub waits_step : (settings : Settings) (s : State) (label : Label) (t : State) → Kept s → Goes settings s (Did label) t → Waits t
waits_step settings s label t kept goes =
    let effect = effect_goes settings s (Did label) t goes in
    let is = machine_step settings s (record { label = label; state = t }) goes in
    record {
      told = step_told s kept (record { label = label; state = t }) is effect;
      held = held_goes s (Did label) t kept effect.nodes effect.handles;
      shut = subst (λ (hs : List Handle). StageShut hs t.operation) (sym (steps_handles s label t effect.handles)) (step_shut s kept (record { label = label; state = t }) is);
    }

-- Events ----------------------------------------------------------------------------------------------

stays_shut : (s : State) (entry : Entry) (t : State) (o : Option Job) → s.operation ≡ o → t.operation ≡ s.operation → HandleEffect s entry t → StageShut s.handles o → StageShut t.handles t.operation
stays_shut s entry t None none now handles h = shut_none t.handles t.operation (now ∙ none)
stays_shut s entry t (Some o) runs now handles h = subst (λ (x : Option Job). StageShut t.handles x) (sym (now ∙ runs)) (fewer_shut t.handles s.handles (Some o) (runs_fewer s entry t o runs handles) h)

event_shut : (s : State) (entry : Entry) (label : Label) (t : State) → StageShut s.handles s.operation → HandleEffect s entry t → AnswerEffect s label t → StageShut t.handles t.operation
event_shut s entry label t h handles (AnswerEffect.stays word nodes acts now) = stays_shut s entry t s.operation refl now handles h
event_shut s entry label t h handles (AnswerEffect.answers word nodes k a ok at acts now) = stays_shut s entry t s.operation refl now handles h
event_shut s entry label t h handles (AnswerEffect.answered word nodes acts ok o runs now) =
    subst (λ (x : Option Job). StageShut t.handles x) (sym now)
    (fewer_shut t.handles s.handles (Some (ev.completed (ev.answer_of ok) o)) (runs_fewer s entry t o runs handles) (shut_walked o (ev.completed (ev.answer_of ok) o).walk s.handles (subst (λ (x : Option Job). StageShut s.handles x) runs h)))

pub waits_happens : (settings : Settings) (s : State) (event : Event) (label : Label) (t : State) → Kept s → Goes settings s (Happens event label) t → Waits t
waits_happens settings s event label t kept goes =
    let effect = effect_goes settings s (Happens event label) t goes in
    record {
      told = told_event s label t kept.good kept.stands.tree kept.waits.told effect.nodes effect.operation;
      held = held_goes s (Happens event label) t kept effect.nodes effect.handles;
      shut = event_shut s (Happens event label) label t kept.waits.shut effect.handles effect.operation;
    }

-- A client declines what is due ---------------------------------------------------------------------------

pub waits_declined : (settings : Settings) (s : State) (label : Label) (t : State) → Kept s → Goes settings s (Declines label) t → Waits t
waits_declined settings s label t kept goes =
    let effect = effect_goes settings s (Declines label) t goes in
    let none = idle_before s label t goes in
    record {
      told = told_idle s label t kept.good kept.stands.tree none (untold s kept none) effect.nodes effect.operation;
      held = held_goes s (Declines label) t kept effect.nodes effect.handles;
      shut = shut_none t.handles t.operation (idle_after s label t goes);
    }

pub waits_goes : (settings : Settings) (s : State) (entry : Entry) (t : State) → Kept s → Goes settings s entry t → Waits t
waits_goes settings s (Happens event label) t kept goes = waits_happens settings s event label t kept goes
waits_goes settings s (Did label) t kept goes = waits_step settings s label t kept goes
waits_goes settings s (Declines label) t kept goes = waits_declined settings s label t kept goes
