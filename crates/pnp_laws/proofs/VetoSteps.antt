-- What a veto restores is kept by each step and event of a removal.
use Rattle.std.proofs.Common.{◌≡◌, ◌⊎◌, inl, inr, [], Option, Some, refl, sym, ap, ◌∙◌, subst}
use Rattle.pnp_model.specs.Records.{Core, Course, Job, Settings, Stage, State, Step, Walk, course_of}
use Rattle.pnp_model.specs.States.{unplug, set_operation, with_core}
use Rattle.pnp_model.specs.Machine.{next, IsStep, job_lifted}
use Rattle.pnp_laws.specs.Kept.{IsGood, OperationFits, RemovalKeeps}
use Rattle.pnp_model.specs.Laws.{IsWithin}
use Rattle.pnp_laws.specs.Effects.{Turn}
use Rattle.pnp_laws.specs.Vetoes.{Since}
use Rattle.pnp_labels.specs.declared.label.Label.{Label}
use Rattle.pnp_labels.specs.declared.event.Event.{Event}
use Rattle.pnp_laws.proofs.Stages.{OperationStep, asking, operation_step, own_step}
use Rattle.pnp_laws.proofs.EffectsOfOperations.{turn_work}
use Rattle.pnp_model.specs.Frames.{asked}
use Rattle.pnp_model.specs.Machine.{after_job}
use Rattle.pnp_labels.specs.declared.states.DevState.TheVariants.{RemovePending}
use Rattle.pnp_laws.proofs.Vetoes.{IsOn, held_still, since_step}
use Rattle.pnp_laws.proofs.EventChanges.{Answered, happens_outside}
use Rattle.pnp_laws.proofs.Finishing.{relist_only}
use Rattle.pnp_laws.proofs.Turns.{running_good}
use Rattle.pnp_model.specs.Removals as rm
use Rattle.pnp_model.specs.Events as ev
use Rattle.pnp_model.specs.Jobs.{JobMove, Beside}
use Rattle.pnp_laws.proofs.FitsBy.{fits_by}

-- an operation runs that a veto may end, with what was before
pub record VetoSince (before : Core) (s : State) : Type 0 where
  pub op : Job
  pub runs : s.operation ≡ Some op
  pub course : course_of op.kind ≡ Course.Removing
  pub since : Since before s.core op op.stage

-- What is kept ---------------------------------------------------------------------------

moved : (before c d : Core) (o : Job) (stage : Stage) → d.nodes ≡ c.nodes → d.relations ≡ c.relations → d.reserved ≡ c.reserved → Since before c o stage → Since before d o stage
moved before c d o Stage.Next a b e h = (held_still RemovePending before c d o.agreed a b e h.0, h.1)
moved before c d o Stage.Asking a b e h = (held_still RemovePending before c d o.agreed a b e h.0, h.1)
moved before c d o Stage.TakingBack a b e h = held_still RemovePending before c d o.agreed a b e h
moved before c d o Stage.Cancelling a b e h = held_still RemovePending before c d o.todo a b e h
moved before c d o Stage.Removing a b e h = h
moved before c d o Stage.Settling a b e h = h
moved before c d o Stage.Ending a b e (inl h) = inl h
moved before c d o Stage.Ending a b e (inr h) = inr (held_still RemovePending before c d [] a b e h)
moved before c d o _ a b e h = absurd h

walked_since : (before c : Core) (o : Job) (walk : Option Walk) (stage : Stage) → Since before c o stage → Since before c (record o { walk = walk }) stage
walked_since before c o walk Stage.Next h = h
walked_since before c o walk _ h = h

-- A step ----------------------------------------------------------------------------------

-- the operation goes on, by what the machine does beside the move
gone_on : (before : Core) (s : State) (m : JobMove) (beside : Beside) → course_of m.frame.kind ≡ Course.Removing → IsOn beside → Since before m.core m.frame m.frame.stage →
    VetoSince before (after_job m.frame beside (with_core m.core s))
gone_on before s m Beside.On course on h = record { op = m.frame; runs = refl; course = course; since = h }
gone_on before s m (Beside.Left path born) course on h =
    let u = set_operation (Some m.frame) (with_core m.core s) in
    record { op = m.frame; runs = (relist_only path born u).operation; course = course; since = subst (λ (c : Core). Since before c m.frame m.frame.stage) (sym (relist_only path born u).core) h }
gone_on before s m (Beside.Disabled path) course on h = record { op = m.frame; runs = refl; course = course; since = h }
gone_on before s m (Beside.Ejected path born) course on h =
    let u = unplug born (set_operation (Some m.frame) (with_core m.core s)) in
    record { op = m.frame; runs = (relist_only path born u).operation; course = course; since = subst (λ (c : Core). Since before c m.frame m.frame.stage) (sym (relist_only path born u).core) h }
gone_on before s m (Beside.FailedRestart k) course on h = record { op = m.frame; runs = refl; course = course; since = h }
gone_on before s m Beside.Over course on h = absurd on
gone_on before s m Beside.OverStart course on h = absurd on
gone_on before s m Beside.OverUndo course on h = absurd on

-- the operation closed, in a state that a veto restores
pub record Closed (before : Core) (s : State) (step : Step) : Type 0 where
  pub op : Job
  pub label : step.label ≡ Label.End op.kind op.path (rm.end_of s.core op.refused)
  pub since : Since before s.core op Stage.Ending
  pub core : step.state.core ≡ s.core

by_step : (before : Core) (s : State) (o : Job) (step : Step) → course_of o.kind ≡ Course.Removing → OperationFits (Some o) s.core.nodes → Since before s.core o o.stage → OperationStep s o step → (IsWithin step.label × VetoSince before step.state) ⊎ Closed before s step
by_step before s o step course fits since (OperationStep.asks node w a) =
    let p = record o { walk = Some (asked s.core node w).walk } in
    inl (tt, record { op = p; runs = refl; course = course; since = moved before s.core (asking s o node w).state.core p p.stage refl refl refl (walked_since before s.core o p.walk o.stage since) })
by_step before s o step course fits since (OperationStep.removes stage m own is x) =
    let keeps = subst (λ (y : Stage). RemovalKeeps o y s.core.nodes) is (fits_by Course.Removing o s.core.nodes own fits) in
    let now = subst (λ (y : Stage). Since before s.core o y) is since in
    elim (since_step before s.core o stage m keeps now x) [
      | inl on ↦ inl (on.within, gone_on before s m m.beside (ap course_of on.kind ∙ course) on.on on.since)
      | inr (ending, closed) ↦ inr (record {
        op = o;
        label = ap (λ (y : JobMove). y.label) closed;
        since = subst (λ (y : Stage). Since before s.core o y) ending now;
        core = ap (λ (y : JobMove). (job_lifted s y).state.core) closed;
      })
    ]
by_step before s o step course fits since (OperationStep.rebalances stage m own is x) = absurd (cc)
by_step before s o step course fits since (OperationStep.surprises stage m own is x) = absurd (cc)
by_step before s o step course fits since (OperationStep.finishes stage m own is x) = absurd (cc)

-- where the next device is taken, it is held as before
turn_since : (before : Core) (s : State) (o p : Job) → course_of o.kind ≡ Course.Removing → Turn s o p → Since before s.core o o.stage → Since before s.core p p.stage
turn_since before s _ _ course (Turn.same o) h = h
turn_since before s _ _ course (Turn.queries o node own is idle first asks) h = subst (λ (y : Stage). Since before s.core o y) is h
turn_since before s _ _ course (Turn.removes o node d ds own is idle first goes full) h = absurd (cc)
turn_since before s _ _ course (Turn.settles o node own is idle first goes none) h = absurd (cc)
turn_since before s _ _ course (Turn.finishes o k node own is idle ready at) h = absurd (cc)

pub veto_step : (before : Core) (settings : Settings) (s : State) (step : Step) → IsGood s → VetoSince before s → IsStep settings (next settings s) step → (IsWithin step.label × VetoSince before step.state) ⊎ Closed before s step
veto_step before settings s step good h is =
    let o = h.op in
    let taken = operation_step settings s o step h.runs is in
    let fits = (running_good s taken.now (record { before = o; runs = h.runs; turn = taken.turn }) good).fits in
    by_step before s taken.now step (ap course_of (turn_work s o taken.now taken.turn).kind ∙ h.course) fits (turn_since before s o taken.now h.course taken.turn h.since) (own_step s taken.now step fits taken.is)

-- An event --------------------------------------------------------------------------------------

-- nodes, relations, ranges and operation stay
outside : (before : Core) (s t : State) → t.core.nodes ≡ s.core.nodes → t.core.relations ≡ s.core.relations → t.core.reserved ≡ s.core.reserved → t.operation ≡ s.operation → VetoSince before s → VetoSince before t
outside before s t a b c d h = record { op = h.op; runs = d ∙ h.runs; course = h.course; since = moved before s.core t.core h.op h.op.stage a b c h.since }

-- the operation stays, or its walk gets an answer
answered_since : (before : Core) (s t : State) → t.core.nodes ≡ s.core.nodes → t.core.relations ≡ s.core.relations → t.core.reserved ≡ s.core.reserved → Answered s.operation t.operation → VetoSince before s → VetoSince before t
answered_since before s t a b c (inl e) h = outside before s t a b c e h
answered_since before s t a b c (inr (ok, p, e, q)) h =
    let runs = h.runs in
    let same : p ≡ h.op = cc in
    record {
      op = ev.completed (ev.answer_of ok) h.op;
      course = h.course;
      runs = q ∙ ap (λ (x : Job). Some (ev.completed (ev.answer_of ok) x)) same;
      since = walked_since before t.core h.op (ev.completed (ev.answer_of ok) h.op).walk h.op.stage (moved before s.core t.core h.op h.op.stage a b c h.since);
    }

pub veto_happens : (before : Core) (s : State) (event : Event) → VetoSince before s → VetoSince before (ev.happens s event).state
veto_happens before s event h =
    let out = happens_outside s event in
    answered_since before s (ev.happens s event).state out.nodes (out.relations h.op h.runs) (out.reserved h.op h.runs) out.operation h
