-- What a step or an event does to the operation and prints of it, where no activity owes problem 12.
use Rattle.std.proofs.Common.{ℕ, ◌≡◌, ◌⊎◌, inl, inr, List, [], ◌∷◌, Option, Some, None, refl, sym, ap, ◌∙◌, subst}
use Rattle.pnp_labels.specs.Texts.{Text}
use Rattle.pnp_labels.specs.declared.states.Problem.{Problem}
use Rattle.pnp_labels.specs.declared.label.Label.{Label}
use Rattle.pnp_labels.specs.declared.label.OpKind.{OpKind}
use Rattle.pnp_labels.specs.declared.label.OpEnd.{OpEnd}
use Rattle.pnp_model.specs.Cores.{node_at}
use Rattle.pnp_model.specs.Machine.{is_ready}
use Rattle.pnp_model.specs.Records.{Node, Phase, Settings, State, Step, Job, Stage, course_of, Course}
use Rattle.pnp_model.specs.Runs.{Entry, Goes, printed}
use Rattle.pnp_model.specs.Runs.Entry.{Happens, Did, Declines}
use Rattle.pnp_model.specs.Starts.{adding}
use Rattle.pnp_model.specs.Tasks.{begin}
use Rattle.pnp_laws.specs.Effects.{ActivityEffect, AnswerEffect, Conflicts, Enters, OpEffect, PhaseStep, Running, SameWork, begun}
use Rattle.pnp_laws.specs.Words.{IsBeside, DueFine, DuesFine, EndsBy, is_removal}
use Rattle.pnp_laws.proofs.Phases.{phase_found, phases_after}
use Rattle.pnp_laws.proofs.EffectsOf.{effect_goes}
use Rattle.pnp_laws.proofs.EffectsOfOperations.{completed_work, turn_work}
use Rattle.pnp_laws.proofs.EventChanges.{answered_fine, beside_word}
use Rattle.pnp_model.specs.Events as ev
use Rattle.pnp_model.specs.Walks.{after}

-- no operation runs; or one begins, goes on, or ends
pub data Way (s : State) (step : Step) : Type 0 where
  idles : s.operation ≡ None → step.state.operation ≡ None → IsBeside step.label → Way s step
  begins : (kind : OpKind) (node : Node) → s.operation ≡ None → node_at node.serial s.core.nodes ≡ Some node → step ≡ begin s kind node (begun s kind node) → Way s step
  goes : (o p : Job) → s.operation ≡ Some o → step.state.operation ≡ Some p → SameWork o p →
      IsBeside step.label ⊎ ((o.kind ≡ OpKind.Rebalance) × (step.label ≡ Label.Trouble o.path Problem.NormalConflict)) → Way s step
  ends : (o : Job) (result : OpEnd) → s.operation ≡ Some o → step.state.operation ≡ None → step.label ≡ Label.End o.kind o.path result → EndsBy (is_removal (course_of o.kind)) result → Way s step

-- no activity owes problem 12, and a change that found nothing owes no problem
abbrev pub Fine : State → Type 0
Fine s = DuesFine s.activities × ((r : Job) → s.operation ≡ Some r → course_of r.kind ≡ Course.Rebalancing → r.stage ≡ Stage.Stuck → r.kind ≡ OpKind.Rebalance)

way_on : (s : State) (label : Label) (t : State) (o p : Job) → Fine s → s.operation ≡ Some o → t.operation ≡ Some p → SameWork o p → IsBeside label ⊎ Conflicts o label → Way s (record { label = label; state = t })
way_on s label t o p fine runs now work (inl beside) = Way.goes o p runs now work (inl beside)
way_on s label t o p fine runs now work (inr conflicts) = Way.goes o p runs now work (inr (fine.1 o runs conflicts.0 conflicts.1, conflicts.2))

-- the operation that ends was this one before its next device was taken
way_over : (s : State) (label : Label) (t : State) (o : Job) (result : OpEnd) → Running s o → t.operation ≡ None → label ≡ Label.End o.kind o.path result → EndsBy (is_removal (course_of o.kind)) result → Way s (record { label = label; state = t })
way_over s label t o result now after prints by =
    let work = turn_work s now.before o now.turn in
    Way.ends now.before result now.runs after
    (prints ∙ ap (λ (k : OpKind). Label.End k o.path result) work.kind ∙ ap (λ (p : Text). Label.End now.before.kind p result) work.path) (subst (λ (k : OpKind). EndsBy (is_removal (course_of k)) result) work.kind by)

way_step : (s : State) (label : Label) (t : State) → Fine s → OpEffect s label t → Way s (record { label = label; state = t })
way_step s label t fine (OpEffect.idles none now (inl beside)) = Way.idles none now beside
way_step s label t fine (OpEffect.idles none now (inr owes)) =
    let due = subst (λ (x : Phase). DueFine x) owes.is (phase_found DueFine is_ready s.activities owes.activity owes.ready fine.0) in
    Way.idles none now (subst (λ (x : Label). IsBeside x) (sym owes.prints) due)
way_step s label t fine (OpEffect.begins kind node none alone at fits is) = Way.begins kind node none at is
way_step s label t fine (OpEffect.goes o p runs now work prints) = way_on s label t o p fine runs now work prints
way_step s label t fine (OpEffect.ends o result runs now prints by over) = way_over s label t o result runs now prints by

way_still : (s : State) (label : Label) (t : State) (o : Option Job) → s.operation ≡ o → t.operation ≡ s.operation → IsBeside label → Way s (record { label = label; state = t })
way_still s label t None e now beside = Way.idles e (now ∙ e) beside
way_still s label t (Some o) e now beside = Way.goes o o e (now ∙ e) (record { kind = refl; path = refl; spared = refl; wanted = refl }) (inl beside)

way_event : (s : State) (label : Label) (t : State) → AnswerEffect s label t → Way s (record { label = label; state = t })
way_event s label t (AnswerEffect.stays word nodes acts now) = way_still s label t s.operation refl now (beside_word label word)
way_event s label t (AnswerEffect.answers word nodes k a ok at acts now) = way_still s label t s.operation refl now (beside_word label word)
way_event s label t (AnswerEffect.answered word nodes acts ok o runs now) = Way.goes o (ev.completed (ev.answer_of ok) o) runs now (completed_work (ev.answer_of ok) o) (inl (beside_word label word))

pub way_goes : (settings : Settings) (s : State) (entry : Entry) (t : State) → Fine s → Goes settings s entry t → Way s (record { label = printed entry; state = t })
way_goes settings s (Happens event label) t fine h = way_event s label t (effect_goes settings s (Happens event label) t h).operation
way_goes settings s (Did label) t fine h = way_step s label t fine (effect_goes settings s (Did label) t h).operation
way_goes settings s (Declines label) t fine h = way_step s label t fine (effect_goes settings s (Declines label) t h).operation

-- No activity owes problem 12 ------------------------------------------------------------

adding_fine : (drivers : List ℕ) → DueFine (adding drivers)
adding_fine [] = tt
adding_fine (d ∷ ds) = tt

entered_fine : (s : State) (k : ℕ) (t : State) (phase : Phase) → Enters s k t phase → DueFine phase
entered_fine s k t phase (Enters.installs drivers chosen drops clears) = adding_fine drivers
entered_fine s k t phase (Enters.restarts r plan runs course plain is target found nodes) = tt
entered_fine s k t phase (Enters.undoes r runs course plain target) = tt

stepped_fine : (s : State) (k : ℕ) (t : State) (old new : Phase) → DueFine old → PhaseStep s k t old new → DueFine new
stepped_fine s k t old new fine (PhaseStep.added d ds acts) = adding_fine ds
stepped_fine s k t old new fine (PhaseStep.fails phase problem acts other) = other
stepped_fine s k t old new fine (PhaseStep.answered a ok at nodes) = answered_fine (ev.answer_of ok) a.phase fine
stepped_fine s k t old new fine _ = tt

pub dues_effect : (s t : State) → ActivityEffect s t → DuesFine s.activities → DuesFine t.activities
dues_effect s t effect dues = phases_after DueFine s t (λ k phase why. entered_fine s k t phase why) (λ k old new fine step. stepped_fine s k t old new fine step) effect dues
