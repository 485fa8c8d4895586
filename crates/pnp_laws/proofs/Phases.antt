-- What holds of the phase of each activity: what the changes of activities keep of it.
use Rattle.std.proofs.Common.{ℕ, ◌≡◌, Bool, true, false, cond, List, [], ◌∷◌, Some, sym, subst}
use Rattle.std.specs.List.{find}
use Rattle.pnp_model.specs.Keyed.{changed_first, without_first}
use Rattle.pnp_model.specs.Machine.{is_ready}
use Rattle.pnp_model.specs.Records.{Activity, Phase, State}
use Rattle.pnp_model.specs.States.{is_activity, is_above, with_phase, entered}
use Rattle.pnp_laws.specs.Effects.{Acting, ActivityEffect, Enters, PhaseStep}
use Rattle.pnp_laws.specs.Words.{EachPhase}

module _ (P : Phase → Type 0) where
  without : (j : ℕ) (acts : List Activity) → EachPhase P acts → EachPhase P (without_first (is_activity j) acts)
  without j [] h = tt
  without j (a ∷ acts) h = by_test (is_activity j a) (without j acts h.1)
    where
      by_test : (b : Bool) → EachPhase P (without_first (is_activity j) acts) → EachPhase P (cond b acts (a ∷ without_first (is_activity j) acts))
      by_test true more = h.1
      by_test false more = (h.0, more)

  changed : (j : ℕ) (phase : Phase) (acts : List Activity) → P phase → EachPhase P acts → EachPhase P (changed_first (is_activity j) (with_phase phase) acts)
  changed j phase [] new h = tt
  changed j phase (a ∷ acts) new h = by_test (is_activity j a) (changed j phase acts new h.1)
    where
      by_test : (b : Bool) → EachPhase P (changed_first (is_activity j) (with_phase phase) acts) → EachPhase P (cond b (with_phase phase a ∷ acts) (a ∷ changed_first (is_activity j) (with_phase phase) acts))
      by_test true more = (new, h.1)
      by_test false more = (h.0, more)

  put : (new : Activity) (acts : List Activity) → P new.phase → EachPhase P acts → EachPhase P (entered new acts)
  put new [] fine h = (fine, tt)
  put new (a ∷ acts) fine h = by_test (is_above new.serial a) (put new acts fine h.1)
    where
      by_test : (b : Bool) → EachPhase P (entered new acts) → EachPhase P (cond b (new ∷ a ∷ acts) (a ∷ entered new acts))
      by_test true more = (fine, h)
      by_test false more = (h.0, more)

  pub phase_found : (test : Activity → Bool) (acts : List Activity) (a : Activity) → find test acts ≡ Some a → EachPhase P acts → P a.phase
  phase_found test [] a e h = absurd (cc)
  phase_found test (x ∷ acts) a e h = by_test (test x) (λ e. phase_found test acts a e h.1) e
    where
      by_test : (b : Bool) → (find test acts ≡ Some a → P a.phase) → cond b (Some x) (find test acts) ≡ Some a → P a.phase
      by_test true more e = let same : x ≡ a = cc in subst (λ (z : Activity). P z.phase) same h.0
      by_test false more e = more e

  acted : (s : State) (k : ℕ) (phase : Phase) → EachPhase P s.activities → Acting s k phase → P phase
  acted s k phase h acts = subst P acts.is (phase_found is_ready s.activities acts.activity acts.ready h)

  -- of the phase that it leaves
  before : (s : State) (k : ℕ) (t : State) (old new : Phase) → EachPhase P s.activities → PhaseStep s k t old new → P old
  before s k t old new h (PhaseStep.added d ds acts) = acted s k old h acts
  before s k t old new h (PhaseStep.fits phase node plan acts search found own nodes) = acted s k old h acts
  before s k t old new h (PhaseStep.asked w v acts same nodes) = acted s k old h acts
  before s k t old new h (PhaseStep.fails phase problem acts other) = acted s k old h acts
  before s k t old new h (PhaseStep.undoes phase w acts own) = acted s k old h acts
  before s k t old new h (PhaseStep.answered a ok at nodes) = phase_found (is_activity k) s.activities a at h

  -- what holds of each phase that begins, and of each that follows one of which it holds
  pub phases_after : (s t : State) → ((k : ℕ) (phase : Phase) → Enters s k t phase → P phase) → ((k : ℕ) (old new : Phase) → P old → PhaseStep s k t old new → P new) → ActivityEffect s t
      → EachPhase P s.activities → EachPhase P t.activities
  phases_after s t begins follows (ActivityEffect.same e) h = subst (λ (x : List Activity). EachPhase P x) (sym e) h
  phases_after s t begins follows (ActivityEffect.enters k phase why e) h =
      subst (λ (x : List Activity). EachPhase P x) (sym e) (put (record { serial = k; phase = phase }) s.activities (begins k phase why) h)
  phases_after s t begins follows (ActivityEffect.goes k old new step e) h =
      subst (λ (x : List Activity). EachPhase P x) (sym e) (changed k new s.activities (follows k old new (before s k t old new h step) step) h)
  phases_after s t begins follows (ActivityEffect.ends k phase acts over e) h = subst (λ (x : List Activity). EachPhase P x) (sym e) (without k s.activities h)
