-- Tasks are taken in turn, handles are the script's, and a running device keeps what it holds.
use Rattle.std.proofs.Common.{ℕ, ◌≡◌, ◌≢◌, ◌⊎◌, inl, inr, Bool, true, false, cond, List, [], ◌∷◌, Option, Some, None, refl, sym, ap, subst, ◌∙◌, arith}
use Rattle.std.proofs.lemmas.Bool.{cases_eq}
use Rattle.std.proofs.lemmas.Bool.Decides.{nat_tests}
use Rattle.resource_reqs.specs.Resources.{Reqs}
use Rattle.pnp_labels.specs.declared.states.DevState.{DevState}
use Rattle.pnp_labels.specs.declared.states.DevState.TheVariants.{NoStack, NotStarted, Stopped}
use Rattle.pnp_labels.specs.declared.label.Label.{Label}
use Rattle.pnp_model.specs.Cores.{node_at}
use Rattle.pnp_model.specs.Rebalances.{movers, others, plan_of, reqs_after}
use Rattle.pnp_model.specs.Records.{Job, Node, Phase, Stage, State}
use Rattle.pnp_model.specs.Records.Phase.{Adding, Searching}
use Rattle.pnp_model.specs.Runs.{Entry, printed}
use Rattle.pnp_model.specs.Runs.Entry.{Happens, Did, Declines}
use Rattle.pnp_model.specs.Tests.{has}
use Rattle.pnp_laws.specs.Effects.{CommandEffect, HandleEffect, IsSearch, TaskEffect, TasksEffect}
use Rattle.pnp_laws.specs.Kept.{Fits, IsGood, RebalanceKeeps, TargetFits, is_calm, is_stopped, stopped_state}
use Rattle.pnp_laws.proofs.EffectsOf.{effect_goes}
use Rattle.pnp_laws.proofs.EffectViews.{Origin, acting_fits, origin}
use Rattle.pnp_promises.proofs.Fitting.{rebalance_fits}
use Rattle.pnp_laws.proofs.Lists.{member, without_has}
use Rattle.pnp_laws.proofs.Lookups.{own_serial, some_same}
use Rattle.pnp_laws.proofs.OpSteps.{is_Stopped}
use Rattle.pnp_laws.proofs.RunsStand.{reaches_kept}
use Rattle.pnp_laws.proofs.Sharing.{part_not}
use Rattle.pnp_promises.specs.Keeps.{InTurn, IsChanged, IsHandleEvent, RunningKeepsLaw, HandlesAreTheScriptsLaw, TasksAreInTurnLaw}

-- Tasks --------------------------------------------------------------------------------------------

event_turn : (s t : State) → CommandEffect s t → InTurn s t
event_turn s t (CommandEffect.same e) = InTurn.same e
event_turn s t (CommandEffect.lists k e) = InTurn.last _ e
event_turn s t (CommandEffect.starts path n enabled e) = InTurn.last _ e
event_turn s t (CommandEffect.finishes n path at told e) = InTurn.last _ e
event_turn s t (CommandEffect.begins kind n path at other e) = InTurn.last _ e

step_turn : (s t : State) → TaskEffect s t → InTurn s t
step_turn s t (TaskEffect.same e) = InTurn.same e
step_turn s t (TaskEffect.appended task origin e) = InTurn.last task e
step_turn s t (TaskEffect.joins next e) = InTurn.last _ e
step_turn s t (TaskEffect.dropped task none first surprises e) = InTurn.first none e
step_turn s t (TaskEffect.put_first n o runs course stage at e) = InTurn.failed n o runs course stage at e

turn_by : (s : State) (entry : Entry) (t : State) → TasksEffect s entry t → InTurn s t
turn_by s (Happens event label) t h = event_turn s t h
turn_by s (Did label) t h = step_turn s t h
turn_by s (Declines label) t h = step_turn s t h

pub tasks_are_in_turn : TasksAreInTurnLaw
tasks_are_in_turn settings rack entries s entry t run goes = turn_by s entry t (effect_goes settings s entry t goes).tasks

-- Handles ------------------------------------------------------------------------------------------

by_script : (s : State) (entry : Entry) (t : State) → HandleEffect s entry t → (t.handles ≡ s.handles) ⊎ IsHandleEvent entry
by_script s entry t (HandleEffect.same e) = inl e
by_script s entry t (HandleEffect.opens n path label none at other up is now) = inr (subst IsHandleEvent (sym is) tt)
by_script s entry t (HandleEffect.closes n path label handle at found is now rest) = inr (subst IsHandleEvent (sym is) tt)

pub handles_are_the_scripts : HandlesAreTheScriptsLaw
handles_are_the_scripts settings rack entries s entry t run goes = by_script s entry t (effect_goes settings s entry t goes).handles

-- Holdings -----------------------------------------------------------------------------------------

searching_idle : (phase : Phase) (x : DevState) → IsSearch phase → Fits phase x → x ≡ NotStarted
searching_idle (Adding []) x search fits = fits
searching_idle Searching x search fits = fits
searching_idle (Adding (d ∷ ds)) x search fits = absurd search
searching_idle _ x search fits = absurd search

-- what is not of the movers keeps its part, and what is is stopped, or is the target
stopped_mover : (agreed : List ℕ) (k : ℕ) (x : DevState) → has agreed k ≡ true → stopped_state agreed k x ≡ true → x ≡ Stopped
stopped_mover agreed k x h g = is_Stopped x (subst (λ (b : Bool). cond b (is_stopped x) (is_calm x) ≡ true) h g)

target_down : (wanted : Option Reqs) (s : State) (o : Job) (k : ℕ) (n : Node) → s.operation ≡ Some o → o.wanted ≡ wanted → o.target ≡ k → node_at k s.core.nodes ≡ Some n → TargetFits wanted o.target s.core.nodes
    → (n.state ≡ NotStarted) ⊎ IsChanged s k
target_down None s o k n runs is own at (m, there, state) =
    inl (ap (λ (x : Node). x.state) (some_same (node_at k s.core.nodes) n m at (subst (λ (i : ℕ). node_at i s.core.nodes ≡ Some m) own there)) ∙ state)
target_down (Some wanted) s o k n runs is own at h = inr (o, runs, (λ none. cc), own)

pub reqs_stay : (wanted : Option Reqs) (target : ℕ) (n : Node) → n.serial ≢ target → reqs_after wanted target n ≡ n.reqs
reqs_stay None target n other = refl
reqs_stay (Some wanted) target n other = grind (arith, nat_tests)

others_agreed : (o : Job) (k : ℕ) → o.target ≢ k → has (others o) k ≡ true → has o.agreed k ≡ true
others_agreed o k other h = sym (without_has o.target k o.agreed other) ∙ h

module _ (s : State) (label : Label) (t : State) (good : IsGood s) (k : ℕ) where
  keeps : (n m : Node) → node_at k s.core.nodes ≡ Some n → Origin s label t k m
      → ((m.holds ≡ n.holds) × (m.reqs ≡ n.reqs)) ⊎ (((n.state ≡ NotStarted) ⊎ (n.state ≡ Stopped)) ⊎ ((m.state ≡ NoStack) ⊎ IsChanged s k))
  keeps n _ at (Origin.was o there) = let same = some_same (node_at k s.core.nodes) o n there at in inl (ap (λ (x : Node). x.holds) same, ap (λ (x : Node). x.reqs) same)
  keeps n _ at (Origin.walked o minor w bad there request other ends verdict prints) = let same = some_same (node_at k s.core.nodes) o n there at in inl (ap (λ (x : Node). x.holds) same, ap (λ (x : Node). x.reqs) same)
  keeps n _ at (Origin.troubled o problem there) = let same = some_same (node_at k s.core.nodes) o n there at in inl (ap (λ (x : Node). x.holds) same, ap (λ (x : Node). x.reqs) same)
  keeps n _ at (Origin.stacks o d ds name there acts prints) = let same = some_same (node_at k s.core.nodes) o n there at in inl (ap (λ (x : Node). x.holds) same, ap (λ (x : Node). x.reqs) same)
  keeps n _ at (Origin.assigned o phase plan there acts search part now) = inr (inl (inl (searching_idle phase n.state search (acting_fits s k n phase at acts good).1)))
  keeps n _ at (Origin.stripped o w there request prints) = inr (inr (inl refl))
  keeps n _ at (Origin.commits r o runs course stage there) =
      let same = some_same (node_at k s.core.nodes) o n there at in
      let fits : RebalanceKeeps r Stage.Committing s.core.nodes = subst (λ (x : Stage). RebalanceKeeps r x s.core.nodes) stage (rebalance_fits s r good runs course) in
      elim (cases_eq r.target k) [
        | inl e ↦ elim (target_down r.wanted s r k n runs refl e at fits.waits) [ inl down ↦ inr (inl (inl down)) | inr changed ↦ inr (inr (inr changed)) ]
        | inr d ↦ elim (member (others r) k) [
          | inl moves ↦ inr (inl (inr (stopped_mover r.agreed k n.state (others_agreed r k d moves) (fits.each k n at))))
          | inr stays ↦
              let own = own_serial k o s.core.nodes there in
              let out : has (movers r) o.serial ≡ false = subst (λ (i : ℕ). has (movers r) i ≡ false) (sym own) (grind (arith, nat_tests)) in
              let apart : o.serial ≢ r.target = λ e. d (sym e ∙ own) in
              inl (part_not o.serial (movers r) (plan_of r.found) o.holds out ∙ ap (λ (x : Node). x.holds) same, reqs_stay r.wanted r.target o apart ∙ ap (λ (x : Node). x.reqs) same)
        ]
      ]
  keeps n _ at (Origin.joins node d there none own) = absurd (cc)

pub running_keeps : RunningKeepsLaw
running_keeps settings rack entries s entry t run goes k n m at now =
    let good = (reaches_kept settings rack entries s run).good in
    let effect = effect_goes settings s entry t goes in
    keeps s (printed entry) t good k n m at (origin s (printed entry) t good.serials k m effect.nodes now)
