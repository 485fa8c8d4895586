-- Devices that are up hold one whole alternative, and devices without drivers nothing: by what a step does to nodes and activities.
use Rattle.std.proofs.Common.{ℕ, ◌≡◌, ◌≢◌, inl, inr, Bool, true, false, List, [], ◌∷◌, ◌++◌, Option, Some, refl, sym, ap, ◌∙◌, subst, arith}
use Rattle.std.specs.List.{AllZip}
use Rattle.std.proofs.lemmas.Bool.{cases_eq}
use Rattle.std.proofs.lemmas.Bool.Decides.{nat_tests}
use Rattle.resource_reqs.specs.Resources.{Res, Reqs, Whole}
use Rattle.resource_reqs.specs.Spelling.Answer.{assignment}
use Rattle.resource_reqs.proofs.Answering.{plan_is}
use Rattle.pnp_labels.specs.declared.label.Label.{Label}
use Rattle.pnp_labels.specs.declared.states.DevState.{DevState}
use Rattle.pnp_labels.specs.declared.states.DevState.TheVariants.{NoStack, NotStarted, Stopped}
use Rattle.pnp_labels.specs.declared.words.Minor.{Minor}
use Rattle.pnp_labels.specs.declared.words.Minor.TheVariants.{Start, QueryRemove, Remove, QueryStop}
use Rattle.pnp_model.specs.Cores.{is_node, node_at, stacked, with_holds, with_stack}
use Rattle.pnp_model.specs.Frames.{fixed_beside}
use Rattle.pnp_model.specs.Keyed.{changed_first}
use Rattle.pnp_model.specs.Laws.{is_up_to_now, HoldsWhole}
use Rattle.pnp_model.specs.Rebalances.{committed, movers, others, plan_of}
use Rattle.pnp_model.specs.Records.{Activity, Node, Phase, State, Walk, Job, Stage, Course, course_of}
use Rattle.pnp_model.specs.Starts.{adding, own_part}
use Rattle.pnp_model.specs.States.{activity_at, with_phase}
use Rattle.pnp_model.specs.Tests.{has}
use Rattle.pnp_model.specs.Walks.{state_after}
use Rattle.pnp_laws.specs.Effects.{ActivityEffect, Acting, Assigned, Enters, IsSearch, NodeEffect, PhaseStep, Request}
use Rattle.pnp_laws.specs.Holdings.{HeldWell, IsWhole, WholeAt, has_plan, is_starting}
use Rattle.pnp_laws.specs.Kept.{IsGood, RebalanceKeeps}
use Rattle.pnp_laws.specs.Plans.{IsPlanned, PlanFits, StagePlan}
use Rattle.pnp_laws.proofs.Kept.{none_acts}
use Rattle.pnp_laws.proofs.Asked.{operation_asks}
use Rattle.pnp_laws.proofs.EffectViews.{Origin, StartOrigin, acting_at, acting_fits, origin, start_origin}
use Rattle.pnp_laws.proofs.EventChanges.{starting_still}
use Rattle.pnp_laws.proofs.Lists.{member, not_head, without_has}
use Rattle.pnp_laws.proofs.Turns.{running_good}
use Rattle.pnp_laws.proofs.Lookups.{found_self, node_from, own_serial, some_same}
use Rattle.pnp_laws.proofs.OpSteps.{is_Stopped, target_up}
use Rattle.pnp_laws.proofs.PlansKept.{mover_whole, other_after}
use Rattle.pnp_laws.proofs.Sharing.{part_not}
use Rattle.pnp_laws.proofs.StartSteps.{search_fits, stacked_idle}
use Rattle.pnp_model.specs.Events as ev
use Rattle.pnp_laws.proofs.FitsBy.{rebalance_fits, plan_by}

abbrev AllHeldWell : List Node → Type 0
AllHeldWell nodes = (k : ℕ) (n : Node) → node_at k nodes ≡ Some n → HeldWell n

pub from_holds : (nodes : List Node) → HoldsWhole nodes → AllHeldWell nodes
from_holds nodes h k n at = record { up = h.up k n at; bare = h.bare k n at }

pub to_holds : (nodes : List Node) → AllHeldWell nodes → HoldsWhole nodes
to_holds nodes h = record { up = λ k n at e. (h k n at).up e; bare = λ k n at e. (h k n at).bare e }

-- Starts ------------------------------------------------------------------------------------

adding_quiet : (ds : List ℕ) → is_starting (adding ds) ≡ false
adding_quiet [] = refl
adding_quiet (d ∷ ds) = refl

search_quiet : (phase : Phase) → IsSearch phase → is_starting phase ≡ false
search_quiet (Phase.Starting w) search = absurd search
search_quiet _ search = refl

pub own_whole : (reqs : Reqs) (plan : List (List Res)) → AllZip Whole (reqs ∷ []) plan → Whole reqs (own_part plan)
own_whole reqs [] h = absurd h
own_whole reqs (holds ∷ plan) h = h.0

-- only REMOVE ends in NoStack
stays_bare : (minor : Minor) (bad : Bool) (x : DevState) → minor ≢ Minor.Remove → state_after minor bad x ≡ NoStack → x ≡ NoStack
stays_bare Start true x other e = e
stays_bare Start false x other e = absurd (cc)
stays_bare QueryRemove true x other e = e
stays_bare QueryRemove false x other e = absurd (cc)
stays_bare Remove bad x other e = absurd (other refl)
stays_bare QueryStop true x other e = e
stays_bare QueryStop false x other e = absurd (cc)
stays_bare _ bad x other e = absurd (cc)

-- a device that waits for its start may hold what it likes
waiting_well : (n : Node) → n.state ≡ NotStarted → HeldWell n
waiting_well n e = record { up = λ h. absurd (let z = ap is_up_to_now e in cc); bare = λ h. absurd (cc) }

-- The parts of a plan ---------------------------------------------------------------------------

-- a device without drivers does not move
mover_up : (r : Job) (nodes : List Node) (k : ℕ) (n : Node) → RebalanceKeeps r Stage.Committing nodes → node_at k nodes ≡ Some n → has (movers r) k ≡ true → n.state ≢ NoStack
mover_up r nodes k n keeps at h e =
    elim (cases_eq r.target k) [
      | inl z ↦ target_up r.wanted r.target nodes n keeps.waits (subst (λ (i : ℕ). node_at i nodes ≡ Some n) (sym z) at) e
      | inr d ↦
          let more = without_has r.target k r.agreed d in
          let in_agreed : has r.agreed k ≡ true = grind (arith, nat_tests) in
          let test = keeps.each k n at in
          let state : n.state ≡ Stopped = is_Stopped n.state (grind (arith)) in
          cc
    ]

committed_well : (r : Job) (reserved : List Res) (nodes : List Node) (k : ℕ) (n : Node) → RebalanceKeeps r Stage.Committing nodes → PlanFits r reserved nodes → node_at k nodes ≡ Some n → HeldWell n → HeldWell (committed r.wanted r.target (movers r) (plan_of r.found) n)
committed_well r reserved nodes k n keeps fits at well =
    elim (member (movers r) k) [
      | inl h ↦ record { up = λ e. mover_whole r reserved nodes k n fits at h; bare = λ e. absurd (mover_up r nodes k n keeps at h e) }
      | inr h ↦
          let out = subst (λ (i : ℕ). has (movers r) i ≡ false) (sym (own_serial k n nodes at)) h in
          let same : (committed r.wanted r.target (movers r) (plan_of r.found) n).holds ≡ n.holds = part_not n.serial (movers r) (plan_of r.found) n.holds out in
          let needs = other_after r.wanted r.target n (not_head r.target n.serial (others r) out) in
          record {
            up = λ e. subst (λ (x : Reqs). Whole x (committed r.wanted r.target (movers r) (plan_of r.found) n).holds) (sym needs) (subst (λ (x : List Res). Whole n.reqs x) (sym same) (well.up e));
            bare = λ e. same ∙ well.bare e;
          }
    ]

-- A step or an event ------------------------------------------------------------------------------

module _ (s : State) (label : Label) (good : IsGood s) (planned : IsPlanned s) (old : IsWhole s) where
  well : AllHeldWell s.core.nodes
  well = from_holds s.core.nodes old.holds

  -- the device whose walk ends holds one whole alternative
  asked_whole : (node : Node) (minor : Minor) (w : Walk) → minor ≢ Minor.Remove → node_at node.serial s.core.nodes ≡ Some node → Request s node minor w → Whole node.reqs node.holds
  asked_whole node _ w other at (Request.starts v acts) =
      let here = acting_at s node.serial (Phase.Starting v) good.order acts in
      old.starts node.serial here.activity here.at (ap is_starting here.is) node at
  asked_whole node _ w other at (Request.undoes v acts) = absurd (other refl)
  asked_whole node _ w other at (Request.operates _ asks) =
      let fits = (running_good s asks.operation asks.runs good).fits in
      (well node.serial node at).up ((operation_asks asks.operation s.core.nodes node w fits asks.first asks.walk).up other)

  well_from : (t : State) (k : ℕ) (m : Node) → Origin s label t k m → HeldWell m
  well_from t k _ (Origin.was n at) = well k n at
  well_from t k _ (Origin.walked n minor w bad at request other ends verdict prints) =
      record { up = λ e. asked_whole n minor w other (found_self k s.core.nodes n at) request; bare = λ e. (well k n at).bare (stays_bare minor bad n.state other e) }
  well_from t k _ (Origin.troubled n problem at) = let h = well k n at in record { up = h.up; bare = h.bare }
  well_from t k _ (Origin.stacks n d ds name at acts prints) = waiting_well (with_stack (n.stack ++ d ∷ []) (stacked n.state) n) (stacked_idle n.state (acting_fits s k n (Phase.Adding (d ∷ ds)) at acts good).1)
  well_from t k _ (Origin.assigned n phase plan at acts search part now) = waiting_well (with_holds (own_part plan) n) (search_fits phase n.state search (acting_fits s k n phase at acts good).1)
  well_from t k _ (Origin.stripped n w at request prints) = record { up = λ h. absurd (cc); bare = λ h. refl }
  well_from t k _ (Origin.commits r n runs course is at) =
      let keeps = subst (λ (x : Stage). RebalanceKeeps r x s.core.nodes) is (rebalance_fits s r good runs course) in
      let fits = subst (λ (x : Stage). StagePlan r x s.core.reserved s.core.nodes) is (plan_by s r planned runs course) in
      committed_well r s.core.reserved s.core.nodes k n keeps fits at (well k n at)
  well_from t k _ (Origin.joins node d below gone own) = record { up = λ h. absurd (cc); bare = λ h. refl }

  -- Starts that were under way ---------------------------------------------------------

  module _ (k : ℕ) (a : Activity) (under : activity_at k s.activities ≡ Some a) (starts : is_starting a.phase ≡ true) where
    before : WholeAt k s.core.nodes
    before = old.starts k a under starts

    -- it is in no other phase
    not_acting : (phase : Phase) → Acting s k phase → is_starting phase ≡ false → ⊥
    not_acting phase acts quiet =
        let here = acting_at s k phase good.order acts in
        let same : here.activity ≡ a = some_same (activity_at k s.activities) here.activity a here.at under in
        let is : is_starting a.phase ≡ is_starting phase = ap (λ (x : Activity). is_starting x.phase) (sym same) ∙ ap is_starting here.is in
        cc

    not_stripped : (n : Node) (minor : Minor) (w : Walk) → n.serial ≡ k → minor ≡ Minor.Remove → Request s n minor w → ⊥
    not_stripped n _ w own is (Request.starts v acts) = cc
    not_stripped n _ w own is (Request.undoes v acts) = not_acting (Phase.Removing v) (subst (λ (i : ℕ). Acting s i (Phase.Removing v)) own acts) refl
    not_stripped n _ w own is (Request.operates _ asks) = none_acts s asks.runs.before k a good asks.runs.runs under

    starts_from : (t : State) (m : Node) → Origin s label t k m → Whole m.reqs m.holds
    starts_from t _ (Origin.was n at) = before n at
    starts_from t _ (Origin.walked n minor w bad at request other ends verdict prints) = before n at
    starts_from t _ (Origin.troubled n problem at) = before n at
    starts_from t _ (Origin.stacks n d ds name at acts prints) = before n at
    starts_from t _ (Origin.assigned n phase plan at acts search part now) = absurd (not_acting phase acts (search_quiet phase search))
    starts_from t _ (Origin.stripped n w at request prints) = absurd (not_stripped n Minor.Remove w (own_serial k n s.core.nodes at) refl request)
    starts_from t _ (Origin.commits r n runs course is at) = absurd (none_acts s r k a good runs under)
    starts_from t _ (Origin.joins node d below gone own) = absurd (let at = (good.phases k a under).1 in cc)

    kept_starts : (t : State) → NodeEffect s label t → WholeAt k t.core.nodes
    kept_starts t effect m at = starts_from t m (origin s label t good.serials k m effect at)

  -- Starts after it ---------------------------------------------------------------------

  restarted : (t : State) (r : Job) (plan : List (List Res)) → s.operation ≡ Some r → course_of r.kind ≡ Course.Rebalancing → r.stage ≡ Stage.Ending → r.found ≡ assignment plan → t.core.nodes ≡ s.core.nodes → WholeAt r.target t.core.nodes
  restarted t r plan runs course is found nodes =
      let kept = subst (λ (x : Stage). StagePlan r x s.core.reserved s.core.nodes) is (plan_by s r planned runs course) in
      subst (WholeAt r.target) (sym nodes) (kept (ap has_plan found))

  entered_starts : (t : State) (k : ℕ) (phase : Phase) → Enters s k t phase → is_starting phase ≡ true → WholeAt k t.core.nodes
  entered_starts t k phase (Enters.installs drivers chosen drops clears) starts = absurd (let quiet = adding_quiet drivers in cc)
  entered_starts t k phase (Enters.restarts r plan runs course plain is target found nodes) starts = subst (λ (i : ℕ). WholeAt i t.core.nodes) target (restarted t r plan runs course is found nodes)
  entered_starts t k phase (Enters.undoes r runs course plain target) starts = absurd (cc)

  fitted : (t : State) (k : ℕ) (node : Node) (plan : List (List Res)) → Assigned s node plan → node.serial ≡ k → t.core.nodes ≡ changed_first (is_node k) (with_holds (own_part plan)) s.core.nodes → WholeAt k t.core.nodes
  fitted t k node plan part own nodes m g =
      let is = plan_is (fixed_beside s.core (node.serial ∷ [])) (node.reqs ∷ []) part.budget plan part.answer in
      let at = subst (λ (i : ℕ). node_at i s.core.nodes ≡ Some node) own part.at in
      elim (node_from k k (with_holds (own_part plan)) s.core.nodes m (λ n. refl) (subst (λ (x : List Node). node_at k x ≡ Some m) nodes g)) [
        | inl (e, (y, q, r)) ↦
            let same : y ≡ node = some_same (node_at k s.core.nodes) y node q at in
            subst (λ (z : Node). Whole z.reqs z.holds) (sym (r ∙ ap (with_holds (own_part plan)) same)) (own_whole node.reqs plan is.whole)
        | inr (d, q) ↦ absurd (d refl)
      ]

  went_starts : (t : State) (k : ℕ) (was now : Phase) → NodeEffect s label t → PhaseStep s k t was now → is_starting now ≡ true → WholeAt k t.core.nodes
  went_starts t k was now nodes (PhaseStep.added d ds acts) starts = absurd (let quiet = adding_quiet ds in cc)
  went_starts t k was now nodes (PhaseStep.fits phase node plan acts search part own is) starts = fitted t k node plan part own is
  went_starts t k was now nodes (PhaseStep.asked w v acts minor same) starts =
      let here = acting_at s k (Phase.Starting w) good.order acts in
      kept_starts k here.activity here.at (ap is_starting here.is) t nodes
  went_starts t k was now nodes (PhaseStep.fails phase problem acts other) starts = absurd (cc)
  went_starts t k was now nodes (PhaseStep.undoes phase w acts own) starts = absurd (cc)
  went_starts t k was now nodes (PhaseStep.answered a ok at same) starts = kept_starts k a at (sym (starting_still (ev.answer_of ok) a.phase) ∙ starts) t nodes

  starts_whole : (t : State) (nodes : NodeEffect s label t) (k : ℕ) (a : Activity) (o : Option Activity) → StartOrigin s t k o → o ≡ Some a → is_starting a.phase ≡ true → WholeAt k t.core.nodes
  starts_whole t nodes k a _ StartOrigin.was at starts = kept_starts k a at starts t nodes
  starts_whole t nodes k a _ (StartOrigin.enters b why free) at starts = let same : b ≡ a = cc in entered_starts t k b.phase why (ap (λ (x : Activity). is_starting x.phase) same ∙ starts)
  starts_whole t nodes k a _ (StartOrigin.goes b old new there step) at starts = let same : with_phase new b ≡ a = cc in went_starts t k old new nodes step (ap (λ (x : Activity). is_starting x.phase) same ∙ starts)
  starts_whole t nodes k a _ (StartOrigin.ends phase acts over) at starts = absurd (cc)

  pub whole_effect : (t : State) → NodeEffect s label t → ActivityEffect s t → IsWhole t
  whole_effect t nodes activities = record { holds = to_holds t.core.nodes (λ k m at. well_from t k m (origin s label t good.serials k m nodes at)); starts = λ k a at starts. starts_whole t nodes k a (activity_at k t.activities) (start_origin s t good k activities) at starts }
