-- What a step does to those who hold something and are not up: a device that is being started holds nothing until its
-- resources are found, and whoever is a stray after a step was one before, or is the device of a rebalance.
use Rattle.std.proofs.Common.{ℕ, ◌≡◌, ◌≢◌, ◌⊎◌, inl, inr, Bool, true, false, List, [], ◌∷◌, Option, Some, None, refl, sym, ap, ◌∙◌, subst, arith}
use Rattle.std.specs.Option.{option_map}
use Rattle.std.proofs.lemmas.Bool.Decides.{nat_tests}
use Rattle.pnp_labels.specs.declared.label.Label.{Label}
use Rattle.pnp_labels.specs.declared.states.DevState.{DevState}
use Rattle.pnp_labels.specs.declared.states.DevState.TheVariants.{NoStack, NotStarted, Started, StopPending, Stopped, RemovePending, SurpriseRemoved}
use Rattle.pnp_labels.specs.declared.words.Answer.{Answer}
use Rattle.pnp_labels.specs.declared.words.Minor.{Minor}
use Rattle.pnp_labels.specs.declared.words.Minor.TheVariants.{Start, QueryRemove, Remove, CancelRemove, Stop, QueryStop, CancelStop, SurpriseRemoval}
use Rattle.pnp_model.specs.Starts.{own_part}
use Rattle.pnp_model.specs.Cores.{bare, is_node, node_at, stacked, with_holds, with_problem, with_state}
use Rattle.pnp_model.specs.Events.{answer_of, completed_phase}
use Rattle.pnp_model.specs.Keyed.{changed_first}
use Rattle.pnp_model.specs.Rebalances.{committed, movers, others, plan_of}
use Rattle.pnp_model.specs.Records.{Activity, Node, Phase, State, Job, Stage, Course, course_of}
use Rattle.pnp_model.specs.Records.Phase.{Adding, Searching, Starting, Removing, Due}
use Rattle.pnp_model.specs.States.{activity_at, is_activity, with_phase}
use Rattle.pnp_model.specs.Tests.{has}
use Rattle.pnp_model.specs.Walks.{state_after, walk_of}
use Rattle.pnp_laws.specs.Due.{is_due}
use Rattle.pnp_laws.specs.Effects.{Acting, ActivityEffect, Enters, IsSearch, NodeEffect, Over, PhaseStep}
use Rattle.pnp_laws.specs.Holdings.{IsWhole}
use Rattle.pnp_laws.specs.Kept.{IsGood, RebalanceKeeps, stopped_state}
use Rattle.pnp_laws.specs.Strays.{IsStray}
use Rattle.pnp_laws.specs.Words.{spared, spared_in}
use Rattle.pnp_laws.proofs.Kept.{none_acts}
use Rattle.pnp_laws.proofs.EffectViews.{Origin, StartOrigin, acting_at, origin, start_origin}
use Rattle.pnp_laws.proofs.Lists.{not_head, without_has}
use Rattle.pnp_laws.proofs.Lookups.{node_from, own_serial, phase_set_same, some_same}
use Rattle.pnp_laws.proofs.Sharing.{part_not}
use Rattle.pnp_laws.proofs.FitsBy.{rebalance_fits}

-- What is kept ---------------------------------------------------------------------------------

-- its resources are still to be found
abbrev pub is_unplaced : Phase → Bool
is_unplaced (Adding drivers) = true
is_unplaced Searching = true
is_unplaced _ = false

-- until then a device that is being started holds nothing
abbrev pub UnplacedHoldNothing : State → Type 0
UnplacedHoldNothing s =
    (k : ℕ) (a : Activity) (n : Node) → activity_at k s.activities ≡ Some a → is_unplaced a.phase ≡ true → node_at k s.core.nodes ≡ Some n → n.holds ≡ []

abbrev pub spared_by : Option Job → List ℕ
spared_by None = []
spared_by (Some o) = spared o

-- each stray is due, or the operation that runs is to see to it
abbrev pub StraysSeen : State → Type 0
StraysSeen s =
    (k : ℕ) (n : Node) → node_at k s.core.nodes ≡ Some n → IsStray s k n → (is_due s.tasks s.core.nodes k ≡ true) ⊎ (has (spared_by s.operation) k ≡ true)

pub record Seen (s : State) : Type 0 where
  pub unplaced : UnplacedHoldNothing s
  pub strays : StraysSeen s

-- States and phases ------------------------------------------------------------------------------

-- nobody becomes NotStarted by a walk
not_started_before : (minor : Minor) (bad : Bool) (x : DevState) → state_after minor bad x ≡ NotStarted → x ≡ NotStarted
not_started_before Start true x h = h
not_started_before Start false x h = absurd (cc)
not_started_before QueryRemove true x h = h
not_started_before QueryRemove false x h = absurd (cc)
not_started_before Remove bad x h = absurd (cc)
not_started_before CancelRemove bad x h = absurd (cc)
not_started_before Stop bad x h = absurd (cc)
not_started_before QueryStop true x h = h
not_started_before QueryStop false x h = absurd (cc)
not_started_before CancelStop bad x h = absurd (cc)
not_started_before SurpriseRemoval bad x h = absurd (cc)

stacked_cases : (x : DevState) → (x ≡ NoStack) ⊎ (stacked x ≡ x)
stacked_cases NoStack = inl refl
stacked_cases NotStarted = inr refl
stacked_cases Started = inr refl
stacked_cases StopPending = inr refl
stacked_cases Stopped = inr refl
stacked_cases RemovePending = inr refl
stacked_cases SurpriseRemoved = inr refl

unplaced_still : (answer : Answer) (phase : Phase) → is_unplaced (completed_phase answer phase) ≡ is_unplaced phase
unplaced_still answer (Adding drivers) = refl
unplaced_still answer Searching = refl
unplaced_still answer (Starting w) = refl
unplaced_still answer (Removing w) = refl
unplaced_still answer (Due problem) = refl

search_unplaced : (phase : Phase) → IsSearch phase → is_unplaced phase ≡ true
search_unplaced (Adding []) h = refl
search_unplaced (Adding (d ∷ ds)) h = absurd h
search_unplaced Searching h = refl
search_unplaced (Starting w) h = absurd h
search_unplaced (Removing w) h = absurd h
search_unplaced (Due problem) h = absurd h

not_mover : (j : ℕ) (js : List ℕ) (k : ℕ) → has (j ∷ []) k ≡ false → has js k ≡ false → has (j ∷ js) k ≡ false
not_mover j js k h g = grind (arith, nat_tests)

-- Where a node comes from --------------------------------------------------------------------------

pub data From (s t : State) (k : ℕ) (m : Node) : Type 0 where
  unchanged : (n : Node) → node_at k s.core.nodes ≡ Some n → (m.state ≡ NotStarted → n.state ≡ NotStarted) → m.holds ≡ n.holds → From s t k m
  emptied : m.holds ≡ [] → From s t k m
  placed : (a : Activity) → activity_at k t.activities ≡ Some a → is_unplaced a.phase ≡ false → From s t k m
  moved : (o : Job) (n : Node) → s.operation ≡ Some o → node_at k s.core.nodes ≡ Some n → (m.state ≡ NotStarted → (n.state ≡ NotStarted) × (has (spared o) k ≡ true)) → From s t k m

-- A step or an event -------------------------------------------------------------------------------

module _ (s : State) (label : Label) (t : State) (good : IsGood s) (whole : IsWhole s) where
  bare_holds : (k : ℕ) (n : Node) → node_at k s.core.nodes ≡ Some n → n.state ≡ NoStack → n.holds ≡ []
  bare_holds k n at e = whole.holds.bare k n at e

  -- Nodes ------------------------------------------------------------------------------------------

  -- only the device of a rebalance is NotStarted among those that move
  mover_is : (r : Job) (k : ℕ) (n : Node) → s.operation ≡ Some r → course_of r.kind ≡ Course.Rebalancing → r.stage ≡ Stage.Committing → node_at k s.core.nodes ≡ Some n → has r.agreed k ≡ true → n.state ≡ NotStarted → ⊥
  mover_is r k n runs course is at agreed waits =
      let keeps = subst (λ (x : Stage). RebalanceKeeps r x s.core.nodes) is (rebalance_fits s r good runs course) in
      let state : stopped_state r.agreed k n.state ≡ true = keeps.each k n at in
      let state2 = subst (λ (x : DevState). stopped_state r.agreed k x ≡ true) waits state in
      grind (arith)

  committed_from : (r : Job) → s.operation ≡ Some r → course_of r.kind ≡ Course.Rebalancing → r.stage ≡ Stage.Committing → (k : ℕ) (n m : Node) → node_at k s.core.nodes ≡ Some n
      → m ≡ committed r.wanted r.target (movers r) (plan_of r.found) n → From s t k m
  committed_from r runs course is k n m at e =
      by_test (has (r.target ∷ []) k) (has r.agreed k) refl refl
    where
      by_test : (a b : Bool) → has (r.target ∷ []) k ≡ a → has r.agreed k ≡ b → From s t k m
      by_test true b h g = From.moved r n runs at (λ q. (sym (ap (λ (x : Node). x.state) e) ∙ q, subst (λ (x : Course). has (spared_in r x) k ≡ true) (sym course) h))
      by_test false true h g = From.moved r n runs at (λ q. absurd (mover_is r k n runs course is at g (sym (ap (λ (x : Node). x.state) e) ∙ q)))
      by_test false false h g = From.unchanged n at (λ q. sym (ap (λ (x : Node). x.state) e) ∙ q) (ap (λ (x : Node). x.holds) e ∙ part_not n.serial (movers r) (plan_of r.found) n.holds (subst (λ (i : ℕ). has (movers r) i ≡ false) (sym (own_serial k n s.core.nodes at)) (not_mover r.target (others r) k h (without_has r.target k r.agreed (not_head r.target k [] h) ∙ g))))

  placed_from : (k : ℕ) (phase : Phase) → Acting s k phase → t.activities ≡ changed_first (is_activity k) (with_phase (Starting (walk_of Minor.Start))) s.activities → (m : Node) → From s t k m
  placed_from k phase acts now m =
      let here = acting_at s k phase good.order acts in
      From.placed (with_phase (Starting (walk_of Minor.Start)) here.activity)
      (ap (activity_at k) now ∙ phase_set_same k (Starting (walk_of Minor.Start)) s.activities ∙ ap (option_map (with_phase (Starting (walk_of Minor.Start)))) here.at) refl

  by_origin : (k : ℕ) (m : Node) → Origin s label t k m → From s t k m
  by_origin k _ (Origin.was n at) = From.unchanged n at (λ q. q) refl
  by_origin k _ (Origin.walked n minor w bad at request other ends verdict prints) = From.unchanged n at (λ q. not_started_before minor bad n.state q) refl
  by_origin k _ (Origin.troubled n problem at) = From.unchanged n at (λ q. q) refl
  by_origin k _ (Origin.stacks n d ds name at acts prints) =
      elim (stacked_cases n.state) [ inl none ↦ From.emptied (bare_holds k n at none) | inr stays ↦ From.unchanged n at (λ q. sym stays ∙ q) refl ]
  by_origin k _ (Origin.assigned n phase plan at acts search part now) = placed_from k phase acts now (with_holds (own_part plan) n)
  by_origin k _ (Origin.stripped n w at request prints) = From.emptied refl
  by_origin k _ (Origin.commits r n runs course is at) = committed_from r runs course is k n (committed r.wanted r.target (movers r) (plan_of r.found) n) at refl
  by_origin k _ (Origin.joins node d below gone own) = From.emptied refl

  pub from : NodeEffect s label t → (k : ℕ) (m : Node) → node_at k t.core.nodes ≡ Some m → From s t k m
  from effect k m at = by_origin k m (origin s label t good.serials k m effect at)

  -- Activities -------------------------------------------------------------------------------------

  -- an activity that is not there now was not there, or it has ended
  pub none_from : ActivityEffect s t → (k : ℕ) → activity_at k t.activities ≡ None → (activity_at k s.activities ≡ None) ⊎ ((phase : Phase) × Acting s k phase × Over s k t phase)
  none_from effect k none = by_start (activity_at k t.activities) (start_origin s t good k effect) none
    where
      by_start : (o : Option Activity) → StartOrigin s t k o → o ≡ None → (activity_at k s.activities ≡ None) ⊎ ((phase : Phase) × Acting s k phase × Over s k t phase)
      by_start _ StartOrigin.was none = inl none
      by_start _ (StartOrigin.enters a why free) none = inl free
      by_start _ (StartOrigin.goes a old new at step) none = absurd (cc)
      by_start _ (StartOrigin.ends phase acts over) none = inr (phase, acts, over)

  -- Who holds nothing yet --------------------------------------------------------------------------

  -- the activity was there and its resources still to be found, or it begins for a device without drivers
  data Begun (k : ℕ) : Type 0 where
    before : (a : Activity) → activity_at k s.activities ≡ Some a → is_unplaced a.phase ≡ true → Begun k
    begins : (n : Node) → node_at k s.core.nodes ≡ Some n → n.state ≡ NoStack → t.core.nodes ≡ changed_first (is_node k) (with_problem None) s.core.nodes → Begun k

  entered_begun : (k : ℕ) (phase : Phase) → Enters s k t phase → is_unplaced phase ≡ true → Begun k
  entered_begun k phase (Enters.installs drivers chosen drops clears) h = Begun.begins chosen.node chosen.at chosen.bare clears
  entered_begun k phase (Enters.restarts r plan runs course plain is target found nodes) h = absurd (cc)
  entered_begun k phase (Enters.undoes r runs course plain target) h = absurd (cc)

  went_begun : (k : ℕ) (was now : Phase) → PhaseStep s k t was now → is_unplaced now ≡ true → Begun k
  went_begun k was now (PhaseStep.added d ds acts) h = let here = acting_at s k (Adding (d ∷ ds)) good.order acts in Begun.before here.activity here.at (ap is_unplaced here.is)
  went_begun k was now (PhaseStep.fits phase node plan acts search part own nodes) h = absurd (cc)
  went_begun k was now (PhaseStep.asked w v acts minor nodes) h = absurd (cc)
  went_begun k was now (PhaseStep.fails phase problem acts fine) h = absurd (cc)
  went_begun k was now (PhaseStep.undoes phase w acts own) h = absurd (cc)
  went_begun k was now (PhaseStep.answered a ok at nodes) h = Begun.before a at (sym (unplaced_still (answer_of ok) a.phase) ∙ h)

  begun : (k : ℕ) (b : Activity) (o : Option Activity) → StartOrigin s t k o → o ≡ Some b → is_unplaced b.phase ≡ true → Begun k
  begun k b _ StartOrigin.was at h = Begun.before b at h
  begun k b _ (StartOrigin.enters a why free) at h = let one : a ≡ b = cc in entered_begun k a.phase why (ap (λ (x : Activity). is_unplaced x.phase) one ∙ h)
  begun k b _ (StartOrigin.goes a old new there step) at h = let one : with_phase new a ≡ b = cc in went_begun k old new step (ap (λ (x : Activity). is_unplaced x.phase) one ∙ h)
  begun k b _ (StartOrigin.ends phase acts over) at h = absurd (cc)

  module _ (effects : NodeEffect s label t) (acts : ActivityEffect s t) (old : Seen s) where
    unplaced_from : (k : ℕ) (a b : Activity) (m : Node) → activity_at k s.activities ≡ Some a → is_unplaced a.phase ≡ true → activity_at k t.activities ≡ Some b → is_unplaced b.phase ≡ true → From s t k m → m.holds ≡ []
    unplaced_from k a b m at h there g (From.unchanged n at_n state holds) = holds ∙ old.unplaced k a n at h at_n
    unplaced_from k a b m at h there g (From.emptied none) = none
    unplaced_from k a b m at h there g (From.placed c at_c past) = absurd (let one : c ≡ b = some_same (activity_at k t.activities) c b at_c there in let q = ap (λ (x : Activity). is_unplaced x.phase) one in cc)
    unplaced_from k a b m at h there g (From.moved o n runs at_n waits) = absurd (none_acts s o k a good runs at)

    pub unplaced_now : UnplacedHoldNothing t
    unplaced_now k b m at h there = by_begun (begun k b (activity_at k t.activities) (start_origin s t good k acts) at h)
      where
        by_begun : Begun k → m.holds ≡ []
        by_begun (Begun.before a was g) = unplaced_from k a b m was g at h (from effects k m there)
        by_begun (Begun.begins n at_n bare_state nodes) =
            elim (node_from k k (with_problem None) s.core.nodes m (λ x. refl) (subst (λ (x : List Node). node_at k x ≡ Some m) nodes there)) [
              | inl (e, (x, q, r)) ↦ ap (λ (z : Node). z.holds) r ∙ ap (λ (z : Node). z.holds) (some_same (node_at k s.core.nodes) x n q at_n) ∙ bare_holds k n at_n bare_state
              | inr (d, q) ↦ absurd (d refl)
            ]

    -- Strays ---------------------------------------------------------------------------------------

    -- the root is Started
    not_root : (k : ℕ) (n : Node) → node_at k s.core.nodes ≡ Some n → n.state ≡ NotStarted → k ≢ 0
    not_root k n at waits z = let root = (good.stacks k n at).root z in cc

    -- a device whose start ended is no stray
    pub over_none : (k : ℕ) (m : Node) (phase : Phase) → node_at k t.core.nodes ≡ Some m → m.state ≡ NotStarted → m.holds ≢ [] → Acting s k phase → Over s k t phase → ⊥
    over_none k m phase at waits holds active (Over.unplaced p search nodes) =
        let here = acting_at s k phase good.order active in
        holds (old.unplaced k here.activity m here.at (ap is_unplaced here.is ∙ search_unplaced phase search) (subst (λ (x : List Node). node_at k x ≡ Some m) nodes at))
    over_none k m _ at waits holds active (Over.up w nodes) =
        elim (node_from k k (with_state Started) s.core.nodes m (λ x. refl) (subst (λ (x : List Node). node_at k x ≡ Some m) nodes at)) [
          | inl (e, (n, q, r)) ↦ let up = ap (λ (z : Node). z.state) r in cc
          | inr (d, q) ↦ d refl
        ]
    over_none k m _ at waits holds active (Over.stripped w nodes) =
        elim (node_from k k bare s.core.nodes m (λ x. refl) (subst (λ (x : List Node). node_at k x ≡ Some m) nodes at)) [
          | inl (e, (n, q, r)) ↦ holds (ap (λ (z : Node). z.holds) r)
          | inr (d, q) ↦ d refl
        ]
    over_none k m _ at waits holds active (Over.empty problem node there stack nodes) =
        elim (node_from k k (with_problem (Some problem)) s.core.nodes m (λ x. refl) (subst (λ (x : List Node). node_at k x ≡ Some m) nodes at)) [
          | inl (e, (n, q, r)) ↦
              let one : n ≡ node = some_same (node_at k s.core.nodes) n node q there in
              let state : node.state ≡ NotStarted = ap (λ (z : Node). z.state) (sym one) ∙ sym (ap (λ (z : Node). z.state) r) ∙ waits in
              let none = (good.stacks k node there).some (not_root k node there state) stack in
              cc
          | inr (d, q) ↦ d refl
        ]
