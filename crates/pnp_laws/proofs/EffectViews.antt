-- What all changes of a device have in common.
use Rattle.std.proofs.Common.{ℕ, ◌≡◌, ◌≢◌, ◌⊎◌, inl, inr, Bool, true, false, List, [], ◌∷◌, ◌++◌, length, Option, Some, None, refl, sym, ap, subst, arith, ◌∙◌}
use Rattle.std.proofs.lemmas.Bool.{cases_eq}
use Rattle.std.specs.Option.{option_map}
use Rattle.std.proofs.lemmas.Bool.Decides.{nat_tests}
use Rattle.resource_reqs.specs.Resources.{Res}
use Rattle.pnp_labels.specs.Texts.{Text}
use Rattle.pnp_labels.specs.declared.states.Problem.{Problem}
use Rattle.pnp_labels.specs.declared.label.Label.{Label}
use Rattle.pnp_labels.specs.declared.states.DevState.{DevState}
use Rattle.pnp_labels.specs.declared.states.DevState.TheVariants.{NoStack}
use Rattle.pnp_labels.specs.declared.words.Minor.{Minor}
use Rattle.pnp_labels.specs.declared.words.Minor.TheVariants.{Start, QueryRemove, Remove, QueryStop}
use Rattle.pnp_model.specs.Cores.{bare, is_node, node_at, stacked, with_holds, with_problem, with_stack, with_state}
use Rattle.pnp_model.specs.Frames.{first_node}
use Rattle.pnp_model.specs.Keyed.{changed_first, without_first}
use Rattle.pnp_model.specs.Machine.{is_ready}
use Rattle.pnp_model.specs.Rebalances.{committed, movers, plan_of}
use Rattle.pnp_model.specs.Records.{Activity, Device, Node, Phase, State, Step, Walk, Job, Stage, Course, course_of}
use Rattle.pnp_model.specs.Starts.{own_part}
use Rattle.pnp_model.specs.States.{activity_at, entered, is_activity, new_child, with_phase}
use Rattle.pnp_model.specs.Tasks.{joining}
use Rattle.pnp_model.specs.Walks.{has_ended, state_after, walk_of}
use Rattle.pnp_laws.specs.Effects.{Acting, ActivityEffect, Alters, Assigned, Enters, IsSearch, NodeEffect, Over, PhaseStep, Request, Running, ends_bad, to_leave}
use Rattle.pnp_laws.specs.Kept.{Ascending, Fits, InOrder, IsGood, is_idle}
use Rattle.pnp_laws.proofs.Kept.{alone}
use Rattle.pnp_laws.proofs.Lists.{head_found}
use Rattle.pnp_laws.proofs.Lookups.{ended_other, ended_same, entered_other, entered_same, joined_from, joined_keeps, left_from, left_missing, map_from, node_at-map, node_from, node_missing, phase_set_other, phase_set_same, ready_found, some_same}

-- the start that acts, by its device
pub record ActsAt (s : State) (k : ℕ) (phase : Phase) : Type 0 where
  pub activity : Activity
  pub at : activity_at k s.activities ≡ Some activity
  pub is : activity.phase ≡ phase

pub acting_at : (s : State) (k : ℕ) (phase : Phase) → InOrder 0 s.activities → Acting s k phase → ActsAt s k phase
acting_at s k phase order acts =
    let at = (ready_found is_ready 0 s.activities acts.activity order acts.ready).1 in
    record { activity = acts.activity; at = subst (λ (i : ℕ). activity_at i s.activities ≡ Some acts.activity) acts.own at; is = acts.is }

-- the device of a start that acts is not the root, and its state fits the phase
pub acting_fits : (s : State) (k : ℕ) (node : Node) (phase : Phase) → node_at k s.core.nodes ≡ Some node → Acting s k phase → IsGood s → (k ≢ 0) × Fits phase node.state
acting_fits s k node phase at acting good =
    let here = acting_at s k phase good.order acting in
    let old = good.phases k here.activity here.at in
    (old.2, subst (λ (x : Phase). Fits x node.state) here.is (subst (λ (x : Node). Fits here.activity.phase x.state) (some_same (node_at k s.core.nodes) old.0 node old.1 at) old.3))

pub entered_either : (new : Activity) (k : ℕ) (rest : List Activity) → (activity_at k (entered new rest) ≡ activity_at k rest) ⊎ ((new.serial ≡ k) × (activity_at k (entered new rest) ≡ Some new))
entered_either new k [] = elim (cases_eq new.serial k) [ inl e ↦ inr (e, grind (arith, nat_tests)) | inr d ↦ inl (entered_other new k [] d) ]
entered_either new k (b ∷ rest) = grind (arith, nat_tests, entered_either new k rest)

-- a change of a node that keeps its serial, its parent, its IDs and its requirements
pub record KeepsIds (f : Node → Node) : Type 0 where
  pub serial : (n : Node) → (f n).serial ≡ n.serial
  pub parent : (n : Node) → (f n).parent ≡ n.parent
  pub hw : (n : Node) → (f n).hw ≡ n.hw
  pub compat : (n : Node) → (f n).compat ≡ n.compat
  pub reqs : (n : Node) → (f n).reqs ≡ n.reqs

pub alters_keeps : (s : State) (label : Label) (t : State) (j : ℕ) (f : Node → Node) → Alters s label t j f → KeepsIds f
alters_keeps s label t j f (Alters.walked node minor w bad at request other ends verdict prints) = record { serial = λ n. refl; parent = λ n. refl; hw = λ n. refl; compat = λ n. refl; reqs = λ n. refl }
alters_keeps s label t j f _ = record { serial = λ n. refl; parent = λ n. refl; hw = λ n. refl; compat = λ n. refl; reqs = λ n. refl }

-- a device that was up does not become one that never was
abbrev pub StaysUp : DevState → DevState → Type 0
StaysUp x y = is_idle x ≡ false → is_idle y ≡ false

walk_up : (minor : Minor) (bad : Bool) (x : DevState) → minor ≢ Minor.Remove → StaysUp x (state_after minor bad x)
walk_up Start true x other up = up
walk_up Start false x other up = refl
walk_up QueryRemove true x other up = up
walk_up QueryRemove false x other up = refl
walk_up Remove bad x other up = absurd (other refl)
walk_up QueryStop true x other up = up
walk_up QueryStop false x other up = refl
walk_up _ bad x other up = refl

stacked_up : (x : DevState) → StaysUp x (stacked x)
stacked_up NoStack h = absurd (cc)
stacked_up _ h = h

pub alters_up : (s : State) (label : Label) (t : State) (j : ℕ) (f : Node → Node) → Alters s label t j f → (n : Node) → node_at j s.core.nodes ≡ Some n → StaysUp n.state (f n).state
alters_up s label t j f (Alters.walked node minor w bad at request other ends verdict prints) n there =
    subst (λ (m : Node). StaysUp m.state (state_after minor bad node.state)) (some_same (node_at node.serial s.core.nodes) node n at there) (walk_up minor bad node.state other)
alters_up s label t j f (Alters.troubled k problem) n there = λ up. up
alters_up s label t j f (Alters.stacks node d ds name at acts prints) n there =
    subst (λ (m : Node). StaysUp m.state (stacked node.state)) (some_same (node_at node.serial s.core.nodes) node n at there) (stacked_up node.state)
alters_up s label t j f (Alters.assigned node phase plan acts search part now) n there = λ up. up

-- Where a node comes from: it is as it was, one thing was done to it, or it joined ------------------

pub data Origin (s : State) (label : Label) (t : State) (k : ℕ) : Node → Type 0 where
  was : (n : Node) → node_at k s.core.nodes ≡ Some n → Origin s label t k n
  walked : (n : Node) (minor : Minor) (w : Walk) (bad : Bool) → node_at k s.core.nodes ≡ Some n → Request s n minor w → minor ≢ Minor.Remove → has_ended w (length n.stack) ≡ true → ends_bad minor w ≡ bad
      → label ≡ Label.State n.path (state_after minor bad n.state) → Origin s label t k (with_state (state_after minor bad n.state) n)
  troubled : (n : Node) (problem : Option Problem) → node_at k s.core.nodes ≡ Some n → Origin s label t k (with_problem problem n)
  stacks : (n : Node) (d : ℕ) (ds : List ℕ) (name : Text) → node_at k s.core.nodes ≡ Some n → Acting s k (Phase.Adding (d ∷ ds)) → label ≡ Label.Add n.path name true
      → Origin s label t k (with_stack (n.stack ++ d ∷ []) (stacked n.state) n)
  assigned : (n : Node) (phase : Phase) (plan : List (List Res)) → node_at k s.core.nodes ≡ Some n → Acting s k phase → IsSearch phase → Assigned s n plan
      → t.activities ≡ changed_first (is_activity k) (with_phase (Phase.Starting (walk_of Minor.Start))) s.activities → Origin s label t k (with_holds (own_part plan) n)
  stripped : (n : Node) (w : Walk) → node_at k s.core.nodes ≡ Some n → Request s n Minor.Remove w → label ≡ Label.State n.path NoStack → Origin s label t k (bare n)
  commits : (r : Job) (n : Node) → s.operation ≡ Some r → course_of r.kind ≡ Course.Rebalancing → r.stage ≡ Stage.Committing → node_at k s.core.nodes ≡ Some n → Origin s label t k (committed r.wanted r.target (movers r) (plan_of r.found) n)
  joins : (node : Node) (d : Device) → joining node.born s.core.nodes s.world ≡ Some d → node_at k s.core.nodes ≡ None → s.next_serial ≡ k → Origin s label t k (new_child node.serial d s)

module _ (s : State) (label : Label) (t : State) where
  altered : (j : ℕ) (f : Node → Node) → Alters s label t j f → (n : Node) → node_at j s.core.nodes ≡ Some n → Origin s label t j (f n)
  altered j f (Alters.walked node minor w bad at request other ends verdict prints) n there =
      subst (λ (x : Node). Origin s label t j (with_state (state_after minor bad node.state) x)) (some_same (node_at j s.core.nodes) node n at there) (Origin.walked node minor w bad at request other ends verdict prints)
  altered j f (Alters.troubled k problem) n there = Origin.troubled n problem there
  altered j f (Alters.stacks node d ds name at acts prints) n there =
      subst (λ (x : Node). Origin s label t j (with_stack (node.stack ++ d ∷ []) (stacked node.state) x)) (some_same (node_at j s.core.nodes) node n at there) (Origin.stacks node d ds name at acts prints)
  altered j f (Alters.assigned node phase plan acts search part now) n there =
      subst (λ (x : Node). Origin s label t j (with_holds (own_part plan) x)) (some_same (node_at j s.core.nodes) node n part.at there) (Origin.assigned node phase plan part.at acts search part now)

  module _ (order : Ascending 0 s.core.nodes) (k : ℕ) (m : Node) where
    kept : (nodes : List Node) → nodes ≡ s.core.nodes → node_at k nodes ≡ Some m → Origin s label t k m
    kept nodes e now = Origin.was m (subst (λ (x : List Node). node_at k x ≡ Some m) e now)

    changed : (j : ℕ) (f : Node → Node) → ((x : Node) → (f x).serial ≡ x.serial) → ((n : Node) → node_at j s.core.nodes ≡ Some n → Origin s label t j (f n)) → node_at k (changed_first (is_node j) f s.core.nodes) ≡ Some m → Origin s label t k m
    changed j f serial own now =
        elim (node_from j k f s.core.nodes m serial now) [
          | inl (e, (n, q, r)) ↦ subst (λ (z : Node). Origin s label t k z) (sym r) (subst (λ (i : ℕ). Origin s label t i (f n)) e (own n (subst (λ (i : ℕ). node_at i s.core.nodes ≡ Some n) (sym e) q)))
          | inr (d, q) ↦ Origin.was m q
        ]

    pub origin : NodeEffect s label t → node_at k t.core.nodes ≡ Some m → Origin s label t k m
    origin (NodeEffect.same e rest) now = kept t.core.nodes e now
    origin (NodeEffect.changed j f alters e rest) now = changed j f (alters_keeps s label t j f alters).serial (altered j f alters) (subst (λ (x : List Node). node_at k x ≡ Some m) e now)
    origin (NodeEffect.stripped node w there request ends prints e rest) now =
        changed node.serial bare (λ x. refl)
        (λ n q. subst (λ (x : Node). Origin s label t node.serial (bare x)) (some_same (node_at node.serial s.core.nodes) node n there q) (Origin.stripped node w there request prints))
        (subst (λ (x : List Node). node_at k x ≡ Some m) e now)
    origin (NodeEffect.commits r runs course is e rest) now =
        let old = map_from k (committed r.wanted r.target (movers r) (plan_of r.found)) s.core.nodes m (λ x. refl) (subst (λ (x : List Node). node_at k x ≡ Some m) e now) in
        subst (λ (z : Node). Origin s label t k z) (sym old.2) (Origin.commits r old.0 runs course is old.1)
    origin (NodeEffect.joins node d none there up below is) now =
        elim (joined_from k s.core.nodes (new_child node.serial d s) m (subst (λ (x : Step). node_at k x.state.core.nodes ≡ Some m) is now)) [
          | inl q ↦ Origin.was m q
          | inr (gone, new, own) ↦ subst (λ (z : Node). Origin s label t k z) (sym new) (Origin.joins node d below gone own)
        ]
    origin (NodeEffect.left node o runs first e rest) now = Origin.was m (left_from node.serial k s.core.nodes m order (subst (λ (x : List Node). node_at k x ≡ Some m) e now)).1
    origin (NodeEffect.related r related e rest) now = kept t.core.nodes e now

-- Why a device is in another state: a request has ended, or a driver was added ----------------------

pub data Turns (s : State) (label : Label) (k : ℕ) (n : Node) : Type 0 where
  told : (y : DevState) → label ≡ Label.State n.path y → Turns s label k n
  added : (d : ℕ) (ds : List ℕ) (name : Text) → Acting s k (Phase.Adding (d ∷ ds)) → label ≡ Label.Add n.path name true → Turns s label k n

module _ (s : State) (label : Label) (t : State) where
  -- it was not there, or its state is as it was, or turned
  turns : (k : ℕ) (m : Node) → Origin s label t k m → (node_at k s.core.nodes ≡ None) ⊎ ((n : Node) × (node_at k s.core.nodes ≡ Some n) × ((m.state ≡ n.state) ⊎ Turns s label k n))
  turns k _ (Origin.was n at) = inr (n, at, inl refl)
  turns k _ (Origin.walked n minor w bad at request other ends verdict prints) = inr (n, at, inr (Turns.told (state_after minor bad n.state) prints))
  turns k _ (Origin.troubled n problem at) = inr (n, at, inl refl)
  turns k _ (Origin.stacks n d ds name at acts prints) = inr (n, at, inr (Turns.added d ds name acts prints))
  turns k _ (Origin.assigned n phase plan at acts search part now) = inr (n, at, inl refl)
  turns k _ (Origin.stripped n w at request prints) = inr (n, at, inr (Turns.told NoStack prints))
  turns k _ (Origin.commits r n runs course is at) = inr (n, at, inl refl)
  turns k _ (Origin.joins node d below gone own) = inl gone

  pub state_from : Ascending 0 s.core.nodes → (k : ℕ) (n m : Node) → node_at k s.core.nodes ≡ Some n → NodeEffect s label t → node_at k t.core.nodes ≡ Some m → (m.state ≡ n.state) ⊎ Turns s label k n
  state_from order k n m at effect now =
      elim (turns k m (origin s label t order k m effect now)) [
        | inl gone ↦ absurd (cc)
        | inr (old, there, h) ↦ subst (λ (x : Node). (m.state ≡ x.state) ⊎ Turns s label k x) (some_same (node_at k s.core.nodes) old n there at) h
      ]

-- Where the start of a device stands: as before, or it began, went on, or is over ----------------------

pub data StartOrigin (s t : State) (k : ℕ) : Option Activity → Type 0 where
  was : StartOrigin s t k (activity_at k s.activities)
  enters : (a : Activity) → Enters s k t a.phase → activity_at k s.activities ≡ None → StartOrigin s t k (Some a)
  goes : (a : Activity) (old new : Phase) → activity_at k s.activities ≡ Some a → PhaseStep s k t old new → StartOrigin s t k (Some (with_phase new a))
  ends : (phase : Phase) → Acting s k phase → Over s k t phase → StartOrigin s t k None

module _ (s t : State) (good : IsGood s) (k : ℕ) where
  free : (phase : Phase) → Enters s k t phase → activity_at k s.activities ≡ None
  free phase (Enters.installs drivers chosen drops clears) = chosen.free
  free phase (Enters.restarts r plan runs course plain is target found nodes) = ap (activity_at k) (alone s r good runs)
  free phase (Enters.undoes r runs course plain target) = ap (activity_at k) (alone s r good runs)

  kept_as : (o p : Option Activity) → p ≡ o → StartOrigin s t k o → StartOrigin s t k p
  kept_as o p e h = subst (StartOrigin s t k) (sym e) h

  entered_at : (phase : Phase) → Enters s k t phase → StartOrigin s t k (activity_at k (entered (record { serial = k; phase = phase }) s.activities))
  entered_at phase why =
      let new : Activity = record { serial = k; phase = phase } in
      kept_as (Some new) _ (entered_same new s.activities (free phase why)) (StartOrigin.enters new why (free phase why))

  went_at : (old new : Phase) → PhaseStep s k t old new → StartOrigin s t k (activity_at k (changed_first (is_activity k) (with_phase new) s.activities))
  went_at old new step = kept_as _ _ (phase_set_same k new s.activities) (by_old (activity_at k s.activities) refl)
    where
      by_old : (o : Option Activity) → activity_at k s.activities ≡ o → StartOrigin s t k (option_map (with_phase new) o)
      by_old None e = kept_as _ None (sym e) StartOrigin.was
      by_old (Some a) e = StartOrigin.goes a old new e step

  pub start_origin : ActivityEffect s t → StartOrigin s t k (activity_at k t.activities)
  start_origin (ActivityEffect.same e) = kept_as _ _ (ap (activity_at k) e) StartOrigin.was
  start_origin (ActivityEffect.enters j phase why e) =
      kept_as _ _ (ap (activity_at k) e)
      (elim (cases_eq j k) [
        | inl q ↦ subst (λ (i : ℕ). StartOrigin s t k (activity_at k (entered (record { serial = i; phase = phase }) s.activities))) (sym q) (entered_at phase (subst (λ (i : ℕ). Enters s i t phase) q why))
        | inr d ↦ kept_as _ _ (entered_other (record { serial = j; phase = phase }) k s.activities d) StartOrigin.was
      ])
  start_origin (ActivityEffect.goes j old new step e) =
      kept_as _ _ (ap (activity_at k) e)
      (elim (cases_eq j k) [
        | inl q ↦ subst (λ (i : ℕ). StartOrigin s t k (activity_at k (changed_first (is_activity i) (with_phase new) s.activities))) (sym q) (went_at old new (subst (λ (i : ℕ). PhaseStep s i t old new) q step))
        | inr d ↦ kept_as _ _ (phase_set_other j k new s.activities d) StartOrigin.was
      ])
  start_origin (ActivityEffect.ends j phase acts over e) =
      kept_as _ _ (ap (activity_at k) e)
      (elim (cases_eq j k) [
        | inl q ↦ kept_as None _ (subst (λ (i : ℕ). activity_at k (without_first (is_activity i) s.activities) ≡ None) (sym q) (ended_same 0 k s.activities good.order))
            (StartOrigin.ends phase (subst (λ (i : ℕ). Acting s i phase) q acts) (subst (λ (i : ℕ). Over s i t phase) q over))
        | inr d ↦ kept_as _ _ (ended_other j k s.activities d) StartOrigin.was
      ])

-- Who is gone stood first of those that may leave ------------------------------------------------------

pub gone_left : (s : State) (label : Label) (t : State) → NodeEffect s label t → (k : ℕ) (n : Node) → node_at k s.core.nodes ≡ Some n → node_at k t.core.nodes ≡ None → (o : Job) × Running s o × (first_node s.core.nodes (to_leave o) ≡ Some n)
gone_left s label t (NodeEffect.same e rest) k n at gone = absurd (let now = ap (node_at k) e in cc)
gone_left s label t (NodeEffect.changed j f alters e rest) k n at gone = absurd (let was = node_missing j k f s.core.nodes (alters_keeps s label t j f alters).serial (sym (ap (node_at k) e) ∙ gone) in cc)
gone_left s label t (NodeEffect.stripped node w there request over prints e rest) k n at gone = absurd (let was = node_missing node.serial k bare s.core.nodes (λ x. refl) (sym (ap (node_at k) e) ∙ gone) in cc)
gone_left s label t (NodeEffect.commits r runs course is e rest) k n at gone =
    absurd (let now = sym gone ∙ ap (node_at k) e ∙ node_at-map k (committed r.wanted r.target (movers r) (plan_of r.found)) s.core.nodes (λ x. refl) ∙ ap (option_map (committed r.wanted r.target (movers r) (plan_of r.found))) at in cc)
gone_left s label t (NodeEffect.joins node d idle there up below is) k n at gone =
    absurd (let now = sym gone ∙ ap (λ (x : Step). node_at k x.state.core.nodes) is ∙ joined_keeps k s.core.nodes (new_child node.serial d s) n at in cc)
gone_left s label t (NodeEffect.left node o runs first e rest) k n at gone =
    let k_is : node.serial ≡ k = left_missing node.serial k s.core.nodes n at (sym (ap (node_at k) e) ∙ gone) in
    let there = subst (λ (i : ℕ). node_at i s.core.nodes ≡ Some node) k_is (head_found s.core.nodes (to_leave o) node first).1 in
    (o, runs, first ∙ ap Some (some_same (node_at k s.core.nodes) node n there at))
gone_left s label t (NodeEffect.related r related e rest) k n at gone = absurd (let now = ap (node_at k) e in cc)
