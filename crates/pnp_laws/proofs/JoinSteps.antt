-- A step but a join lets no more devices join.
use Rattle.std.proofs.Common.{ℕ, drop, ◌+◌, ◌≤◌, ◌≡◌, ◌≢◌, ◌⊎◌, inl, inr, Bool, true, false, not, ◌&&◌, ◌||◌, cond, List, [], ◌∷◌, ◌++◌, Option, Some, None, refl, sym, ap, ◌∙◌, subst, arith}
use Rattle.std.specs.List.{find, slice_get}
use Rattle.std.proofs.lemmas.Bool.{cases_eq}
use Rattle.pnp_model.specs.Keyed.{changed_first, without_first}
use Rattle.pnp_model.specs.Records.{Activity, Course, Device, Duty, Job, Node, Phase, Stage, State, Step, Task, Walk, course_of}
use Rattle.pnp_model.specs.Records.Phase.{Adding}
use Rattle.pnp_model.specs.Cores.{node_at}
use Rattle.pnp_model.specs.Diagram.{Change, FollowsDiagram, Row}
use Rattle.pnp_model.specs.Frames.{first_node}
use Rattle.pnp_model.specs.Runs.Entry.{Did}
use Rattle.pnp_model.specs.States.{is_activity, activity_at, with_phase, entered, without_those}
use Rattle.pnp_model.specs.Tasks.{joins, join_step}
use Rattle.pnp_model.specs.Tests.{has}
use Rattle.pnp_labels.specs.declared.states.DevState.{DevState}
use Rattle.pnp_labels.specs.declared.states.DevState.TheVariants.{Started}
use Rattle.pnp_labels.specs.declared.words.Minor.{Minor}
use Rattle.pnp_labels.specs.declared.label.Label.{Label}
use Rattle.pnp_laws.specs.Effects.{ActivityEffect, Chosen, Effect, Enters, JoinEffect, Origin, TaskEffect, WorldEffect}
use Rattle.pnp_laws.specs.Words.{IsNoJoin, joined}
use Rattle.pnp_laws.specs.Kept.{Fits, InOrder, IsGood, OperationFits, RemovalKeeps}
use Rattle.pnp_laws.proofs.EffectViews.{Turns, acting_at, entered_either, state_from}
use Rattle.pnp_laws.proofs.FitsBy.{fits_by}
use Rattle.pnp_laws.proofs.Lists.{head_found, head_has}
use Rattle.pnp_laws.proofs.Lookups.{some_same, own_serial, found_self, phase_from, ended_same, ended_other, first_is}
use Rattle.pnp_laws.proofs.Standing.{Kept}
use Rattle.pnp_laws.proofs.Standing.{Sound}
use Rattle.pnp_laws.proofs.Joins.{starts, start_cost, start_of, closed, closed_in, removal_closed, is_barren, some_there, is_live, In, Gone, Stays, sub_stays, Flows}

pub joined_none : (label : Label) → IsNoJoin label → joined label ≡ 0
joined_none (Label.Join k path) h = absurd h
joined_none _ h = refl

-- Whoever lives -----------------------------------------------------------------------------------------

pub live_is : (s : State) (n : Node) → closed s.operation n.serial ≡ false → (is_barren n.state ≡ false) ⊎ (some_there (activity_at n.serial s.activities) ≡ true) → is_live s n ≡ true
live_is s n e h = by_tests (closed s.operation n.serial) (is_barren n.state) (some_there (activity_at n.serial s.activities)) e h
  where
    by_tests : (a b c : Bool) → a ≡ false → (b ≡ false) ⊎ (c ≡ true) → (not a && (not b || c)) ≡ true
    by_tests true b c e h = absurd (cc)
    by_tests false true true e h = refl
    by_tests false true false e (inl f) = absurd (cc)
    by_tests false true false e (inr f) = absurd (cc)
    by_tests false false c e h = refl

pub live_from : (s : State) (n : Node) → is_live s n ≡ true → (closed s.operation n.serial ≡ false) × ((is_barren n.state ≡ false) ⊎ (some_there (activity_at n.serial s.activities) ≡ true))
live_from s n h = by_tests (closed s.operation n.serial) (is_barren n.state) (some_there (activity_at n.serial s.activities)) h
  where
    by_tests : (a b c : Bool) → (not a && (not b || c)) ≡ true → (a ≡ false) × ((b ≡ false) ⊎ (c ≡ true))
    by_tests true b c h = absurd (cc)
    by_tests false true c h = (refl, inr h)
    by_tests false false c h = (refl, inl refl)

-- a device without drivers gets none by a request, and one that was told is not up again
row_up : (minor : Minor) (bad : Bool) (a b : DevState) → Row a minor bad b → is_barren b ≡ false → is_barren a ≡ false
row_up _ _ _ _ Row.remove_surprised up = absurd (cc)
row_up _ _ _ _ _ up = refl

-- a request that gets an answer closes nothing and opens nothing
walked_closed : (o : Job) (walk : Option Walk) (stage : Stage) (k : ℕ) → removal_closed (record o { walk = walk }) stage k ≡ removal_closed o stage k
walked_closed o walk Stage.Removing k = refl
walked_closed o walk _ k = refl

pub closed_walked : (o : Job) (walk : Option Walk) (k : ℕ) → closed (Some (record o { walk = walk })) k ≡ closed (Some o) k
closed_walked o walk k = by_course (course_of o.kind)
  where
    by_course : (course : Course) → closed_in course (record o { walk = walk }) k ≡ closed_in course o k
    by_course Course.Removing = walked_closed o walk o.stage k
    by_course _ = refl

-- What is known of a step --------------------------------------------------------------------------------

pub record Knows (s : State) (step : Step) : Type 0 where
  pub sound : Sound s step
  pub diagram : FollowsDiagram step.label s.core.nodes step.state.core.nodes
  pub good : IsGood step.state

-- a child of the device joins
pub record Joined (s : State) (step : Step) : Type 0 where
  pub node : Node
  pub device : Device
  pub is : step ≡ join_step s node device
  pub join : joins node.born s.core.nodes device ≡ true
  pub there : In device s.world
  pub at : node_at node.serial s.core.nodes ≡ Some node
  pub up : node.state ≡ Started
  pub none : s.operation ≡ None

pub in_find : (p : Device → Bool) (ds : List Device) (d : Device) → find p ds ≡ Some d → (p d ≡ true) × In d ds
in_find p [] d h = absurd (cc)
in_find p (x ∷ xs) d h = by_test (p x) refl h (λ g. in_find p xs d g)
  where
    by_test : (b : Bool) → p x ≡ b → cond b (Some x) (find p xs) ≡ Some d → (find p xs ≡ Some d → (p d ≡ true) × In d xs) → (p d ≡ true) × In d (x ∷ xs)
    by_test true e g more = let same : x ≡ d = cc in (subst (λ (z : Device). p z ≡ true) same e, inl same)
    by_test false e g more = let m = more g in (m.0, inr m.1)

-- who is no more to lose its drivers was not to lose them, or is dead
abbrev pub Closes : State → State → Type 0
Closes s t = (k : ℕ) (m : Node) → node_at k t.core.nodes ≡ Some m → closed t.operation k ≡ false → (closed s.operation k ≡ false) ⊎ (is_live t m ≡ false)

-- and what left does not join again
pub record Closing (s t : State) : Type 0 where
  pub closes : Closes s t
  pub gone : (k : ℕ) (n : Node) → node_at k s.core.nodes ≡ Some n → node_at k t.core.nodes ≡ None → Gone s t n

-- Tasks -------------------------------------------------------------------------------------------------

abbrev pub Cheaper : List Task → List Task → Type 0
Cheaper tasks more = (cost : ℕ → ℕ) → starts cost more ≤ starts cost tasks

pub starts_pushed : (cost : ℕ → ℕ) (tasks : List Task) (task : Task) → starts cost (tasks ++ task ∷ []) ≡ starts cost tasks + start_cost cost task.kind task.serial
starts_pushed cost [] task = omega arith
starts_pushed cost (t ∷ tasks) task = let more = starts_pushed cost tasks task in omega arith

pub cheaper_pushed : (tasks : List Task) (task : Task) → ((cost : ℕ → ℕ) → start_cost cost task.kind task.serial ≡ 0) → Cheaper tasks (tasks ++ task ∷ [])
cheaper_pushed tasks task free cost = let a = starts_pushed cost tasks task in let b = free cost in omega arith

pub dropped_cheaper : (tasks : List Task) → Cheaper tasks (drop 1 tasks)
dropped_cheaper [] cost = omega arith
dropped_cheaper (t ∷ tasks) cost = omega arith

starts_first : (cost : ℕ → ℕ) (tasks : List Task) (task : Task) → slice_get tasks 0 ≡ Some task → starts cost (drop 1 tasks) + start_cost cost task.kind task.serial ≡ starts cost tasks
starts_first cost tasks task first = let e = ap (starts cost) (first_is tasks task first) in omega arith

origin_free : (s : State) (kind : Duty) (k : ℕ) → Origin s kind k → (cost : ℕ → ℕ) → start_cost cost kind k ≡ 0
origin_free s _ _ (Origin.lists k) cost = refl
origin_free s _ _ _ cost = refl

tasks_cheaper : (s t : State) → t.next_serial ≡ s.next_serial → TaskEffect s t → Cheaper s.tasks t.tasks
tasks_cheaper s t serial (TaskEffect.same e) cost = let h = ap (starts cost) e in omega arith
tasks_cheaper s t serial (TaskEffect.appended task origin e) cost = let h = ap (starts cost) e in let g = cheaper_pushed s.tasks task (origin_free s task.kind task.serial origin) cost in omega arith
tasks_cheaper s t serial (TaskEffect.joins next e) cost = absurd (omega arith)
tasks_cheaper s t serial (TaskEffect.dropped task none first surprises e) cost = let h = ap (starts cost) e in let g = dropped_cheaper s.tasks cost in omega arith
tasks_cheaper s t serial (TaskEffect.put_first node r runs course is first e) cost = let h = ap (starts cost) e in omega arith

-- Activities --------------------------------------------------------------------------------------------

pub some_is : (o : Option Activity) → some_there o ≡ true → (a : Activity) × (o ≡ Some a)
some_is None h = absurd (cc)
some_is (Some a) h = (a, refl)

pub active_changed : (j k : ℕ) (phase : Phase) (acts : List Activity) → some_there (activity_at k (changed_first (is_activity j) (with_phase phase) acts)) ≡ true → some_there (activity_at k acts) ≡ true
active_changed j k phase acts h =
    let a = some_is (activity_at k (changed_first (is_activity j) (with_phase phase) acts)) h in
    elim (phase_from j k phase acts a.0 a.1) [
      | inl (e, (b, q, r)) ↦ ap some_there q
      | inr (d, q) ↦ ap some_there q
    ]

pub active_ended : (j k : ℕ) (acts : List Activity) → InOrder 0 acts → some_there (activity_at k (without_first (is_activity j) acts)) ≡ true → some_there (activity_at k acts) ≡ true
active_ended j k acts order h =
    elim (cases_eq j k) [
      | inl e ↦ absurd (let gone = ended_same 0 j acts order in let g = subst (λ (i : ℕ). some_there (activity_at i (without_first (is_activity j) acts)) ≡ true) (sym e) h in let q = ap some_there gone in cc)
      | inr d ↦ ap some_there (sym (ended_other j k acts d)) ∙ h
    ]

-- the start that begins, if one does, and who is being started now
record Entering (s t : State) : Type 0 where
  start : Option Node
  started : (n : Node) → start ≡ Some n → node_at n.serial s.core.nodes ≡ Some n
  tasks : (cost : ℕ → ℕ) → starts cost t.tasks + start_of cost start ≤ starts cost s.tasks
  active : (k : ℕ) (n m : Node) → node_at k s.core.nodes ≡ Some n → node_at k t.core.nodes ≡ Some m → some_there (activity_at k t.activities) ≡ true
      → ((some_there (activity_at k s.activities) ≡ true) ⊎ (is_barren m.state ≡ false)) ⊎ (start ≡ Some n)

-- A step that is no join -----------------------------------------------------------------------------------

module _ (s : State) (label : Label) (t : State) (kept : Kept s) (knows : Knows s (record { label = label; state = t })) (effect : Effect s (Did label) t) (closing : Closing s t) (no_join : IsNoJoin label) where
  serial_same : t.next_serial ≡ s.next_serial
  serial_same = let a = effect.serial in let b = joined_none label no_join in omega arith

  -- a device that leaves the world is not the root
  not_root : (node : Node) (o : Job) → s.operation ≡ Some o → course_of o.kind ≡ Course.Removing → o.stage ≡ Stage.Settling → first_node s.core.nodes o.todo ≡ Some node → node.serial ≢ 0
  not_root node o runs course is first e =
      let fits : RemovalKeeps o o.stage s.core.nodes = fits_by Course.Removing o s.core.nodes course (subst (λ (x : Option Job). OperationFits x s.core.nodes) runs kept.good.fits) in
      let keeps : RemovalKeeps o Stage.Settling s.core.nodes = subst (λ (x : Stage). RemovalKeeps o x s.core.nodes) is fits in
      let there = keeps.asks node.serial (head_has node.serial o.todo (head_found s.core.nodes o.todo node first).0) in
      let here = subst (λ (i : ℕ). has o.set i ≡ true) e there in
      let rootless = keeps.rootless in
      cc

  world_stays : WorldEffect s (Did label) t → Stays s t × (t.next_born ≡ s.next_born)
  world_stays (WorldEffect.same world next) = (inl world, next)
  world_stays (WorldEffect.plugged d plug world next) = absurd (let e = plug.event in cc)
  world_stays (WorldEffect.changed n path reqs prints at up is there e world next) = absurd (cc)
  world_stays (WorldEffect.unplugged born (node, o, runs, course, is, first, own) world next) =
      let there = (head_found s.core.nodes o.todo node first).1 in
      (inr (node, there, not_root node o runs course is first, subst (λ (b : ℕ). t.world ≡ without_those (b ∷ []) s.world) (sym own) world), next)

  -- who has drivers now had them, or was being started
  had_drivers : (k : ℕ) (n m : Node) → node_at k s.core.nodes ≡ Some n → node_at k t.core.nodes ≡ Some m → is_barren m.state ≡ false → (is_barren n.state ≡ false) ⊎ (some_there (activity_at k s.activities) ≡ true)
  had_drivers k n m was at up = by_turn (state_from s label t kept.good.serials k n m was effect.nodes at)
    where
      by_change : (y : DevState) → Change (Label.State n.path y) n.state m.state → is_barren n.state ≡ false
      by_change y (inl same) = ap is_barren (sym same) ∙ up
      by_change y (inr (own, (minor, bad, row))) = row_up minor bad n.state m.state row up

      by_turn : (m.state ≡ n.state) ⊎ Turns s label k n → (is_barren n.state ≡ false) ⊎ (some_there (activity_at k s.activities) ≡ true)
      by_turn (inl same) = inl (ap is_barren (sym same) ∙ up)
      by_turn (inr (Turns.told y prints)) = inl (by_change y (subst (λ (l : Label). Change l n.state m.state) prints (knows.diagram.stays k n m was at)))
      by_turn (inr (Turns.added d ds name acts prints)) = inr (ap some_there (acting_at s k (Adding (d ∷ ds)) kept.good.order acts).at)

  none_begins : ((k : ℕ) (m : Node) → node_at k t.core.nodes ≡ Some m → some_there (activity_at k t.activities) ≡ true → (some_there (activity_at k s.activities) ≡ true) ⊎ (is_barren m.state ≡ false)) → Entering s t
  none_begins active =
      record {
        start = None;
        started = λ n e. absurd (cc);
        tasks = λ cost. let h = tasks_cheaper s t serial_same effect.tasks cost in omega arith;
        active = λ k n m was at h. inl (active k m at h);
      }

  -- the start at the end of a rebalance is that of a device with drivers
  reentered : (j : ℕ) (phase : Phase) → t.activities ≡ entered (record { serial = j; phase = phase }) s.activities → ((x : DevState) → Fits phase x → is_barren x ≡ false) → Entering s t
  reentered j phase e fits = none_begins (λ k m at h. by_entered k m at h (entered_either (record { serial = j; phase = phase }) k s.activities))
    where
      by_entered : (k : ℕ) (m : Node) → node_at k t.core.nodes ≡ Some m → some_there (activity_at k t.activities) ≡ true
          → (activity_at k (entered (record { serial = j; phase = phase }) s.activities) ≡ activity_at k s.activities) ⊎ ((j ≡ k) × (activity_at k (entered (record { serial = j; phase = phase }) s.activities) ≡ Some (record { serial = j; phase = phase })))
          → (some_there (activity_at k s.activities) ≡ true) ⊎ (is_barren m.state ≡ false)
      by_entered k m at h (inl q) = inl (ap some_there (sym (ap (activity_at k) e ∙ q)) ∙ h)
      by_entered k m at h (inr (own, q)) =
          let there = knows.good.phases k (record { serial = j; phase = phase }) (ap (activity_at k) e ∙ q) in
          let same : there.0 ≡ m = some_same (node_at k t.core.nodes) there.0 m there.1 at in
          inr (ap (λ (z : Node). is_barren z.state) (sym same) ∙ fits there.0.state there.3)

  -- the start of a device without drivers uses up its task
  installed : (j : ℕ) (phase : Phase) (drivers : List ℕ) → Chosen s j drivers → t.tasks ≡ drop 1 s.tasks → t.activities ≡ entered (record { serial = j; phase = phase }) s.activities → Entering s t
  installed j phase drivers chosen drops e =
      record {
        start = Some chosen.node;
        started = λ n is. let same : chosen.node ≡ n = cc in subst (λ (x : Node). node_at x.serial s.core.nodes ≡ Some x) same (found_self j s.core.nodes chosen.node chosen.at);
        tasks = λ cost.
            let first = starts_first cost s.tasks (record { kind = Duty.Starting; serial = j }) chosen.first in
            let own : cost chosen.node.serial ≡ cost j = ap cost (own_serial j chosen.node s.core.nodes chosen.at) in
            let now = ap (starts cost) drops in
            omega arith;
        active = λ k n m was at h. elim (entered_either (record { serial = j; phase = phase }) k s.activities) [
          | inl q ↦ inl (inl (ap some_there (sym (ap (activity_at k) e ∙ q)) ∙ h))
          | inr (own, q) ↦ inr (ap Some (some_same (node_at k s.core.nodes) chosen.node n (subst (λ (i : ℕ). node_at i s.core.nodes ≡ Some chosen.node) own chosen.at) was))
        ];
      }

  entering : ActivityEffect s t → Entering s t
  entering (ActivityEffect.same e) = none_begins (λ k m at h. inl (ap (λ (x : List Activity). some_there (activity_at k x)) (sym e) ∙ h))
  entering (ActivityEffect.goes j old new step e) =
      none_begins (λ k m at h. inl (active_changed j k new s.activities (ap (λ (x : List Activity). some_there (activity_at k x)) (sym e) ∙ h)))
  entering (ActivityEffect.ends j phase acts over e) =
      none_begins (λ k m at h. inl (active_ended j k s.activities kept.good.order (ap (λ (x : List Activity). some_there (activity_at k x)) (sym e) ∙ h)))
  entering (ActivityEffect.enters j _ (Enters.installs drivers chosen drops clears) e) = installed j _ drivers chosen drops e
  entering (ActivityEffect.enters j _ (Enters.restarts r plan runs course plain is target found nodes) e) = reentered j _ e (λ x fits. ap is_barren fits)
  entering (ActivityEffect.enters j _ (Enters.undoes r runs course plain target) e) = reentered j _ e (λ x fits. ap is_barren fits)

  lives_on : (b : Entering s t) (k : ℕ) (n m : Node) → node_at k s.core.nodes ≡ Some n → node_at k t.core.nodes ≡ Some m → is_live t m ≡ true → (is_live s n ≡ true) ⊎ (b.start ≡ Some n)
  lives_on b k n m was at live =
      let own : m.serial ≡ k = own_serial k m t.core.nodes at in
      let l = live_from t m live in
      elim (closing.closes k m at (ap (closed t.operation) (sym own) ∙ l.0)) [
        | inl free ↦ by_live free (subst (λ (i : ℕ). (is_barren m.state ≡ false) ⊎ (some_there (activity_at i t.activities) ≡ true)) own l.1)
        | inr dead ↦ absurd (cc)
      ]
    where
      free_now : closed s.operation k ≡ false → (is_barren n.state ≡ false) ⊎ (some_there (activity_at k s.activities) ≡ true) → is_live s n ≡ true
      free_now free h =
          let old : k ≡ n.serial = sym (own_serial k n s.core.nodes was) in
          live_is s n (subst (λ (i : ℕ). closed s.operation i ≡ false) old free) (subst (λ (i : ℕ). (is_barren n.state ≡ false) ⊎ (some_there (activity_at i s.activities) ≡ true)) old h)

      by_live : closed s.operation k ≡ false → (is_barren m.state ≡ false) ⊎ (some_there (activity_at k t.activities) ≡ true) → (is_live s n ≡ true) ⊎ (b.start ≡ Some n)
      by_live free (inl up) = inl (free_now free (had_drivers k n m was at up))
      by_live free (inr there) = elim (b.active k n m was at there) [
        | inl h ↦ inl (free_now free (elim h [ inl there ↦ inr there | inr up ↦ had_drivers k n m was at up ]))
        | inr e ↦ inr e
      ]

  flows : Flows s t
  flows =
      let world = world_stays effect.world in
      let b = entering effect.activities in
      record {
        counts = (serial_same, world.1);
        world = sub_stays s t world.0;
        stays = world.0;
        from = knows.sound.births no_join;
        start = b.start;
        started = b.started;
        tasks = b.tasks;
        live = lives_on b;
        gone = closing.gone;
      }

pub flows_step : (s : State) (label : Label) (t : State) → Kept s → Knows s (record { label = label; state = t }) → Effect s (Did label) t → Closing s t → (IsNoJoin label × Flows s t) ⊎ Joined s (record { label = label; state = t })
flows_step s label t kept knows effect closing = by_join effect.joins
  where
    by_join : JoinEffect s label t → (IsNoJoin label × Flows s t) ⊎ Joined s (record { label = label; state = t })
    by_join (JoinEffect.none no_join) = inl (no_join, flows s label t kept knows effect closing no_join)
    by_join (JoinEffect.joins node d none at up below is) =
        let found = in_find (joins node.born s.core.nodes) s.world d below in
        inr (record { node = node; device = d; is = is; join = found.0; there = found.1; at = at; up = up; none = none })
