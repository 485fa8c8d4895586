-- Where a device is asked STOP nobody below it is up.
use Rattle.std.proofs.Common.{ℕ, ◌<◌, ◌≡◌, ◌≢◌, ◌⊎◌, ◌==◌, inl, inr, Bool, true, false, not, List, [], ◌∷◌, reverse, Option, Some, None, refl, sym, ap, subst, ◌∙◌, arith, if◌then◌else◌}
use Rattle.std.proofs.lemmas.Bool.{cases_eq}
use Rattle.std.proofs.lemmas.Bool.Decides.{nat_tests}
use Rattle.std.specs.List.{slice_get}
use Rattle.resource_reqs.specs.Resources.{Reqs}
use Rattle.resource_reqs.specs.Spelling.Answer.{assignment, no_fit, spent}
use Rattle.pnp_labels.specs.declared.event.Event.{Event}
use Rattle.pnp_labels.specs.declared.label.Label.{Label}
use Rattle.pnp_labels.specs.declared.label.OpKind.{OpKind}
use Rattle.pnp_labels.specs.declared.states.DevState.{DevState}
use Rattle.pnp_labels.specs.declared.states.DevState.TheVariants.{NoStack, NotStarted, Started, StopPending, Stopped, RemovePending, SurpriseRemoved}
use Rattle.pnp_labels.specs.declared.words.Minor.{Minor}
use Rattle.pnp_model.specs.Cores.{is_node, node_at, serials_of, with_state}
use Rattle.pnp_model.specs.Events.{answer_of, completed}
use Rattle.pnp_model.specs.Frames.{first_node, rest}
use Rattle.pnp_model.specs.Jobs.{JobMove, each_gets, job_of, stands}
use Rattle.pnp_model.specs.Keyed.{changed_first, those}
use Rattle.pnp_model.specs.Rebalances as re
use Rattle.pnp_model.specs.Records.{Core, Course, Found, Job, Node, Settings, Stage, State, Step, Walk, course_of}
use Rattle.pnp_model.specs.Runs.{Entry, Goes}
use Rattle.pnp_model.specs.Runs.Entry.{Happens, Did, Declines}
use Rattle.pnp_model.specs.States.{device_born, with_core}
use Rattle.pnp_model.specs.Tests.{has, is_started}
use Rattle.pnp_model.specs.Trees.{above}
use Rattle.pnp_model.specs.Walks.{state_after}
use Rattle.pnp_model.proofs.Due.{due_is_first}
use Rattle.pnp_laws.specs.Effects.{OpEffect, begun, required}
use Rattle.pnp_laws.specs.Kept.{OperationFits, RebalanceAsks, RebalanceKeeps, asked_in, rebalance_state, stopping_state}
use Rattle.pnp_laws.specs.Reached.{IsReached}
use Rattle.pnp_laws.proofs.Aboves.{above_over, is_above_in}
use Rattle.pnp_laws.proofs.Closures.{those_serial}
use Rattle.pnp_laws.proofs.Due.{above_zero}
use Rattle.pnp_laws.proofs.EffectsOf.{effect_goes}
use Rattle.pnp_laws.proofs.EffectsOfOperations.{begun_work, rebalance_step_is}
use Rattle.pnp_laws.proofs.EventChanges.{Answered, happens_outside}
use Rattle.pnp_laws.proofs.Lists.{HeadIs, has_cases, head_found, head_has, rest_has, rest_within, those_found, those_has, those_keeps}
use Rattle.pnp_laws.proofs.Lookups.{node_from, own_serial, some_same}
use Rattle.pnp_laws.proofs.OpSteps.{has-reverse}
use Rattle.pnp_laws.proofs.Reaching.{kept}
use Rattle.pnp_laws.proofs.RebalanceRuns.{after_core}
use Rattle.pnp_laws.proofs.RunsStand.{Kept, reaches_kept}
use Rattle.pnp_laws.proofs.Stages.{OperationStep, RebalanceAct, RebalanceStep, operation_step, own_step}
use Rattle.pnp_laws.proofs.Standing.{OrderKept, Ordered, StageKept, Tree, kept_by}
use Rattle.pnp_laws.proofs.TreeChanges.{above_same, nodes_kept}
use Rattle.pnp_laws.proofs.Truths.{both_true, not_true}
use Rattle.pnp_promises.proofs.StopOrder.{reached_falls}
use Rattle.pnp_promises.proofs.Hears.{falls}
use Rattle.operation_promises.specs.Below.{IsDown, StoppedAfterAllBelowLaw}

-- Started, below another
pub record Under (nodes : List Node) (k j : ℕ) (m : Node) : Type 0 where
  pub at : node_at j nodes ≡ Some m
  pub below : has (above nodes j) k ≡ true
  pub up : m.state ≡ Started

-- whoever is Started below one of the first is among the others
abbrev Covers : List Node → List ℕ → List ℕ → Type 0
Covers nodes ks todo = (k j : ℕ) (m : Node) → has ks k ≡ true → Under nodes k j m → has todo j ≡ true

abbrev NoneUnder : List Node → List ℕ → Type 0
NoneUnder nodes ks = (k j : ℕ) (m : Node) → has ks k ≡ true → Under nodes k j m → ⊥

-- who is Started below one that is asked or agreed is still to be asked; and while devices are stopped there is nobody such
abbrev pub BelowIn : Job → List Node → Stage → Type 0
BelowIn r nodes Stage.Asking = Covers nodes r.todo r.todo × Covers nodes r.agreed r.todo
BelowIn r nodes Stage.TakingBack = Covers nodes r.todo r.todo × Covers nodes r.agreed r.todo
BelowIn r nodes Stage.Searching = NoneUnder nodes r.agreed
BelowIn r nodes Stage.Stopping = NoneUnder nodes r.agreed
BelowIn r nodes _ = Unit {0}

abbrev NextIn : List Node → Job → Type 0
NextIn nodes p = BelowIn p nodes p.stage

-- What comes next -----------------------------------------------------------------------------------------------

module _ (nodes : List Node) where
  cancels : (r : Job) (ks : List ℕ) → BelowIn (re.cancel_on r ks) nodes (re.cancel_on r ks).stage
  cancels r (k ∷ ks) = tt
  cancels r [] = by_wanted r.wanted
    where
      by_wanted : (wanted : Option Reqs) → BelowIn (stands r [] (re.cancelled wanted)) nodes (re.cancelled wanted)
      by_wanted None = tt
      by_wanted (Some reqs) = tt

  asks : (r : Job) (ks : List ℕ) → Covers nodes ks ks → Covers nodes r.agreed ks → BelowIn (re.ask_on r ks) nodes (re.ask_on r ks).stage
  asks r (k ∷ ks) own agreed = (own, agreed)
  asks r [] own agreed = by_refused (re.has_refused r)
    where
      by_refused : (b : Bool) → NextIn nodes (if b then re.cancel_on r r.agreed else stands r [] Stage.Searching)
      by_refused true = cancels r r.agreed
      by_refused false = λ k j m h under. absurd (let none = agreed k j m h under in cc)

  stops : (r : Job) (ks : List ℕ) → NoneUnder nodes r.agreed → BelowIn (re.stop_on r ks) nodes (re.stop_on r ks).stage
  stops r [] none = tt
  stops r (k ∷ ks) none = none

  restarts : (c : List Node) (r : Job) (ks : List ℕ) → BelowIn (re.restart_on c r ks) nodes (re.restart_on c r ks).stage
  restarts c r ks = by_list (re.startable c ks)
    where
      by_list : (js : List ℕ) → BelowIn (each_gets Minor.Start Stage.Restarting r js (stands r [] Stage.Ending)) nodes (each_gets Minor.Start Stage.Restarting r js (stands r [] Stage.Ending)).stage
      by_list [] = tt
      by_list (j ∷ js) = tt

-- One step of a rebalance ------------------------------------------------------------------------------------------

module _ (s : State) (good : Kept s) (o : Job) (course : course_of o.kind ≡ Course.Rebalancing) (keeps : RebalanceKeeps o o.stage s.core.nodes) (order : OrderKept o o.stage) (before : BelowIn o s.core.nodes o.stage) where
  tree : Tree s.next_serial s.core
  tree = good.stands.tree

  abbrev Next : JobMove → Type 0
  Next m = BelowIn m.frame m.core.nodes m.frame.stage

  module _ (node : Node) (first : first_node s.core.nodes o.todo ≡ Some node) where
    head : HeadIs node.serial o.todo
    head = (head_found s.core.nodes o.todo node first).0

    there : node_at node.serial s.core.nodes ≡ Some node
    there = (head_found s.core.nodes o.todo node first).1

    -- who is Started below another afterwards is the device itself, or was so before
    was_under : (x : DevState) (k j : ℕ) (m : Node) → Under (changed_first (is_node node.serial) (with_state x) s.core.nodes) k j m → ((node.serial ≡ j) × (x ≡ Started)) ⊎ ((node.serial ≢ j) × Under s.core.nodes k j m)
    was_under x k j m under =
        elim (node_from node.serial j (with_state x) s.core.nodes m (λ y. refl) under.at) [
          | inl (e, (n, q, r)) ↦ inl (e, sym (ap (λ (y : Node). y.state) r) ∙ under.up)
          | inr (d, q) ↦
              let same = above_same s.core.nodes (changed_first (is_node node.serial) (with_state x) s.core.nodes) (nodes_kept s.core.nodes (changed_first (is_node node.serial) (with_state x) s.core.nodes) node.serial (with_state x) refl (λ y. refl) (λ y. refl)) j in
              inr (d, record { at = q; below = subst (λ (ks : List ℕ). has ks k ≡ true) same under.below; up = under.up })
        ]

    -- below itself
    was_below : (x : DevState) (k : ℕ) (m : Node) → Under (changed_first (is_node node.serial) (with_state x) s.core.nodes) k node.serial m → has (above s.core.nodes node.serial) k ≡ true
    was_below x k m under =
        subst (λ (ks : List ℕ). has ks k ≡ true) (above_same s.core.nodes (changed_first (is_node node.serial) (with_state x) s.core.nodes) (nodes_kept s.core.nodes (changed_first (is_node node.serial) (with_state x) s.core.nodes) node.serial (with_state x) refl (λ y. refl) (λ y. refl)) node.serial) under.below

    -- it agreed: who is left has it no more
    agreed_covers : (ks : List ℕ) → Covers s.core.nodes ks o.todo → Covers (changed_first (is_node node.serial) (with_state StopPending) s.core.nodes) ks (rest o.todo)
    agreed_covers ks old k j m h under =
        elim (was_under StopPending k j m under) [
          | inl (e, x) ↦ absurd (cc)
          | inr (d, was) ↦ rest_has node.serial j o.todo head d ∙ old k j m h was
        ]

  refused_covers : (node : Node) (first : first_node s.core.nodes o.todo ≡ Some node) (ks : List ℕ) (x : DevState) → Covers s.core.nodes ks o.todo → Covers (changed_first (is_node node.serial) (with_state x) s.core.nodes) ks o.todo
  refused_covers node first ks x old k j m h under =
      elim (was_under node first x k j m under) [
        | inl (e, up) ↦ subst (λ (i : ℕ). has o.todo i ≡ true) e (head_has node.serial o.todo (head node first))
        | inr (d, was) ↦ old k j m h was
      ]

  -- it was taken back: who stands above it is asked no more
  back_covers : (node : Node) (first : first_node s.core.nodes o.todo ≡ Some node) (ks : List ℕ) → ((k : ℕ) → has ks k ≡ true → has (above s.core.nodes node.serial) k ≡ true → ⊥) → Covers s.core.nodes ks o.todo
      → Covers (changed_first (is_node node.serial) (with_state Started) s.core.nodes) ks (those (re.is_not_above s.core.nodes node.serial) (rest o.todo))
  back_covers node first ks apart old k j m h under =
      elim (was_under node first Started k j m under) [
        | inl (e, up) ↦ absurd (apart k h (was_below node first Started k m (subst (λ (i : ℕ). Under (changed_first (is_node node.serial) (with_state Started) s.core.nodes) k i m) (sym e) under)))
        | inr (d, was) ↦ those_keeps (re.is_not_above s.core.nodes node.serial) (rest o.todo) j (rest_has node.serial j o.todo (head node first) d ∙ old k j m h was) (not_above (has (above s.core.nodes node.serial) j) refl was)
      ]
    where
      not_above : (b : Bool) → has (above s.core.nodes node.serial) j ≡ b → Under s.core.nodes k j m → not b ≡ true
      not_above false e was = refl
      not_above true e was =
          absurd (apart k h (above_over node.serial s.core node.serial j k node tree.root tree.rooted (there node first) (not_root (keeps.rootless)) (omega arith) e (Rattle.pnp_laws.proofs.Lists.cons_there j (above s.core.nodes j) k was.below)))
        where
          not_root : has o.todo 0 ≡ false → node.serial ≢ 0
          not_root none z = let here = subst (λ (i : ℕ). has o.todo i ≡ true) z (head_has node.serial o.todo (head node first)) in cc

  act : (stage : Stage) (m : JobMove) → o.stage ≡ stage → RebalanceAct s.core o stage m → Next m
  act _ _ at (RebalanceAct.searches found budget answer) = by_found found
    where
      none : NoneUnder s.core.nodes o.agreed
      none = subst (λ (x : Stage). BelowIn o s.core.nodes x) at before

      by_found : (found : Found) → Next (re.searched s.core o found)
      by_found (assignment plan) = stops s.core.nodes (record o { found = assignment plan }) (reverse o.agreed) none
      by_found no_fit = cancels s.core.nodes (record o { found = no_fit }) o.agreed
      by_found spent = cancels s.core.nodes (record o { found = spent }) o.agreed
  act _ _ at RebalanceAct.sticks = tt
  act _ m at RebalanceAct.commits = restarts m.core.nodes s.core.nodes o o.agreed
  act _ m at (RebalanceAct.failed node first) = restarts m.core.nodes s.core.nodes o (rest o.todo)
  act _ _ at RebalanceAct.closes = subst (λ (x : Stage). BelowIn o s.core.nodes x) (sym at) tt

  rebalance_below : (stage : Stage) (m : JobMove) → o.stage ≡ stage → RebalanceStep s.core o stage m → Next m
  rebalance_below _ m at (RebalanceStep.agrees node w e fine) =
      let old = subst (λ (x : Stage). BelowIn o s.core.nodes x) at before in
      asks m.core.nodes (record o { agreed = node.serial ∷ o.agreed }) (rest o.todo)
      (λ k j n h under. agreed_covers node e.first o.todo old.0 k j n (rest_within k o.todo h) under)
      (λ k j n h under.
      elim (has_cases node.serial k o.agreed h) [
        | inl own ↦ agreed_covers node e.first o.todo old.0 k j n (subst (λ (i : ℕ). has o.todo i ≡ true) own (head_has node.serial o.todo (head node e.first))) under
        | inr more ↦ agreed_covers node e.first o.agreed old.1 k j n more under
      ])
  rebalance_below _ m at (RebalanceStep.refuses node w e bad) =
      let old = subst (λ (x : Stage). BelowIn o s.core.nodes x) at before in
      (refused_covers node e.first o.todo (state_after Minor.QueryStop true node.state) old.0, refused_covers node e.first o.agreed (state_after Minor.QueryStop true node.state) old.1)
  rebalance_below _ m at (RebalanceStep.takes_back node w e) =
      let old = subst (λ (x : Stage). BelowIn o s.core.nodes x) at before in
      let ks = those (re.is_not_above s.core.nodes node.serial) (rest o.todo) in
      asks m.core.nodes o ks
      (λ k j n h under. back_covers node e.first ks (λ i has_i high. let test = not_true (has (above s.core.nodes node.serial) i) (those_has (re.is_not_above s.core.nodes node.serial) (rest o.todo) i has_i).1 in cc) (λ a b c q u. old.0 a b c (rest_within a o.todo (those_has (re.is_not_above s.core.nodes node.serial) (rest o.todo) a q).0) u) k j n h under)
      (back_covers node e.first o.agreed (λ i has_i high. above_agreed i has_i high) old.1)
    where
      ordered : Ordered o.todo o.agreed
      ordered = subst (λ (x : Stage). OrderKept o x) at order

      above_agreed : (i : ℕ) → has o.agreed i ≡ true → has (above s.core.nodes node.serial) i ≡ true → ⊥
      above_agreed i agreed high =
          let here = head_has node.serial o.todo (head node e.first) in
          let low = ordered.over node.serial i here agreed in
          let under = (is_above_in node.serial s.core node.serial i node tree.root tree.rooted (there node e.first) (λ z. let h = subst (λ (x : ℕ). has o.todo x ≡ true) z here in let none = keeps.rootless in cc) high).lower in
          omega arith
  rebalance_below _ m at (RebalanceStep.cancels node w e) = cancels m.core.nodes o (rest o.todo)
  rebalance_below _ m at (RebalanceStep.stops node w e) =
      let old = subst (λ (x : Stage). BelowIn o s.core.nodes x) at before in
      stops m.core.nodes o (rest o.todo)
      (λ k j n h under. elim (was_under node e.first Stopped k j n under) [ inl (own, x) ↦ absurd (cc) | inr (d, was) ↦ old k j n h was ])
  rebalance_below _ m at (RebalanceStep.restarts node w e fine) = restarts m.core.nodes (Rattle.pnp_model.specs.Frames.ended s.core node Minor.Start false).nodes o (rest o.todo)
  rebalance_below _ m at (RebalanceStep.fails node w e bad) = tt
  rebalance_below _ m at (RebalanceStep.acts stage _ x) = act stage m at x

-- Each step ------------------------------------------------------------------------------------------------------------

abbrev AllBelow : State → Type 0
AllBelow s = (p : Job) → s.operation ≡ Some p → course_of p.kind ≡ Course.Rebalancing → BelowIn p s.core.nodes p.stage

-- where one begins all that are Started are to be asked
begun_below : (s : State) (good : Kept s) (kind : OpKind) (node : Node) → course_of kind ≡ Course.Rebalancing → BelowIn (begun s kind node) s.core.nodes (begun s kind node).stage
begun_below s good kind node course = by_kind kind course
  where
    all_asked : Covers s.core.nodes (reverse (serials_of (those re.is_asked s.core.nodes))) (reverse (serials_of (those re.is_asked s.core.nodes)))
    all_asked k j m h under =
        has-reverse (serials_of (those re.is_asked s.core.nodes)) j
        ∙ those_serial 0 re.is_asked s.core.nodes j m good.good.serials under.at (both_true (is_started m.state) _ (ap is_started under.up) (not_root (cases_eq j 0)))
      where
        own : m.serial ≡ j
        own = own_serial j m s.core.nodes under.at

        asked_k : (x : Node) × (node_at k s.core.nodes ≡ Some x) × (re.is_asked x ≡ true)
        asked_k = those_found 0 re.is_asked s.core.nodes k good.good.serials (sym (has-reverse (serials_of (those re.is_asked s.core.nodes)) k) ∙ h)

        not_root : (j ≡ 0) ⊎ (j ≢ 0) → not (m.serial == 0) ≡ true
        not_root (inr d) = let is = own in grind (arith, nat_tests)
        not_root (inl z) =
            absurd (let zero_is = above_zero j s.core.nodes k good.stands.tree.root (subst (λ (i : ℕ). has (Rattle.pnp_model.specs.Trees.above_in j s.core.nodes i) k ≡ true) z under.below) in
            let up = (Rattle.pnp_laws.proofs.RebalanceSteps.asked_up asked_k.0 asked_k.2).1 in let at_k = own_serial k asked_k.0 s.core.nodes asked_k.1 in up (at_k ∙ sym zero_is))

    by_kind : (own : OpKind) → course_of own ≡ Course.Rebalancing → BelowIn (begun s own node) s.core.nodes (begun s own node).stage
    by_kind OpKind.Rebalance e = asks s.core.nodes (record (job_of OpKind.Rebalance node) { wanted = None }) (reverse (serials_of (those re.is_asked s.core.nodes))) all_asked (λ k j m h under. absurd (cc))
    by_kind OpKind.Change e = asks s.core.nodes (record (job_of OpKind.Change node) { wanted = Some (required s node (device_born node.born s.world)) }) (reverse (serials_of (those re.is_asked s.core.nodes))) all_asked (λ k j m h under. absurd (cc))
    by_kind OpKind.Disable e = absurd (cc)
    by_kind OpKind.Eject e = absurd (cc)
    by_kind OpKind.Surprise e = absurd (cc)
    by_kind OpKind.Finish e = absurd (cc)

module _ (settings : Settings) (s : State) (good : Kept s) (before : AllBelow s) where
  did : (label : Label) (t : State) → Goes settings s (Did label) t → OpEffect s label t → AllBelow t
  did label t goes (OpEffect.idles none after prints) p e course = absurd (cc)
  did label t goes (OpEffect.begins kind node none alone at why same) p e course =
      let op : Some (begun s kind node) ≡ Some p = sym (ap (λ (x : Step). x.state.operation) same) ∙ e in
      let own : begun s kind node ≡ p = cc in
      let core : t.core ≡ s.core = ap (λ (x : Step). x.state.core) same in
      let is : course_of kind ≡ Course.Rebalancing = ap course_of (sym (begun_work s kind node).0) ∙ ap (λ (x : Job). course_of x.kind) own ∙ course in
      subst (λ (c : Core). BelowIn p c.nodes p.stage) (sym core) (subst (λ (x : Job). BelowIn x s.core.nodes x.stage) own (begun_below s good kind node is))
  did label t goes (OpEffect.goes o q runs after work prints) p e course =
      let same = some_same t.operation q p after e in
      let old : course_of o.kind ≡ Course.Rebalancing = ap course_of (sym work.kind) ∙ ap (λ (x : Job). course_of x.kind) same ∙ course in
      let step : Step = record { label = label; state = t } in
      let fits = subst (λ (x : Option Job). OperationFits x s.core.nodes) runs good.good.fits in
      by_step o runs old (subst (λ (c : Course). Rattle.pnp_laws.specs.Kept.JobFits c o s.core.nodes) old fits) (kept_by Course.Rebalancing o s.core old (subst (λ (x : Option Job). StageKept x s.core) runs good.stands.stage)).0 step (own_step s o step fits (rebalance_step_is s o step old (operation_step settings s o step runs goes))) p e
    where
      by_step : (o : Job) → s.operation ≡ Some o → (old : course_of o.kind ≡ Course.Rebalancing) → RebalanceKeeps o o.stage s.core.nodes → OrderKept o o.stage → (step : Step) → OperationStep s o step → (p : Job) → step.state.operation ≡ Some p → BelowIn p step.state.core.nodes p.stage
      by_step o runs old keeps order _ (OperationStep.asks node w a) p e =
          let same : record o { walk = Some (Rattle.pnp_model.specs.Frames.asked s.core node w).walk } ≡ p = cc in
          subst (λ (x : Job). BelowIn x s.core.nodes x.stage) same (walked o.stage (before o runs old))
        where
          walked : (stage : Stage) → BelowIn o s.core.nodes stage → BelowIn (record o { walk = Some (Rattle.pnp_model.specs.Frames.asked s.core node w).walk }) s.core.nodes stage
          walked Stage.Asking h = h
          walked Stage.TakingBack h = h
          walked Stage.Searching h = h
          walked Stage.Stopping h = h
          walked _ h = tt
      by_step o runs old keeps order _ (OperationStep.rebalances stage m own at x) p e =
          let same : m.frame ≡ p = Rattle.pnp_promises.proofs.Excuses.after_frame m.frame m.beside (with_core m.core s) p e in
          subst (λ (c : Core). BelowIn p c.nodes p.stage) (sym (after_core m.frame m.beside m.core s)) (subst (λ (y : Job). BelowIn y m.core.nodes y.stage) same (rebalance_below s good o old keeps order (before o runs old) stage m at x))
      by_step o runs old keeps order _ (OperationStep.removes stage m own at x) p e = absurd (cc)
      by_step o runs old keeps order _ (OperationStep.surprises stage m own at x) p e = absurd (cc)
      by_step o runs old keeps order _ (OperationStep.finishes stage m own at x) p e = absurd (cc)
  did label t goes (OpEffect.ends o result runs after prints by closes) p e course = absurd (cc)

  happens : (event : Event) (label : Label) (t : State) → Goes settings s (Happens event label) t → AllBelow t
  happens event label t goes p e course =
      let out = happens_outside s event in
      let nodes : t.core.nodes ≡ s.core.nodes = subst (λ (x : Step). x.state.core.nodes ≡ s.core.nodes) goes.1 out.nodes in
      subst (λ (x : List Node). BelowIn p x p.stage) (sym nodes)
      (elim (subst (λ (x : Step). Answered s.operation x.state.operation) goes.1 out.operation) [
        | inl same ↦ before p (sym same ∙ e) course
        | inr (ok, o, ran, now) ↦
            let own : completed (answer_of ok) o ≡ p = some_same t.operation (completed (answer_of ok) o) p now e in
            subst (λ (x : Job). BelowIn x s.core.nodes x.stage) own (answered ok o o.stage (before o ran (ap (λ (x : Job). course_of x.kind) own ∙ course)))
      ])
    where
      answered : (ok : Bool) (o : Job) (stage : Stage) → BelowIn o s.core.nodes stage → BelowIn (completed (answer_of ok) o) s.core.nodes stage
      answered ok o Stage.Asking h = h
      answered ok o Stage.TakingBack h = h
      answered ok o Stage.Searching h = h
      answered ok o Stage.Stopping h = h
      answered ok o _ h = tt

  goes_below : (entry : Entry) (t : State) → Goes settings s entry t → AllBelow t
  goes_below (Happens event label) t goes = happens event label t goes
  goes_below (Did label) t goes = did label t goes (effect_goes settings s (Did label) t goes).operation
  goes_below (Declines label) t goes = λ p e course. absurd (let none = ap (λ (x : State). x.operation) goes.dropped ∙ (due_is_first s goes.first goes.is_due).idle in cc)

reached_below : (settings : Settings) (rack : List Rattle.pnp_model.specs.Records.Driver) (s : State) → IsReached settings rack s → AllBelow s
reached_below settings rack = kept AllBelow settings rack (λ old entry new reached h goes. goes_below settings old (reaches_kept settings rack reached.0 old reached.1) h entry new goes) (λ p e course. absurd (cc))

-- Where STOP is asked -----------------------------------------------------------------------------------------------------

stop_at : (course : Course) (stage : Stage) → asked_in course stage ≡ Some Minor.Stop → (course ≡ Course.Rebalancing) × (stage ≡ Stage.Stopping)
stop_at Course.Rebalancing Stage.Stopping e = (refl, refl)
stop_at Course.Rebalancing Stage.Asking e = absurd (cc)
stop_at Course.Rebalancing Stage.TakingBack e = absurd (cc)
stop_at Course.Rebalancing Stage.Cancelling e = absurd (cc)
stop_at Course.Rebalancing Stage.Restarting e = absurd (cc)
stop_at Course.Rebalancing _ e = absurd (cc)
stop_at Course.Removing Stage.Asking e = absurd (cc)
stop_at Course.Removing Stage.TakingBack e = absurd (cc)
stop_at Course.Removing Stage.Cancelling e = absurd (cc)
stop_at Course.Removing Stage.Removing e = absurd (cc)
stop_at Course.Removing _ e = absurd (cc)
stop_at Course.Surprising Stage.Telling e = absurd (cc)
stop_at Course.Surprising Stage.Removing e = absurd (cc)
stop_at Course.Surprising _ e = absurd (cc)
stop_at Course.Finishing Stage.Removing e = absurd (cc)
stop_at Course.Finishing _ e = absurd (cc)

-- a device that waits to be stopped is still to be stopped
pending_to_do : (todo agreed : List ℕ) (j : ℕ) → stopping_state todo agreed j StopPending ≡ true → has todo j ≡ true
pending_to_do todo agreed j h = by_test (has todo j) (has agreed j) refl h
  where
    by_test : (a b : Bool) → has todo j ≡ a → (if a then true else (if b then false else false)) ≡ true → a ≡ true
    by_test true b e g = refl
    by_test false true e g = absurd (cc)
    by_test false false e g = absurd (cc)

none_pending : (todo agreed : List ℕ) (j : ℕ) → stopping_state todo agreed j RemovePending ≡ true → ⊥
none_pending todo agreed j h = by_test (has todo j) (has agreed j) h
  where
    by_test : (a b : Bool) → (if a then false else (if b then false else false)) ≡ true → ⊥
    by_test true b g = cc
    by_test false true g = cc
    by_test false false g = cc

front : (k : ℕ) (todo : List ℕ) → slice_get todo 0 ≡ Some k → HeadIs k todo
front k [] first = absurd (cc)
front k (i ∷ is) first = cc

pub stopped_after_all_below : StoppedAfterAllBelowLaw
stopped_after_all_below settings rack entries s k w j m run asked is at below = by_state m.state refl
  where
    good : Kept s
    good = reaches_kept settings rack entries s run

    fits : OperationFits (Some asked.operation) s.core.nodes
    fits = subst (λ (x : Option Job). OperationFits x s.core.nodes) asked.runs good.good.fits

    place : (course_of asked.operation.kind ≡ Course.Rebalancing) × (asked.operation.stage ≡ Stage.Stopping)
    place =
        stop_at (course_of asked.operation.kind) asked.operation.stage
        (sym (Rattle.operation_promises.proofs.Removed.own_minor (course_of asked.operation.kind) asked.operation s.core.nodes fits) ∙ ap (Rattle.std.specs.Option.option_map (λ (v : Walk). v.minor)) asked.walk ∙ ap Some is)

    keeps : RebalanceKeeps asked.operation asked.operation.stage s.core.nodes
    keeps = subst (λ (c : Course). Rattle.pnp_laws.specs.Kept.JobFits c asked.operation s.core.nodes) place.0 fits

    in_todo : has asked.operation.todo k ≡ true
    in_todo = head_has k asked.operation.todo (front k asked.operation.todo asked.first)

    agreed : has asked.operation.agreed k ≡ true
    agreed = subst (λ (x : Stage). RebalanceAsks asked.operation x) place.1 keeps.asks k in_todo

    state : stopping_state asked.operation.todo asked.operation.agreed j m.state ≡ true
    state = subst (λ (x : Stage). rebalance_state asked.operation x j m.state ≡ true) place.1 (keeps.each j m at)

    none : NoneUnder s.core.nodes asked.operation.agreed
    none = subst (λ (x : Stage). BelowIn asked.operation s.core.nodes x) place.1 (reached_below settings rack s (entries, run) asked.operation asked.runs place.0)

    not_root : j ≢ 0
    not_root z =
        let zero_is = above_zero j s.core.nodes k good.stands.tree.root (subst (λ (i : ℕ). has (Rattle.pnp_model.specs.Trees.above_in j s.core.nodes i) k ≡ true) z below) in
        let here = subst (λ (i : ℕ). has asked.operation.todo i ≡ true) (sym zero_is) in_todo in let rootless = keeps.rootless in cc

    lower : k < j
    lower = (is_above_in j s.core j k m good.stands.tree.root good.stands.tree.rooted at not_root below).lower

    by_state : (x : DevState) → m.state ≡ x → IsDown m.state
    by_state x e = subst IsDown (sym e) (down x e)
      where
        down : (x : DevState) → m.state ≡ x → IsDown x
        down Started e = none k j m agreed (record { at = at; below = below; up = e })
        down StopPending e =
            let to_do = pending_to_do asked.operation.todo asked.operation.agreed j (subst (λ (y : DevState). stopping_state asked.operation.todo asked.operation.agreed j y ≡ true) e state) in
            let after = rest_has k j asked.operation.todo (front k asked.operation.todo asked.first) (λ same. let z = lower in omega arith) ∙ to_do in
            let high = falls k asked.operation.todo asked.first (reached_falls settings rack s (entries, run) asked.operation asked.runs place.1) j after in
            let low = lower in
            omega arith
        down RemovePending e = none_pending asked.operation.todo asked.operation.agreed j (subst (λ (y : DevState). stopping_state asked.operation.todo asked.operation.agreed j y ≡ true) e state)
        down NoStack e = tt
        down NotStarted e = tt
        down Stopped e = tt
        down SurpriseRemoved e = tt
