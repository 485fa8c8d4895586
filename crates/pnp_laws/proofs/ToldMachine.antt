-- Each step of the machine and each event keeps that what hangs on a device that waits to be finished waits as well.
use Rattle.std.proofs.Common.{ℕ, ◌≡◌, ◌≢◌, ◌∙◌, Bool, true, false, List, [], ◌∷◌, ◌++◌, Option, Some, None, refl, sym, ap, subst, map, reverse}
use Rattle.device_ids.specs.Folding.{same}
use Rattle.pnp_labels.specs.declared.words.Minor.{Minor}
use Rattle.pnp_labels.specs.declared.states.DevState.{DevState}
use Rattle.pnp_labels.specs.declared.states.DevState.TheVariants.{NotStarted, SurpriseRemoved}
use Rattle.pnp_labels.specs.declared.label.Label.{Label}
use Rattle.pnp_labels.specs.declared.label.OpKind.{OpKind}
use Rattle.pnp_model.specs.Cores.{change_node, node_at, strip, with_stack, with_state, stacked}
use Rattle.pnp_model.specs.Handles.{was_told}
use Rattle.pnp_model.specs.Keyed.{those}
use Rattle.pnp_model.specs.Records.{Core, Node, Phase, State, Step, Walk, Job, Stage, course_of, Course, Relation}
use Rattle.pnp_model.specs.States.{set_operation, relist, unplug, with_core, new_child}
use Rattle.pnp_model.specs.Tests.{has}
use Rattle.pnp_model.specs.Trees.{hangs_on, leaving}
use Rattle.pnp_model.specs.Frames.{asked, ended, rest}
use Rattle.pnp_model.specs.Walks.{state_after}
use Rattle.pnp_laws.specs.Effects.{Alters, AnswerEffect, NodeEffect, OpEffect, Request, begun}
use Rattle.pnp_laws.specs.Kept.{Good, IsGood, RebalanceKeeps, RemovalKeeps, SurpriseKeeps, is_idle}
use Rattle.pnp_laws.specs.Words.{IsWord}
use Rattle.pnp_laws.proofs.EffectViews.{acting_fits}
use Rattle.pnp_laws.proofs.EventChanges.{relations_stay}
use Rattle.pnp_laws.proofs.Finishing.{relist_only}
use Rattle.pnp_laws.proofs.Lists.{those_keeps}
use Rattle.pnp_laws.proofs.Lookups.{node_found, some_same}
use Rattle.pnp_laws.proofs.OpSteps.{is_Started}
use Rattle.pnp_laws.proofs.Ranks.{edges_changed}
use Rattle.pnp_laws.proofs.Stages.{OperationStep, RebalanceAct, RebalanceStep, asking}
use Rattle.pnp_laws.proofs.Standing.{FinishOrder, FinishTold, HandlesFit, NoneTold, RemovalTold, SurpriseOrder, SurpriseTold, StageKept, Told, ToldBut, ToldIn, ToldKept, Tree, JobTold, kept_by, told_keep, told_by, told_walked_on}
use Rattle.pnp_laws.proofs.StartSteps.{stacked_idle}
use Rattle.pnp_laws.proofs.ToldSteps.{after, told_ask_on, told_finish, told_rebalance, told_removal, told_surprise, told_tell_on}
use Rattle.pnp_laws.proofs.Tolds.{kept_states, still_states, told_begun, told_changed, told_fades, told_from, told_joined, told_other_stripped, told_related, told_still}
use Rattle.pnp_laws.proofs.TreeChanges.{edges_same, same_still}
use Rattle.pnp_laws.proofs.Truths.{untrue}
use Rattle.pnp_model.specs.Events as ev
use Rattle.pnp_model.specs.Machine as ma
use Rattle.pnp_model.specs.Rebalances as re
use Rattle.pnp_laws.proofs.EffectsOfOperations.{begun_work, re_ask_on, re_cancel_on, re_restart, re_stop_on}
use Rattle.resource_reqs.specs.Spelling.Answer.{assignment, no_fit, spent}
use Rattle.pnp_model.specs.Removals as rm
use Rattle.pnp_model.specs.Surprises as su
use Rattle.pnp_model.specs.Jobs.{JobMove, Beside, job_of}
use Rattle.pnp_laws.proofs.FitsBy.{fits_by}

-- Nodes and relations stay ----------------------------------------------------------------------

module _ (c d : Core) (nodes : d.nodes ≡ c.nodes) (relations : d.relations ≡ c.relations) where
  still_at : (k : ℕ) (n : Node) → node_at k d.nodes ≡ Some n → node_at k c.nodes ≡ Some n
  still_at k n at = subst (λ (x : List Node). node_at k x ≡ Some n) nodes at

  still_but : (j : ℕ) → ToldBut j c → ToldBut j d
  still_but j but k n at state i m there other on =
      let old = edges_same c d (same_still c d nodes relations) k i m there on in
      let same = some_same (node_at i c.nodes) old.0 m old.1 (still_at i m there) in
      but k n (still_at k n at) state i m (still_at i m there) other (subst (λ (x : Node). hangs_on c (k ∷ []) x ≡ true) same old.2)

  still_in : (set told behind : List ℕ) → ToldIn c set told behind → ToldIn d set told behind
  still_in set told behind h = told_from c d set told behind (edges_same c d (same_still c d nodes relations)) (still_states c d nodes) h

  still_none : (ks : List ℕ) → NoneTold ks c.nodes → NoneTold ks d.nodes
  still_none ks h k n in_todo at = h k n in_todo (still_at k n at)

  same_removal : (o : Job) (stage : Stage) → RemovalTold c o stage → RemovalTold d o stage
  same_removal o Stage.Removing h = (told_still c d nodes relations h.0, still_none o.todo h.1)
  same_removal o Stage.Settling h = (told_still c d nodes relations h.0, still_none o.todo h.1)
  same_removal o _ h = told_still c d nodes relations h

  same_surprise : (o : Job) (stage : Stage) → SurpriseTold c o stage → SurpriseTold d o stage
  same_surprise o Stage.Telling h = (h.0, still_in o.set o.told [] h.1)
  same_surprise o Stage.Removing h = (h.0, still_in o.set o.told o.behind h.1)
  same_surprise o _ h = still_in o.set o.told o.behind h

  same_finish : (f : Job) (stage : Stage) → FinishTold c f stage → FinishTold d f stage
  same_finish f Stage.Leaving h = λ k head. still_but k (h k head)
  same_finish f _ h = told_still c d nodes relations h

  same_told : (course : Course) (o : Job) → JobTold course o c → JobTold course o d
  same_told Course.Rebalancing r h = told_still c d nodes relations h
  same_told Course.Removing o h = same_removal o o.stage h
  same_told Course.Surprising o h = same_surprise o o.stage h
  same_told Course.Finishing f h = same_finish f f.stage h

  pub told_same : (o : Option Job) → ToldKept o c → ToldKept o d
  told_same None h = told_still c d nodes relations h
  told_same (Some o) h = same_told (course_of o.kind) o h

-- An operation goes on -----------------------------------------------------------------------------

-- what holds of the operation and the core after a move holds of the state after its step
pub lifted : (P : Option Job → Core → Type 0) (o : Job) (beside : Beside) (u : State) → P (after o beside) u.core → P (ma.after_job o beside u).operation (ma.after_job o beside u).core
lifted P o Beside.On u h = h
lifted P o (Beside.Left path born) u h = let only = relist_only path born (set_operation (Some o) u) in subst (λ (x : Option Job). P x (relist path born (set_operation (Some o) u)).core) (sym only.operation) (subst (λ (x : Core). P (Some o) x) (sym only.core) h)
lifted P o (Beside.Disabled path) u h = h
lifted P o (Beside.Ejected path born) u h =
    let only = relist_only path born (unplug born (set_operation (Some o) u)) in
    subst (λ (x : Option Job). P x (relist path born (unplug born (set_operation (Some o) u))).core) (sym only.operation) (subst (λ (x : Core). P (Some o) x) (sym only.core) h)
lifted P o (Beside.FailedRestart k) u h = h
lifted P o Beside.Over u h = h
lifted P o Beside.OverStart u h = h
lifted P o Beside.OverUndo u h = h

-- a step of a rebalance keeps its kind
pub step_kind : (c : Core) (r : Job) (stage : Stage) (m : JobMove) → RebalanceStep c r stage m → m.frame.kind ≡ r.kind
step_kind c r _ _ (RebalanceStep.agrees node w e ok) = (re_ask_on (record r { agreed = node.serial ∷ r.agreed }) (rest r.todo)).work.kind
step_kind c r _ _ (RebalanceStep.refuses node w e bad) = refl
step_kind c r _ _ (RebalanceStep.takes_back node w e) = (re_ask_on r (those (re.is_not_above c.nodes node.serial) (rest r.todo))).work.kind
step_kind c r _ _ (RebalanceStep.cancels node w e) = (re_cancel_on r (rest r.todo)).work.kind
step_kind c r _ _ (RebalanceStep.stops node w e) = (re_stop_on r (rest r.todo)).work.kind
step_kind c r _ _ (RebalanceStep.restarts node w e ok) = (re_restart r (re.startable (ended c node Minor.Start false).nodes (rest r.todo))).work.kind
step_kind c r _ _ (RebalanceStep.fails node w e bad) = refl
step_kind c r _ _ (RebalanceStep.acts _ _ (RebalanceAct.searches (assignment plan) budget answer)) = (re_stop_on (record r { found = assignment plan }) (reverse r.agreed)).work.kind
step_kind c r _ _ (RebalanceStep.acts _ _ (RebalanceAct.searches no_fit budget answer)) = (re_cancel_on (record r { found = no_fit }) r.agreed).work.kind
step_kind c r _ _ (RebalanceStep.acts _ _ (RebalanceAct.searches spent budget answer)) = (re_cancel_on (record r { found = spent }) r.agreed).work.kind
step_kind c r _ _ (RebalanceStep.acts _ _ RebalanceAct.sticks) = refl
step_kind c r _ _ (RebalanceStep.acts _ _ RebalanceAct.commits) = (re_restart r (re.startable c.nodes r.agreed)).work.kind
step_kind c r _ _ (RebalanceStep.acts _ _ (RebalanceAct.failed node first)) = (re_restart r (re.startable c.nodes (rest r.todo))).work.kind
step_kind c r _ _ (RebalanceStep.acts _ _ RebalanceAct.closes) = refl

-- a rebalance is as outside operations
told_after : (r : Job) (beside : Beside) (c : Core) → course_of r.kind ≡ Course.Rebalancing → Told c → ToldKept (after r beside) c
told_after r Beside.Over c course h = h
told_after r Beside.OverStart c course h = h
told_after r Beside.OverUndo c course h = h
told_after r _ c course h = told_keep Course.Rebalancing r c course h

pub told_operation : (s : State) (o : Job) (step : Step) → Good s.next_serial s.core.nodes s.activities (Some o) → Tree s.next_serial s.core → StageKept (Some o) s.core → HandlesFit s.handles s.core.nodes → ToldKept (Some o) s.core → OperationStep s o step → ToldKept step.state.operation step.state.core
told_operation s o step good tree kept held told is = by_step step is
  where
    by_step : (x : Step) → OperationStep s o x → ToldKept x.state.operation x.state.core
    by_step _ (OperationStep.asks node w asks) = told_same s.core (asking s o node w).state.core refl refl (Some (record o { walk = Some (asked s.core node w).walk })) (told_walked_on o (Some (asked s.core node w).walk) s.core told)
    by_step _ (OperationStep.rebalances stage m course is x) =
        let keeps = subst (λ (y : Stage). RebalanceKeeps o y s.core.nodes) is (fits_by Course.Rebalancing o s.core.nodes course good.fits) in
        lifted ToldKept m.frame m.beside (with_core m.core s)
        (told_after m.frame m.beside m.core (ap course_of (step_kind s.core o stage m x) ∙ course) (told_rebalance s.core o (told_by Course.Rebalancing o s.core course told) stage m keeps x))
    by_step _ (OperationStep.removes stage m course is x) =
        lifted ToldKept m.frame m.beside (with_core m.core s)
        (told_removal s.core o course stage m good.serials (subst (λ (y : Stage). RemovalKeeps o y s.core.nodes) is (fits_by Course.Removing o s.core.nodes course good.fits)) (subst (λ (y : Stage). RemovalTold s.core o y) is (told_by Course.Removing o s.core course told)) x)
    by_step _ (OperationStep.surprises stage m course is x) =
        lifted ToldKept m.frame m.beside (with_core m.core s)
        (told_surprise s.next_serial s.core o course tree good.serials (ma.is_back s o Course.Surprising) s.handles stage m held (subst (λ (y : Stage). SurpriseKeeps o y s.core.nodes) is (fits_by Course.Surprising o s.core.nodes course good.fits))
        (subst (λ (y : Stage). SurpriseOrder s.core o y) is (kept_by Course.Surprising o s.core course kept).0) (subst (λ (y : Stage). SurpriseTold s.core o y) is (told_by Course.Surprising o s.core course told)) x)
    by_step _ (OperationStep.finishes stage m course is x) =
        lifted ToldKept m.frame m.beside (with_core m.core s)
        (told_finish s.next_serial s.core o course tree good.serials (ma.is_back s o Course.Finishing) s.handles stage m (subst (λ (y : Stage). FinishOrder s.core o y) is (kept_by Course.Finishing o s.core course kept).0)
        (subst (λ (y : Stage). FinishTold s.core o y) is (told_by Course.Finishing o s.core course told)) x)

-- No operation runs -----------------------------------------------------------------------------------

idle_told : (x : DevState) → is_idle x ≡ true → x ≢ SurpriseRemoved
idle_told SurpriseRemoved h e = cc
idle_told _ h e = cc

start_told : (bad : Bool) (x : DevState) → x ≡ NotStarted → state_after Minor.Start bad x ≢ SurpriseRemoved
start_told true x e q = cc
start_told false x e q = cc

module _ (s : State) (good : IsGood s) (none : s.operation ≡ None) (told : Told s.core) where
  alters_told : (label : Label) (t : State) (j : ℕ) (f : Node → Node) → Alters s label t j f → Told (change_node j f s.core)
  alters_told label t _ _ (Alters.walked node _ w bad at (Request.starts _ acts) other ends verdict prints) =
      let fit = (acting_fits s node.serial node (Phase.Starting w) at acts good).1 in
      told_changed s.core node.serial (with_state (state_after Minor.Start bad node.state)) node (λ x. refl) (λ x. refl) at (λ e. absurd (idle_told node.state (ap is_idle fit) e)) (λ e. absurd (start_told bad node.state fit e)) told
  alters_told label t _ _ (Alters.walked node _ w bad at (Request.undoes _ acts) other ends verdict prints) = absurd (other refl)
  alters_told label t _ _ (Alters.walked node minor w bad at (Request.operates _ asks) other ends verdict prints) = absurd (let runs = asks.runs.runs in cc)
  alters_told label t j _ (Alters.troubled _ problem) = told_fades s.core (change_node j _ s.core) (edges_changed j _ s.core (λ x. refl) (λ x. refl)) (kept_states s.core j _ (λ x. refl) (λ x. refl)) told
  alters_told label t _ _ (Alters.stacks node d ds name at acts prints) =
      let idle = (acting_fits s node.serial node (Phase.Adding (d ∷ ds)) at acts good).1 in
      told_changed s.core node.serial (with_stack (node.stack ++ d ∷ []) (stacked node.state)) node (λ x. refl) (λ x. refl) at (λ e. absurd (idle_told node.state idle e)) (λ e. absurd (let z = stacked_idle node.state idle in cc)) told
  alters_told label t j _ (Alters.assigned node phase plan acts search part now) = told_fades s.core (change_node j _ s.core) (edges_changed j _ s.core (λ x. refl) (λ x. refl)) (kept_states s.core j _ (λ x. refl) (λ x. refl)) told

  strips_told : (node : Node) (minor : Minor) (w : Walk) → node_at node.serial s.core.nodes ≡ Some node → Request s node minor w → minor ≡ Minor.Remove → Told (strip node.serial s.core)
  strips_told node _ w at (Request.starts _ acts) is = absurd (cc)
  strips_told node _ w at (Request.undoes _ acts) is =
      let fit = (acting_fits s node.serial node (Phase.Removing w) at acts good).1 in
      told_other_stripped s.core node.serial node told at (idle_told node.state (ap is_idle fit))
  strips_told node _ w at (Request.operates _ asks) is = absurd (let runs = asks.runs.runs in cc)

  pub told_calm : (label : Label) (t : State) → Tree s.next_serial s.core → NodeEffect s label t → Told t.core
  told_calm label t tree (NodeEffect.same nodes relations) = told_still s.core t.core nodes relations told
  told_calm label t tree (NodeEffect.changed j f alters nodes relations) = told_still (change_node j f s.core) t.core nodes relations (alters_told label t j f alters)
  told_calm label t tree (NodeEffect.stripped node w at request ends prints nodes relations) = told_still (strip node.serial s.core) t.core nodes relations (strips_told node Minor.Remove w at request refl)
  told_calm label t tree (NodeEffect.commits r runs course is nodes relations) = absurd (cc)
  told_calm label t tree (NodeEffect.joins node d calm at up below is) =
      subst (λ (x : Step). Told x.state.core) (sym is)
      (told_joined s.next_serial s.core (new_child node.serial d s) node tree good.below refl at (λ e. cc) (λ e. cc) told)
  told_calm label t tree (NodeEffect.left node o runs first nodes relations) = absurd (let before = runs.runs in cc)
  told_calm label t tree (NodeEffect.related r rel nodes relations) =
      let up = is_Started rel.owner.state rel.owner_up in
      let owner = (node_found (λ n. same n.path rel.owner_path) 0 s.core.nodes rel.owner good.serials rel.owner_at).1 in
      told_still (ev.add_relation r s.core) t.core nodes relations (told_related s.core r rel.owner (subst (λ (i : ℕ). node_at i s.core.nodes ≡ Some rel.owner) (sym rel.owner_is) owner) (λ e. cc) told)

-- a removal begins: where nobody is asked, none of its set waits
pub none_queried : (nodes : List Node) (set : List ℕ) → those (λ k. rm.is_queried_node (node_at k nodes)) set ≡ [] → (k : ℕ) (n : Node) → has set k ≡ true → node_at k nodes ≡ Some n → rm.is_queried n.state ≡ false
none_queried nodes set empty k n h at =
    untrue (rm.is_queried n.state)
    (λ e. let some = those_keeps (λ k. rm.is_queried_node (node_at k nodes)) set k h (ap rm.is_queried_node at ∙ e) in
    let none = ap (λ (ks : List ℕ). has ks k) empty in cc)

unqueried_told : (x : DevState) → rm.is_queried x ≡ false → x ≢ SurpriseRemoved
unqueried_told SurpriseRemoved h e = cc
unqueried_told _ h e = cc

removal_begun : (s : State) (kind : OpKind) (node : Node) → course_of kind ≡ Course.Removing → Told s.core → ToldKept (Some (rm.begun_removal s.core kind node)) s.core
removal_begun s kind node course told =
    let set = leaving s.core node.serial in
    told_ask_on s.core.nodes (record (job_of kind node) { set = set; ejecting = map (λ (r : Relation). r.member) (those (rm.is_ejecting set) s.core.relations) }) course
    (those (λ k. rm.is_queried_node (node_at k s.core.nodes)) set) s.core told (λ empty k n h at. unqueried_told n.state (none_queried s.core.nodes set empty k n h at))

pub told_begins : (s : State) (kind : OpKind) (node : Node) → Told s.core → ToldKept (Some (begun s kind node)) s.core
told_begins s OpKind.Disable node told = removal_begun s OpKind.Disable node refl told
told_begins s OpKind.Eject node told = removal_begun s OpKind.Eject node refl told
told_begins s OpKind.Surprise node told =
    let set = leaving s.core node.serial in
    told_tell_on (record (job_of OpKind.Surprise node) { set = set; told = those (λ k. was_told (node_at k s.core.nodes)) set }) refl
    (those (λ k. su.is_told_node (node_at k s.core.nodes)) set) s.core refl (told_begun s.core set told)
told_begins s OpKind.Finish node told = told
told_begins s OpKind.Rebalance node told = told_keep Course.Rebalancing _ s.core (ap course_of (begun_work s OpKind.Rebalance node).0) told
told_begins s OpKind.Change node told = told_keep Course.Rebalancing _ s.core (ap course_of (begun_work s OpKind.Change node).0) told

pub told_idle : (s : State) (label : Label) (t : State) → IsGood s → Tree s.next_serial s.core → s.operation ≡ None → Told s.core → NodeEffect s label t → OpEffect s label t → ToldKept t.operation t.core
told_idle s label t good tree none told nodes (OpEffect.idles was now prints) = subst (λ (x : Option Job). ToldKept x t.core) (sym now) (told_calm s good none told label t tree nodes)
told_idle s label t good tree none told nodes (OpEffect.begins kind node was alone at why is) = subst (λ (x : Step). ToldKept x.state.operation x.state.core) (sym is) (told_begins s kind node told)
told_idle s label t good tree none told nodes (OpEffect.goes o p runs now work prints) = absurd (cc)
told_idle s label t good tree none told nodes (OpEffect.ends o result runs now prints fits closes) = absurd (let before = runs.runs in cc)

-- Events -------------------------------------------------------------------------------------------------

-- operation, nodes and, where one runs, relations stay
stays_told : (s : State) (label : Label) (t : State) (o : Option Job) → s.operation ≡ o → IsGood s → Tree s.next_serial s.core → IsWord label → t.core.nodes ≡ s.core.nodes → t.operation ≡ s.operation → ToldKept o s.core → NodeEffect s label t → ToldKept t.operation t.core
stays_told s label t None none good tree word nodes now told effect = subst (λ (x : Option Job). ToldKept x t.core) (sym (now ∙ none)) (told_calm s good none told label t tree effect)
stays_told s label t (Some o) runs good tree word nodes now told effect =
    subst (λ (x : Option Job). ToldKept x t.core) (sym (now ∙ runs)) (told_same s.core t.core nodes (relations_stay s label t o word runs effect) (Some o) told)

pub told_event : (s : State) (label : Label) (t : State) → IsGood s → Tree s.next_serial s.core → ToldKept s.operation s.core → NodeEffect s label t → AnswerEffect s label t → ToldKept t.operation t.core
told_event s label t good tree told effect (AnswerEffect.stays word nodes acts now) = stays_told s label t s.operation refl good tree word nodes now told effect
told_event s label t good tree told effect (AnswerEffect.answers word nodes k a ok at acts now) = stays_told s label t s.operation refl good tree word nodes now told effect
told_event s label t good tree told effect (AnswerEffect.answered word nodes acts ok o runs now) =
    subst (λ (x : Option Job). ToldKept x t.core) (sym now)
    (told_same s.core t.core nodes (relations_stay s label t o word runs effect) (Some (ev.completed (ev.answer_of ok) o)) (told_walked_on o (ev.completed (ev.answer_of ok) o).walk s.core (subst (λ (x : Option Job). ToldKept x s.core) runs told)))
