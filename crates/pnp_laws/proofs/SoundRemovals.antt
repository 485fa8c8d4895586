-- Each step of a removal, a surprise or a finish keeps the tree and what is due, and dependents go first.
use Rattle.std.proofs.Common.{ℕ, ◌≡◌, ◌≢◌, ◌⊎◌, inl, inr, Bool, true, false, List, [], ◌∷◌, Option, Some, None, refl, sym, ap, ◌∙◌, subst, arith}
use Rattle.std.proofs.lemmas.Bool.{cases_eq}
use Rattle.std.proofs.lemmas.Bool.Decides.{nat_tests}
use Rattle.pnp_model.specs.Tests.{has}
use Rattle.pnp_model.specs.Records.{Node, Core, State, Task, Handle, Course, Job, Stage, course_of}
use Rattle.pnp_model.specs.Cores.{is_node, node_at, drop_node, strip, with_state, with_problem, stack_of}
use Rattle.pnp_model.specs.Keyed.{changed_first, without_first}
use Rattle.pnp_model.specs.Frames.{first_node, rest}
use Rattle.pnp_model.specs.States.{relist, unplug, set_operation, with_core}
use Rattle.pnp_model.specs.Diagram.{Row}
use Rattle.pnp_model.specs.Diagram.Row.{query_remove, query_remove_bad, cancel_remove, cancel_remove_refused, remove_surprised}
use Rattle.pnp_labels.specs.declared.states.DevState.{DevState}
use Rattle.pnp_labels.specs.declared.words.Minor.{Minor}
use Rattle.pnp_labels.specs.declared.states.Problem.{Problem}
use Rattle.pnp_labels.specs.declared.label.Label.{Label}
use Rattle.pnp_labels.specs.declared.states.DevState.TheVariants.{NoStack, Started, Stopped, RemovePending, SurpriseRemoved}
use Rattle.pnp_laws.specs.Kept.{Good, IsLast, RemovalKeeps, SurpriseKeeps, FinishKeeps, Within, is_idle}
use Rattle.pnp_laws.proofs.Lookups.{Ascending-changed, left_same}
use Rattle.pnp_laws.proofs.Lists.{HeadIs, cons_here, head_found, head_has, member, rest_has}
use Rattle.pnp_laws.proofs.Finishing.{head_stripped, head_bare, strips, relist_only}
use Rattle.pnp_laws.proofs.FinishingSteps.{finished_up, head_taken}
use Rattle.pnp_laws.proofs.RemovalSteps.{head_querying, head_refusing, head_restoring}
use Rattle.pnp_laws.proofs.FinishSteps.{not_root}
use Rattle.pnp_laws.proofs.SurpriseSteps.{head_told, told_or, last_alone}
use Rattle.pnp_laws.proofs.Ranks.{edges_stripped}
use Rattle.pnp_laws.proofs.Standing.{IsNoLeave, DueBut, waiting, StageKept, RemovalOrder, RemovalThere, SurpriseOrder, SurpriseThere, SurpriseTold, FinishOrder, FinishThere, FinishesBut, Goes, IsFree, AllTold, Stands, Sound, Finishes, AllThere, TargetLeft, keep, waits_by}
use Rattle.pnp_laws.proofs.Theres.{goes_on, fewer_there, rest_there, same_there, same_goes, strip_goes, left_there}
use Rattle.pnp_laws.proofs.Finishes.{alone_less, but_left, but_none, but_stays, but_strip, but_waits, fades_same, finishes_all, finishes_strip, finishes_stays, finishes_left, head_free}
use Rattle.pnp_laws.proofs.TreeChanges.{SameTree}
use Rattle.pnp_laws.proofs.SoundOps.{Work, op_walk, op_still, op_strip, op_trouble, op_left, was_troubled, now_ascending, MoreTasks, more_listed}
use Rattle.pnp_laws.proofs.Stages.{FinishAct, FinishStep, RemovalAct, RemovalStep, SurpriseAct, SurpriseStep}
use Rattle.pnp_laws.proofs.Sounds.{IsPlain}
use Rattle.pnp_laws.specs.Effects.{SameWork}
use Rattle.pnp_laws.proofs.EffectsOfOperations.{fi_settle_on, rm_ask_on, rm_cancel_on, rm_finish_on}
use Rattle.pnp_model.specs.Jobs.{JobMove, stands}
use Rattle.pnp_model.specs.Machine.{job_lifted}
use Rattle.pnp_model.specs.Removals as rm
use Rattle.pnp_model.specs.Surprises as su
use Rattle.pnp_model.specs.Finishes as fi

-- What comes next ---------------------------------------------------------------------------------

pub order_finish_on : (nodes : List Node) (o : Job) → course_of o.kind ≡ Course.Removing → (ks : List ℕ) (c : Core) → Finishes c o.set ks → AllThere ks c.nodes → StageKept (Some (rm.finish_on nodes o ks)) c
order_finish_on nodes o course [] c h there = keep Course.Removing _ c course (tt, tt)
order_finish_on nodes o course (k ∷ ks) c h there = by_stack (stack_of (node_at k nodes))
  where
    by_stack : (stack : List ℕ) → StageKept (Some (rm.finish_with o (k ∷ ks) stack)) c
    by_stack [] = keep Course.Removing _ c course (h, goes_on k ks c.nodes there)
    by_stack (d ∷ ds) = keep Course.Removing _ c course (h, goes_on k ks c.nodes there)

pub order_ask_on : (nodes : List Node) (o : Job) → course_of o.kind ≡ Course.Removing → (ks : List ℕ) (c : Core) → Finishes c o.set o.set → AllThere ks c.nodes → AllThere o.set c.nodes → StageKept (Some (rm.ask_on nodes o ks)) c
order_ask_on nodes o course [] c h there all = order_finish_on nodes o course o.set c h all
order_ask_on nodes o course (k ∷ ks) c h there all = keep Course.Removing _ c course (h, (goes_on k ks c.nodes there, all))

order_cancel_on : (o : Job) → course_of o.kind ≡ Course.Removing → (ks : List ℕ) (c : Core) → AllThere ks c.nodes → StageKept (Some (rm.cancel_on o ks)) c
order_cancel_on o course [] c there = keep Course.Removing _ c course (tt, tt)
order_cancel_on o course (k ∷ ks) c there = keep Course.Removing _ c course (tt, goes_on k ks c.nodes there)

-- nobody waits for a removal
pub removal_waits : (o p : Job) → course_of o.kind ≡ Course.Removing → SameWork o p → waiting (Some p) ≡ []
removal_waits o p course work = waits_by Course.Removing p (ap course_of work.kind ∙ course)

pub started_stays : (x : DevState) → x ≡ Started → (x ≢ NoStack) × (x ≢ Stopped)
started_stays x e = (λ q. cc, λ q. cc)

-- the first of those that are still to do; it is not the root
module _ (s : State) (o : Job) (node : Node) (first : first_node s.core.nodes o.todo ≡ Some node) (up : HeadIs node.serial o.todo → node.serial ≢ 0) (good : Good s.next_serial s.core.nodes [] (Some o)) where
  -- the device of a step
  work_at : Work s node o.todo
  work_at = let h = head_found s.core.nodes o.todo node first in record { head = h.0; at = h.1; up = up h.0; order = good.serials; stacks = good.stacks }

  -- the operation goes on to p with what stands behind the first
  module _ (p : Job) (waits : List ℕ) (waiting_is : waiting (Some p) ≡ waits) (due : DueBut waits s.tasks s.core.nodes) (h : Stands s) where
    -- it stays, with a problem
    remains : (t : State) (problem : Problem) → t.core.nodes ≡ changed_first (is_node node.serial) (with_problem (Some problem)) s.core.nodes → t.core.relations ≡ s.core.relations → t.next_serial ≡ s.next_serial → t.tasks ≡ s.tasks → t.operation ≡ Some p →
        (SameTree s.core t.core → StageKept (Some p) t.core) → Sound s (record { label = Label.Trouble node.path problem; state = t })
    remains t problem a b next tasks now goes =
        op_trouble s t node o.todo waits (Label.Trouble node.path problem) (Some problem) work_at tt a b next tasks (λ same. subst (λ (x : Option Job). StageKept x t.core) (sym now) (goes same)) (ap waiting now ∙ waiting_is) due h

    -- it leaves, and its parent is listed again
    leaves : IsFree s.core node.serial → (u : State) (label : Label) → IsPlain label → (IsNoLeave label → ⊥) → u.core ≡ drop_node node.serial s.core → u.next_serial ≡ s.next_serial → u.tasks ≡ s.tasks → u.operation ≡ Some p →
        StageKept (Some p) (drop_node node.serial s.core) → Sound s (record { label = label; state = relist node.path node.born u })
    leaves free u label plain gone core next tasks now goes =
        let t = relist node.path node.born u in
        let only = relist_only node.path node.born u in
        let is = only.core ∙ core in
        let runs = only.operation ∙ now in
        op_left s t node o.todo waits label work_at plain gone free is (only.serial ∙ next) (subst (λ (ts : List Task). MoreTasks ts t.tasks) tasks (more_listed u.tasks t.tasks only.tasks))
        (subst (λ (x : Option Job). StageKept x t.core) (sym runs) (subst (λ (c : Core). StageKept (Some p) c) (sym is) goes))
        (ap waiting runs ∙ waiting_is) due h

-- Removal -----------------------------------------------------------------------------------------

module _ (s : State) (o : Job) (course : course_of o.kind ≡ Course.Removing) (good : Good s.next_serial s.core.nodes [] (Some o)) (due : DueBut [] s.tasks s.core.nodes) (h : Stands s) where
  rm_work : (node : Node) → first_node s.core.nodes o.todo ≡ Some node → has o.set 0 ≡ false → Within o.todo o.set → Work s node o.todo
  rm_work node first rootless inside = work_at s o node first (λ head. not_root o.set o.todo node.serial rootless inside (head_has node.serial o.todo head)) good

  rm_remains : (t : State) (node : Node) (problem : Problem) → first_node s.core.nodes o.todo ≡ Some node → has o.set node.parent ≡ false → t.core.nodes ≡ changed_first (is_node node.serial) (with_problem (Some problem)) s.core.nodes → t.core.relations ≡ s.core.relations → t.next_serial ≡ s.next_serial → t.tasks ≡ s.tasks →
      t.operation ≡ Some (rm.finish_on s.core.nodes o (rest o.todo)) → RemovalKeeps o Stage.Settling s.core.nodes → RemovalOrder s.core o Stage.Settling → RemovalThere o Stage.Settling s.core.nodes → Sound s (record { label = Label.Trouble node.path problem; state = t })
  rm_remains t node problem first over a b next tasks now keeps order there =
      let work = rm_work node first keeps.rootless keeps.asks in
      remains s o node first (λ head. work.up) good _ [] (removal_waits o _ course (rm_finish_on s.core.nodes o (rest o.todo))) due h t problem a b next tasks now
      (λ same. order_finish_on s.core.nodes o course (rest o.todo) t.core
      (finishes_stays s.core t.core o.set o.todo node.serial node (fades_same s.core t.core work.order (now_ascending s t node o.todo (with_problem (Some problem)) work a (λ x. refl)) same) work.head work.at over
      (was_troubled node.serial (Some problem) s.core.nodes t.core.nodes a) (head_bare o.todo node.serial node.state work.head (keeps.each node.serial node work.at)) order)
      (same_there (rest o.todo) s.core t.core same (rest_there o.todo s.core.nodes there.there)))

  rm_leaves : (u : State) (node : Node) (label : Label) → first_node s.core.nodes o.todo ≡ Some node → IsPlain label → (IsNoLeave label → ⊥) → u.core ≡ drop_node node.serial s.core → u.next_serial ≡ s.next_serial → u.tasks ≡ s.tasks → u.operation ≡ Some (rm.finish_on s.core.nodes o (rest o.todo)) →
      RemovalKeeps o Stage.Settling s.core.nodes → RemovalOrder s.core o Stage.Settling → RemovalThere o Stage.Settling s.core.nodes → Sound s (record { label = label; state = relist node.path node.born u })
  rm_leaves u node label first plain gone core next tasks now keeps order there =
      let work = rm_work node first keeps.rootless keeps.asks in
      leaves s o node first (λ head. work.up) good _ [] (removal_waits o _ course (rm_finish_on s.core.nodes o (rest o.todo))) due h (head_free s.next_serial s.core o.set o.todo node.serial work.order h.tree work.head (keeps.asks node.serial (head_has node.serial o.todo work.head)) order) u label plain gone core next tasks now
      (order_finish_on s.core.nodes o course (rest o.todo) (drop_node node.serial s.core) (finishes_left s.core o.set o.todo node.serial work.order work.head order) (left_there o.todo node.serial s.core.nodes work.head keeps.todo there.there))

  pub sound_removal : (stage : Stage) (m : JobMove) → RemovalKeeps o stage s.core.nodes → RemovalOrder s.core o stage → RemovalThere o stage s.core.nodes → RemovalStep s.core o stage m → Sound s (job_lifted s m)
  sound_removal stage m keeps order there (RemovalStep.acts _ _ (RemovalAct.declines node first)) =
      op_still s _ _ [] tt refl refl refl refl (λ same. order_cancel_on (record o { refused = node.serial ∷ o.refused }) course o.agreed _ (fewer_there o.agreed o.set s.core.nodes keeps.asks.1 there.1)) (removal_waits (record o { refused = node.serial ∷ o.refused }) _ course (rm_cancel_on (record o { refused = node.serial ∷ o.refused }) o.agreed)) due h
  sound_removal stage m keeps order there (RemovalStep.agrees node w e ok) =
      let work = rm_work node e.first keeps.rootless keeps.asks.2 in
      let state = head_querying o.todo o.agreed o.set node.serial node.state work.head (keeps.each node.serial node work.at) in
      op_walk s _ node o.todo [] Minor.QueryRemove false Started RemovePending work state refl refl refl refl (λ q. absurd (cc)) (λ q. cc) (λ q. cc) query_remove
      (λ same. order_ask_on s.core.nodes (record o { agreed = node.serial ∷ o.agreed }) course (rest o.todo) _ (finishes_all s.core _ o.set (fades_same s.core _ work.order (Ascending-changed 0 node.serial (with_state RemovePending) s.core.nodes (λ x. refl) work.order) same) order)
      (same_there (rest o.todo) s.core _ same (rest_there o.todo s.core.nodes there.0.there)) (same_there o.set s.core _ same there.1)) (removal_waits (record o { agreed = node.serial ∷ o.agreed }) _ course (rm_ask_on s.core.nodes (record o { agreed = node.serial ∷ o.agreed }) (rest o.todo))) due h
  sound_removal stage m keeps order there (RemovalStep.refuses node w e bad) =
      let work = rm_work node e.first keeps.rootless keeps.asks.2 in
      let state = head_querying o.todo o.agreed o.set node.serial node.state work.head (keeps.each node.serial node work.at) in
      op_walk s _ node o.todo [] Minor.QueryRemove true Started node.state work state refl refl refl refl (λ q. ap is_idle (sym state) ∙ q) (started_stays node.state state).0 (started_stays node.state state).1 (subst (λ (x : DevState). Row Started Minor.QueryRemove true x) (sym state) query_remove_bad)
      (λ same. keep Course.Removing _ _ course (tt, (same_goes o.todo s.core _ same there.0, same_there o.set s.core _ same there.1))) (waits_by Course.Removing (rm.answers s.core o node true) course) due h
  sound_removal stage m keeps order there (RemovalStep.takes_back node w e) =
      let work = rm_work node e.first keeps.rootless keeps.asks.2 in
      let state = head_refusing o.todo o.agreed node.serial node.state work.head (keeps.each node.serial node work.at) in
      op_walk s _ node o.todo [] Minor.CancelRemove false Started Started work state refl refl refl refl (λ q. absurd (cc)) (λ q. cc) (λ q. cc) cancel_remove_refused
      (λ same. order_cancel_on o course o.agreed _ (same_there o.agreed s.core _ same (fewer_there o.agreed o.set s.core.nodes keeps.asks.1 there.1))) (removal_waits o _ course (rm_cancel_on o o.agreed)) due h
  sound_removal stage m keeps order there (RemovalStep.cancels node w e) =
      let work = rm_work node e.first keeps.rootless keeps.asks in
      let state = head_restoring o.todo node.serial node.state (head_has node.serial o.todo work.head) (keeps.each node.serial node work.at) in
      op_walk s _ node o.todo [] Minor.CancelRemove false RemovePending Started work state refl refl refl refl (λ q. absurd (cc)) (λ q. cc) (λ q. cc) cancel_remove
      (λ same. order_cancel_on o course (rest o.todo) _ (same_there (rest o.todo) s.core _ same (rest_there o.todo s.core.nodes there.there))) (removal_waits o _ course (rm_cancel_on o (rest o.todo))) due h
  sound_removal stage m keeps order there (RemovalStep.removes node w e) =
      let work = rm_work node e.first keeps.rootless keeps.asks in
      let here = head_has node.serial o.todo work.head in
      op_strip s _ node o.todo [] work (head_free s.next_serial s.core o.set o.todo node.serial work.order h.tree work.head (keeps.asks node.serial here) order) refl refl refl (strips node.state (head_stripped o.todo node.serial node.state work.head (keeps.each node.serial node work.at)))
      (keep Course.Removing (stands o o.todo Stage.Settling) _ course (finishes_strip s.core o.set o.todo node.serial work.order here order, strip_goes o.todo node.serial s.core there)) (waits_by Course.Removing (stands o o.todo Stage.Settling) course) due h
  sound_removal stage m keeps order there (RemovalStep.acts _ _ (RemovalAct.leaves node first inside)) =
      rm_leaves (set_operation (Some (rm.finish_on s.core.nodes o (rest o.todo))) (with_core (drop_node node.serial s.core) s)) node (Label.Leave node.path) first tt (λ q. q) refl refl refl refl keeps order there
  sound_removal stage m keeps order there (RemovalStep.acts _ _ (RemovalAct.ejects node first)) =
      rm_leaves (unplug node.born (set_operation (Some (rm.finish_on s.core.nodes o (rest o.todo))) (with_core (drop_node node.serial s.core) s))) node (Label.Ejected node.path) first tt (λ q. q) refl refl refl refl keeps order there
  sound_removal stage m keeps order there (RemovalStep.acts _ _ (RemovalAct.disables node first over target)) = rm_remains _ node Problem.Disabled first over refl refl refl refl refl keeps order there
  sound_removal stage m keeps order there (RemovalStep.acts _ _ (RemovalAct.remains node problem first over other)) = rm_remains _ node problem first over refl refl refl refl refl keeps order there
  sound_removal stage m keeps order there (RemovalStep.acts _ _ RemovalAct.closes) = op_still s _ _ [] tt refl refl refl refl (λ same. tt) refl due h

-- Surprise ----------------------------------------------------------------------------------------

-- the target is still to do
target_left : (k : ℕ) (ks behind : List ℕ) (nodes : List Node) → has ks k ≡ true → TargetLeft k ks behind nodes
target_left k [] behind nodes h = absurd (cc)
target_left k (j ∷ js) behind nodes h = h

pub order_su_finish_on : (o : Job) → course_of o.kind ≡ Course.Surprising → (ks : List ℕ) (c : Core) → FinishesBut c o.set o.behind ks → AllThere ks c.nodes → TargetLeft o.target ks o.behind c.nodes → StageKept (Some (su.finish_on o ks)) c
order_su_finish_on o course [] c h there target = keep Course.Surprising _ c course (h, target)
order_su_finish_on o course (k ∷ ks) c h there target = keep Course.Surprising _ c course (h, (goes_on k ks c.nodes there, target))

pub order_tell_on : (o : Job) → course_of o.kind ≡ Course.Surprising → (ks : List ℕ) (c : Core) → o.behind ≡ [] → Finishes c o.set o.set → AllThere ks c.nodes → AllThere o.set c.nodes → has o.set o.target ≡ true → StageKept (Some (su.tell_on o ks)) c
order_tell_on o course [] c none h there all target =
    order_su_finish_on o course o.set c (subst (λ (b : List ℕ). FinishesBut c o.set b o.set) (sym none) (but_none c o.set o.set h)) all (target_left o.target o.set o.behind c.nodes target)
order_tell_on o course (k ∷ ks) c none h there all target = keep Course.Surprising _ c course (h, (goes_on k ks c.nodes there, all, target))

pub waits_finish_on : (o : Job) → course_of o.kind ≡ Course.Surprising → (ks : List ℕ) → waiting (Some (su.finish_on o ks)) ≡ o.set
waits_finish_on o course [] = waits_by Course.Surprising (su.finish_on o []) course
waits_finish_on o course (k ∷ ks) = waits_by Course.Surprising (su.finish_on o (k ∷ ks)) course

pub waits_tell_on : (o : Job) → course_of o.kind ≡ Course.Surprising → (ks : List ℕ) → waiting (Some (su.tell_on o ks)) ≡ o.set
waits_tell_on o course [] = waits_finish_on o course o.set
waits_tell_on o course (k ∷ ks) = waits_by Course.Surprising (su.tell_on o (k ∷ ks)) course

-- where the head is done, it was the target, and the last one, or the target is still to do
target_after : (o : Job) (node : Node) (behind : List ℕ) (nodes : List Node) → IsLast o.target o.todo → has o.todo o.target ≡ true → HeadIs node.serial o.todo → (node.serial ≡ o.target → (node_at o.target nodes ≡ None) ⊎ (has behind o.target ≡ true)) → TargetLeft o.target (rest o.todo) behind nodes
target_after o node behind nodes ends target head own =
    elim (cases_eq node.serial o.target) [
      | inl e ↦ subst (λ (ks : List ℕ). TargetLeft o.target ks behind nodes) (sym (last_alone o.target o.todo (subst (λ (i : ℕ). HeadIs i o.todo) e head) ends)) (own e)
      | inr d ↦ target_left o.target (rest o.todo) behind nodes (rest_has node.serial o.target o.todo head d ∙ target)
    ]

-- where nobody of the set is Stopped, each Stopped device is due
none_waits : (s : State) (set : List ℕ) → ((k : ℕ) (n : Node) → node_at k s.core.nodes ≡ Some n → has set k ≡ true → n.state ≢ Stopped) → DueBut set s.tasks s.core.nodes → DueBut [] s.tasks s.core.nodes
none_waits s set calm due k n at stopped =
    elim (due k n at stopped) [ inl h ↦ inl h | inr h ↦ absurd (calm k n at h stopped) ]

-- what is done has no drivers, or stayed behind
done_calm : (c : Core) (set behind todo : List ℕ) (k : ℕ) (n : Node) → FinishesBut c set behind todo → AllTold behind c.nodes → node_at k c.nodes ≡ Some n → has set k ≡ true → has todo k ≡ false → n.state ≢ Stopped
done_calm c set behind todo k n f told at a b q =
    elim (member behind k) [ inl e ↦ (let z = told k n e at in cc) | inr e ↦ (let z = f.bare k n at a b e in cc) ]

module _ (s : State) (o : Job) (course : course_of o.kind ≡ Course.Surprising) (good : Good s.next_serial s.core.nodes [] (Some o)) (due : DueBut o.set s.tasks s.core.nodes) (h : Stands s) where
  su_up : (node : Node) → has o.set 0 ≡ false → Within o.todo o.set → HeadIs node.serial o.todo → node.serial ≢ 0
  su_up node rootless inside head = not_root o.set o.todo node.serial rootless inside (head_has node.serial o.todo head)

  pub sound_surprise : (in_world : Bool) (handles : List Handle) (stage : Stage) (m : JobMove) → SurpriseKeeps o stage s.core.nodes → SurpriseOrder s.core o stage → SurpriseThere o stage s.core.nodes → SurpriseTold s.core o stage → SurpriseStep s.core o in_world handles stage m → Sound s (job_lifted s m)
  sound_surprise in_world handles stage m keeps order there told (SurpriseStep.tells node w e) =
      let work = work_at s o node e.first (su_up node keeps.rootless keeps.inside) good in
      let up = told_or node.state (head_told o.todo o.set node.serial node.state (head_has node.serial o.todo work.head) (keeps.each node.serial node work.at)) in
      op_walk s _ node o.todo o.set Minor.SurpriseRemoval false node.state SurpriseRemoved work refl refl refl refl refl (λ q. absurd (cc)) (λ q. cc) (λ q. cc) up.0
      (λ same. order_tell_on o course (rest o.todo) _ told.0 (finishes_all s.core _ o.set (fades_same s.core _ work.order (Ascending-changed 0 node.serial (with_state SurpriseRemoved) s.core.nodes (λ x. refl) work.order) same) order)
      (same_there (rest o.todo) s.core _ same (rest_there o.todo s.core.nodes there.0.there)) (same_there o.set s.core _ same there.1) there.2)
      (waits_tell_on o course (rest o.todo)) due h
  sound_surprise in_world handles stage m keeps order there told (SurpriseStep.removes node w e) =
      let work = work_at s o node e.first (su_up node keeps.rootless keeps.inside) good in
      op_strip s _ node o.todo o.set work (order.1 node.serial work.head) refl refl refl (strips node.state (head_stripped o.todo node.serial node.state work.head (keeps.each node.serial node work.at)))
      (keep Course.Surprising (stands o o.todo Stage.Settling) _ course ((but_strip s.core o.set o.behind o.todo node.serial work.order (head_has node.serial o.todo work.head) order.0, alone_less s.core (strip node.serial s.core) o.todo (edges_stripped node.serial s.core) order.1), (strip_goes o.todo node.serial s.core there.0, there.1))) (waits_by Course.Surprising (stands o o.todo Stage.Settling) course) due h
  sound_surprise in_world handles stage m keeps order there told (SurpriseStep.acts _ _ (SurpriseAct.lags node first behind)) =
      let work = work_at s o node first (su_up node keeps.rootless keeps.inside) good in
      let p = record o { behind = node.serial ∷ o.behind } in
      op_still s _ _ o.set tt refl refl refl refl
      (λ same. order_su_finish_on p course (rest o.todo) s.core (but_waits s.core o.set o.behind o.todo node.serial work.head keeps.todo order) (rest_there o.todo s.core.nodes there.0.there)
      (target_after o node p.behind s.core.nodes keeps.ends there.1 work.head (λ e. inr (subst (λ (i : ℕ). has p.behind i ≡ true) e (cons_here node.serial o.behind)))))
      (waits_finish_on p course (rest o.todo)) due h
  sound_surprise in_world handles stage m keeps order there told (SurpriseStep.acts _ _ (SurpriseAct.leaves node first why)) =
      let work = work_at s o node first (su_up node keeps.rootless keeps.inside) good in
      leaves s o node first (su_up node keeps.rootless keeps.inside) good _ o.set (waits_finish_on o course (rest o.todo)) due h (order.1 node.serial work.head)
      (set_operation (Some (su.finish_on o (rest o.todo))) (with_core (drop_node node.serial s.core) s)) (Label.Leave node.path) tt (λ q. q) refl refl refl refl
      (order_su_finish_on o course (rest o.todo) (drop_node node.serial s.core) (but_left s.core o.set o.behind o.todo node.serial work.order work.head order.0) (left_there o.todo node.serial s.core.nodes work.head keeps.todo there.0.there)
      (target_after o node o.behind _ keeps.ends there.1 work.head (λ e. inl (subst (λ (i : ℕ). node_at i (without_first (is_node node.serial) s.core.nodes) ≡ None) e (left_same 0 node.serial s.core.nodes work.order)))))
  sound_surprise in_world handles stage m keeps order there told (SurpriseStep.acts _ _ (SurpriseAct.remains node first other over)) =
      let work = work_at s o node first (su_up node keeps.rootless keeps.inside) good in
      let apart : node.serial ≢ o.target = grind (arith, nat_tests) in
      remains s o node first (su_up node keeps.rootless keeps.inside) good _ o.set (waits_finish_on o course (rest o.todo)) due h _ Problem.Held refl refl refl refl refl
      (λ same. order_su_finish_on o course (rest o.todo) _
      (but_stays s.core o.set o.behind o.todo _ node.serial node (fades_same s.core _ work.order (Ascending-changed 0 node.serial (with_problem (Some Problem.Held)) s.core.nodes (λ x. refl) work.order) same) work.head work.at over
      (was_troubled node.serial (Some Problem.Held) s.core.nodes _ refl) (head_bare o.todo node.serial node.state work.head (keeps.each node.serial node work.at)) order.0)
      (same_there (rest o.todo) s.core _ same (rest_there o.todo s.core.nodes there.0.there)) (target_left o.target (rest o.todo) o.behind _ (rest_has node.serial o.target o.todo work.head apart ∙ there.1)))
  sound_surprise in_world handles stage m keeps order there told (SurpriseStep.acts _ _ (SurpriseAct.stays node first target back)) =
      let work = work_at s o node first (su_up node keeps.rootless keeps.inside) good in
      let is : node.serial ≡ o.target = grind (arith, nat_tests) in
      let over = last_alone o.target o.todo (subst (λ (i : ℕ). HeadIs i o.todo) is work.head) keeps.ends in
      op_still s _ _ [] tt refl refl refl refl (λ same. tt) refl
      (none_waits s o.set (λ k n at in_set.
      elim (cases_eq node.serial k) [
        | inl q ↦ (let z = head_bare o.todo k n.state (subst (λ (i : ℕ). HeadIs i o.todo) q work.head) (keeps.each k n at) in λ p. cc)
        | inr d ↦ done_calm s.core o.set o.behind o.todo k n order.0 told.stayed at in_set (sym (rest_has node.serial k o.todo work.head d) ∙ ap (λ (ks : List ℕ). has ks k) over)
      ]) due) h
  sound_surprise in_world handles stage m keeps order there told (SurpriseStep.acts _ _ SurpriseAct.closes) =
      op_still s _ _ [] tt refl refl refl refl (λ same. tt) refl (none_waits s o.set (λ k n at in_set. done_calm s.core o.set o.behind [] k n order told.stayed at in_set refl) due) h

-- Finish ------------------------------------------------------------------------------------------

module _ (s : State) (f : Job) (course : course_of f.kind ≡ Course.Finishing) (good : Good s.next_serial s.core.nodes [] (Some f)) (due : DueBut [] s.tasks s.core.nodes) (h : Stands s) where
  -- the device lost its drivers, and is to leave, to be held, or done
  fi_strips : (t : State) (node : Node) (leaving : Bool) (problem : Option Problem) → Work s node f.todo → node.state ≡ SurpriseRemoved → IsFree s.core node.serial → FinishOrder s.core f Stage.Leaving → Goes f.todo s.core.nodes → t.core ≡ strip node.serial s.core → t.next_serial ≡ s.next_serial → t.tasks ≡ s.tasks →
      t.operation ≡ Some (fi.settle_on f leaving problem) → Sound s (record { label = Label.State node.path NoStack; state = t })
  fi_strips t node leaving problem work told free order there is next tasks now =
      op_strip s t node f.todo [] work free is next tasks (subst (λ (x : DevState). Row x Minor.Remove false NoStack) (sym told) remove_surprised)
      (subst (λ (x : Option Job). StageKept x t.core) (sym now) (subst (λ (c : Core). StageKept (Some (fi.settle_on f leaving problem)) c) (sym is) (by_settle leaving problem)))
      (ap waiting now ∙ waits_by Course.Finishing (fi.settle_on f leaving problem) (ap course_of (fi_settle_on f leaving problem).kind ∙ course)) due h
    where
      by_settle : (leaving : Bool) (problem : Option Problem) → StageKept (Some (fi.settle_on f leaving problem)) (strip node.serial s.core)
      by_settle true problem = keep Course.Finishing _ _ course (alone_less s.core (strip node.serial s.core) f.todo (edges_stripped node.serial s.core) order, strip_goes f.todo node.serial s.core there)
      by_settle false (Some problem) = keep Course.Finishing _ _ course (tt, tt)
      by_settle false None = keep Course.Finishing _ _ course (tt, strip_goes f.todo node.serial s.core there)

  pub sound_finish : (in_world : Bool) (handles : List Handle) (stage : Stage) (m : JobMove) → FinishKeeps f stage s.core.nodes → FinishOrder s.core f stage → FinishThere f stage s.core.nodes → FinishStep s.core f in_world handles stage m → Sound s (job_lifted s m)
  sound_finish in_world handles stage m keeps order there (FinishStep.removes node w e) =
      let work = work_at s f node e.first (finished_up f.todo node.serial keeps.one) good in
      let told = head_taken f.todo node.serial node.state work.head (keeps.each node.serial node work.at) in
      fi_strips _ node (fi.is_leaving s.core.nodes node in_world) node.problem work told (order node.serial work.head) order there refl refl refl refl
  sound_finish in_world handles stage m keeps order there (FinishStep.acts _ _ (FinishAct.leaves node first)) =
      let up = finished_up f.todo node.serial keeps.one in
      let head = (head_found s.core.nodes f.todo node first).0 in
      leaves s f node first up good _ [] (waits_by Course.Finishing (fi.next_on f) course) due h (order node.serial head) (set_operation (Some (fi.next_on f)) (with_core (drop_node node.serial s.core) s)) (Label.Leave node.path) tt (λ q. q) refl refl refl refl (keep Course.Finishing (fi.next_on f) _ course (tt, tt))
  sound_finish in_world handles stage m keeps order there (FinishStep.acts _ _ (FinishAct.holds node first)) =
      remains s f node first (finished_up f.todo node.serial keeps.one) good _ [] (waits_by Course.Finishing (fi.next_on f) course) due h _ Problem.Held refl refl refl refl refl (λ same. keep Course.Finishing (fi.next_on f) _ course (tt, tt))
  sound_finish in_world handles stage m keeps order there (FinishStep.acts _ _ (FinishAct.closes none)) = op_still s _ _ [] tt refl refl refl refl (λ same. tt) refl due h
