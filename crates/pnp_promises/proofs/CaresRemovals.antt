-- In a disable, an eject, a surprise removal and a finish nobody is left without a problem.
use Rattle.std.proofs.Common.{ℕ, ◌≡◌, ◌≢◌, ◌==◌, inl, inr, Bool, true, false, [], ◌∷◌, Option, Some, None, refl, sym, ap, subst, ◌∙◌, arith}
use Rattle.std.proofs.lemmas.Bool.{cases_eq}
use Rattle.std.proofs.lemmas.Bool.Decides.{nat_tests}
use Rattle.pnp_labels.specs.declared.states.DevState.{DevState}
use Rattle.pnp_labels.specs.declared.states.DevState.TheVariants.{NoStack, Started, RemovePending, SurpriseRemoved}
use Rattle.pnp_labels.specs.declared.states.Problem.{Problem}
use Rattle.pnp_labels.specs.declared.label.Label.{Label}
use Rattle.pnp_labels.specs.declared.words.Minor.{Minor}
use Rattle.pnp_model.specs.Cores.{bare, is_node, node_at, with_problem, with_state}
use Rattle.pnp_model.specs.Finishes as fi
use Rattle.pnp_model.specs.Frames.{first_node, rest}
use Rattle.pnp_model.specs.Jobs.{Beside, JobMove, stands}
use Rattle.pnp_model.specs.Keyed.{changed_first, without_first}
use Rattle.pnp_model.specs.Machine as ma
use Rattle.pnp_model.specs.Records.{Activity, Course, Job, Node, Stage, State, course_of}
use Rattle.pnp_model.specs.Removals as rm
use Rattle.pnp_model.specs.States.{activity_at, is_in_world}
use Rattle.pnp_model.specs.Surprises as su
use Rattle.pnp_model.specs.Tests.{has}
use Rattle.pnp_laws.specs.Kept.{Ascending, FinishKeeps, RemovalKeeps, SurpriseKeeps, finish_state, removal_state, surprise_state}
use Rattle.pnp_laws.proofs.EffectsOfOperations.{fi_settle_on, rm_ask_on, rm_cancel_on, rm_finish_on, su_finish_on, su_tell_on}
use Rattle.pnp_laws.proofs.Finishing.{head_bare, head_same}
use Rattle.pnp_laws.proofs.FinishingSteps.{head_emptied}
use Rattle.pnp_laws.proofs.Lists.{HeadIs, head_found, head_has}
use Rattle.pnp_laws.proofs.Lookups.{some_same}
use Rattle.pnp_laws.proofs.RemovalSteps.{head_querying, head_refusing, head_restoring}
use Rattle.pnp_laws.proofs.Stages.{FinishAct, FinishStep, RemovalAct, RemovalStep, SurpriseAct, SurpriseStep, ended_by, held}
use Rattle.pnp_promises.proofs.Cares.{FineOf, Fine, Onward, Settles, SettlesIn, Undriven, fine_as, fine_bare, fine_up, is_risen, onward}
use Rattle.pnp_promises.proofs.CaresIdle.{open_other}
use Rattle.pnp_promises.proofs.CaresOperations.{FineJob, gives_target, goes_on, keeps_by, left, one, other_restarts, other_target, stays}

settles_head : (o : Job) (k : ℕ) → Settles (Some o) k → HeadIs k o.todo
settles_head o k h = by_stage o.stage h
  where
    by_stage : (stage : Stage) → SettlesIn stage o.todo k → HeadIs k o.todo
    by_stage Stage.Settling h = h
    by_stage Stage.Leaving h = h
    by_stage Stage.Holding h = h
    by_stage _ h = absurd h

module _ (s : State) (order : Ascending 0 s.core.nodes) (alone : s.activities ≡ []) (o : Job) (old : FineJob s order alone o s.core.nodes) (other : course_of o.kind ≡ Course.Rebalancing → ⊥) where
  -- what all these operations have in common
  pub plain : (p : Job) (k : ℕ) (x : DevState) → p.kind ≡ o.kind → (Settles (Some o) k → Settles (Some p) k) → Onward x s.tasks s.tasks None (Some o) (Some p) k
  plain p k x kind settles =
      keeps_by s order alone o p k x (λ h. absurd (other_target o k other h)) (λ h. absurd (other (gives_target o k h).1)) (λ e h. open_other p k (λ e. other (ap course_of (sym kind) ∙ e))) settles (λ e h. absurd (other_restarts p k (λ e. other (ap course_of (sym kind) ∙ e)) h))

  -- no device is changed, and none was to be settled
  same : (p : Job) (stage : Stage) → o.stage ≡ stage → ((k : ℕ) → SettlesIn stage o.todo k → ⊥) → p.kind ≡ o.kind → FineJob s order alone p s.core.nodes
  same p stage at none kind = stays s order alone o p (λ k n there. plain p k n.state kind (λ h. absurd (none k (subst (λ (x : Stage). SettlesIn x o.todo k) at h)))) old

  -- it ends
  ended_fine : (stage : Stage) → o.stage ≡ stage → (k : ℕ) (n : Node) → (Settles (Some o) k → ⊥) → node_at k s.core.nodes ≡ Some n → FineOf s.tasks None None k n n.state
  ended_fine stage at k n none there =
      onward s.tasks s.tasks (Some o) None k n None n.state
      (record { starts_on = λ e idle h. h; room_on = λ e idle h. inl h; target_on = λ h. absurd (other_target o k other h); gives_on = λ h. absurd (other (gives_target o k h).1); open_on = λ e h. tt; settles_on = λ h. absurd (none h); restarts_on = λ e h. absurd h })
      (old k n there)

  closes : (stage : Stage) → o.stage ≡ stage → ((k : ℕ) → SettlesIn stage o.todo k → ⊥) → Fine (ma.after_job o Beside.Over s)
  closes stage at none k n there =
      subst (λ (a : Option Activity). FineOf s.tasks a None k n n.state) (ap (activity_at k) (sym alone)) (ended_fine stage at k n (λ h. none k (subst (λ (x : Stage). SettlesIn x o.todo k) at h)) there)

  module _ (node : Node) (first : first_node s.core.nodes o.todo ≡ Some node) where
    head : HeadIs node.serial o.todo
    head = (head_found s.core.nodes o.todo node first).0

    there : node_at node.serial s.core.nodes ≡ Some node
    there = (head_found s.core.nodes o.todo node first).1

    is_own : (n : Node) → node_at node.serial s.core.nodes ≡ Some n → node ≡ n
    is_own n at = some_same (node_at node.serial s.core.nodes) node n there at

    others : (p : Job) → p.kind ≡ o.kind → (k : ℕ) (n : Node) → node.serial ≢ k → node_at k s.core.nodes ≡ Some n → Onward n.state s.tasks s.tasks None (Some o) (Some p) k
    others p kind k n d at = plain p k n.state kind (λ h. absurd (d (head_same o.todo node.serial k head (settles_head o k h))))

    changed : (p : Job) (f : Node → Node) → ((x : Node) → (f x).serial ≡ x.serial) → p.kind ≡ o.kind → FineOf s.tasks None (Some p) node.serial (f node) (f node).state → FineJob s order alone p (changed_first (is_node node.serial) f s.core.nodes)
    changed p f serial kind here =
        one s order alone o p node.serial f serial (others p kind)
        (λ n at. subst (λ (x : Node). FineOf s.tasks None (Some p) node.serial (f x) (f x).state) (is_own n at) here) old

    walks : (p : Job) (y : DevState) → is_risen y ≡ true → node.problem ≡ None → p.kind ≡ o.kind → FineJob s order alone p (changed_first (is_node node.serial) (with_state y) s.core.nodes)
    walks p y risen clean kind = changed p (with_state y) (λ x. refl) kind (fine_up s.tasks None (Some p) node.serial (with_state y node) y risen clean)

    troubled : (p : Job) (problem : Problem) → node.state ≡ NoStack → p.kind ≡ o.kind → FineJob s order alone p (changed_first (is_node node.serial) (with_problem (Some problem)) s.core.nodes)
    troubled p problem state kind = changed p (with_problem (Some problem)) (λ x. refl) kind (fine_bare s.tasks (Some p) node.serial (with_problem (Some problem) node) node.state state (λ e. cc))

    strips : FineJob s order alone (stands o o.todo Stage.Settling) (changed_first (is_node node.serial) bare s.core.nodes)
    strips = changed (stands o o.todo Stage.Settling) bare (λ x. refl) refl (inr (inr head))

    gone : (p : Job) → p.kind ≡ o.kind → FineJob s order alone p (without_first (is_node node.serial) s.core.nodes)
    gone p kind = left s order alone o p node.serial (others p kind) old

    clean : (x : DevState) → node.state ≡ x → FineOf s.tasks None (Some o) node.serial node x
    clean x e = fine_as s.tasks None (Some o) node.serial node node.state x e (old node.serial node there)

  -- A disable or an eject ----------------------------------------------------------------------------------

  module _ (keeps : RemovalKeeps o o.stage s.core.nodes) where
    each : (stage : Stage) → o.stage ≡ stage → (node : Node) → node_at node.serial s.core.nodes ≡ Some node → removal_state o stage node.serial node.state ≡ true
    each stage at node here = subst (λ (x : Stage). removal_state o x node.serial node.state ≡ true) at (keeps.each node.serial node here)

    settled : o.stage ≡ Stage.Settling → (node : Node) (first : first_node s.core.nodes o.todo ≡ Some node) → node.state ≡ NoStack
    settled at node first = head_bare o.todo node.serial node.state (head node first) (each Stage.Settling at node (there node first))

    removal_act : (stage : Stage) (m : JobMove) → o.stage ≡ stage → RemovalAct s.core o stage m → Fine (ma.job_lifted s m).state
    removal_act _ _ at (RemovalAct.declines node first) =
        goes_on s order alone (rm.declines s.core o node) tt (same (rm.cancel_on (record o { refused = node.serial ∷ o.refused }) o.agreed) Stage.Next at (λ k h. h) (rm_cancel_on (record o { refused = node.serial ∷ o.refused }) o.agreed).kind)
    removal_act _ _ at (RemovalAct.leaves node first up) =
        goes_on s order alone (rm.leaves s.core o node (Label.Leave node.path) (Beside.Left node.path node.born)) tt (gone node first (rm.finish_on s.core.nodes o (rest o.todo)) (rm_finish_on s.core.nodes o (rest o.todo)).kind)
    removal_act _ _ at (RemovalAct.ejects node first) =
        goes_on s order alone (rm.leaves s.core o node (Label.Ejected node.path) (Beside.Ejected node.path node.born)) tt (gone node first (rm.finish_on s.core.nodes o (rest o.todo)) (rm_finish_on s.core.nodes o (rest o.todo)).kind)
    removal_act _ _ at (RemovalAct.disables node first up target) =
        goes_on s order alone (rm.remains s.core o node Problem.Disabled (Beside.Disabled node.path)) tt (troubled node first (rm.finish_on s.core.nodes o (rest o.todo)) Problem.Disabled (settled at node first) (rm_finish_on s.core.nodes o (rest o.todo)).kind)
    removal_act _ _ at (RemovalAct.remains node problem first up fine) =
        goes_on s order alone (rm.remains s.core o node problem Beside.On) tt (troubled node first (rm.finish_on s.core.nodes o (rest o.todo)) problem (settled at node first) (rm_finish_on s.core.nodes o (rest o.todo)).kind)
    removal_act _ _ at RemovalAct.closes = closes Stage.Ending at (λ k h. h)

    pub removal_fine : (stage : Stage) (m : JobMove) → o.stage ≡ stage → RemovalStep s.core o stage m → Fine (ma.job_lifted s m).state
    removal_fine _ _ at (RemovalStep.agrees node w e good) =
        let p = rm.ask_on s.core.nodes (record o { agreed = node.serial ∷ o.agreed }) (rest o.todo) in
        let state = head_querying o.todo o.agreed o.set node.serial node.state (head node e.first) (each Stage.Asking at node (there node e.first)) in
        goes_on s order alone (ended_by s.core node Minor.QueryRemove false p) tt (walks node e.first p RemovePending refl (clean node e.first Started state) (rm_ask_on s.core.nodes (record o { agreed = node.serial ∷ o.agreed }) (rest o.todo)).kind)
    removal_fine _ _ at (RemovalStep.refuses node w e bad) =
        let state = head_querying o.todo o.agreed o.set node.serial node.state (head node e.first) (each Stage.Asking at node (there node e.first)) in
        goes_on s order alone (ended_by s.core node Minor.QueryRemove true (rm.answers s.core o node true)) tt (walks node e.first (rm.answers s.core o node true) node.state (ap is_risen state) (clean node e.first Started state) refl)
    removal_fine _ _ at (RemovalStep.takes_back node w e) =
        let state = head_refusing o.todo o.agreed node.serial node.state (head node e.first) (each Stage.TakingBack at node (there node e.first)) in
        goes_on s order alone (ended_by s.core node Minor.CancelRemove false (rm.cancel_on o o.agreed)) tt (walks node e.first (rm.cancel_on o o.agreed) Started refl (clean node e.first Started state) (rm_cancel_on o o.agreed).kind)
    removal_fine _ _ at (RemovalStep.cancels node w e) =
        let state = head_restoring o.todo node.serial node.state (head_has node.serial o.todo (head node e.first)) (each Stage.Cancelling at node (there node e.first)) in
        goes_on s order alone (ended_by s.core node Minor.CancelRemove false (rm.cancel_on o (rest o.todo))) tt (walks node e.first (rm.cancel_on o (rest o.todo)) Started refl (clean node e.first RemovePending state) (rm_cancel_on o (rest o.todo)).kind)
    removal_fine _ _ at (RemovalStep.removes node w e) = goes_on s order alone (ended_by s.core node Minor.Remove false (stands o o.todo Stage.Settling)) tt (strips node e.first)
    removal_fine _ _ at (RemovalStep.acts stage m act) = removal_act stage m at act

  -- A surprise removal ---------------------------------------------------------------------------------------

  module _ (keeps : SurpriseKeeps o o.stage s.core.nodes) (excuse : (n : Node) → node_at o.target s.core.nodes ≡ Some n → is_in_world s.world n.born ≡ true → n.problem ≢ None) where
    emptied : o.stage ≡ Stage.Settling → (node : Node) (first : first_node s.core.nodes o.todo ≡ Some node) → node.state ≡ NoStack
    emptied at node first = head_bare o.todo node.serial node.state (head node first) (subst (λ (x : Stage). surprise_state o x node.serial node.state ≡ true) at (keeps.each node.serial node (there node first)))

    -- the device is in the world: it is one that would not start again, and has a problem
    stays_behind : (node : Node) (first : first_node s.core.nodes o.todo ≡ Some node) → o.stage ≡ Stage.Settling → (node.serial == o.target) ≡ true → ma.is_back s o Course.Surprising ≡ true → Fine (ma.after_job o Beside.Over s)
    stays_behind node first at target back k n here =
        subst (λ (a : Option Activity). FineOf s.tasks a None k n n.state) (ap (activity_at k) (sym alone))
        (elim (cases_eq node.serial k) [
          | inr d ↦ ended_fine Stage.Settling at k n (λ h. d (head_same o.todo node.serial k (head node first) (settles_head o k h))) here
          | inl e ↦
              let own : node ≡ n = is_own node first n (subst (λ (i : ℕ). node_at i s.core.nodes ≡ Some n) (sym e) here) in
              fine_bare s.tasks None k n n.state (ap (λ (x : Node). x.state) (sym own) ∙ emptied at node first) (λ q. troubled_target (ap (λ (x : Node). x.problem) own ∙ q))
        ])
      where
        is_target : node.serial ≡ o.target
        is_target = grind (arith, nat_tests)

        at_target : node_at o.target s.core.nodes ≡ Some node
        at_target = subst (λ (i : ℕ). node_at i s.core.nodes ≡ Some node) is_target (there node first)

        troubled_target : node.problem ≢ None
        troubled_target = excuse node at_target (ap (ma.is_born s.world) (sym at_target) ∙ back)

    surprise_act : (stage : Stage) (m : JobMove) → o.stage ≡ stage → SurpriseAct s.core o (ma.is_back s o Course.Surprising) s.handles stage m → Fine (ma.job_lifted s m).state
    surprise_act _ _ at (SurpriseAct.lags node first behind) =
        let waits : Job = record o { behind = node.serial ∷ o.behind } in
        goes_on s order alone (su.wait s.core o node) tt (same (su.finish_on waits (rest o.todo)) Stage.Next at (λ k h. h) (su_finish_on waits (rest o.todo)).work.kind)
    surprise_act _ _ at (SurpriseAct.leaves node first why) = goes_on s order alone (su.leaves s.core o node) tt (gone node first (su.finish_on o (rest o.todo)) (su_finish_on o (rest o.todo)).work.kind)
    surprise_act _ _ at (SurpriseAct.remains node first apart up) = goes_on s order alone (held s.core o node) tt (troubled node first (su.finish_on o (rest o.todo)) Problem.Held (emptied at node first) (su_finish_on o (rest o.todo)).work.kind)
    surprise_act _ _ at (SurpriseAct.stays node first target back) = stays_behind node first at target back
    surprise_act _ _ at SurpriseAct.closes = closes Stage.Ending at (λ k h. h)

    pub surprise_fine : (stage : Stage) (m : JobMove) → o.stage ≡ stage → SurpriseStep s.core o (ma.is_back s o Course.Surprising) s.handles stage m → Fine (ma.job_lifted s m).state
    surprise_fine _ _ at (SurpriseStep.tells node w e) =
        goes_on s order alone (ended_by s.core node Minor.SurpriseRemoval false (su.tell_on o (rest o.todo))) tt (changed node e.first (su.tell_on o (rest o.todo)) (with_state SurpriseRemoved) (λ x. refl) (su_tell_on o (rest o.todo)).kind tt)
    surprise_fine _ _ at (SurpriseStep.removes node w e) = goes_on s order alone (ended_by s.core node Minor.Remove false (stands o o.todo Stage.Settling)) tt (strips node e.first)
    surprise_fine _ _ at (SurpriseStep.acts stage m act) = surprise_act stage m at act

  -- A finish ---------------------------------------------------------------------------------------------------

  module _ (keeps : FinishKeeps o o.stage s.core.nodes) where
    holds_state : o.stage ≡ Stage.Holding → (node : Node) (first : first_node s.core.nodes o.todo ≡ Some node) → node.state ≡ NoStack
    holds_state at node first = head_emptied o.todo node.serial node.state (head node first) (subst (λ (x : Stage). finish_state o x node.serial node.state ≡ true) at (keeps.each node.serial node (there node first)))

    pub finish_fine : (back : Bool) (stage : Stage) (m : JobMove) → o.stage ≡ stage → FinishStep s.core o back s.handles stage m → Fine (ma.job_lifted s m).state
    finish_fine back _ _ at (FinishStep.removes node w e) =
        let p = fi.settle_on o (fi.is_leaving s.core.nodes node back) node.problem in
        goes_on s order alone (ended_by s.core node Minor.Remove false p) tt (changed node e.first p bare (λ x. refl) (fi_settle_on o (fi.is_leaving s.core.nodes node back) node.problem).kind (by_parts (fi.is_leaving s.core.nodes node back) node.problem refl))
      where
        by_parts : (leaving : Bool) (problem : Option Problem) → node.problem ≡ problem → Undriven s.tasks None (Some (fi.settle_on o leaving problem)) node.serial (bare node)
        by_parts true problem is = inr (inr (head node e.first))
        by_parts false None is = inr (inr (head node e.first))
        by_parts false (Some problem) is = inl (λ q. cc)
    finish_fine back _ _ at (FinishStep.acts _ _ (FinishAct.leaves node first)) = goes_on s order alone (fi.leave s.core o node) tt (gone node first (fi.next_on o) refl)
    finish_fine back _ _ at (FinishStep.acts _ _ (FinishAct.holds node first)) = goes_on s order alone (fi.hold s.core o node) tt (troubled node first (fi.next_on o) Problem.Held (holds_state at node first) refl)
    finish_fine back _ _ at (FinishStep.acts _ _ (FinishAct.closes none)) = closes Stage.Next at (λ k h. h)
