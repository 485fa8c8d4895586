-- Each step of the machine keeps that no handle is open to a device that is asked whether it may be removed, or agreed, or is about to lose its drivers.
use Rattle.std.proofs.Common.{ℕ, ◌≡◌, ◌||◌, inl, inr, Bool, true, false, List, [], ◌∷◌, Option, Some, None, refl, sym, subst, ap, ◌∙◌, map}
use Rattle.std.proofs.lemmas.Bool.{cases_eq}
use Rattle.pnp_labels.specs.declared.states.DevState.{DevState}
use Rattle.pnp_labels.specs.declared.states.Problem.{Problem}
use Rattle.pnp_labels.specs.declared.label.OpKind.{OpKind}
use Rattle.pnp_labels.specs.declared.states.DevState.TheVariants.{NoStack, NotStarted, RemovePending}
use Rattle.pnp_model.specs.Cores.{node_at, stack_of}
use Rattle.pnp_model.specs.Frames.{asked, first_node, rest}
use Rattle.pnp_model.specs.Handles.{is_open, was_told}
use Rattle.pnp_model.specs.Keyed.{those}
use Rattle.pnp_model.specs.Records.{Core, Duty, Handle, Node, State, Step, Walk, Job, Stage, course_of, Course, Relation}
use Rattle.pnp_model.specs.Starts.{StartBeside, StartMove}
use Rattle.pnp_model.specs.States.{with_core}
use Rattle.pnp_model.specs.Tests.{has}
use Rattle.pnp_model.specs.Trees.{leaving}
use Rattle.pnp_laws.specs.Effects.{begun}
use Rattle.pnp_laws.specs.Kept.{BeginsWell, Each, Good, RemovalKeeps, is_calm, is_idle, is_remove_pending, is_stopped, removes}
use Rattle.pnp_laws.proofs.IdleSteps.{First, TaskStep}
use Rattle.pnp_laws.proofs.Lists.{has_cases, head_found, rest_within}
use Rattle.pnp_laws.proofs.Stages.{FinishAct, FinishStep, OperationStep, RemovalAct, RemovalStep, SurpriseAct, SurpriseStep}
use Rattle.pnp_laws.proofs.Standing.{HandlesFit, NoneOpen, RemovalShut, StageShut, is_held, shut_keep, shut_by, shut_walked}
use Rattle.pnp_laws.proofs.ToldMachine.{step_kind, lifted, none_queried}
use Rattle.pnp_laws.proofs.ToldSteps.{after, asked_over}
use Rattle.pnp_laws.proofs.Truths.{untrue}
use Rattle.pnp_model.specs.Machine as ma
use Rattle.pnp_laws.proofs.EffectsOfOperations.{begun_work}
use Rattle.pnp_model.specs.Removals as rm
use Rattle.pnp_model.specs.Surprises as su
use Rattle.pnp_model.specs.Finishes as fi
use Rattle.pnp_model.specs.Jobs.{JobMove, Beside, stands, begins, job_of}
use Rattle.pnp_laws.proofs.FitsBy.{fits_by}

-- who is not held has no handle
pub unopen : (handles : List Handle) (nodes : List Node) (k : ℕ) → HandlesFit handles nodes → ((n : Node) → node_at k nodes ≡ Some n → is_held n.state ≡ true → ⊥) → is_open handles k ≡ false
unopen handles nodes k fits unheld = untrue (is_open handles k) (λ e. let there = fits k e in unheld there.0 there.1 there.2)

over_unheld : (x : DevState) → (is_idle x || is_remove_pending x) ≡ true → is_held x ≡ true → ⊥
over_unheld NoStack h e = cc
over_unheld NotStarted h e = cc
over_unheld RemovePending h e = cc
over_unheld _ h e = cc

calm_unheld : (x : DevState) → is_calm x ≡ true → rm.is_queried x ≡ false → is_stopped x ≡ false → is_held x ≡ true → ⊥
calm_unheld NoStack a b c e = cc
calm_unheld NotStarted a b c e = cc
calm_unheld _ a b c e = cc

-- What comes next ----------------------------------------------------------------------------------

module _ (handles : List Handle) where
  none_open : NoneOpen handles []
  none_open k h = absurd (cc)

  fewer_open : (ks js : List ℕ) → ((k : ℕ) → has js k ≡ true → has ks k ≡ true) → NoneOpen handles ks → NoneOpen handles js
  fewer_open ks js fewer h k g = h k (fewer k g)

  shut_finish_on : (nodes : List Node) (o : Job) → course_of o.kind ≡ Course.Removing → (ks : List ℕ) → NoneOpen handles ks → StageShut handles (Some (rm.finish_on nodes o ks))
  shut_finish_on nodes o course [] h = shut_keep handles Course.Removing _ course none_open
  shut_finish_on nodes o course (k ∷ ks) h = by_stack (stack_of (node_at k nodes))
    where
      by_stack : (stack : List ℕ) → StageShut handles (Some (rm.finish_with o (k ∷ ks) stack))
      by_stack [] = shut_keep handles Course.Removing _ course h
      by_stack (d ∷ ds) = shut_keep handles Course.Removing _ course h

  shut_ask_on : (nodes : List Node) (o : Job) → course_of o.kind ≡ Course.Removing → (ks : List ℕ) → NoneOpen handles o.agreed → (ks ≡ [] → NoneOpen handles o.set) → StageShut handles (Some (rm.ask_on nodes o ks))
  shut_ask_on nodes o course [] agreed all = shut_finish_on nodes o course o.set (all refl)
  shut_ask_on nodes o course (k ∷ ks) agreed all = shut_keep handles Course.Removing _ course agreed

  shut_cancel_on : (o : Job) → course_of o.kind ≡ Course.Removing → (ks : List ℕ) → NoneOpen handles ks → StageShut handles (Some (rm.cancel_on o ks))
  shut_cancel_on o course [] h = shut_keep handles Course.Removing _ course none_open
  shut_cancel_on o course (k ∷ ks) h = shut_keep handles Course.Removing _ course h

  shut_su_finish_on : (o : Job) → course_of o.kind ≡ Course.Surprising → (ks : List ℕ) → StageShut handles (Some (su.finish_on o ks))
  shut_su_finish_on o course [] = shut_keep handles Course.Surprising _ course tt
  shut_su_finish_on o course (k ∷ ks) = shut_keep handles Course.Surprising _ course tt

  shut_tell_on : (o : Job) → course_of o.kind ≡ Course.Surprising → (ks : List ℕ) → StageShut handles (Some (su.tell_on o ks))
  shut_tell_on o course [] = shut_su_finish_on o course o.set
  shut_tell_on o course (k ∷ ks) = shut_keep handles Course.Surprising _ course tt

  shut_settle_on : (f : Job) → course_of f.kind ≡ Course.Finishing → (leaves : Bool) (problem : Option Problem) → StageShut handles (Some (fi.settle_on f leaves problem))
  shut_settle_on f course true problem = shut_keep handles Course.Finishing _ course tt
  shut_settle_on f course false (Some problem) = shut_keep handles Course.Finishing _ course tt
  shut_settle_on f course false None = shut_keep handles Course.Finishing _ course tt

  -- The steps -------------------------------------------------------------------------------------

  module _ (c : Core) (fits : HandlesFit handles c.nodes) where
    -- when all of the set were asked, none of it has a handle
    agreed_shut : (o : Job) (node : Node) (w : Walk) → first_node c.nodes o.todo ≡ Some node → RemovalKeeps o Stage.Asking c.nodes → RemovalShut handles o Stage.Asking → rest o.todo ≡ [] → NoneOpen handles o.set
    agreed_shut o node w first keeps shut last k in_set =
        let head = (head_found c.nodes o.todo node first).0 in
        elim (cases_eq node.serial k) [
          | inl e ↦ subst (λ (i : ℕ). is_open handles i ≡ false) e (shut.1 node.serial head)
          | inr d ↦ unopen handles c.nodes k fits (λ n at. over_unheld n.state (asked_over o.todo o.agreed o.set node.serial k n.state head last d in_set (keeps.each k n at)))
        ]

    shut_removal : (o : Job) → course_of o.kind ≡ Course.Removing → (stage : Stage) (m : JobMove) → RemovalKeeps o stage c.nodes → RemovalShut handles o stage → RemovalStep c o stage m → StageShut handles (after m.frame m.beside)
    shut_removal o course stage m keeps shut (RemovalStep.acts _ _ (RemovalAct.declines node first)) = shut_cancel_on (record o { refused = node.serial ∷ o.refused }) course o.agreed shut
    shut_removal o course stage m keeps shut (RemovalStep.agrees node w e ok) =
        let head = (head_found c.nodes o.todo node e.first).0 in
        shut_ask_on c.nodes (record o { agreed = node.serial ∷ o.agreed }) course (rest o.todo)
        (λ k h. elim (has_cases node.serial k o.agreed h) [ inl e ↦ subst (λ (i : ℕ). is_open handles i ≡ false) e (shut.1 node.serial head) | inr q ↦ shut.0 k q ])
        (agreed_shut o node w e.first keeps shut)
    shut_removal o course stage m keeps shut (RemovalStep.refuses node w e bad) = shut_keep handles Course.Removing (rm.answers c o node true) course shut.0
    shut_removal o course stage m keeps shut (RemovalStep.takes_back node w e) = shut_cancel_on o course o.agreed shut
    shut_removal o course stage m keeps shut (RemovalStep.cancels node w e) = shut_cancel_on o course (rest o.todo) (fewer_open o.todo (rest o.todo) (λ k h. rest_within k o.todo h) shut)
    shut_removal o course stage m keeps shut (RemovalStep.removes node w e) = shut_keep handles Course.Removing (stands o o.todo Stage.Settling) course shut
    shut_removal o course stage m keeps shut (RemovalStep.acts _ _ (RemovalAct.leaves node first inside)) = shut_finish_on c.nodes o course (rest o.todo) (fewer_open o.todo (rest o.todo) (λ k h. rest_within k o.todo h) shut)
    shut_removal o course stage m keeps shut (RemovalStep.acts _ _ (RemovalAct.ejects node first)) = shut_finish_on c.nodes o course (rest o.todo) (fewer_open o.todo (rest o.todo) (λ k h. rest_within k o.todo h) shut)
    shut_removal o course stage m keeps shut (RemovalStep.acts _ _ (RemovalAct.disables node first over target)) = shut_finish_on c.nodes o course (rest o.todo) (fewer_open o.todo (rest o.todo) (λ k h. rest_within k o.todo h) shut)
    shut_removal o course stage m keeps shut (RemovalStep.acts _ _ (RemovalAct.remains node problem first over other)) = shut_finish_on c.nodes o course (rest o.todo) (fewer_open o.todo (rest o.todo) (λ k h. rest_within k o.todo h) shut)
    shut_removal o course stage m keeps shut (RemovalStep.acts _ _ RemovalAct.closes) = tt

  shut_surprise : (c : Core) (o : Job) → course_of o.kind ≡ Course.Surprising → (in_world : Bool) (stage : Stage) (m : JobMove) → SurpriseStep c o in_world handles stage m → StageShut handles (after m.frame m.beside)
  shut_surprise c o course in_world stage m (SurpriseStep.tells node w e) = shut_tell_on o course (rest o.todo)
  shut_surprise c o course in_world stage m (SurpriseStep.removes node w e) = shut_keep handles Course.Surprising (stands o o.todo Stage.Settling) course tt
  shut_surprise c o course in_world stage m (SurpriseStep.acts _ _ (SurpriseAct.lags node first behind)) = shut_su_finish_on (record o { behind = node.serial ∷ o.behind }) course (rest o.todo)
  shut_surprise c o course in_world stage m (SurpriseStep.acts _ _ (SurpriseAct.leaves node first why)) = shut_su_finish_on o course (rest o.todo)
  shut_surprise c o course in_world stage m (SurpriseStep.acts _ _ (SurpriseAct.remains node first other over)) = shut_su_finish_on o course (rest o.todo)
  shut_surprise c o course in_world stage m (SurpriseStep.acts _ _ (SurpriseAct.stays node first target back)) = tt
  shut_surprise c o course in_world stage m (SurpriseStep.acts _ _ SurpriseAct.closes) = tt

  shut_finish : (c : Core) (f : Job) → course_of f.kind ≡ Course.Finishing → (in_world : Bool) (stage : Stage) (m : JobMove) → FinishStep c f in_world handles stage m → StageShut handles (after m.frame m.beside)
  shut_finish c f course in_world stage m (FinishStep.removes node w e) = shut_settle_on f course (fi.is_leaving c.nodes node in_world) node.problem
  shut_finish c f course in_world stage m (FinishStep.acts _ _ (FinishAct.leaves node first)) = shut_keep handles Course.Finishing (fi.next_on f) course tt
  shut_finish c f course in_world stage m (FinishStep.acts _ _ (FinishAct.holds node first)) = shut_keep handles Course.Finishing (fi.next_on f) course tt
  shut_finish c f course in_world stage m (FinishStep.acts _ _ (FinishAct.closes none)) = tt

  -- a rebalance asks nothing of handles
  shut_rebalance : (r : Job) (beside : Beside) → course_of r.kind ≡ Course.Rebalancing → StageShut handles (after r beside)
  shut_rebalance r Beside.Over course = tt
  shut_rebalance r Beside.OverStart course = tt
  shut_rebalance r Beside.OverUndo course = tt
  shut_rebalance r _ course = shut_keep handles Course.Rebalancing r course tt

pub shut_operation : (s : State) (o : Job) (step : Step) → Good s.next_serial s.core.nodes s.activities (Some o) → HandlesFit s.handles s.core.nodes → StageShut s.handles (Some o) → OperationStep s o step → StageShut s.handles step.state.operation
shut_operation s o step good fits shut is = by_step step is
  where
    by_step : (x : Step) → OperationStep s o x → StageShut s.handles x.state.operation
    by_step _ (OperationStep.asks node w asks) = shut_walked o (Some (asked s.core node w).walk) s.handles shut
    by_step _ (OperationStep.rebalances stage m course is x) =
        lifted (λ q c. StageShut s.handles q) m.frame m.beside (with_core m.core s) (shut_rebalance s.handles m.frame m.beside (ap course_of (step_kind s.core o stage m x) ∙ course))
    by_step _ (OperationStep.removes stage m course is x) =
        lifted (λ q c. StageShut s.handles q) m.frame m.beside (with_core m.core s)
        (shut_removal s.handles s.core fits o course stage m (subst (λ (y : Stage). RemovalKeeps o y s.core.nodes) is (fits_by Course.Removing o s.core.nodes course good.fits)) (subst (λ (y : Stage). RemovalShut s.handles o y) is (shut_by s.handles Course.Removing o course shut)) x)
    by_step _ (OperationStep.surprises stage m course is x) =
        lifted (λ q c. StageShut s.handles q) m.frame m.beside (with_core m.core s) (shut_surprise s.handles s.core o course (ma.is_back s o Course.Surprising) stage m x)
    by_step _ (OperationStep.finishes stage m course is x) =
        lifted (λ q c. StageShut s.handles q) m.frame m.beside (with_core m.core s) (shut_finish s.handles s.core o course (ma.is_back s o Course.Finishing) stage m x)

-- No operation runs ------------------------------------------------------------------------------------

pub shut_none : (handles : List Handle) (o : Option Job) → o ≡ None → StageShut handles o
shut_none handles o none = subst (λ (x : Option Job). StageShut handles x) (sym none) tt

pub shut_start : (s : State) (k : ℕ) (m : StartMove) → s.operation ≡ None → StageShut s.handles (ma.start_lifted s k m).state.operation
shut_start s k m none = by_beside m.beside
  where
    by_beside : (b : StartBeside) → StageShut s.handles (ma.after_start k m.frame b (with_core m.core s)).operation
    by_beside StartBeside.On = shut_none s.handles s.operation none
    by_beside _ = shut_none s.handles s.operation none

-- a removal begins: where nobody is asked, none of its set has a handle
removal_begun : (s : State) (kind : OpKind) (node : Node) → BeginsWell s.core s.tasks → Each (λ k x. is_calm x) s.core.nodes → HandlesFit s.handles s.core.nodes → First s (Duty.Begins kind) node.serial → removes kind ≡ true → course_of kind ≡ Course.Removing → StageShut s.handles (Some (rm.begun_removal s.core kind node))
removal_begun s kind node begins calm fits first in_order course =
    let set = leaving s.core node.serial in
    shut_ask_on s.handles s.core.nodes (record (job_of kind node) { set = set; ejecting = map (λ (r : Relation). r.member) (those (rm.is_ejecting set) s.core.relations) }) course
    (those (λ k. rm.is_queried_node (node_at k s.core.nodes)) set) (none_open s.handles)
    (λ empty k in_set. unopen s.handles s.core.nodes k fits
    (λ n at. calm_unheld n.state (calm k n at) (none_queried s.core.nodes set empty k n in_set at) (begins.settled kind node.serial first in_order k n at)))

shut_begins : (s : State) (kind : OpKind) (node : Node) → BeginsWell s.core s.tasks → Each (λ k x. is_calm x) s.core.nodes → HandlesFit s.handles s.core.nodes → First s (Duty.Begins kind) node.serial → StageShut s.handles (Some (begun s kind node))
shut_begins s OpKind.Disable node begins calm fits first = removal_begun s OpKind.Disable node begins calm fits first refl refl
shut_begins s OpKind.Eject node begins calm fits first = removal_begun s OpKind.Eject node begins calm fits first refl refl
shut_begins s OpKind.Surprise node begins calm fits first =
    let set = leaving s.core node.serial in
    shut_tell_on s.handles (record (job_of OpKind.Surprise node) { set = set; told = those (λ k. was_told (node_at k s.core.nodes)) set }) refl
    (those (λ k. su.is_told_node (node_at k s.core.nodes)) set)
shut_begins s OpKind.Finish node begins calm fits first = tt
shut_begins s OpKind.Rebalance node begins calm fits first = shut_keep s.handles Course.Rebalancing _ (ap course_of (begun_work s OpKind.Rebalance node).0) tt
shut_begins s OpKind.Change node begins calm fits first = shut_keep s.handles Course.Rebalancing _ (ap course_of (begun_work s OpKind.Change node).0) tt

pub shut_task : (s : State) (step : Step) → s.operation ≡ None → BeginsWell s.core s.tasks → Each (λ k x. is_calm x) s.core.nodes → HandlesFit s.handles s.core.nodes → TaskStep s step → StageShut s.handles step.state.operation
shut_task s _ none begins calm fits (TaskStep.begins kind node first alone at why) = shut_begins s kind node begins calm fits first
shut_task s _ none begins calm fits _ = shut_none s.handles s.operation none
