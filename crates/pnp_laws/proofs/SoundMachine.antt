-- Each step and each event of the machine keeps the tree and what is due.
use Rattle.std.proofs.Common.{ℕ, ◌≡◌, ◌⊎◌, ◌∙◌, ◌≢◌, ◌==◌, inl, inr, Bool, true, false, List, [], ◌∷◌, ◌++◌, Option, Some, None, refl, sym, ap, subst, arith}
use Rattle.std.proofs.lemmas.Bool.Decides.{nat_tests}
use Rattle.device_ids.specs.Folding.{same}
use Rattle.pnp_model.specs.Tests.{has, is_surprise_task}
use Rattle.pnp_model.proofs.Due.{due_is_first}
use Rattle.pnp_model.specs.Records.{Node, Core, Relation, Activity, Task, State, Step, Settings, Duty, Job, Stage, course_of, Course}
use Rattle.pnp_model.specs.Cores.{node_at}
use Rattle.pnp_model.specs.Trees.{dependents}
use Rattle.pnp_model.specs.States.{set_operation, with_core}
use Rattle.pnp_labels.specs.declared.event.Event.{Event}
use Rattle.pnp_labels.specs.declared.label.OpKind.{OpKind}
use Rattle.pnp_laws.specs.Kept.{Ascending, Good, IsGood, BeginsWell, is_idle, RebalanceKeeps, RemovalKeeps, SurpriseKeeps, FinishKeeps}
use Rattle.pnp_laws.specs.Due.{AllDue}
use Rattle.pnp_labels.specs.declared.label.Label.{Label}
use Rattle.pnp_laws.specs.Effects.{AnswerEffect, CommandEffect, NodeEffect, Related}
use Rattle.pnp_laws.specs.Words.{IsWord}
use Rattle.pnp_laws.proofs.EffectViews.{acting_fits}
use Rattle.pnp_laws.proofs.EffectsOfEvents.{event_effect}
use Rattle.pnp_laws.proofs.EventChanges.{happens_outside, relations_stay, still_serial}
use Rattle.pnp_laws.proofs.Lookups.{node_found}
use Rattle.pnp_laws.proofs.OpSteps.{is_Started}
use Rattle.pnp_laws.proofs.Orders.{leaving_fits}
use Rattle.pnp_laws.proofs.Due.{settled_from_due}
use Rattle.pnp_laws.proofs.Standing.{Tree, DueBut, waiting, rebalance_waiting, StageKept, ToldKept, OrderKept, RemovalOrder, SurpriseOrder, SurpriseTold, FinishOrder, Stands, Sound, Finishes, FinishesBut, HeadAlone, RebalanceThere, RemovalThere, SurpriseThere, FinishThere, JobKept, kept_by, told_by, waits_by, kept_walked, waits_walked}
use Rattle.pnp_laws.proofs.TreeChanges.{edges_same, same_still, tree_same}
use Rattle.pnp_laws.proofs.TreeMoves.{tree_related}
use Rattle.pnp_laws.proofs.Sounds.{IsPlain, leads_pushed, up_append, up_first, due_still}
use Rattle.pnp_laws.proofs.Finishes.{alone_less, but_still, fades_same, finishes_still}
use Rattle.pnp_laws.proofs.SoundOps.{MoreTasks, more_same, more_pushed, op_still}
use Rattle.pnp_laws.proofs.IdleSteps.{MachineStep, machine_step}
use Rattle.pnp_laws.proofs.SoundStarts.{sound_act, stage_none}
use Rattle.pnp_laws.proofs.SoundRebalances.{sound_rebalance}
use Rattle.pnp_laws.proofs.SoundRemovals.{sound_removal, sound_surprise, sound_finish}
use Rattle.pnp_laws.proofs.Turns.{turn_good}
use Rattle.pnp_laws.proofs.TurnsKept.{turn_stage, turn_told, turn_waiting}
use Rattle.pnp_laws.proofs.Stages.{OperationStep, asking, own_step, reply}
use Rattle.pnp_laws.proofs.SoundTasks.{sound_drop, sound_task}
use Rattle.pnp_model.specs.Machine as ma
use Rattle.pnp_model.specs.Events as ev
use Rattle.pnp_model.specs.Walks.{after}
use Rattle.pnp_laws.proofs.FitsBy.{fits_by}

-- What is kept of an operation -----------------------------------------------------------------------

-- the operation's facts are of nodes and relations alone
module _ (c d : Core) (order : Ascending 0 c.nodes) (a : d.nodes ≡ c.nodes) (b : d.relations ≡ c.relations) (o : Job) where
  moved : (todo : List ℕ) → Finishes c o.set todo → Finishes d o.set todo
  moved todo f = finishes_still c d o.set todo (fades_same c d order (subst (λ (x : List Node). Ascending 0 x) (sym a) order) (same_still c d a b)) a f

  but : (todo : List ℕ) → FinishesBut c o.set o.behind todo → FinishesBut d o.set o.behind todo
  but todo f = but_still c o.set o.behind todo d (fades_same c d order (subst (λ (x : List Node). Ascending 0 x) (sym a) order) (same_still c d a b)) a f

  alone : HeadAlone c o.todo → HeadAlone d o.todo
  alone f = alone_less c d o.todo (edges_same c d (same_still c d a b)) f

  same_removal : (stage : Stage) → RemovalOrder c o stage → RemovalOrder d o stage
  same_removal Stage.Next h = moved o.set h
  same_removal Stage.Asking h = moved o.set h
  same_removal Stage.Removing h = moved o.todo h
  same_removal Stage.Settling h = moved o.todo h
  same_removal _ h = tt

  same_surprise : (stage : Stage) → SurpriseOrder c o stage → SurpriseOrder d o stage
  same_surprise Stage.Telling h = moved o.set h
  same_surprise Stage.Next h = but o.todo h
  same_surprise Stage.Removing h = (but o.todo h.0, alone h.1)
  same_surprise Stage.Settling h = (but o.todo h.0, alone h.1)
  same_surprise Stage.Ending h = but [] h
  same_surprise _ h = tt

  same_finish : (stage : Stage) → FinishOrder c o stage → FinishOrder d o stage
  same_finish Stage.Removing h = alone h
  same_finish Stage.Leaving h = alone h
  same_finish _ h = tt

  same_kept : (course : Course) → JobKept course o c → JobKept course o d
  same_kept Course.Rebalancing h = (h.0, subst (λ (x : List Node). RebalanceThere o o.stage x) (sym a) h.1)
  same_kept Course.Removing h = (same_removal o.stage h.0, subst (λ (x : List Node). RemovalThere o o.stage x) (sym a) h.1)
  same_kept Course.Surprising h = (same_surprise o.stage h.0, subst (λ (x : List Node). SurpriseThere o o.stage x) (sym a) h.1)
  same_kept Course.Finishing h = (same_finish o.stage h.0, subst (λ (x : List Node). FinishThere o o.stage x) (sym a) h.1)

stage_same : (o : Option Job) (c d : Core) → Ascending 0 c.nodes → d.nodes ≡ c.nodes → d.relations ≡ c.relations → StageKept o c → StageKept o d
stage_same None c d order a b h = tt
stage_same (Some o) c d order a b h = same_kept c d order a b o (course_of o.kind) h

-- Steps --------------------------------------------------------------------------------------------

sound_operation : (s : State) (o : Job) (step : Step) → Good s.next_serial s.core.nodes s.activities (Some o) → ToldKept (Some o) s.core → StageKept (Some o) s.core → DueBut (waiting (Some o)) s.tasks s.core.nodes → Stands s → OperationStep s o step → Sound s step
sound_operation s o step good told kept due h is = by_step step is
  where
    g : Good s.next_serial s.core.nodes [] (Some o)
    g = subst (λ (acts : List Activity). Good s.next_serial s.core.nodes acts (Some o)) good.alone good

    by_step : (x : Step) → OperationStep s o x → Sound s x
    by_step _ (OperationStep.asks node w asks) =
        let t = (asking s o node w).state in
        op_still s t _ (waiting (Some o)) tt refl refl refl refl (λ same. stage_same (Some (record o { walk = Some (after w (reply s.core node w)) })) s.core t.core good.serials refl refl (kept_walked o (Some (after w (reply s.core node w))) s.core kept)) (waits_walked o (Some (after w (reply s.core node w)))) due h
    by_step _ (OperationStep.rebalances stage m course is x) =
        let kept = kept_by Course.Rebalancing o s.core course kept in
        sound_rebalance s o course g (told_by Course.Rebalancing o s.core course told) h stage m (subst (λ (y : Stage). RebalanceKeeps o y s.core.nodes) is (fits_by Course.Rebalancing o s.core.nodes course good.fits))
        (subst (λ (y : Stage). OrderKept o y) is kept.0) (subst (λ (y : Stage). RebalanceThere o y s.core.nodes) is kept.1)
        (subst (λ (y : Stage). DueBut (rebalance_waiting o y) s.tasks s.core.nodes) is (subst (λ (ks : List ℕ). DueBut ks s.tasks s.core.nodes) (waits_by Course.Rebalancing o course) due)) x
    by_step _ (OperationStep.removes stage m course is x) =
        let kept = kept_by Course.Removing o s.core course kept in
        sound_removal s o course g (subst (λ (ks : List ℕ). DueBut ks s.tasks s.core.nodes) (waits_by Course.Removing o course) due) h stage m (subst (λ (y : Stage). RemovalKeeps o y s.core.nodes) is (fits_by Course.Removing o s.core.nodes course good.fits))
        (subst (λ (y : Stage). RemovalOrder s.core o y) is kept.0) (subst (λ (y : Stage). RemovalThere o y s.core.nodes) is kept.1) x
    by_step _ (OperationStep.surprises stage m course is x) =
        let kept = kept_by Course.Surprising o s.core course kept in
        sound_surprise s o course g (subst (λ (ks : List ℕ). DueBut ks s.tasks s.core.nodes) (waits_by Course.Surprising o course) due) h (ma.is_back s o Course.Surprising) s.handles stage m
        (subst (λ (y : Stage). SurpriseKeeps o y s.core.nodes) is (fits_by Course.Surprising o s.core.nodes course good.fits)) (subst (λ (y : Stage). SurpriseOrder s.core o y) is kept.0)
        (subst (λ (y : Stage). SurpriseThere o y s.core.nodes) is kept.1) (subst (λ (y : Stage). SurpriseTold s.core o y) is (told_by Course.Surprising o s.core course told)) x
    by_step _ (OperationStep.finishes stage m course is x) =
        let kept = kept_by Course.Finishing o s.core course kept in
        sound_finish s o course g (subst (λ (ks : List ℕ). DueBut ks s.tasks s.core.nodes) (waits_by Course.Finishing o course) due) h (ma.is_back s o Course.Finishing) s.handles stage m
        (subst (λ (y : Stage). FinishKeeps o y s.core.nodes) is (fits_by Course.Finishing o s.core.nodes course good.fits)) (subst (λ (y : Stage). FinishOrder s.core o y) is kept.0)
        (subst (λ (y : Stage). FinishThere o y s.core.nodes) is kept.1) x

pub sound_step : (settings : Settings) (s : State) (step : Step) → IsGood s → ToldKept s.operation s.core → Stands s → ma.IsStep settings (ma.next settings s) step → Sound s step
sound_step settings s step good told h is = by_step step (machine_step settings s step is)
  where
    calm : s.operation ≡ None → Good s.next_serial s.core.nodes s.activities None
    calm none = subst (λ (x : Option Job). Good s.next_serial s.core.nodes s.activities x) none good

    by_step : (x : Step) → MachineStep s x → Sound s x
    by_step _ (MachineStep.operates o x runs taken) =
        let p = taken.now in
        let g = subst (λ (y : Option Job). Good s.next_serial s.core.nodes s.activities y) runs good in
        let w = subst (λ (y : Option Job). ToldKept y s.core) runs told in
        let now = turn_good s o p taken.turn g in
        sound_operation s p x now (turn_told s o p taken.turn w) (turn_stage s h.tree o p taken.turn g w (subst (λ (y : Option Job). StageKept y s.core) runs h.stage))
        (subst (λ (ks : List ℕ). DueBut ks s.tasks s.core.nodes) (sym (turn_waiting s o p taken.turn)) (subst (λ (y : Option Job). DueBut (waiting y) s.tasks s.core.nodes) runs h.due)) h (own_step s p x now.fits taken.is)
    by_step _ (MachineStep.starts node phase m at acting is) =
        let fit = acting_fits s node.serial node phase at acting good in
        sound_act s node acting.none at fit.0 h phase m fit.1 good.serials is
    by_step _ (MachineStep.does x none is) = sound_task s x none (calm none) (subst (λ (y : Option Job). ToldKept y s.core) none told) h is

-- a client declines what is due, which is no surprise
pub sound_declined : (s : State) (label : Label) (t : State) → ma.IsDeclined s label t → Stands s → Sound s (record { label = label; state = t })
sound_declined s label t declines h =
    let first = due_is_first s declines.first declines.is_due in
    subst (λ (x : State). Sound s (record { label = label; state = x })) (sym declines.dropped)
    (sound_drop s label (record { kind = Duty.Begins declines.first.kind; serial = declines.first.serial }) (subst IsPlain (sym declines.says) tt) first.task (in_order declines.first.kind declines.in_order) first.idle h)
  where
    in_order : (kind : OpKind) → ma.is_in_order kind ≡ true → is_surprise_task (Duty.Begins kind) ≡ false
    in_order OpKind.Disable h = refl
    in_order OpKind.Eject h = refl
    in_order _ h = absurd (cc)

-- What the begin of an operation needs -------------------------------------------------------------

pub begins_well : (s : State) → s.operation ≡ None → IsGood s → Stands s → BeginsWell s.core s.tasks
begins_well s none good h =
    let due : AllDue s.tasks s.core.nodes =
    λ k n at stopped.
    elim (subst (λ (x : Option Job). DueBut (waiting x) s.tasks s.core.nodes) none h.due k n at stopped) [ inl q ↦ q | inr q ↦ absurd (cc) ] in
    record {
      up = λ kind k first. up_first s.tasks (record { kind = Duty.Begins kind; serial = k }) first h.up;
      orders = λ k n at up. leaving_fits h.tree.rank s.core k n good.serials h.tree.ranked h.tree.free at up;
      settled = λ kind k first r j n at. settled_from_due s.tasks s.core.nodes kind k due first r j n at;
    }

-- Events ---------------------------------------------------------------------------------------------

-- nodes, relations and operation stay, and tasks are added at the end
outside : (s t : State) → Ascending 0 s.core.nodes → t.core.nodes ≡ s.core.nodes → t.core.relations ≡ s.core.relations → t.next_serial ≡ s.next_serial → t.operation ≡ s.operation → MoreTasks s.tasks t.tasks → Stands s → Stands t
outside s t order a b next op tasks h =
    record {
      tree = subst (λ (i : ℕ). Tree i t.core) (sym next) (tree_same s.next_serial s.core t.core (same_still s.core t.core a b) h.tree);
      up = tasks.up h.up;
      stage = subst (λ (x : Option Job). StageKept x t.core) (sym op) (stage_same s.operation s.core t.core order a b h.stage);
      due =
          subst (λ (x : Option Job). DueBut (waiting x) t.tasks t.core.nodes) (sym op)
          (due_still (waiting s.operation) (waiting s.operation) s.tasks t.tasks s.core.nodes t.core.nodes a tasks.leads (λ k q. q) h.due);
    }

-- the begin of an operation is appended for a device that is not the root
more_begins : (tasks : List Task) (kind : OpKind) (k : ℕ) → k ≢ 0 → MoreTasks tasks (tasks ++ record { kind = Duty.Begins kind; serial = k } ∷ [])
more_begins tasks kind k up = record { up = λ h. up_append tasks (record { kind = Duty.Begins kind; serial = k }) up h; leads = leads_pushed tasks (record { kind = Duty.Begins kind; serial = k }) }

event_tasks : (s t : State) → IsGood s → CommandEffect s t → MoreTasks s.tasks t.tasks
event_tasks s t good (CommandEffect.same e) = subst (λ (ts : List Task). MoreTasks s.tasks ts) (sym e) (more_same s.tasks)
event_tasks s t good (CommandEffect.lists k e) = subst (λ (ts : List Task). MoreTasks s.tasks ts) (sym e) (more_pushed s.tasks (record { kind = Duty.Listing; serial = k }) (inl refl))
event_tasks s t good (CommandEffect.starts path n found e) = subst (λ (ts : List Task). MoreTasks s.tasks ts) (sym e) (more_pushed s.tasks (record { kind = Duty.Starting; serial = n.serial }) (inr refl))
event_tasks s t good (CommandEffect.finishes n path found told e) =
    let at = (node_found (λ m. same m.path path) 0 s.core.nodes n good.serials found).1 in
    let up : n.serial ≢ 0 = λ z. let root = (good.stacks n.serial n at).root z in cc in
    subst (λ (ts : List Task). MoreTasks s.tasks ts) (sym e) (more_begins s.tasks OpKind.Finish n.serial up)
event_tasks s t good (CommandEffect.begins kind n path found up e) = subst (λ (ts : List Task). MoreTasks s.tasks ts) (sym e) (more_begins s.tasks kind n.serial (grind (arith, nat_tests)))

-- two devices are related
related_stands : (s : State) (r : Relation) → Related s r → IsGood s → Stands s → Stands (with_core (ev.add_relation r s.core) s)
related_stands s r rel good h =
    let up = is_Started rel.owner.state rel.owner_up in
    let owner = (node_found (λ n. same n.path rel.owner_path) 0 s.core.nodes rel.owner good.serials rel.owner_at).1 in
    let member = (node_found (λ n. same n.path rel.member_path) 0 s.core.nodes rel.member good.serials rel.member_at).1 in
    let apart : rel.owner.serial ≢ rel.member.serial = differ rel.owner.serial rel.member.serial rel.apart in
    let free = subst (λ (i : ℕ). has (dependents s.core i) r.owner ≡ false) (sym rel.member_is) (subst (λ (i : ℕ). has (dependents s.core rel.member.serial) i ≡ false) (sym rel.owner_is) rel.free) in
    record {
      tree = tree_related s.next_serial s.core r rel.owner rel.member good.serials good.below (subst (λ (i : ℕ). node_at i s.core.nodes ≡ Some rel.owner) (sym rel.owner_is) owner)
          (subst (λ (i : ℕ). node_at i s.core.nodes ≡ Some rel.member) (sym rel.member_is) member) (ap is_idle up) (λ e. let q = is_Started rel.member.state rel.member_up in cc) (λ e. apart (sym rel.owner_is ∙ e ∙ rel.member_is)) free h.tree;
      up = h.up;
      stage = stage_none s.operation _ rel.none;
      due = h.due;
    }
  where
    differ : (j k : ℕ) → (j == k) ≡ false → j ≢ k
    differ j k e = grind (arith, nat_tests)

-- complete

answered_stands : (s : State) (ok : Bool) (o : Job) → s.operation ≡ Some o → Stands s → Stands (set_operation (Some (ev.completed (ev.answer_of ok) o)) s)
answered_stands s ok o e h =
    record {
      tree = h.tree;
      up = h.up;
      stage = kept_walked o (ev.completed (ev.answer_of ok) o).walk s.core (subst (λ (x : Option Job). StageKept x s.core) e h.stage);
      due =
          subst (λ (ks : List ℕ). DueBut ks s.tasks s.core.nodes) (sym (waits_walked o (ev.completed (ev.answer_of ok) o).walk))
          (subst (λ (x : Option Job). DueBut (waiting x) s.tasks s.core.nodes) e h.due);
    }

-- in an event relations stay, or one is added
event_relations : (s : State) (label : Label) (t : State) → IsWord label → NodeEffect s label t → (t.core.relations ≡ s.core.relations) ⊎ ((r : Relation) × Related s r × (t.core.relations ≡ s.core.relations ++ r ∷ []))
event_relations s label t word (NodeEffect.same nodes e) = inl e
event_relations s label t word (NodeEffect.changed j f alters nodes e) = inl e
event_relations s label t word (NodeEffect.stripped node w at request ends prints nodes e) = absurd (subst (λ (x : Label). IsWord x) prints word)
event_relations s label t word (NodeEffect.commits r runs course is nodes e) = inl e
event_relations s label t word (NodeEffect.joins node d none at up there is) = inl (ap (λ (x : Step). x.state.core.relations) is)
event_relations s label t word (NodeEffect.left node o runs first nodes e) = inl e
event_relations s label t word (NodeEffect.related r rel nodes e) = inr (r, rel, e)

stands_still : (s t : State) → IsGood s → t.core.nodes ≡ s.core.nodes → t.next_serial ≡ s.next_serial → t.operation ≡ s.operation → MoreTasks s.tasks t.tasks
    → (t.core.relations ≡ s.core.relations) ⊎ ((r : Relation) × Related s r × (t.core.relations ≡ s.core.relations ++ r ∷ [])) → Stands s → Stands t
stands_still s t good nodes serial now tasks (inl e) h = outside s t good.serials nodes e serial now tasks h
stands_still s t good nodes serial now tasks (inr (r, rel, e)) h = outside (with_core (ev.add_relation r s.core) s) t good.serials nodes e serial now tasks (related_stands s r rel good h)

stands_event : (s : State) (label : Label) (t : State) → IsGood s → t.next_serial ≡ s.next_serial → NodeEffect s label t → CommandEffect s t → AnswerEffect s label t → Stands s → Stands t
stands_event s label t good serial nodes tasks (AnswerEffect.stays word same acts now) h = stands_still s t good same serial now (event_tasks s t good tasks) (event_relations s label t word nodes) h
stands_event s label t good serial nodes tasks (AnswerEffect.answers word same k a ok at acts now) h = stands_still s t good same serial now (event_tasks s t good tasks) (event_relations s label t word nodes) h
stands_event s label t good serial nodes tasks (AnswerEffect.answered word same acts ok o runs now) h =
    outside (set_operation (Some (ev.completed (ev.answer_of ok) o)) s) t good.serials same (relations_stay s label t o word runs nodes) serial now (event_tasks s t good tasks) (answered_stands s ok o runs h)

pub stands_happens : (s : State) (event : Event) → IsGood s → Stands s → Stands (ev.happens s event).state
stands_happens s event good h =
    let effect = event_effect s event in
    let step = ev.happens s event in
    stands_event s step.label step.state good (still_serial s.next_serial step.state.next_serial step.label (happens_outside s event).word effect.serial) effect.nodes effect.tasks effect.operation h
