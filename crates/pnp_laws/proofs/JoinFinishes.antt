-- The device that leaves in a finish is not in the world, or goes with a parent that was told so: by each step and each event.
use Rattle.std.proofs.Common.{ℕ, ◌≡◌, ◌≢◌, ◌⊎◌, inl, inr, Bool, true, false, not, List, [], ◌∷◌, Option, Some, None, refl, sym, ap, ◌∙◌, subst, arith}
use Rattle.std.specs.Option.{option_map}
use Rattle.pnp_labels.specs.Texts.{Text}
use Rattle.pnp_labels.specs.declared.label.Label.{Label}
use Rattle.pnp_labels.specs.declared.label.OpKind.{OpKind}
use Rattle.pnp_labels.specs.declared.states.Problem.{Problem}
use Rattle.pnp_model.specs.Cores.{bare, is_node, node_at}
use Rattle.pnp_model.specs.Frames.{asked, first_node}
use Rattle.pnp_model.specs.Handles.{was_told}
use Rattle.pnp_model.specs.Keyed.{changed_first}
use Rattle.pnp_model.specs.Machine.{after_job, is_back, is_born, job_lifted}
use Rattle.pnp_model.specs.Records.{Course, Device, Job, Node, Stage, State, Step, Walk, course_of}
use Rattle.pnp_model.specs.States.{is_in_world, set_operation, with_core}
use Rattle.pnp_laws.specs.Effects.{OpEffect, Running, begun}
use Rattle.pnp_laws.specs.Kept.{FinishKeeps, OperationFits}
use Rattle.pnp_laws.proofs.EventChanges.{Answered}
use Rattle.pnp_laws.proofs.EffectsOfOperations.{begun_work, turn_work}
use Rattle.pnp_laws.proofs.Finishing.{relist_only}
use Rattle.pnp_laws.proofs.FinishingSteps.{finished_up}
use Rattle.pnp_laws.proofs.Joins.{Leaving, LeavingIn, stage_leaving}
use Rattle.pnp_laws.proofs.Lists.{HeadIs, head_found}
use Rattle.pnp_laws.proofs.Lookups.{node_changed_other, node_changed_same, some_same}
use Rattle.pnp_laws.proofs.Ranks.{Rooted}
use Rattle.pnp_laws.proofs.Stages.{FinishAct, FinishStep, OperationStep}
use Rattle.pnp_laws.proofs.Truths.{not_true, or_cases}
use Rattle.pnp_model.specs.Events as ev
use Rattle.pnp_model.specs.Finishes as fi
use Rattle.pnp_model.specs.Jobs.{JobMove, Beside}
use Rattle.pnp_model.specs.Walks.{after}
use Rattle.pnp_laws.proofs.FitsBy.{fits_by}

-- Events -------------------------------------------------------------------------------------------------

-- who was not in the world is not in it now
pub leaving_fewer : (o : Option Job) (nodes : List Node) (old new : List Device) → ((k : ℕ) (n : Node) → node_at k nodes ≡ Some n → is_in_world old n.born ≡ false → is_in_world new n.born ≡ false) → Leaving o nodes old → Leaving o nodes new
leaving_fewer None nodes old new fewer h = tt
leaving_fewer (Some f) nodes old new fewer h = by_course (course_of f.kind) h
  where
    by_stage : (stage : Stage) → stage_leaving f stage nodes old → stage_leaving f stage nodes new
    by_stage Stage.Leaving h = λ n first. elim (h n first) [ inl told ↦ inl told | inr out ↦ inr (fewer n.serial n (head_found nodes f.todo n first).1 out) ]
    by_stage _ h = tt

    by_course : (course : Course) → LeavingIn course f nodes old → LeavingIn course f nodes new
    by_course Course.Finishing h = by_stage f.stage h
    by_course _ h = tt

walked_leaving : (f : Job) (walk : Option Walk) (nodes : List Node) (world : List Device) → Leaving (Some f) nodes world → Leaving (Some (record f { walk = walk })) nodes world
walked_leaving f walk nodes world h = by_course (course_of f.kind) h
  where
    by_stage : (stage : Stage) → stage_leaving f stage nodes world → stage_leaving (record f { walk = walk }) stage nodes world
    by_stage Stage.Leaving h = h
    by_stage _ h = tt

    by_course : (course : Course) → LeavingIn course f nodes world → LeavingIn course (record f { walk = walk }) nodes world
    by_course Course.Finishing h = by_stage f.stage h
    by_course _ h = tt

pub leaving_answered : (o p : Option Job) (nodes : List Node) (world : List Device) → Answered o p → Leaving o nodes world → Leaving p nodes world
leaving_answered o p nodes world (inl e) h = subst (λ (x : Option Job). Leaving x nodes world) (sym e) h
leaving_answered o p nodes world (inr (ok, q, was, now)) h =
    subst (λ (x : Option Job). Leaving x nodes world) (sym now) (walked_leaving q (option_map (λ w. after w (ev.answer_of ok)) q.walk) nodes world (subst (λ (x : Option Job). Leaving x nodes world) was h))

-- Steps --------------------------------------------------------------------------------------------------

pub left_by : (course : Course) (o : Job) (nodes : List Node) (world : List Device) → course_of o.kind ≡ course → Leaving (Some o) nodes world → LeavingIn course o nodes world
left_by course o nodes world is h = subst (λ (x : Course). LeavingIn x o nodes world) is h

pub left_in : (course : Course) (o : Job) (nodes : List Node) (world : List Device) → course_of o.kind ≡ course → LeavingIn course o nodes world → Leaving (Some o) nodes world
left_in course o nodes world is h = subst (λ (x : Course). LeavingIn x o nodes world) (sym is) h

-- only a finish lets devices leave that may stand in the world
free_in : (o : Job) (nodes : List Node) (world : List Device) → ((course_of o.kind ≡ Course.Finishing) → o.stage ≡ Stage.Leaving → ⊥) → Leaving (Some o) nodes world
free_in o nodes world free = by_course (course_of o.kind) refl
  where
    by_stage : (stage : Stage) → o.stage ≡ stage → course_of o.kind ≡ Course.Finishing → stage_leaving o stage nodes world
    by_stage Stage.Leaving is course = absurd (free course is)
    by_stage _ is course = tt

    by_course : (course : Course) → course_of o.kind ≡ course → LeavingIn course o nodes world
    by_course Course.Finishing course = by_stage o.stage refl course
    by_course _ course = tt

-- none at the begin
begun_stays : (s : State) (kind : OpKind) (node : Node) → course_of (begun s kind node).kind ≡ Course.Finishing → (begun s kind node).stage ≡ Stage.Leaving → ⊥
begun_stays s OpKind.Finish node course is = absurd (cc)
begun_stays s OpKind.Rebalance node course is = absurd (let k = (begun_work s OpKind.Rebalance node).0 in let e = sym (ap course_of k) ∙ course in cc)
begun_stays s OpKind.Change node course is = absurd (let k = (begun_work s OpKind.Change node).0 in let e = sym (ap course_of k) ∙ course in cc)
begun_stays s OpKind.Disable node course is = absurd (let k = (begun_work s OpKind.Disable node).0 in let e = sym (ap course_of k) ∙ course in cc)
begun_stays s OpKind.Eject node course is = absurd (let k = (begun_work s OpKind.Eject node).0 in let e = sym (ap course_of k) ∙ course in cc)
begun_stays s OpKind.Surprise node course is = absurd (let k = (begun_work s OpKind.Surprise node).0 in let e = sym (ap course_of k) ∙ course in cc)

-- where no operation runs, none is in the midst of a finish
pub leaving_idle : (s : State) (label : Label) (t : State) → s.operation ≡ None → OpEffect s label t → Leaving t.operation t.core.nodes t.world
leaving_idle s label t none (OpEffect.idles was now why) = subst (λ (x : Option Job). Leaving x t.core.nodes t.world) (sym now) tt
leaving_idle s label t none (OpEffect.begins kind node was alone at fits is) = subst (λ (x : Step). Leaving x.state.operation x.state.core.nodes x.state.world) (sym is) (free_in (begun s kind node) s.core.nodes s.world (λ course is. begun_stays s kind node course is))
leaving_idle s label t none (OpEffect.goes o p was now same why) = absurd (cc)
leaving_idle s label t none (OpEffect.ends o result now over prints fits closes) = absurd (let was = now.runs in cc)

-- the operation goes on, or is over
abbrev Still : Job → Option Job → Type 0
Still o next = (next ≡ Some o) ⊎ (next ≡ None)

left_so : (o : Job) (path : Text) (born : ℕ) (u : State) → Still o (after_job o (Beside.Left path born) u).operation
left_so o path born u = inl (relist_only path born (set_operation (Some o) u)).operation

still : (o : Job) (next : Option Job) (nodes : List Node) (world : List Device) → Leaving (Some o) nodes world → Still o next → Leaving next nodes world
still o next nodes world h (inl e) = subst (λ (x : Option Job). Leaving x nodes world) (sym e) h
still o next nodes world h (inr e) = subst (λ (x : Option Job). Leaving x nodes world) (sym e) tt

head_same : (todo : List ℕ) (j k : ℕ) → HeadIs j todo → HeadIs k todo → j ≡ k
head_same [] j k a b = absurd a
head_same (i ∷ is) j k a b = sym a ∙ b

-- its drivers are removed, and it is to leave
module _ (s : State) (f : Job) (course : course_of f.kind ≡ Course.Finishing) (node : Node) (rooted : Rooted s.core) (one : (k : ℕ) × (f.todo ≡ k ∷ []) × (k ≢ 0)) (first : first_node s.core.nodes f.todo ≡ Some node) where
  abbrev now : List Node
  now = changed_first (is_node node.serial) bare s.core.nodes

  parent_stays : node_at node.parent now ≡ node_at node.parent s.core.nodes
  parent_stays =
      let head = head_found s.core.nodes f.todo node first in
      let over = (rooted node.serial node head.1 (finished_up f.todo node.serial one head.0)).0 in
      node_changed_other node.serial node.parent bare s.core.nodes (λ x. refl) (λ e. let z = e in absurd (omega arith))

  head_now : (n : Node) → first_node now f.todo ≡ Some n → bare node ≡ n
  head_now n h =
      let old = head_found s.core.nodes f.todo node first in
      let new = head_found now f.todo n h in
      let own = head_same f.todo n.serial node.serial new.0 old.0 in
      some_same (node_at node.serial now) (bare node) n (node_changed_same node.serial bare s.core.nodes (λ x. refl) ∙ ap (option_map bare) old.1) (subst (λ (i : ℕ). node_at i now ≡ Some n) own new.1)

  leaves_so : fi.is_leaving s.core.nodes node (is_back s f Course.Finishing) ≡ true → stage_leaving f Stage.Leaving now s.world
  leaves_so h n there =
      let same = head_now n there in
      elim (or_cases (was_told (node_at node.parent s.core.nodes)) (not (is_back s f Course.Finishing)) h) [
        | inl told ↦ inl (ap (λ (x : Node). was_told (node_at x.parent now)) (sym same) ∙ ap was_told parent_stays ∙ told)
        | inr out ↦ inr (ap (λ (x : Node). is_in_world s.world x.born) (sym same) ∙ sym (ap (is_born s.world) first) ∙ not_true (is_back s f Course.Finishing) out)
      ]

  settles_so : (b : Bool) (problem : Option Problem) → fi.is_leaving s.core.nodes node (is_back s f Course.Finishing) ≡ b → Leaving (Some (fi.settle_on f b problem)) now s.world
  settles_so true problem h = left_in Course.Finishing (fi.settle_on f true problem) now s.world course (leaves_so h)
  settles_so false None h = left_in Course.Finishing (fi.settle_on f false None) now s.world course tt
  settles_so false (Some problem) h = left_in Course.Finishing (fi.settle_on f false (Some problem)) now s.world course tt

finish_leaving : (s : State) (f : Job) (stage : Stage) (m : JobMove) → course_of f.kind ≡ Course.Finishing → Rooted s.core → FinishKeeps f stage s.core.nodes → FinishStep s.core f (is_back s f Course.Finishing) s.handles stage m
    → Leaving (job_lifted s m).state.operation (job_lifted s m).state.core.nodes (job_lifted s m).state.world
finish_leaving s f stage m course rooted keeps (FinishStep.removes node w e) = settles_so s f course node rooted keeps.one e.first (fi.is_leaving s.core.nodes node (is_back s f Course.Finishing)) node.problem refl
finish_leaving s f stage m course rooted keeps (FinishStep.acts _ _ (FinishAct.leaves node first)) = still (fi.next_on f) _ _ _ (left_in Course.Finishing (fi.next_on f) _ _ course tt) (left_so (fi.next_on f) node.path node.born (with_core m.core s))
finish_leaving s f stage m course rooted keeps (FinishStep.acts _ _ (FinishAct.holds node first)) = left_in Course.Finishing (fi.next_on f) _ _ course tt
finish_leaving s f stage m course rooted keeps (FinishStep.acts _ _ (FinishAct.closes none)) = tt

-- of another course
others_leaving : (s : State) (label : Label) (t : State) (o : Job) → Running s o → (course_of o.kind ≡ Course.Finishing → ⊥) → OpEffect s label t → Leaving t.operation t.core.nodes t.world
others_leaving s label t o runs other (OpEffect.idles was now why) = absurd (let is = runs.runs in cc)
others_leaving s label t o runs other (OpEffect.begins kind node was alone at fits is) = absurd (let now = runs.runs in cc)
others_leaving s label t o runs other (OpEffect.goes q p was now same why) =
    let first : runs.before ≡ q = let is = runs.runs in cc in
    let kind : p.kind ≡ o.kind = same.kind ∙ ap (λ (x : Job). x.kind) (sym first) ∙ sym (turn_work s runs.before o runs.turn).kind in
    subst (λ (x : Option Job). Leaving x t.core.nodes t.world) (sym now) (free_in p t.core.nodes t.world (λ course is. other (ap course_of (sym kind) ∙ course)))
others_leaving s label t o runs other (OpEffect.ends q result now over prints fits closes) = subst (λ (x : Option Job). Leaving x t.core.nodes t.world) (sym over) tt

-- where the walk goes on, a device leaves that could before
pub leaving_operation : (s : State) (o : Job) (step : Step) → Rooted s.core → Leaving (Some o) s.core.nodes s.world → OperationFits (Some o) s.core.nodes → Running s o → OpEffect s step.label step.state → OperationStep s o step → Leaving step.state.operation step.state.core.nodes step.state.world
leaving_operation s o step rooted was fits runs op (OperationStep.asks node w a) = walked_leaving o (Some (asked s.core node w).walk) s.core.nodes s.world was
leaving_operation s o step rooted was fits runs op (OperationStep.rebalances stage m course is x) = others_leaving s step.label step.state o runs (λ other. absurd (cc)) op
leaving_operation s o step rooted was fits runs op (OperationStep.removes stage m course is x) = others_leaving s step.label step.state o runs (λ other. absurd (cc)) op
leaving_operation s o step rooted was fits runs op (OperationStep.surprises stage m course is x) = others_leaving s step.label step.state o runs (λ other. absurd (cc)) op
leaving_operation s o step rooted was fits runs op (OperationStep.finishes stage m course is x) =
    finish_leaving s o stage m course rooted (subst (λ (y : Stage). FinishKeeps o y s.core.nodes) is (fits_by Course.Finishing o s.core.nodes course fits)) x
