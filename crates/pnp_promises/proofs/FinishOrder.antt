-- In a finish the ready device of the greatest serial is taken.
use Rattle.std.proofs.Common.{ℕ, ◌≤◌, ◌≡◌, ◌≢◌, ◌==◌, inl, inr, Bool, true, false, cond, nat_lt, List, [], ◌∷◌, length, Option, Some, None, refl, sym, ap, subst, ◌∙◌, arith}
use Rattle.std.proofs.lemmas.Bool.Decides.{nat_tests}
use Rattle.std.specs.List.{slice_get}
use Rattle.pnp_labels.specs.Texts.{Text}
use Rattle.pnp_labels.specs.declared.label.OpKind.{OpKind}
use Rattle.pnp_labels.specs.declared.words.Minor.{Minor}
use Rattle.pnp_model.specs.Cores.{drop_node, node_at, serials_of}
use Rattle.pnp_model.specs.Finishes.{next_on, taken}
use Rattle.pnp_model.specs.Frames.{asked as asking_of}
use Rattle.pnp_model.specs.Handles.{is_ready_device, ready_device}
use Rattle.pnp_model.specs.Jobs as jobs
use Rattle.pnp_model.specs.Jobs.{JobMove}
use Rattle.pnp_model.specs.Keyed.{those}
use Rattle.pnp_model.specs.Machine.{job_lifted}
use Rattle.pnp_model.specs.Records.{Course, Device, Job, Node, Stage, State, Step, Walk, course_of}
use Rattle.pnp_model.specs.States.{device_of, list_node, node_born, relist, relist_device, relist_other, set_operation, with_core}
use Rattle.pnp_model.specs.Tests.{has}
use Rattle.pnp_model.specs.Trees.{greater, greatest}
use Rattle.pnp_model.specs.Walks.{has_ended, walk_of}
use Rattle.pnp_laws.specs.Effects.{Turn}
use Rattle.pnp_laws.specs.Kept.{Ascending}
use Rattle.pnp_laws.proofs.Closures.{those_serial}
use Rattle.pnp_laws.proofs.IdleSteps.{MachineStep, machine_step}
use Rattle.pnp_laws.proofs.Lists.{has_cases}
use Rattle.pnp_laws.proofs.Lookups.{found_self, own_serial, some_same}
use Rattle.pnp_laws.proofs.Orders.{picked}
use Rattle.pnp_laws.proofs.Readies.{ready_fresh, ready_is}
use Rattle.pnp_laws.proofs.RunsStand.{reaches_kept}
use Rattle.pnp_laws.proofs.Stages.{ActStep, FinishAct, JobStep}
use Rattle.pnp_promises.specs.FinishOrder.{FinishedFromTheGreatestLaw, IsReadyAt}
use Rattle.pnp_promises.specs.Hears.{IsAsked}

-- The greatest of a list -----------------------------------------------------------------------------------

greatest_max : (ks : List ℕ) (k : ℕ) → greatest ks ≡ Some k → (j : ℕ) → has ks j ≡ true → j ≤ k
greatest_max [] k e j h = absurd (cc)
greatest_max (x ∷ xs) k e j h = by_rest (greatest xs) refl e (λ m is q. greatest_max xs m is j q)
  where
    by_test : (m : ℕ) (b : Bool) → nat_lt x m ≡ b → cond b m x ≡ k → (has xs j ≡ true → j ≤ m) → j ≤ k
    by_test m true less is more = elim (has_cases x j xs h) [ inl own ↦ grind (arith, nat_tests) | inr later ↦ let l = more later in omega arith ]
    by_test m false over is more = elim (has_cases x j xs h) [ inl own ↦ omega arith | inr later ↦ let l = more later in grind (arith, nat_tests) ]

    by_rest : (o : Option ℕ) → greatest xs ≡ o → Some (greater x o) ≡ Some k → ((m : ℕ) → greatest xs ≡ Some m → has xs j ≡ true → j ≤ m) → j ≤ k
    by_rest None none is more =
        let same : x ≡ k = cc in
        elim (has_cases x j xs h) [ inl own ↦ omega arith | inr later ↦ absurd (let some = picked xs j later in let at = some.1 in cc) ]
    by_rest (Some m) some is more = let same : greater x (Some m) ≡ k = cc in by_test m (nat_lt x m) refl same (more m some)

-- Where a node leaves the operation goes on ------------------------------------------------------------------

still_runs : (path : Text) (born : ℕ) (s : State) → (relist path born s).operation ≡ s.operation
still_runs path born s = by_device (device_of path s.world)
  where
    by_node : (o : Option Node) → (list_node o s).operation ≡ s.operation
    by_node None = refl
    by_node (Some n) = refl

    by_other : (d : Device) (b : Bool) → (relist_other d b s).operation ≡ s.operation
    by_other d true = refl
    by_other d false = by_node (node_born d.parent s.core.nodes)

    by_device : (o : Option Device) → (relist_device born o s).operation ≡ s.operation
    by_device None = refl
    by_device (Some d) = by_other d (d.born == born)

-- The step ---------------------------------------------------------------------------------------------------

no_walk : (o : Option Job) (j : Job) (k : ℕ) (w : Walk) → o ≡ Some j → j.walk ≡ None → (p : Job) → o ≡ Some p → p.walk ≡ Some w → ⊥
no_walk o j k w e none p f some = let same = some_same o p j f e in let z = subst (λ (x : Job). x.walk ≡ Some w) same some in cc

first_is : (o : Option Job) (j : Job) (i : ℕ) → o ≡ Some j → j.todo ≡ i ∷ [] → (p : Job) → o ≡ Some p → {k : ℕ} → slice_get p.todo 0 ≡ Some k → i ≡ k
first_is o j i e todo p f {k} at =
    let same = some_same o p j f e in
    let front : slice_get (i ∷ []) 0 ≡ Some k = subst (λ (x : List ℕ). slice_get x 0 ≡ Some k) todo (subst (λ (x : Job). slice_get x.todo 0 ≡ Some k) same at) in
    let first : Some i ≡ Some k = front in
    cc

abbrev Taken : State → ℕ → Type 0
Taken s k = IsReadyAt s k × ((j : ℕ) → IsReadyAt s j → j ≤ k)

module _ (s : State) (order : Ascending 0 s.core.nodes) where
  ready_taken : (k : ℕ) (n : Node) → ready_device s.core s.handles ≡ Some k → node_at k s.core.nodes ≡ Some n → Taken s k
  ready_taken k n ready at = (
    (n, at, ready_is s.core s.handles k n order ready at),
    λ j other. greatest_max (serials_of (those (is_ready_device s.core s.handles) s.core.nodes)) k ready j (those_serial 0 (is_ready_device s.core s.handles) s.core.nodes j other.0 order other.1 other.2),
  )

  module _ (f : Job) (kind : f.kind ≡ OpKind.Finish) (idle : f.walk ≡ None) (k : ℕ) (w : Walk) where
    finish_taken : (stage : Stage) (m : JobMove) → FinishAct s.core f s.handles stage m → IsAsked (job_lifted s m).state k w → Taken s k
    finish_taken _ _ (FinishAct.leaves n first) asked =
        absurd (no_walk _ (next_on f) k w (still_runs n.path n.born (set_operation (Some (next_on f)) (with_core (drop_node n.serial s.core) s))) refl asked.operation asked.runs asked.walk)
    finish_taken _ _ (FinishAct.holds n first) asked = absurd (no_walk (Some (next_on f)) (next_on f) k w refl refl asked.operation asked.runs asked.walk)
    finish_taken _ _ (FinishAct.closes none) asked = absurd (let runs : None ≡ Some asked.operation = asked.runs in cc)

    other_course : (course : Course) → course_of f.kind ≡ course → course ≢ Course.Finishing → ⊥
    other_course course is other = other (sym is ∙ ap course_of kind)

    same_taken : (step : Step) → JobStep s f step → IsAsked step.state k w → Taken s k
    same_taken _ (JobStep.asks n v asks) asked = absurd (let some = asks.walk in cc)
    same_taken _ (JobStep.ends n v p ends after) asked = absurd (let some = ends.walk in cc)
    same_taken _ (JobStep.acts m none (ActStep.finishes stage m2 course is act)) asked = finish_taken stage m act asked
    same_taken _ (JobStep.acts m none (ActStep.rebalances stage m2 course is act)) asked = absurd (other_course Course.Rebalancing course (λ e. cc))
    same_taken _ (JobStep.acts m none (ActStep.removes stage m2 course is act)) asked = absurd (other_course Course.Removing course (λ e. cc))
    same_taken _ (JobStep.acts m none (ActStep.surprises stage m2 course is act)) asked = absurd (other_course Course.Surprising course (λ e. cc))

    new_taken : (i : ℕ) (n : Node) (step : Step) → ready_device s.core s.handles ≡ Some i → node_at i s.core.nodes ≡ Some n → JobStep s (taken f n) step → IsAsked step.state k w → Taken s k
    new_taken i n _ ready at (JobStep.asks node v asks) asked =
        let first = first_is _ (jobs.asks (taken f n) (asking_of s.core node v)).frame n.serial refl refl asked.operation asked.runs asked.first in
        subst (λ (x : ℕ). Taken s x) (sym (own_serial i n s.core.nodes at) ∙ first) (ready_taken i n ready at)
    new_taken i n _ ready at (JobStep.ends node v p ends after) asked =
        let there : node_at n.serial s.core.nodes ≡ Some node = ends.first in
        let same = some_same (node_at n.serial s.core.nodes) node n there (found_self i s.core.nodes n at) in
        let walk : Some (walk_of Minor.Remove) ≡ Some v = ends.walk in
        let one : walk_of Minor.Remove ≡ v = cc in
        let fresh = ready_fresh s.core s.handles i n order ready at in
        let over : has_ended (walk_of Minor.Remove) (length n.stack) ≡ true =
        subst (λ (x : Walk). has_ended x (length n.stack) ≡ true) (sym one) (subst (λ (y : Node). has_ended v (length y.stack) ≡ true) same ends.ended) in
        absurd (cc)
    new_taken i n _ ready at (JobStep.acts m none act) asked = absurd (cc)

  by_turn : (f p : Job) (k : ℕ) (w : Walk) (step : Step) → f.kind ≡ OpKind.Finish → f.walk ≡ None → Turn s f p → JobStep s p step → IsAsked step.state k w → Taken s k
  by_turn f _ k w step kind idle (Turn.same _) is asked = same_taken f kind idle k w step is asked
  by_turn _ _ k w step kind idle (Turn.finishes f i n course stage none ready at) is asked = new_taken f kind idle k w i n step ready at is asked
  by_turn _ _ k w step kind idle (Turn.queries o n course stage none at willing) is asked = absurd (other_course o kind idle k w Course.Removing course (λ e. cc))
  by_turn _ _ k w step kind idle (Turn.removes o n d ds course stage none at goes full) is asked = absurd (other_course o kind idle k w Course.Surprising course (λ e. cc))
  by_turn _ _ k w step kind idle (Turn.settles o n course stage none at goes empty) is asked = absurd (other_course o kind idle k w Course.Surprising course (λ e. cc))

  by_machine : (f : Job) (k : ℕ) (w : Walk) (step : Step) → s.operation ≡ Some f → f.kind ≡ OpKind.Finish → f.walk ≡ None → MachineStep s step → IsAsked step.state k w → Taken s k
  by_machine f k w step runs kind idle (MachineStep.operates o _ own taken_step) asked =
      let same = some_same s.operation o f own runs in
      by_turn o taken_step.now k w step (ap (λ (x : Job). x.kind) same ∙ kind) (ap (λ (x : Job). x.walk) same ∙ idle) taken_step.turn taken_step.is asked
  by_machine f k w _ runs kind idle (MachineStep.starts node phase m at acts is) asked = absurd (let none = acts.none in cc)
  by_machine f k w _ runs kind idle (MachineStep.does step none is) asked = absurd (cc)

pub finished_from_the_greatest : FinishedFromTheGreatestLaw
finished_from_the_greatest settings rack entries s label t f k w run runs kind idle goes asked =
    by_machine s (reaches_kept settings rack entries s run).good.serials f k w (record { label = label; state = t }) runs kind idle (machine_step settings s (record { label = label; state = t }) goes) asked
