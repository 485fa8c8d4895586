-- Each step of a finish keeps what a run keeps.
use Rattle.std.proofs.Common.{ℕ, ◌≡◌, ◌≢◌, Bool, true, false, List, [], ◌∷◌, Option, Some, None, refl, ap, ◌∙◌, subst, arith}
use Rattle.std.proofs.lemmas.Bool.Decides.{nat_tests}
use Rattle.pnp_model.specs.Keyed.{changed_first, without_first}
use Rattle.pnp_model.specs.Records.{Course, Handle, Job, Node, Stage, State, course_of}
use Rattle.pnp_model.specs.Cores.{bare, drop_node, is_node, with_problem}
use Rattle.pnp_model.specs.Tests.{is_no_stack}
use Rattle.pnp_model.specs.States.{set_operation, with_core}
use Rattle.pnp_model.specs.Jobs.{JobMove}
use Rattle.pnp_model.specs.Machine.{job_lifted}
use Rattle.pnp_model.specs.Finishes.{begun_finish, is_leaving, next_on, settle_on}
use Rattle.pnp_labels.specs.declared.states.DevState.{DevState}
use Rattle.pnp_labels.specs.declared.states.Problem.{Problem}
use Rattle.pnp_labels.specs.declared.states.DevState.TheVariants.{NoStack, SurpriseRemoved}
use Rattle.pnp_laws.specs.Kept.{Good, Lawful, Each, OperationFits, FinishKeeps, taken_state, emptied_state, is_calm}
use Rattle.pnp_laws.proofs.Diagrams.{Each_changed, Each_left, Each_same}
use Rattle.pnp_laws.proofs.Kept.{lawful_by, Good_left}
use Rattle.pnp_laws.proofs.Lists.{HeadIs}
use Rattle.pnp_laws.proofs.OpSteps.{is_SurpriseRemoved, lawful_walked, lawful_close}
use Rattle.pnp_laws.proofs.Finishing.{is_NoStack, relist_only}
use Rattle.pnp_laws.proofs.FinishSteps.{at_work}
use Rattle.pnp_laws.proofs.FitsBy.{fit}
use Rattle.pnp_laws.proofs.Stages.{FinishAct, FinishStep}

-- states of the device that is being finished, and of others

pub head_taken : (todo : List ℕ) (j : ℕ) (x : DevState) → HeadIs j todo → taken_state todo j x ≡ true → x ≡ SurpriseRemoved
head_taken [] j x h g = absurd h
head_taken (i ∷ is) j x h g = is_SurpriseRemoved x (grind (arith, nat_tests))

pub head_emptied : (todo : List ℕ) (j : ℕ) (x : DevState) → HeadIs j todo → emptied_state todo j x ≡ true → x ≡ NoStack
head_emptied [] j x h g = absurd h
head_emptied (i ∷ is) j x h g = is_NoStack x (grind (arith, nat_tests))

emptied_here : (todo : List ℕ) (j : ℕ) → HeadIs j todo → emptied_state todo j NoStack ≡ true
emptied_here [] j h = absurd h
emptied_here (i ∷ is) j h = grind (arith, nat_tests)

emptied_there : (todo : List ℕ) (j k : ℕ) (x : DevState) → HeadIs j todo → j ≢ k → taken_state todo k x ≡ true → emptied_state todo k x ≡ true
emptied_there [] j k x h d g = absurd h
emptied_there (i ∷ is) j k x h d g = grind (arith, nat_tests)

bare_calm : (x : DevState) → is_no_stack x ≡ true → is_calm x ≡ true
bare_calm x h = ap is_calm (is_NoStack x h)

emptied_calm : (todo : List ℕ) (k : ℕ) (x : DevState) → emptied_state todo k x ≡ true → is_calm x ≡ true
emptied_calm [] k x h = h
emptied_calm (i ∷ is) k x h = grind (arith, nat_tests, bare_calm x)

-- it is not the root
pub finished_up : (todo : List ℕ) (j : ℕ) → (k : ℕ) × (todo ≡ k ∷ []) × (k ≢ 0) → HeadIs j todo → j ≢ 0
finished_up todo j (k, is, up) head z = let own : k ≡ j = subst (λ (ks : List ℕ). HeadIs j ks) is head in up (cc)

-- its drivers are removed, and it is to leave, to be held, or settled
fits_settle_on : (f : Job) → course_of f.kind ≡ Course.Finishing → (leaves : Bool) (problem : Option Problem) (nodes : List Node) → (k : ℕ) × (f.todo ≡ k ∷ []) × (k ≢ 0) → Each (emptied_state f.todo) nodes → OperationFits (Some (settle_on f leaves problem)) nodes
fits_settle_on f course true problem nodes one each = fit Course.Finishing _ _ course (record { own = refl; one = one; each = each })
fits_settle_on f course false (Some problem) nodes one each = fit Course.Finishing _ _ course (record { own = refl; one = refl; each = Each_same (emptied_state f.todo) (λ k x. is_calm x) nodes (λ k x h. emptied_calm f.todo k x h) each })
fits_settle_on f course false None nodes one each = fit Course.Finishing _ _ course (record { own = refl; one = one; each = each })

-- The steps

module _ (s : State) (f : Job) (course : course_of f.kind ≡ Course.Finishing) (alone : s.activities ≡ []) (good : Good s.next_serial s.core.nodes [] (Some f)) where
  pub lawful_finish : (in_world : Bool) (handles : List Handle) (stage : Stage) (m : JobMove) → FinishKeeps f stage s.core.nodes → FinishStep s.core f in_world handles stage m → Lawful (job_lifted s m).state
  lawful_finish in_world handles stage m keeps (FinishStep.removes node w e) =
      let work = at_work s f node alone e.first good in
      let j = node.serial in
      let up = finished_up f.todo j keeps.one work.head in
      lawful_walked s _ bare node f _ refl refl alone refl (λ x. refl) work.at
      (record { none = λ h. refl; some = λ d h. refl; root = λ z. absurd (up z) })
      (fits_settle_on f course (is_leaving s.core.nodes node in_world) node.problem (changed_first (is_node j) bare s.core.nodes) keeps.one
      (Each_changed (taken_state f.todo) (emptied_state f.todo) j bare s.core.nodes node (λ x. refl) work.at (emptied_here f.todo j work.head)
      (λ k x d h. emptied_there f.todo j k x work.head d h) keeps.each))
      good
  lawful_finish in_world handles stage m keeps (FinishStep.acts _ _ (FinishAct.leaves node first)) =
      let j = node.serial in
      let only = relist_only node.path node.born (set_operation (Some (next_on f)) (with_core (drop_node j s.core) s)) in
      lawful_by _ s.next_serial (without_first (is_node j) s.core.nodes) [] (Some (next_on f)) only.serial only.nodes (only.activities ∙ alone) only.operation
      (Good_left s.next_serial j s.core.nodes (Some f) _
      (fit Course.Finishing _ _ course (record { own = refl; one = refl; each = Each_left (emptied_state f.todo) (λ k x. is_calm x) j s.core.nodes good.serials (λ k x d h. emptied_calm f.todo k x h) keeps.each }))
      refl good)
  lawful_finish in_world handles stage m keeps (FinishStep.acts _ _ (FinishAct.holds node first)) =
      let work = at_work s f node alone first good in
      let j = node.serial in
      let held = with_problem (Some Problem.Held) in
      lawful_walked s _ held node f _ refl refl alone refl (λ x. refl) work.at (good.stacks j node work.at)
      (fit Course.Finishing _ _ course (record {
        own = refl;
        one = refl;
        each =
            Each_changed (emptied_state f.todo) (λ k x. is_calm x) j held s.core.nodes node (λ x. refl) work.at (emptied_calm f.todo j node.state (keeps.each j node work.at))
            (λ k x d h. emptied_calm f.todo k x h) keeps.each;
      }))
      good
  lawful_finish in_world handles stage m keeps (FinishStep.acts _ _ (FinishAct.closes none)) = lawful_close s _ f refl refl alone refl keeps.each good

-- The begin

pub fits_begun_finish : (s : State) (node : Node) → Good s.next_serial s.core.nodes s.activities None → OperationFits (Some (begun_finish node)) s.core.nodes
fits_begun_finish s node good = record { own = refl; one = refl; each = good.fits }
