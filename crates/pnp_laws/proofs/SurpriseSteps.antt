-- Each step of a surprise removal keeps what a run keeps.
use Rattle.std.proofs.Common.{ℕ, ◌≡◌, ◌≢◌, Bool, true, false, List, [], ◌∷◌, Some, None, refl, ap, subst, arith}
use Rattle.std.proofs.lemmas.Bool.Decides.{nat_tests}
use Rattle.pnp_model.specs.Keyed.{changed_first, without_first, those}
use Rattle.pnp_model.specs.Records.{Course, Handle, Job, Node, Stage, State, course_of}
use Rattle.pnp_model.specs.Cores.{bare, drop_node, is_node, node_at, with_state, with_problem}
use Rattle.pnp_model.specs.Tests.{has, is_told}
use Rattle.pnp_model.specs.States.{set_operation, with_core}
use Rattle.pnp_model.specs.Frames.{rest}
use Rattle.pnp_model.specs.Handles.{was_told}
use Rattle.pnp_model.specs.Jobs.{JobMove, job_of}
use Rattle.pnp_model.specs.Machine.{job_lifted}
use Rattle.pnp_labels.specs.declared.label.OpKind.{OpKind}
use Rattle.pnp_model.specs.Surprises.{finish_on, tell_on, is_told_node, begun_with}
use Rattle.pnp_laws.specs.Kept.{Good, Lawful, Each, OperationFits, Distinct, Within, IsLast, SurpriseKeeps, telling_state, finishing_state, settling_state, is_calm, is_not_pending, is_removable}
use Rattle.pnp_model.specs.Diagram.{Row}
use Rattle.pnp_model.specs.Diagram.Row.{surprise_stopped, surprise}
use Rattle.pnp_labels.specs.declared.states.DevState.{DevState}
use Rattle.pnp_labels.specs.declared.words.Minor.{Minor}
use Rattle.pnp_labels.specs.declared.states.Problem.{Problem}
use Rattle.pnp_labels.specs.declared.states.DevState.TheVariants.{NoStack, NotStarted, Started, StopPending, Stopped, RemovePending, SurpriseRemoved}
use Rattle.pnp_laws.proofs.Diagrams.{Each_changed, Each_left, Each_same}
use Rattle.pnp_laws.proofs.Lists.{HeadIs, head_has, rest_has, rest_not, rest_distinct, rest_within, those_has, those_distinct}
use Rattle.pnp_laws.proofs.OpSteps.{lawful_close, lawful_still}
use Rattle.pnp_laws.proofs.Finishing.{relist_only}
use Rattle.pnp_laws.proofs.FinishSteps.{NextFits, at_work, begun_one, lawful_ended, lawful_leaves, lawful_remains, lawful_strips, not_root}
use Rattle.pnp_laws.proofs.FitsBy.{fit}
use Rattle.pnp_laws.proofs.Stages.{SurpriseAct, SurpriseStep}

-- What comes next keeps the facts

fits_finish_on : (o : Job) → course_of o.kind ≡ Course.Surprising → (ks : List ℕ) (nodes : List Node) → Distinct o.set → has o.set 0 ≡ false → IsLast o.target o.set → Distinct ks → Within ks o.set → IsLast o.target ks →
    Each (finishing_state ks) nodes → Each (λ k x. is_not_pending x) nodes → OperationFits (Some (finish_on o ks)) nodes
fits_finish_on o course [] nodes a b l c within last each calm = fit Course.Surprising _ _ course (record { own = refl; set = a; rootless = b; last = l; todo = tt; inside = λ k h. absurd {0} (cc); ends = tt; each = each; calm = calm })
fits_finish_on o course (k ∷ ks) nodes a b l c within last each calm = fit Course.Surprising _ _ course (record { own = refl; set = a; rootless = b; last = l; todo = c; inside = within; ends = last; each = each; calm = calm })

fits_tell_on : (o : Job) → course_of o.kind ≡ Course.Surprising → (ks : List ℕ) (nodes : List Node) → Distinct o.set → has o.set 0 ≡ false → IsLast o.target o.set → Distinct ks → Within ks o.set →
    Each (telling_state ks o.set) nodes → Each (λ k x. is_not_pending x) nodes → OperationFits (Some (tell_on o ks)) nodes
fits_tell_on o course [] nodes a b l c within each calm = fits_finish_on o course o.set nodes a b l a (λ k h. h) l each calm
fits_tell_on o course (k ∷ ks) nodes a b l c within each calm = fit Course.Surprising _ _ course (record { own = refl; set = a; rootless = b; last = l; todo = c; inside = within; ends = tt; each = each; calm = calm })

-- states as lists change

told_here : (todo set : List ℕ) (j : ℕ) → has todo j ≡ false → has set j ≡ true → telling_state todo set j SurpriseRemoved ≡ true
told_here todo set j h g = grind (arith)

told_there : (todo more set : List ℕ) (k : ℕ) (x : DevState) → has more k ≡ has todo k → telling_state todo set k x ≡ true → telling_state more set k x ≡ true
told_there todo more set k x e h = grind (arith)

pub head_told : (todo set : List ℕ) (j : ℕ) (x : DevState) → has todo j ≡ true → telling_state todo set j x ≡ true → is_told x ≡ true
head_told todo set j x h g = grind (arith)

pub told_or : (x : DevState) → is_told x ≡ true → Row x Minor.SurpriseRemoval false SurpriseRemoved × (x ≢ NoStack)
told_or NoStack h = absurd (cc)
told_or NotStarted h = absurd (cc)
told_or Started h = (surprise, λ e. cc)
told_or StopPending h = absurd (cc)
told_or Stopped h = (surprise_stopped, λ e. cc)
told_or RemovePending h = absurd (cc)
told_or SurpriseRemoved h = absurd (cc)

rest_last : (k : ℕ) (todo : List ℕ) → IsLast k todo → IsLast k (rest todo)
rest_last k [] h = tt
rest_last k (j ∷ []) h = tt
rest_last k (j ∷ i ∷ ks) h = h.1

-- where the target stands first, nothing stands behind it
pub last_alone : (k : ℕ) (todo : List ℕ) → HeadIs k todo → IsLast k todo → rest todo ≡ []
last_alone k [] h l = absurd h
last_alone k (j ∷ []) h l = refl
last_alone k (j ∷ i ∷ ks) h l = absurd (l.0 h)

alone_calm : (todo : List ℕ) (j k : ℕ) (x : DevState) → HeadIs j todo → rest todo ≡ [] → settling_state todo k x ≡ true → is_calm x ≡ true
alone_calm [] j k x h e g = absurd h
alone_calm (i ∷ is) j k StopPending h e g = grind (arith, nat_tests)
alone_calm (i ∷ is) j k Stopped h e g = refl
alone_calm (i ∷ is) j k RemovePending h e g = let f : has is k ≡ false = ap (λ (t : List ℕ). has t k) e in grind (arith, nat_tests)
alone_calm (i ∷ is) j k SurpriseRemoved h e g = let f : has is k ≡ false = ap (λ (t : List ℕ). has t k) e in grind (arith, nat_tests)
alone_calm (i ∷ is) j k _ h e g = refl

-- one that stays behind may stay as it is
left_calm : (x : DevState) → is_removable x ≡ true → is_not_pending x ≡ true → is_calm x ≡ true
left_calm StopPending a b = cc
left_calm RemovePending a b = cc
left_calm _ a b = refl

waited : (todo : List ℕ) (k : ℕ) (x : DevState) → is_not_pending x ≡ true → finishing_state todo k x ≡ true → finishing_state (rest todo) k x ≡ true
waited [] k x calm h = h
waited (i ∷ is) k x calm h = grind (arith, nat_tests, left_calm x)

-- The steps

module _ (s : State) (o : Job) (course : course_of o.kind ≡ Course.Surprising) (alone : s.activities ≡ []) (good : Good s.next_serial s.core.nodes [] (Some o)) where
  next_fits : (nodes : List Node) → SurpriseKeeps o Stage.Settling s.core.nodes → Each (λ k x. is_not_pending x) nodes → NextFits s (finish_on o (rest o.todo)) (rest o.todo) nodes
  next_fits nodes keeps calm same stacks each =
      fits_finish_on o course (rest o.todo) nodes keeps.set keeps.rootless keeps.last (rest_distinct o.todo keeps.todo) (λ k h. keeps.inside k (rest_within k o.todo h)) (rest_last o.target o.todo keeps.ends) each calm

  -- one node changes, and is not RemovePending
  calm_changed : (f : Node → Node) (node : Node) → ((x : Node) → (f x).serial ≡ x.serial) → node_at node.serial s.core.nodes ≡ Some node → is_not_pending (f node).state ≡ true → Each (λ k x. is_not_pending x) s.core.nodes → Each (λ k x. is_not_pending x) (changed_first (is_node node.serial) f s.core.nodes)
  calm_changed f node keeps at here calm = Each_changed (λ k x. is_not_pending x) (λ k x. is_not_pending x) node.serial f s.core.nodes node keeps at here (λ k x d h. h) calm

  pub lawful_surprise : (in_world : Bool) (handles : List Handle) (stage : Stage) (m : JobMove) → SurpriseKeeps o stage s.core.nodes → SurpriseStep s.core o in_world handles stage m → Lawful (job_lifted s m).state
  lawful_surprise in_world handles stage m keeps (SurpriseStep.tells node w e) =
      let work = at_work s o node alone e.first good in
      let j = node.serial in
      let f = with_state SurpriseRemoved in
      let here = head_has j o.todo work.head in
      let told = told_or node.state (head_told o.todo o.set j node.state here (keeps.each j node work.at)) in
      lawful_ended s _ node o _ node.state SurpriseRemoved work refl (not_root o.set o.todo j keeps.rootless keeps.inside here) refl refl refl refl told.1 (λ e. cc)
      (λ stacks. fits_tell_on o course (rest o.todo) (changed_first (is_node j) f s.core.nodes) keeps.set keeps.rootless keeps.last (rest_distinct o.todo keeps.todo)
      (λ k h. keeps.inside k (rest_within k o.todo h))
      (Each_changed (telling_state o.todo o.set) (telling_state (rest o.todo) o.set) j f s.core.nodes node (λ x. refl) work.at
      (told_here (rest o.todo) o.set j (rest_not j o.todo work.head keeps.todo) (keeps.inside j here))
      (λ k x d h. told_there o.todo (rest o.todo) o.set k x (rest_has j k o.todo work.head d) h) keeps.each)
      (calm_changed f node (λ x. refl) work.at refl keeps.calm))
  lawful_surprise in_world handles stage m keeps (SurpriseStep.acts _ _ (SurpriseAct.lags node first behind)) =
      lawful_still s _ o _ refl refl alone refl
      (fits_finish_on (record o { behind = node.serial ∷ o.behind }) course (rest o.todo) s.core.nodes keeps.set keeps.rootless keeps.last (rest_distinct o.todo keeps.todo) (λ k h. keeps.inside k (rest_within k o.todo h)) (rest_last o.target o.todo keeps.ends)
      (λ k n at. waited o.todo k n.state (keeps.calm k n at) (keeps.each k n at)) keeps.calm)
      good
  lawful_surprise in_world handles stage m keeps (SurpriseStep.removes node w e) =
      let work = at_work s o node alone e.first good in
      lawful_strips s _ o _ node refl refl refl work (not_root o.set o.todo node.serial keeps.rootless keeps.inside (head_has node.serial o.todo work.head)) keeps.each refl
      (λ each. fit Course.Surprising _ _ course (record { own = refl; set = keeps.set; rootless = keeps.rootless; last = keeps.last; todo = keeps.todo; inside = keeps.inside; ends = keeps.ends; each = each; calm = calm_changed bare node (λ x. refl) work.at refl keeps.calm }))
  lawful_surprise in_world handles stage m keeps (SurpriseStep.acts _ _ (SurpriseAct.leaves node first inside)) =
      let only = relist_only node.path node.born (set_operation (Some (finish_on o (rest o.todo))) (with_core (drop_node node.serial s.core) s)) in
      lawful_leaves s _ o _ node only.serial only.activities only.operation (at_work s o node alone first good) keeps.todo keeps.each only.nodes
      (next_fits (without_first (is_node node.serial) s.core.nodes) keeps (Each_left (λ k x. is_not_pending x) (λ k x. is_not_pending x) node.serial s.core.nodes good.serials (λ k x d h. h) keeps.calm))
  lawful_surprise in_world handles stage m keeps (SurpriseStep.acts _ _ (SurpriseAct.remains node first other over)) =
      let work = at_work s o node alone first good in
      lawful_remains s _ o _ node refl refl refl work keeps.todo keeps.each Problem.Held refl
      (next_fits (changed_first (is_node node.serial) (with_problem (Some Problem.Held)) s.core.nodes) keeps (calm_changed (with_problem (Some Problem.Held)) node (λ x. refl) work.at (keeps.calm node.serial node work.at) keeps.calm))
  lawful_surprise in_world handles stage m keeps (SurpriseStep.acts _ _ (SurpriseAct.stays node first target back)) =
      let work = at_work s o node alone first good in
      let is : node.serial ≡ o.target = grind (arith, nat_tests) in
      let over = last_alone o.target o.todo (subst (λ (i : ℕ). HeadIs i o.todo) is work.head) keeps.ends in
      lawful_close s _ o refl refl alone refl
      (Each_same (settling_state o.todo) (λ k x. is_calm x) s.core.nodes (λ k x h. alone_calm o.todo node.serial k x work.head over h) keeps.each) good
  lawful_surprise in_world handles stage m keeps (SurpriseStep.acts _ _ SurpriseAct.closes) = lawful_close s _ o refl refl alone refl keeps.each good

-- The begin

untold : (x : DevState) → is_calm x ≡ true → is_told x ≡ false → is_removable x ≡ true
untold NoStack a b = refl
untold NotStarted a b = refl
untold SurpriseRemoved a b = refl
untold _ a b = cc

calm_not_pending : (x : DevState) → is_calm x ≡ true → is_not_pending x ≡ true
calm_not_pending RemovePending h = cc
calm_not_pending _ h = refl

pub fits_begun_surprise : (s : State) (node : Node) (set : List ℕ) → Distinct set → has set 0 ≡ false → IsLast node.serial set → Good s.next_serial s.core.nodes s.activities None →
    OperationFits (Some (begun_with s.core node set)) s.core.nodes
fits_begun_surprise s node set distinct rootless last good =
    let told : ℕ → Bool = λ k. is_told_node (node_at k s.core.nodes) in
    fits_tell_on (record (job_of OpKind.Surprise node) { set = set; told = those (λ k. was_told (node_at k s.core.nodes)) set }) refl
    (those told set) s.core.nodes distinct rootless last (those_distinct told set distinct)
    (λ k h. (those_has told set k h).0)
    (λ k n at. begun_one told set k (is_told n.state) (is_removable n.state) (is_calm n.state) (ap is_told_node at) (λ h off. untold n.state (good.fits k n at) off) (good.fits k n at))
    (λ k n at. calm_not_pending n.state (good.fits k n at))
