-- Each step of a removal keeps what a run keeps.
use Rattle.std.proofs.Common.{ℕ, ◌≡◌, ◌≢◌, inl, inr, Bool, true, false, List, [], ◌∷◌, map, Some, None, refl, ap, ◌∙◌, subst, arith}
use Rattle.std.proofs.lemmas.Bool.{cases_eq}
use Rattle.std.proofs.lemmas.Bool.Decides.{nat_tests}
use Rattle.pnp_model.specs.Keyed.{changed_first, without_first, those}
use Rattle.pnp_model.specs.Records.{Course, Job, Node, Relation, Stage, State, course_of}
use Rattle.pnp_model.specs.Cores.{drop_node, is_node, node_at, with_state, with_problem, stack_of}
use Rattle.pnp_model.specs.Tests.{has}
use Rattle.pnp_model.specs.States.{relist, unplug, set_operation, with_core}
use Rattle.pnp_model.specs.Frames.{first_node, rest}
use Rattle.pnp_model.specs.Jobs.{JobMove, job_of}
use Rattle.pnp_model.specs.Machine.{job_lifted}
use Rattle.pnp_model.specs.Removals.{finish_with, is_ejecting, finish_on, ask_on, cancel_on, begun_with, is_queried, is_queried_node}
use Rattle.pnp_laws.specs.Kept.{Good, Lawful, Each, OperationFits, Distinct, Apart, Within, RemovalKeeps, turn_state, querying_state, refusing_state, restoring_state, finishing_state, is_calm, is_idle, is_stopped}
use Rattle.pnp_labels.specs.declared.states.DevState.{DevState}
use Rattle.pnp_labels.specs.declared.states.Problem.{Problem}
use Rattle.pnp_labels.specs.declared.label.OpKind.{OpKind}
use Rattle.pnp_labels.specs.declared.states.DevState.TheVariants.{NoStack, NotStarted, Started, RemovePending, SurpriseRemoved}
use Rattle.pnp_laws.proofs.Diagrams.{Each_changed, Each_same}
use Rattle.pnp_laws.proofs.Lists.{HeadIs, head_has, rest_has, rest_not, rest_distinct, rest_within, those_has, those_distinct}
use Rattle.pnp_laws.proofs.OpSteps.{lawful_close, lawful_still, is_Started, is_RemovePending, started_calm}
use Rattle.pnp_laws.proofs.Stages.{RemovalAct, RemovalStep}
use Rattle.pnp_laws.proofs.FitsBy.{fit}
use Rattle.pnp_laws.proofs.StartSteps.{idle_calm}
use Rattle.pnp_laws.proofs.Finishing.{StacksFit, settle_each, remove_each, stack_kept, relist_only}
use Rattle.pnp_laws.proofs.FinishSteps.{NextFits, at_work, begun_one, lawful_ended, lawful_leaves, lawful_remains, lawful_strips, not_root}

-- What comes next keeps the facts --------------------------------------------------

fits_with : (o : Job) → course_of o.kind ≡ Course.Removing → (k : ℕ) (ks : List ℕ) (stack : List ℕ) (nodes : List Node) → stack_of (node_at k nodes) ≡ stack → Distinct o.set → has o.set 0 ≡ false → Distinct (k ∷ ks) → Distinct o.agreed → Within (k ∷ ks) o.set →
    StacksFit nodes → Each (finishing_state (k ∷ ks)) nodes → OperationFits (Some (finish_with o (k ∷ ks) stack)) nodes
fits_with o course k ks [] nodes e a b c d within stacks each =
    let up : k ≢ 0 = λ z. let w = within k (grind (arith, nat_tests)) in let w0 = subst (λ (i : ℕ). has o.set i ≡ true) z w in cc in
    fit Course.Removing _ _ course (record { own = refl; set = a; rootless = b; todo = c; agreed = d; asks = within; each = settle_each k ks nodes stacks up e each })
fits_with o course k ks (x ∷ xs) nodes e a b c d within stacks each =
    fit Course.Removing _ _ course (record { own = refl; set = a; rootless = b; todo = c; agreed = d; asks = within; each = remove_each k ks nodes x xs stacks e each })

-- `others` are the nodes in which the next stack was looked up
fits_finish_on : (others : List Node) (o : Job) → course_of o.kind ≡ Course.Removing → (ks : List ℕ) (nodes : List Node) → ((k : ℕ) → has ks k ≡ true → stack_of (node_at k nodes) ≡ stack_of (node_at k others)) → Distinct o.set → has o.set 0 ≡ false → Distinct ks → Distinct o.agreed → Within ks o.set →
    StacksFit nodes → Each (finishing_state ks) nodes → OperationFits (Some (finish_on others o ks)) nodes
fits_finish_on others o course [] nodes same a b c d within stacks each = fit Course.Removing _ _ course (record { own = refl; set = a; rootless = b; todo = tt; agreed = d; asks = λ k h. absurd (cc); each = each })
fits_finish_on others o course (k ∷ ks) nodes same a b c d within stacks each =
    fits_with o course k ks (stack_of (node_at k others)) nodes (same k (grind (arith, nat_tests))) a b c d within stacks each

-- all were asked: those of the set may lose their drivers
queried_over : (agreed set : List ℕ) (k : ℕ) (x : DevState) → (has agreed k ≡ true → has set k ≡ true) → turn_state [] agreed set k x ≡ true → finishing_state set k x ≡ true
queried_over agreed set k NoStack within h = grind (arith)
queried_over agreed set k _ within h = grind (arith)

fits_ask_on : (others : List Node) (o : Job) → course_of o.kind ≡ Course.Removing → (ks : List ℕ) (nodes : List Node) → ((k : ℕ) → stack_of (node_at k nodes) ≡ stack_of (node_at k others)) → Distinct o.set → has o.set 0 ≡ false → Distinct ks → Distinct o.agreed → Apart ks o.agreed → Within o.agreed o.set → Within ks o.set →
    StacksFit nodes → Each (turn_state ks o.agreed o.set) nodes → OperationFits (Some (ask_on others o ks)) nodes
fits_ask_on others o course [] nodes same a b c d apart within inside stacks each =
    fits_finish_on others o course o.set nodes (λ k h. same k) a b a d (λ k h. h) stacks
    (Each_same (turn_state [] o.agreed o.set) (finishing_state o.set) nodes (λ k x h. queried_over o.agreed o.set k x (within k) h) each)
fits_ask_on others o course (k ∷ ks) nodes same a b c d apart within inside stacks each = fit Course.Removing _ _ course (record { own = refl; set = a; rootless = b; todo = c; agreed = d; asks = (apart, within, inside); each = each })

fits_cancel_on : (o : Job) → course_of o.kind ≡ Course.Removing → (ks : List ℕ) (nodes : List Node) → Distinct o.set → has o.set 0 ≡ false → Distinct ks → Distinct o.agreed → Within ks o.set →
    Each (restoring_state ks) nodes → OperationFits (Some (cancel_on o ks)) nodes
fits_cancel_on o course [] nodes a b c d within each = fit Course.Removing _ _ course (record { own = refl; set = a; rootless = b; todo = tt; agreed = d; asks = λ k h. absurd (cc); each = each })
fits_cancel_on o course (k ∷ ks) nodes a b c d within each = fit Course.Removing _ _ course (record { own = refl; set = a; rootless = b; todo = c; agreed = d; asks = within; each = each })

-- states as lists change

asked_here : (todo agreed set : List ℕ) (j : ℕ) → has todo j ≡ false → turn_state todo (j ∷ agreed) set j RemovePending ≡ true
asked_here todo agreed set j h = grind (arith, nat_tests)

asked_there : (todo more agreed set : List ℕ) (j k : ℕ) (x : DevState) → HeadIs j todo → j ≢ k → has more k ≡ has todo k → querying_state todo agreed set k x ≡ true → turn_state more (j ∷ agreed) set k x ≡ true
asked_there [] more agreed set j k x head d e h = absurd head
asked_there (i ∷ is) more agreed set j k x head d e h = grind (arith, nat_tests)

queried_calm : (x : DevState) → is_queried x ≡ true → is_calm x ≡ true
queried_calm Started h = refl
queried_calm SurpriseRemoved h = refl
queried_calm _ h = cc

-- the first of them refuses unasked
declined : (todo agreed set : List ℕ) (k : ℕ) (x : DevState) → (has todo k ≡ true → has agreed k ≡ false) → turn_state todo agreed set k x ≡ true → restoring_state agreed k x ≡ true
declined todo agreed set k x apart h = grind (arith, idle_calm x, queried_calm x)

refused_state : (todo agreed set : List ℕ) (k : ℕ) (x : DevState) → (has todo k ≡ true → has agreed k ≡ false) → querying_state todo agreed set k x ≡ true → refusing_state todo agreed k x ≡ true
refused_state todo agreed set k x apart h = grind (arith, idle_calm x, queried_calm x)

back_here : (todo agreed : List ℕ) (j : ℕ) → has todo j ≡ true → (has todo j ≡ true → has agreed j ≡ false) → restoring_state agreed j Started ≡ true
back_here todo agreed j h apart = let a = apart h in grind (arith)

back_there : (todo agreed : List ℕ) (k : ℕ) (x : DevState) → (has todo k ≡ true → has agreed k ≡ false) → refusing_state todo agreed k x ≡ true → restoring_state agreed k x ≡ true
back_there [] agreed k x apart h = grind (arith)
back_there (i ∷ is) agreed k x apart h = grind (arith, nat_tests, started_calm x)

rest_restoring : (todo : List ℕ) (k : ℕ) (x : DevState) → has (rest todo) k ≡ has todo k → restoring_state todo k x ≡ true → restoring_state (rest todo) k x ≡ true
rest_restoring todo k x e h = grind (arith)

calm_restoring : (todo : List ℕ) (k : ℕ) → has todo k ≡ false → restoring_state todo k Started ≡ true
calm_restoring todo k h = grind (arith)

pub head_querying : (todo agreed set : List ℕ) (j : ℕ) (x : DevState) → HeadIs j todo → querying_state todo agreed set j x ≡ true → x ≡ Started
head_querying [] agreed set j x h g = absurd h
head_querying (i ∷ is) agreed set j x h g = is_Started x (grind (arith, nat_tests))

pub head_refusing : (todo agreed : List ℕ) (j : ℕ) (x : DevState) → HeadIs j todo → refusing_state todo agreed j x ≡ true → x ≡ Started
head_refusing [] agreed j x h g = absurd h
head_refusing (i ∷ is) agreed j x h g = is_Started x (grind (arith, nat_tests))

pub head_restoring : (todo : List ℕ) (j : ℕ) (x : DevState) → has todo j ≡ true → restoring_state todo j x ≡ true → x ≡ RemovePending
head_restoring todo j x h g = is_RemovePending x (grind (arith))

pub asked_apart : (todo more agreed : List ℕ) (j : ℕ) → has more j ≡ false → ((k : ℕ) → has more k ≡ true → has todo k ≡ true) → Apart todo agreed → Apart more (j ∷ agreed)
asked_apart todo more agreed j h within apart k g =
    let a = within k g in
    let b = apart k a in
    elim (cases_eq j k) [ inl e ↦ absurd (let z = subst (λ (i : ℕ). has more i ≡ false) e h in cc) | inr d ↦ grind (arith, nat_tests) ]

asked_within : (agreed set : List ℕ) (j : ℕ) → has set j ≡ true → Within agreed set → Within (j ∷ agreed) set
asked_within agreed set j h within k g =
    elim (cases_eq j k) [ inl e ↦ subst (λ (i : ℕ). has set i ≡ true) e h | inr d ↦ within k (grind (arith, nat_tests)) ]

-- The steps ----------------------------------------------------------------------------

module _ (s : State) (o : Job) (course : course_of o.kind ≡ Course.Removing) (alone : s.activities ≡ []) (good : Good s.next_serial s.core.nodes [] (Some o)) where
  next_fits : (nodes : List Node) → RemovalKeeps o Stage.Settling s.core.nodes → NextFits s (finish_on s.core.nodes o (rest o.todo)) (rest o.todo) nodes
  next_fits nodes keeps same stacks each =
      fits_finish_on s.core.nodes o course (rest o.todo) nodes same keeps.set keeps.rootless (rest_distinct o.todo keeps.todo) keeps.agreed (λ k h. keeps.asks k (rest_within k o.todo h)) stacks each

  rm_remains : (t : State) (node : Node) (problem : Problem) → first_node s.core.nodes o.todo ≡ Some node → t.next_serial ≡ s.next_serial → t.core.nodes ≡ changed_first (is_node node.serial) (with_problem (Some problem)) s.core.nodes → t.activities ≡ s.activities →
      t.operation ≡ Some (finish_on s.core.nodes o (rest o.todo)) → RemovalKeeps o Stage.Settling s.core.nodes → Lawful t
  rm_remains t node problem first a b c d keeps =
      lawful_remains s t o _ node a c d (at_work s o node alone first good) keeps.todo keeps.each problem b (next_fits (changed_first (is_node node.serial) (with_problem (Some problem)) s.core.nodes) keeps)

  -- the device leaves, and the one above it may be listed again
  rm_leaves : (u : State) (node : Node) → first_node s.core.nodes o.todo ≡ Some node → u.next_serial ≡ s.next_serial → u.core.nodes ≡ without_first (is_node node.serial) s.core.nodes → u.activities ≡ s.activities →
      u.operation ≡ Some (finish_on s.core.nodes o (rest o.todo)) → RemovalKeeps o Stage.Settling s.core.nodes → Lawful (relist node.path node.born u)
  rm_leaves u node first a b c d keeps =
      let only = relist_only node.path node.born u in
      lawful_leaves s (relist node.path node.born u) o _ node (only.serial ∙ a) (only.activities ∙ c) (only.operation ∙ d) (at_work s o node alone first good) keeps.todo keeps.each (only.nodes ∙ b)
      (next_fits (without_first (is_node node.serial) s.core.nodes) keeps)

  pub lawful_removal : (stage : Stage) (m : JobMove) → RemovalKeeps o stage s.core.nodes → RemovalStep s.core o stage m → Lawful (job_lifted s m).state
  lawful_removal stage m keeps (RemovalStep.acts _ _ (RemovalAct.declines node first)) =
      lawful_still s _ o _ refl refl alone refl
      (fits_cancel_on (record o { refused = node.serial ∷ o.refused }) course o.agreed s.core.nodes keeps.set keeps.rootless keeps.agreed keeps.agreed keeps.asks.1
      (Each_same (turn_state o.todo o.agreed o.set) (restoring_state o.agreed) s.core.nodes (λ k x h. declined o.todo o.agreed o.set k x (keeps.asks.0 k) h) keeps.each))
      good
  lawful_removal stage m keeps (RemovalStep.agrees node w e ok) =
      let work = at_work s o node alone e.first good in
      let j = node.serial in
      let here = head_has j o.todo work.head in
      let state = head_querying o.todo o.agreed o.set j node.state work.head (keeps.each j node work.at) in
      let not_rest = rest_not j o.todo work.head keeps.todo in
      lawful_ended s _ node o _ Started RemovePending work state (not_root o.set o.todo j keeps.rootless keeps.asks.2 here) refl refl refl refl (λ e. cc) (λ e. cc)
      (λ stacks. fits_ask_on s.core.nodes (record o { agreed = j ∷ o.agreed }) course (rest o.todo) (changed_first (is_node j) (with_state RemovePending) s.core.nodes)
      (λ k. stack_kept j k (with_state RemovePending) s.core.nodes (λ x. refl) (λ x. refl))
      keeps.set keeps.rootless
      (rest_distinct o.todo keeps.todo)
      (keeps.asks.0 j here, keeps.agreed)
      (asked_apart o.todo (rest o.todo) o.agreed j not_rest (λ k h. rest_within k o.todo h) keeps.asks.0)
      (asked_within o.agreed o.set j (keeps.asks.2 j here) keeps.asks.1)
      (λ k h. keeps.asks.2 k (rest_within k o.todo h))
      stacks
      (Each_changed (querying_state o.todo o.agreed o.set) (turn_state (rest o.todo) (j ∷ o.agreed) o.set) j (with_state RemovePending) s.core.nodes node (λ x. refl) work.at
      (asked_here (rest o.todo) o.agreed o.set j not_rest)
      (λ k x d h. asked_there o.todo (rest o.todo) o.agreed o.set j k x work.head d (rest_has j k o.todo work.head d) h) keeps.each))
  lawful_removal stage m keeps (RemovalStep.refuses node w e bad) =
      let work = at_work s o node alone e.first good in
      let j = node.serial in
      let here = head_has j o.todo work.head in
      let state = head_querying o.todo o.agreed o.set j node.state work.head (keeps.each j node work.at) in
      lawful_ended s _ node o _ Started node.state work state (not_root o.set o.todo j keeps.rootless keeps.asks.2 here) refl refl refl refl (λ e. cc) (λ e. let z = state in cc)
      (λ stacks. fit Course.Removing _ _ course (record {
        own = refl;
        set = keeps.set;
        rootless = keeps.rootless;
        todo = keeps.todo;
        agreed = keeps.agreed;
        asks = keeps.asks;
        each =
            Each_changed (querying_state o.todo o.agreed o.set) (refusing_state o.todo o.agreed) j (with_state node.state) s.core.nodes node (λ x. refl) work.at
            (refused_state o.todo o.agreed o.set j node.state (keeps.asks.0 j) (keeps.each j node work.at)) (λ k x d h. refused_state o.todo o.agreed o.set k x (keeps.asks.0 k) h) keeps.each;
      }))
  lawful_removal stage m keeps (RemovalStep.takes_back node w e) =
      let work = at_work s o node alone e.first good in
      let j = node.serial in
      let here = head_has j o.todo work.head in
      let state = head_refusing o.todo o.agreed j node.state work.head (keeps.each j node work.at) in
      lawful_ended s _ node o _ Started Started work state (not_root o.set o.todo j keeps.rootless keeps.asks.2 here) refl refl refl refl (λ e. cc) (λ e. cc)
      (λ stacks. fits_cancel_on o course o.agreed (changed_first (is_node j) (with_state Started) s.core.nodes) keeps.set keeps.rootless keeps.agreed keeps.agreed keeps.asks.1
      (Each_changed (refusing_state o.todo o.agreed) (restoring_state o.agreed) j (with_state Started) s.core.nodes node (λ x. refl) work.at
      (back_here o.todo o.agreed j here (keeps.asks.0 j))
      (λ k x d h. back_there o.todo o.agreed k x (keeps.asks.0 k) h) keeps.each))
  lawful_removal stage m keeps (RemovalStep.cancels node w e) =
      let work = at_work s o node alone e.first good in
      let j = node.serial in
      let here = head_has j o.todo work.head in
      let state = head_restoring o.todo j node.state here (keeps.each j node work.at) in
      lawful_ended s _ node o _ RemovePending Started work state (not_root o.set o.todo j keeps.rootless keeps.asks here) refl refl refl refl (λ e. cc) (λ e. cc)
      (λ stacks. fits_cancel_on o course (rest o.todo) (changed_first (is_node j) (with_state Started) s.core.nodes) keeps.set keeps.rootless (rest_distinct o.todo keeps.todo) keeps.agreed
      (λ k h. keeps.asks k (rest_within k o.todo h))
      (Each_changed (restoring_state o.todo) (restoring_state (rest o.todo)) j (with_state Started) s.core.nodes node (λ x. refl) work.at
      (calm_restoring (rest o.todo) j (rest_not j o.todo work.head keeps.todo))
      (λ k x d h. rest_restoring o.todo k x (rest_has j k o.todo work.head d) h) keeps.each))
  lawful_removal stage m keeps (RemovalStep.removes node w e) =
      let work = at_work s o node alone e.first good in
      lawful_strips s _ o _ node refl refl refl work (not_root o.set o.todo node.serial keeps.rootless keeps.asks (head_has node.serial o.todo work.head)) keeps.each refl
      (λ each. fit Course.Removing _ _ course (record { own = refl; set = keeps.set; rootless = keeps.rootless; todo = keeps.todo; agreed = keeps.agreed; asks = keeps.asks; each = each }))
  lawful_removal stage m keeps (RemovalStep.acts _ _ (RemovalAct.leaves node first inside)) =
      rm_leaves (set_operation (Some (finish_on s.core.nodes o (rest o.todo))) (with_core (drop_node node.serial s.core) s)) node first refl refl refl refl keeps
  lawful_removal stage m keeps (RemovalStep.acts _ _ (RemovalAct.ejects node first)) =
      rm_leaves (unplug node.born (set_operation (Some (finish_on s.core.nodes o (rest o.todo))) (with_core (drop_node node.serial s.core) s))) node first refl refl refl refl keeps
  lawful_removal stage m keeps (RemovalStep.acts _ _ (RemovalAct.disables node first over target)) = rm_remains _ node Problem.Disabled first refl refl refl refl keeps
  lawful_removal stage m keeps (RemovalStep.acts _ _ (RemovalAct.remains node problem first over other)) = rm_remains _ node problem first refl refl refl refl keeps
  lawful_removal stage m keeps (RemovalStep.acts _ _ RemovalAct.closes) = lawful_close s _ o refl refl alone refl keeps.each good

-- The begin: no device of the set is Stopped -----------------------------------------------

idle_or_up : (x : DevState) → is_calm x ≡ true → is_stopped x ≡ false → is_queried x ≡ false → is_idle x ≡ true
idle_or_up NoStack a b c = refl
idle_or_up NotStarted a b c = refl
idle_or_up _ a b c = cc

-- what the begin of a removal needs of its set
pub record SetFits (set : List ℕ) (nodes : List Node) : Type 0 where
  pub distinct : Distinct set
  pub rootless : has set 0 ≡ false
  pub none_stopped : (k : ℕ) (n : Node) → has set k ≡ true → node_at k nodes ≡ Some n → is_stopped n.state ≡ false

pub fits_begun_removal : (s : State) (kind : OpKind) (node : Node) (set : List ℕ) → course_of kind ≡ Course.Removing → SetFits set s.core.nodes → Good s.next_serial s.core.nodes s.activities None →
    OperationFits (Some (begun_with s.core kind node set)) s.core.nodes
fits_begun_removal s kind node set course fits good =
    let up : ℕ → Bool = λ k. is_queried_node (node_at k s.core.nodes) in
    fits_ask_on s.core.nodes (record (job_of kind node) { set = set; ejecting = map (λ (r : Relation). r.member) (those (is_ejecting set) s.core.relations) }) course (those up set) s.core.nodes (λ k. refl) fits.distinct fits.rootless (those_distinct up set fits.distinct) tt (λ k h. refl) (λ k h. absurd {0} (cc))
    (λ k h. (those_has up set k h).0) good.stacks
    (λ k n at. begun_one up set k (is_queried n.state) (is_idle n.state) (is_calm n.state) (ap is_queried_node at) (λ h off. idle_or_up n.state (good.fits k n at) (fits.none_stopped k n h at) off) (good.fits k n at))
