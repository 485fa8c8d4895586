-- Each step of a surprise removal and of a finish keeps that who is ready to be finished has a task for it, or is still to be finished.
use Rattle.std.proofs.Common.{ℕ, ◌≡◌, ◌≢◌, ◌==◌, ◌⊎◌, ◌||◌, ◌∙◌, inl, inr, Bool, true, false, List, [], ◌∷◌, Option, Some, None, refl, sym, ap, subst, arith}
use Rattle.std.specs.List.{list_any}
use Rattle.std.proofs.lemmas.Bool.{cases_eq}
use Rattle.std.proofs.lemmas.Bool.Decides.{nat_tests}
use Rattle.pnp_labels.specs.declared.states.DevState.{DevState}
use Rattle.pnp_labels.specs.declared.states.DevState.TheVariants.{NoStack, SurpriseRemoved}
use Rattle.pnp_labels.specs.declared.states.Problem.{Problem}
use Rattle.pnp_labels.specs.declared.words.Minor.{Minor}
use Rattle.pnp_model.specs.Cores.{node_at, serials_of, with_problem, with_state}
use Rattle.pnp_model.specs.Frames.{asked, first_node, rest}
use Rattle.pnp_model.specs.Handles.{is_open, is_ready_device, ready_device}
use Rattle.pnp_model.specs.Keyed.{those}
use Rattle.pnp_model.specs.Records.{Core, Course, Handle, Job, Node, Stage, State, Step, Task, Walk, course_of}
use Rattle.pnp_model.specs.States.{with_core}
use Rattle.pnp_model.specs.Tests.{has, is_told}
use Rattle.pnp_model.specs.Trees.{dependents, hangs_on}
use Rattle.pnp_laws.specs.Effects.{Turn}
use Rattle.pnp_laws.specs.Kept.{Ascending, Good, SurpriseKeeps}
use Rattle.pnp_laws.specs.Waiting.{IsNeither, NeitherRuns, is_to_finish}
use Rattle.pnp_laws.proofs.Closures.{those_serial}
use Rattle.pnp_laws.proofs.Finishes.{hung_behind}
use Rattle.pnp_laws.proofs.Finishing.{StacksFit, head_bare}
use Rattle.pnp_laws.proofs.Lists.{HeadIs, head_found, head_has, member, rest_has, those_found}
use Rattle.pnp_laws.proofs.Lookups.{left_from, node_from, some_same}
use Rattle.pnp_laws.proofs.Orders.{picked}
use Rattle.pnp_laws.proofs.Readied.{AllBare, Readied, bare_changed, bare_left, bare_still, bare_stripped, readied_ready}
use Rattle.pnp_laws.proofs.SoundStarts.{no_dependents}
use Rattle.pnp_laws.proofs.Stages.{FinishAct, FinishStep, OperationStep, SurpriseAct, SurpriseStep, asking, ended_by, held}
use Rattle.pnp_laws.proofs.EffectsOfOperations.{fi_settle_on}
use Rattle.pnp_laws.proofs.Standing.{FinishesBut, SurpriseOrder, SurpriseTold, StageKept, ToldIn, ToldKept, Tree, kept_by, told_by}
use Rattle.pnp_laws.proofs.SurpriseSteps.{head_told, last_alone}
use Rattle.pnp_laws.proofs.ToldMachine.{lifted}
use Rattle.pnp_laws.proofs.ToldSteps.{after}
use Rattle.pnp_laws.proofs.Tolds.{any_of, was_waiting}
use Rattle.pnp_laws.proofs.Truths.{by_test, or_cases, untrue}
use Rattle.pnp_model.specs.Finishes as fi
use Rattle.pnp_model.specs.Machine as ma
use Rattle.pnp_model.specs.Surprises as su
use Rattle.pnp_model.specs.Jobs.{JobMove, stands}
use Rattle.pnp_laws.proofs.FitsBy.{fits_by}

-- What is kept -----------------------------------------------------------------------------------------

-- the devices that a surprise removal still finishes
abbrev pub left_by : Job → Stage → List ℕ
left_by o Stage.Telling = o.set
left_by o Stage.Ending = []
left_by o _ = o.todo

-- the operation that runs sees to the device: a surprise removal to those of its set that were not told before, a finish to each
abbrev pub LeftIn : Course → Job → ℕ → Type 0
LeftIn Course.Surprising o k = (has (left_by o o.stage) k ≡ true) × (has o.told k ≡ false)
LeftIn Course.Finishing f k = Unit {0}
LeftIn _ o k = ⊥

abbrev pub IsLeft : Option Job → ℕ → Type 0
IsLeft None k = ⊥
IsLeft (Some o) k = LeftIn (course_of o.kind) o k

left_in : (course : Course) (p : Job) (k : ℕ) → course_of p.kind ≡ course → LeftIn course p k → IsLeft (Some p) k
left_in course p k is h = subst (λ (x : Course). LeftIn x p k) (sym is) h

left_as : (course : Course) (p : Job) (k : ℕ) → course_of p.kind ≡ course → IsLeft (Some p) k → LeftIn course p k
left_as course p k is h = subst (λ (x : Course). LeftIn x p k) is h

-- each device that is ready has a task, or the operation sees to it
abbrev pub ReadySeen : List Task → List Handle → Option Job → Core → Type 0
ReadySeen tasks handles operation c =
    (k : ℕ) (n : Node) → node_at k c.nodes ≡ Some n → Readied c handles k n → (is_to_finish tasks k ≡ true) ⊎ IsLeft operation k

pub turn_left : (s : State) (o p : Job) (k : ℕ) → Turn s o p → IsLeft (Some o) k → IsLeft (Some p) k
turn_left s _ _ k (Turn.same o) h = h
turn_left s _ _ k (Turn.queries o node course is idle first asks) h = absurd (left_as Course.Removing o k course h)
turn_left s _ _ k (Turn.removes o node d ds course is idle first goes full) h =
    let old = left_as Course.Surprising o k course h in
    left_in Course.Surprising (su.removing o) k course (subst (λ (x : Stage). has (left_by o x) k ≡ true) is old.0, old.1)
turn_left s _ _ k (Turn.settles o node course is idle first goes none) h =
    let old = left_as Course.Surprising o k course h in
    left_in Course.Surprising (stands o o.todo Stage.Settling) k course (subst (λ (x : Stage). has (left_by o x) k ≡ true) is old.0, old.1)
turn_left s _ _ k (Turn.finishes f j node course is idle ready at) h = left_in Course.Finishing (fi.taken f node) k course tt

pub walked_left : (o : Job) (walk : Option Walk) (k : ℕ) → IsLeft (Some o) k → IsLeft (Some (record o { walk = walk })) k
walked_left o walk k h = by_course (course_of o.kind) h
  where
    by_stage : (stage : Stage) → has (left_by o stage) k ≡ true → has (left_by (record o { walk = walk }) stage) k ≡ true
    by_stage Stage.Telling h = h
    by_stage Stage.Ending h = h
    by_stage _ h = h

    by_course : (course : Course) → LeftIn course o k → LeftIn course (record o { walk = walk }) k
    by_course Course.Surprising h = (by_stage o.stage h.0, h.1)
    by_course Course.Finishing h = tt
    by_course _ h = absurd h

-- Surprise -----------------------------------------------------------------------------------------------

finish_left : (o : Job) (course : course_of o.kind ≡ Course.Surprising) (ks : List ℕ) (k : ℕ) → has ks k ≡ true → has o.told k ≡ false → IsLeft (Some (su.finish_on o ks)) k
finish_left o course [] k h new = absurd (cc)
finish_left o course (j ∷ js) k h new = left_in Course.Surprising (su.finish_on o (j ∷ js)) k course (h, new)

tell_left : (o : Job) (course : course_of o.kind ≡ Course.Surprising) (ks : List ℕ) (k : ℕ) → has o.set k ≡ true → has o.told k ≡ false → IsLeft (Some (su.tell_on o ks)) k
tell_left o course [] k h new = finish_left o course o.set k h new
tell_left o course (j ∷ js) k h new = left_in Course.Surprising (su.tell_on o (j ∷ js)) k course (h, new)

untold_before : (x : DevState) → is_told x ≡ true → x ≡ SurpriseRemoved → ⊥
untold_before x h e = let z = ap is_told e in cc

module _ (next : ℕ) (c : Core) (o : Job) (course : course_of o.kind ≡ Course.Surprising) (tree : Tree next c) (order : Ascending 0 c.nodes) (tasks : List Task) (handles : List Handle) where
  abbrev SeenAt : Stage → Type 0
  SeenAt stage = (k : ℕ) (n : Node) → node_at k c.nodes ≡ Some n → Readied c handles k n → (is_to_finish tasks k ≡ true) ⊎ ((has (left_by o stage) k ≡ true) × (has o.told k ≡ false))

  abbrev SeenNow : JobMove → Type 0
  SeenNow m = ReadySeen tasks handles (after m.frame m.beside) m.core

  -- a device is told that it has gone
  tells : (node : Node) (w : Walk) → first_node c.nodes o.todo ≡ Some node → SurpriseKeeps o Stage.Telling c.nodes → ToldIn c o.set o.told [] → SeenAt Stage.Telling → SeenNow (ended_by c node Minor.SurpriseRemoval false (su.tell_on o (rest o.todo)))
  tells node w first keeps told seen k m at ready =
      let head = head_found c.nodes o.todo node first in
      let here = head_has node.serial o.todo head.0 in
      elim (node_from node.serial k (with_state SurpriseRemoved) c.nodes m (λ x. refl) at) [
        | inl (e, old) ↦
            let new = untrue (has o.told node.serial) (λ b. untold_before node.state (head_told o.todo o.set node.serial node.state here (keeps.each node.serial node head.1)) (told.were node.serial node b head.1)) in
            inr (subst (λ (i : ℕ). IsLeft (Some (su.tell_on o (rest o.todo))) i) e (tell_left o course (rest o.todo) node.serial (keeps.inside node.serial here) new))
        | inr (d, q) ↦
            elim (seen k m q (record { state = ready.state; shut = ready.shut; bare = bare_changed c k node.serial (with_state SurpriseRemoved) (λ x. refl) (λ x. refl) (λ x there h. absurd (cc)) ready.bare })) [
              | inl due ↦ inl due
              | inr left ↦ inr (tell_left o course (rest o.todo) k left.0 left.1)
            ]
      ]

  -- on whom the head hangs, and who waits, is still to be finished
  under_head : (node : Node) → node_at node.serial c.nodes ≡ Some node → has o.set node.serial ≡ true → has o.todo node.serial ≡ true → has o.told node.serial ≡ false → FinishesBut c o.set o.behind o.todo → ToldIn c o.set o.told o.behind
      → (k : ℕ) (n : Node) → node_at k c.nodes ≡ Some n → n.state ≡ SurpriseRemoved → hangs_on c (k ∷ []) node ≡ true → (has o.todo k ≡ true) × (has o.told k ≡ false)
  under_head node there in_set here new f told k n at state on = (in_todo, untrue (has o.told k) (λ b. let z = told.carried k node.serial node b in_set there on in cc))
    where
      in_todo : has o.todo k ≡ true
      in_todo =
          elim (member o.set k) [
            | inr out ↦ absurd (let z = (told.outside k n at state out node.serial node there on).1 in_set in cc)
            | inl own ↦ elim (member o.todo k) [
              | inl h ↦ h
              | inr done ↦ elim (member o.behind k) [
                | inl b ↦ absurd (let z = f.apart node.serial (told.keeps k node.serial node b there on) in cc)
                | inr d ↦ absurd (let z = f.bare k n at own done d in cc)
              ]
            ]
          ]

  or_left : (k : ℕ) → (is_to_finish tasks k ≡ true) ⊎ ((has o.todo k ≡ true) × (has o.told k ≡ false)) → (is_to_finish tasks k ≡ true) ⊎ IsLeft (Some (stands o o.todo Stage.Settling)) k
  or_left k (inl due) = inl due
  or_left k (inr left) = inr (left_in Course.Surprising (stands o o.todo Stage.Settling) k course left)

  -- the head loses its drivers
  removes : (node : Node) (w : Walk) → first_node c.nodes o.todo ≡ Some node → SurpriseKeeps o Stage.Removing c.nodes → FinishesBut c o.set o.behind o.todo → SurpriseTold c o Stage.Removing → SeenAt Stage.Removing → SeenNow (ended_by c node Minor.Remove false (stands o o.todo Stage.Settling))
  removes node w first keeps f told seen k m at ready =
      let head = head_found c.nodes o.todo node first in
      let here = head_has node.serial o.todo head.0 in
      let was = was_waiting c node.serial k m at ready.state in
      or_left k (by_test (λ b. (is_to_finish tasks k ≡ true) ⊎ ((has o.todo k ≡ true) × (has o.told k ≡ false))) (hangs_on c (k ∷ []) node)
      (λ on. inr (under_head node head.1 (keeps.inside node.serial here) here (told.0 node.serial head.0) f told.1 k m was.1 ready.state on))
      (λ off. seen k m was.1 (record { state = ready.state; shut = ready.shut; bare = bare was.0 off })))
    where
      bare : node.serial ≢ k → hangs_on c (k ∷ []) node ≡ false → AllBare c k
      bare other off i x there on =
          elim (cases_eq node.serial i) [
            | inl e ↦
                let own : node ≡ x = some_same (node_at i c.nodes) node x (subst (λ (y : ℕ). node_at y c.nodes ≡ Some node) e (head_found c.nodes o.todo node first).1) there in
                let none = subst (λ (y : Node). hangs_on c (k ∷ []) y ≡ false) own off in
                absurd (cc)
            | inr d ↦ bare_stripped c k node.serial other ready.bare i x there d on
          ]

  -- who is still to be finished, when the head is done
  rest_left : (node : Node) (p : Job) (k : ℕ) → course_of p.kind ≡ Course.Surprising → p.told ≡ o.told → HeadIs node.serial o.todo → node.serial ≢ k → (is_to_finish tasks k ≡ true) ⊎ ((has o.todo k ≡ true) × (has o.told k ≡ false))
      → (is_to_finish tasks k ≡ true) ⊎ IsLeft (Some (su.finish_on p (rest o.todo))) k
  rest_left node p k is told head other (inl due) = inl due
  rest_left node p k is told head other (inr left) = inr (finish_left p is (rest o.todo) k (rest_has node.serial k o.todo head other ∙ left.0) (ap (λ (ks : List ℕ). has ks k) told ∙ left.1))

  -- a device that is ready and was not told before does not stay behind
  ready_goes : (node : Node) → node_at node.serial c.nodes ≡ Some node → HeadIs node.serial o.todo → has o.set node.serial ≡ true → FinishesBut c o.set o.behind o.todo → ToldIn c o.set o.told o.behind → Readied c handles node.serial node → has o.told node.serial ≡ false → su.stays_behind c o handles node.serial ≡ true → ⊥
  ready_goes node there head in_set f told ready new behind =
      elim (or_cases (has o.told node.serial) (is_open handles node.serial || list_any (λ j. has o.behind j) (dependents c node.serial)) behind) [
        | inl e ↦ cc
        | inr more ↦ elim (or_cases (is_open handles node.serial) (list_any (λ j. has o.behind j) (dependents c node.serial)) more) [
          | inl e ↦ (let shut = ready.shut in cc)
          | inr e ↦
              let some = any_of (λ j. has o.behind j) (dependents c node.serial) e in
              no_dependents c node.serial order alone some.0 some.1
        ]
      ]
    where
      -- what hangs on it stayed behind, and so has drivers
      alone : (j : ℕ) (m : Node) → node_at j c.nodes ≡ Some m → hangs_on c (node.serial ∷ []) m ≡ true → ⊥
      alone j m at on =
          let waits = told.stayed j m (hung_behind next c o.set o.behind o.todo node.serial order tree head in_set f j m at on) at in
          let bare = ready.bare j m at on in
          cc

  lags : (node : Node) → first_node c.nodes o.todo ≡ Some node → su.stays_behind c o handles node.serial ≡ true → SurpriseKeeps o Stage.Next c.nodes → FinishesBut c o.set o.behind o.todo → ToldIn c o.set o.told o.behind → SeenAt Stage.Next → SeenNow (su.wait c o node)
  lags node first behind keeps f told seen k m at ready =
      elim (cases_eq node.serial k) [
        | inl e ↦ elim (seen k m at ready) [ inl due ↦ inl due | inr left ↦ absurd (never e left.1) ]
        | inr d ↦ rest_left node (record o { behind = node.serial ∷ o.behind }) k course refl head.0 d (seen k m at ready)
      ]
    where
      head : HeadIs node.serial o.todo × (node_at node.serial c.nodes ≡ Some node)
      head = head_found c.nodes o.todo node first

      never : node.serial ≡ k → has o.told k ≡ false → ⊥
      never e new =
          let own : m ≡ node = some_same (node_at k c.nodes) m node at (subst (λ (i : ℕ). node_at i c.nodes ≡ Some node) e head.1) in
          let here = subst (λ (i : ℕ). Readied c handles i node) (sym e) (subst (λ (x : Node). Readied c handles k x) own ready) in
          ready_goes node head.1 head.0 (keeps.inside node.serial (head_has node.serial o.todo head.0)) f told here (subst (λ (i : ℕ). has o.told i ≡ false) (sym e) new) behind

  -- the head has no drivers
  bare_head : (node : Node) → first_node c.nodes o.todo ≡ Some node → SurpriseKeeps o Stage.Settling c.nodes → node.state ≡ NoStack
  bare_head node first keeps = let head = head_found c.nodes o.todo node first in head_bare o.todo node.serial node.state head.0 (keeps.each node.serial node head.1)

  leaves : (node : Node) → first_node c.nodes o.todo ≡ Some node → SurpriseKeeps o Stage.Settling c.nodes → SeenAt Stage.Settling → SeenNow (su.leaves c o node)
  leaves node first keeps seen k m at ready =
      let head = head_found c.nodes o.todo node first in
      let was = left_from node.serial k c.nodes m order at in
      rest_left node o k course refl head.0 was.0 (seen k m was.1 (record { state = ready.state; shut = ready.shut; bare = bare_left c k node.serial node head.1 (bare_head node first keeps) ready.bare }))

  remains : (node : Node) → first_node c.nodes o.todo ≡ Some node → SurpriseKeeps o Stage.Settling c.nodes → SeenAt Stage.Settling → SeenNow (held c o node)
  remains node first keeps seen k m at ready =
      let head = head_found c.nodes o.todo node first in
      let state = ready.state in
      elim (node_from node.serial k (with_problem (Some Problem.Held)) c.nodes m (λ x. refl) at) [
        | inl (e, (y, q, r)) ↦
            let own : node ≡ y = some_same (node_at k c.nodes) node y (subst (λ (i : ℕ). node_at i c.nodes ≡ Some node) e head.1) q in
            let none : m.state ≡ NoStack = ap (λ (x : Node). x.state) r ∙ ap (λ (x : Node). x.state) (sym own) ∙ bare_head node first keeps in
            absurd (cc)
        | inr (d, q) ↦ rest_left node o k course refl head.0 d (seen k m q (record { state = state; shut = ready.shut; bare = bare_changed c k node.serial (with_problem (Some Problem.Held)) (λ x. refl) (λ x. refl) (λ x there h. h) ready.bare }))
      ]

  -- the target comes last, and has no drivers
  stays : (node : Node) → first_node c.nodes o.todo ≡ Some node → (node.serial == o.target) ≡ true → SurpriseKeeps o Stage.Settling c.nodes → SeenAt Stage.Settling → SeenNow (su.close c o)
  stays node first target keeps seen k m at ready =
      elim (seen k m at ready) [
        | inl due ↦ inl due
        | inr left ↦ elim (cases_eq node.serial k) [
          | inl e ↦
              let own : node ≡ m = some_same (node_at k c.nodes) node m (subst (λ (i : ℕ). node_at i c.nodes ≡ Some node) e head.1) at in
              let none : m.state ≡ NoStack = ap (λ (x : Node). x.state) (sym own) ∙ bare_head node first keeps in
              let state = ready.state in
              absurd (cc)
          | inr d ↦ absurd (let z = sym left.0 ∙ sym (rest_has node.serial k o.todo head.0 d) ∙ ap (λ (ks : List ℕ). has ks k) over in cc)
        ]
      ]
    where
      head : HeadIs node.serial o.todo × (node_at node.serial c.nodes ≡ Some node)
      head = head_found c.nodes o.todo node first

      over : rest o.todo ≡ []
      over = let is : node.serial ≡ o.target = grind (arith, nat_tests) in last_alone o.target o.todo (subst (λ (i : ℕ). HeadIs i o.todo) is head.0) keeps.ends

  pub ready_surprise : (in_world : Bool) (stage : Stage) (m : JobMove) → SurpriseKeeps o stage c.nodes → SurpriseOrder c o stage → SurpriseTold c o stage → SeenAt stage → SurpriseStep c o in_world handles stage m → SeenNow m
  ready_surprise in_world stage m keeps f told seen (SurpriseStep.tells node w e) = tells node w e.first keeps told.1 seen
  ready_surprise in_world stage m keeps f told seen (SurpriseStep.removes node w e) = removes node w e.first keeps f.0 told seen
  ready_surprise in_world stage m keeps f told seen (SurpriseStep.acts _ _ (SurpriseAct.lags node first behind)) = lags node first behind keeps f told seen
  ready_surprise in_world stage m keeps f told seen (SurpriseStep.acts _ _ (SurpriseAct.leaves node first why)) = leaves node first keeps seen
  ready_surprise in_world stage m keeps f told seen (SurpriseStep.acts _ _ (SurpriseAct.remains node first other over)) = remains node first keeps seen
  ready_surprise in_world stage m keeps f told seen (SurpriseStep.acts _ _ (SurpriseAct.stays node first target back)) = stays node first target keeps seen
  ready_surprise in_world stage m keeps f told seen (SurpriseStep.acts _ _ SurpriseAct.closes) = λ k n at ready. elim (seen k n at ready) [ inl due ↦ inl due | inr left ↦ absurd (let none = left.0 in cc) ]

-- Finish -------------------------------------------------------------------------------------------------

-- where the next ready device is asked for, each that is ready is one
none_ready : (c : Core) (handles : List Handle) (k : ℕ) (n : Node) → Ascending 0 c.nodes → node_at k c.nodes ≡ Some n → is_ready_device c handles n ≡ true → fi.node_of_ready c.nodes (ready_device c handles) ≡ None → ⊥
none_ready c handles k n order at ready none =
    let some = picked (serials_of (those (is_ready_device c handles) c.nodes)) k (those_serial 0 (is_ready_device c handles) c.nodes k n order at ready) in
    let f = those_found 0 (is_ready_device c handles) c.nodes some.0 order some.2 in
    let there = ap (fi.node_of_ready c.nodes) some.1 ∙ f.1 in
    cc

ready_finish : (c : Core) (f : Job) (course : course_of f.kind ≡ Course.Finishing) (in_world : Bool) (tasks : List Task) (handles : List Handle) (stage : Stage) (m : JobMove) → Ascending 0 c.nodes → StacksFit c.nodes → FinishStep c f in_world handles stage m → ReadySeen tasks handles (after m.frame m.beside) m.core
ready_finish c f course in_world tasks handles stage m order stacks (FinishStep.removes node w e) =
    λ k n at ready. inr (left_in Course.Finishing (fi.settle_on f (fi.is_leaving c.nodes node in_world) node.problem) k (ap course_of (fi_settle_on f (fi.is_leaving c.nodes node in_world) node.problem).kind ∙ course) tt)
ready_finish c f course in_world tasks handles stage m order stacks (FinishStep.acts _ _ (FinishAct.leaves node first)) = λ k n at ready. inr (left_in Course.Finishing (fi.next_on f) k course tt)
ready_finish c f course in_world tasks handles stage m order stacks (FinishStep.acts _ _ (FinishAct.holds node first)) = λ k n at ready. inr (left_in Course.Finishing (fi.next_on f) k course tt)
ready_finish c f course in_world tasks handles stage m order stacks (FinishStep.acts _ _ (FinishAct.closes none)) = λ k n at ready. absurd (none_ready c handles k n order at (readied_ready c handles k n order stacks at ready) none)

-- A step ---------------------------------------------------------------------------------------------------

pub ready_operation : (s : State) (o : Job) (step : Step) → Good s.next_serial s.core.nodes s.activities (Some o) → Tree s.next_serial s.core → StageKept (Some o) s.core → ToldKept (Some o) s.core → (NeitherRuns (Some o) → ⊥) → ReadySeen s.tasks s.handles (Some o) s.core → OperationStep s o step
    → ReadySeen s.tasks s.handles step.state.operation step.state.core
ready_operation s o step good tree kept told either seen (OperationStep.asks node w a) =
    λ k n at ready. elim (seen k n at (record { state = ready.state; shut = ready.shut; bare = bare_still s.core (asking s o node w).state.core k refl refl ready.bare })) [
      | inl due ↦ inl due
      | inr left ↦ inr (walked_left o (Some (asked s.core node w).walk) k left)
    ]
ready_operation s o step good tree kept told either seen (OperationStep.rebalances stage m course is x) = absurd (either (subst (λ (y : Course). IsNeither y) (sym course) tt))
ready_operation s o step good tree kept told either seen (OperationStep.removes stage m course is x) = absurd (either (subst (λ (y : Course). IsNeither y) (sym course) tt))
ready_operation s o step good tree kept told either seen (OperationStep.surprises stage m course is x) =
    lifted (ReadySeen s.tasks s.handles) m.frame m.beside (with_core m.core s)
    (ready_surprise s.next_serial s.core o course tree good.serials s.tasks s.handles (ma.is_back s o Course.Surprising) stage m
    (subst (λ (y : Stage). SurpriseKeeps o y s.core.nodes) is (fits_by Course.Surprising o s.core.nodes course good.fits))
    (subst (λ (y : Stage). SurpriseOrder s.core o y) is (kept_by Course.Surprising o s.core course kept).0)
    (subst (λ (y : Stage). SurpriseTold s.core o y) is (told_by Course.Surprising o s.core course told))
    (subst (λ (y : Stage). (k : ℕ) (n : Node) → node_at k s.core.nodes ≡ Some n → Readied s.core s.handles k n → (is_to_finish s.tasks k ≡ true) ⊎ ((has (left_by o y) k ≡ true) × (has o.told k ≡ false))) is
    (λ k n at ready. elim (seen k n at ready) [ inl due ↦ inl due | inr left ↦ inr (left_as Course.Surprising o k course left) ])) x)
ready_operation s o step good tree kept told either seen (OperationStep.finishes stage m course is x) =
    lifted (ReadySeen s.tasks s.handles) m.frame m.beside (with_core m.core s)
    (ready_finish s.core o course (ma.is_back s o Course.Finishing) s.tasks s.handles stage m good.serials good.stacks x)
