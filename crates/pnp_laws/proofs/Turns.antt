-- Where the next device of an operation is taken, the operation keeps what a run keeps.
use Rattle.std.proofs.Common.{ℕ, ◌≡◌, ◌≢◌, inl, inr, true, false, List, [], ◌∷◌, Option, Some, refl, sym, ap, ◌∙◌, subst, arith}
use Rattle.std.proofs.lemmas.Bool.{cases_eq}
use Rattle.std.proofs.lemmas.Bool.Decides.{nat_tests}
use Rattle.pnp_model.specs.Cores.{node_at, stack_of}
use Rattle.pnp_model.specs.Finishes.{taken}
use Rattle.pnp_model.specs.Frames.{first_node}
use Rattle.pnp_model.specs.Handles.{is_open, ready_device}
use Rattle.pnp_model.specs.Records.{Course, Job, Node, Stage, State, course_of}
use Rattle.pnp_model.specs.Removals.{is_queried, queried, refuses_unasked}
use Rattle.pnp_model.specs.Surprises.{removing}
use Rattle.pnp_model.specs.Tests.{has, is_started, is_surprise_removed}
use Rattle.pnp_labels.specs.declared.states.DevState.{DevState}
use Rattle.pnp_labels.specs.declared.states.DevState.TheVariants.{Started, SurpriseRemoved}
use Rattle.pnp_laws.specs.Effects.{Running, Turn}
use Rattle.pnp_laws.specs.Kept.{Ascending, Each, FinishKeeps, Good, IsGood, OperationFits, RemovalKeeps, SurpriseKeeps, finishing_state, is_calm, querying_state, removing_state, settling_state, taken_state, turn_state}
use Rattle.pnp_laws.proofs.FitsBy.{fit, fits_by}
use Rattle.pnp_model.specs.Jobs.{stands}
use Rattle.pnp_laws.proofs.Finishing.{StacksFit, remove_each, settle_each}
use Rattle.pnp_laws.proofs.FinishSteps.{not_root}
use Rattle.pnp_laws.proofs.OpSteps.{is_SurpriseRemoved}
use Rattle.pnp_laws.proofs.Kept.{Good_nodes}
use Rattle.pnp_laws.proofs.Lists.{HeadIs, head_found, head_has}
use Rattle.pnp_laws.proofs.Lookups.{found_self, some_same}
use Rattle.pnp_laws.proofs.Readies.{ready_is}
use Rattle.pnp_laws.proofs.Truths.{and_both, or_neither}

-- The device of a removal is Started ------------------------------------------------------

queried_up : (x : DevState) → is_queried x ≡ true → is_surprise_removed x ≡ false → x ≡ Started
queried_up Started h g = refl
queried_up _ h g = cc

-- one that is still to do is asked, or refuses unasked
turn_queried : (todo agreed set : List ℕ) (j : ℕ) (x : DevState) → has todo j ≡ true → turn_state todo agreed set j x ≡ true → is_queried x ≡ true
turn_queried todo agreed set j x h g = grind (arith)

-- it is asked, so it is Started
turn_head : (todo agreed set : List ℕ) (j k : ℕ) (x : DevState) → HeadIs j todo → (j ≡ k → x ≡ Started) → turn_state todo agreed set k x ≡ true → querying_state todo agreed set k x ≡ true
turn_head [] agreed set j k x head up h = absurd head
turn_head (i ∷ is) agreed set j k x head up h =
    elim (cases_eq i k) [
      | inl e ↦ let here = ap is_started (up (sym head ∙ e)) in grind (arith, nat_tests)
      | inr d ↦ grind (arith, nat_tests)
    ]

-- at a serial, only one node stands
own_state : (nodes : List Node) (node n : Node) (k : ℕ) (x : DevState) → node_at node.serial nodes ≡ Some node → node_at k nodes ≡ Some n → node.state ≡ x → node.serial ≡ k → n.state ≡ x
own_state nodes node n k x at here state e =
    ap (λ (m : Node). m.state) (some_same (node_at k nodes) n node here (subst (λ (i : ℕ). node_at i nodes ≡ Some node) e at)) ∙ state

turn_each : (todo agreed set : List ℕ) (nodes : List Node) (node : Node) → HeadIs node.serial todo → node_at node.serial nodes ≡ Some node → is_surprise_removed node.state ≡ false → Each (turn_state todo agreed set) nodes → Each (querying_state todo agreed set) nodes
turn_each todo agreed set nodes node head at untold each k n here =
    let state = queried_up node.state (turn_queried todo agreed set node.serial node.state (head_has node.serial todo head) (each node.serial node at)) untold in
    turn_head todo agreed set node.serial k n.state head (own_state nodes node n k Started at here state) (each k n here)

-- That of a surprise removal has drivers, or none ------------------------------------------

settles_each : (todo : List ℕ) (nodes : List Node) (node : Node) → StacksFit nodes → HeadIs node.serial todo → node.serial ≢ 0 → node_at node.serial nodes ≡ Some node → node.stack ≡ [] → Each (finishing_state todo) nodes → Each (settling_state todo) nodes
settles_each [] nodes node stacks head up at none each = absurd head
settles_each (k ∷ ks) nodes node stacks head up at none each =
    settle_each k ks nodes stacks (subst (λ (i : ℕ). i ≢ 0) (sym head) up) (ap (λ (i : ℕ). stack_of (node_at i nodes)) head ∙ ap stack_of at ∙ none) each

removes_each : (todo : List ℕ) (nodes : List Node) (node : Node) (d : ℕ) (ds : List ℕ) → StacksFit nodes → HeadIs node.serial todo → node_at node.serial nodes ≡ Some node → node.stack ≡ d ∷ ds → Each (finishing_state todo) nodes → Each (removing_state todo) nodes
removes_each [] nodes node d ds stacks head at full each = absurd head
removes_each (k ∷ ks) nodes node d ds stacks head at full each =
    remove_each k ks nodes d ds stacks (ap (λ (i : ℕ). stack_of (node_at i nodes)) head ∙ ap stack_of at ∙ full) each

-- That of a finish is SurpriseRemoved ------------------------------------------------------

taken_one : (j k : ℕ) (x : DevState) → (j ≡ k → x ≡ SurpriseRemoved) → is_calm x ≡ true → taken_state (j ∷ []) k x ≡ true
taken_one j k x told calm =
    elim (cases_eq j k) [
      | inl e ↦ let here = ap is_surprise_removed (told e) in grind (arith, nat_tests)
      | inr d ↦ grind (arith, nat_tests)
    ]

-- The turn ---------------------------------------------------------------------------------

module _ (s : State) (stacks : StacksFit s.core.nodes) (order : Ascending 0 s.core.nodes) where
  turn_removal : (o : Job) (node : Node) → course_of o.kind ≡ Course.Removing → first_node s.core.nodes o.todo ≡ Some node → refuses_unasked s.handles node ≡ false → RemovalKeeps o Stage.Next s.core.nodes → OperationFits (Some (queried o)) s.core.nodes
  turn_removal o node course first asks keeps =
      let head = head_found s.core.nodes o.todo node first in
      fit Course.Removing _ _ course
      (record {
        own = refl;
        set = keeps.set;
        rootless = keeps.rootless;
        todo = keeps.todo;
        agreed = keeps.agreed;
        asks = keeps.asks;
        each = turn_each o.todo o.agreed o.set s.core.nodes node head.0 head.1 (or_neither (is_open s.handles node.serial) (is_surprise_removed node.state) asks).1 keeps.each;
      })

  turn_removes : (o : Job) (node : Node) (d : ℕ) (ds : List ℕ) → course_of o.kind ≡ Course.Surprising → first_node s.core.nodes o.todo ≡ Some node → node.stack ≡ d ∷ ds → SurpriseKeeps o Stage.Next s.core.nodes → OperationFits (Some (removing o)) s.core.nodes
  turn_removes o node d ds course first full keeps =
      let head = head_found s.core.nodes o.todo node first in
      fit Course.Surprising _ _ course (record { own = refl; set = keeps.set; rootless = keeps.rootless; last = keeps.last; todo = keeps.todo; inside = keeps.inside; ends = keeps.ends; each = removes_each o.todo s.core.nodes node d ds stacks head.0 head.1 full keeps.each; calm = keeps.calm })

  turn_settles : (o : Job) (node : Node) → course_of o.kind ≡ Course.Surprising → first_node s.core.nodes o.todo ≡ Some node → node.stack ≡ [] → SurpriseKeeps o Stage.Next s.core.nodes → OperationFits (Some (stands o o.todo Stage.Settling)) s.core.nodes
  turn_settles o node course first none keeps =
      let head = head_found s.core.nodes o.todo node first in
      let up = not_root o.set o.todo node.serial keeps.rootless keeps.inside (head_has node.serial o.todo head.0) in
      fit Course.Surprising _ _ course (record { own = refl; set = keeps.set; rootless = keeps.rootless; last = keeps.last; todo = keeps.todo; inside = keeps.inside; ends = keeps.ends; each = settles_each o.todo s.core.nodes node stacks head.0 up head.1 none keeps.each; calm = keeps.calm })

  -- the device that is taken was told that it has gone
  pub taken_told : (k : ℕ) (node : Node) → ready_device s.core s.handles ≡ Some k → node_at k s.core.nodes ≡ Some node → node.state ≡ SurpriseRemoved
  taken_told k node ready at = is_SurpriseRemoved node.state (and_both (is_surprise_removed node.state) _ (ready_is s.core s.handles k node order ready at)).0

  turn_finish : (f : Job) (k : ℕ) (node : Node) → course_of f.kind ≡ Course.Finishing → ready_device s.core s.handles ≡ Some k → node_at k s.core.nodes ≡ Some node → FinishKeeps f Stage.Next s.core.nodes → OperationFits (Some (taken f node)) s.core.nodes
  turn_finish f k node course ready at keeps =
      let told = taken_told k node ready at in
      let own = found_self k s.core.nodes node at in
      let up : node.serial ≢ 0 = λ z. let root = (stacks node.serial node own).root z in cc in
      fit Course.Finishing _ _ course
      (record {
        own = refl;
        one = (node.serial, refl, up);
        each = λ j n here. taken_one node.serial j n.state (own_state s.core.nodes node n j SurpriseRemoved own here told) (keeps.each j n here);
      })

  pub turn_fits : (o p : Job) → Turn s o p → OperationFits (Some o) s.core.nodes → OperationFits (Some p) s.core.nodes
  turn_fits _ _ (Turn.same o) fits = fits
  turn_fits _ _ (Turn.queries o node course is none first asks) fits = turn_removal o node course first asks (subst (λ (x : Stage). RemovalKeeps o x s.core.nodes) is (fits_by Course.Removing _ _ course fits))
  turn_fits _ _ (Turn.removes o node d ds course is none first goes full) fits = turn_removes o node d ds course first full (subst (λ (x : Stage). SurpriseKeeps o x s.core.nodes) is (fits_by Course.Surprising _ _ course fits))
  turn_fits _ _ (Turn.settles o node course is idle first goes none) fits = turn_settles o node course first none (subst (λ (x : Stage). SurpriseKeeps o x s.core.nodes) is (fits_by Course.Surprising _ _ course fits))
  turn_fits _ _ (Turn.finishes f k node course is none ready at) fits = turn_finish f k node course ready at (subst (λ (x : Stage). FinishKeeps f x s.core.nodes) is (fits_by Course.Finishing _ _ course fits))

-- a turn keeps what a run keeps
pub turn_good : (s : State) (o p : Job) → Turn s o p → Good s.next_serial s.core.nodes s.activities (Some o) → Good s.next_serial s.core.nodes s.activities (Some p)
turn_good s o p turn g = Good_nodes s.next_serial s.core.nodes s.activities s.activities (Some o) (Some p) g.order g.phases g.alone (turn_fits s g.stacks g.serials o p turn g.fits) g

pub running_good : (s : State) (o : Job) → Running s o → IsGood s → Good s.next_serial s.core.nodes s.activities (Some o)
running_good s o now good = turn_good s now.before o now.turn (subst (λ (x : Option Job). Good s.next_serial s.core.nodes s.activities x) now.runs good)
