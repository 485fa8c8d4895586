-- Where the next device of an operation is taken, the order is kept, and who waits, and who has no handle.
use Rattle.std.proofs.Common.{ℕ, ◌≡◌, ◌≢◌, ◌&&◌, ◌||◌, Bool, true, false, not, List, [], ◌∷◌, Option, Some, refl, subst, arith, ap, sym, ◌∙◌}
use Rattle.std.specs.List.{list_any}
use Rattle.std.proofs.lemmas.Bool.Decides.{nat_tests}
use Rattle.pnp_model.specs.Cores.{node_at}
use Rattle.pnp_model.specs.Frames.{first_node}
use Rattle.pnp_model.specs.Handles.{has_drivers, holds_back, is_open, is_ready_device}
use Rattle.pnp_model.specs.Records.{Core, Handle, Node, State, Job, Stage, Course}
use Rattle.pnp_model.specs.Surprises.{stays_behind, removing}
use Rattle.pnp_model.specs.Tests.{has, is_surprise_removed}
use Rattle.pnp_model.specs.Trees.{dependents, hangs_on}
use Rattle.pnp_labels.specs.declared.states.DevState.TheVariants.{NoStack}
use Rattle.pnp_laws.specs.Effects.{Running, Turn}
use Rattle.pnp_laws.specs.Kept.{Ascending, Good, SurpriseKeeps}
use Rattle.pnp_laws.proofs.Finishes.{goes_free, head_alone}
use Rattle.pnp_laws.proofs.Finishing.{StacksFit, head_same}
use Rattle.pnp_laws.proofs.Lists.{HeadIs, head_found, head_has}
use Rattle.pnp_laws.proofs.Lookups.{found_self}
use Rattle.pnp_laws.proofs.Readies.{ready_is}
use Rattle.pnp_laws.proofs.Ranks.{one_has}
use Rattle.pnp_laws.proofs.Standing.{FinishTold, FinishesBut, HeadAlone, HeadShut, IsNew, Kept, RemovalOrder, RemovalShut, RemovalThere, RemovalTold, StageKept, StageShut, SurpriseOrder, SurpriseThere, SurpriseTold, ToldKept, Tree, waiting, JobKept, JobTold, JobShut, waiting_in}
use Rattle.pnp_laws.proofs.Theres.{goes_on}
use Rattle.pnp_laws.proofs.Tolds.{ready_free}
use Rattle.pnp_laws.proofs.Truths.{and_both, not_true, or_neither}
use Rattle.pnp_laws.proofs.Turns.{taken_told}
use Rattle.pnp_model.specs.Jobs.{stands}
use Rattle.pnp_laws.proofs.FitsBy.{fits_by}
use Rattle.pnp_model.specs.Removals.{queried}
use Rattle.pnp_model.specs.Finishes.{taken}

-- what hangs on a device that is ready has no drivers, and no handle to it is open --------------

none_of : (test : Node → Bool) (nodes : List Node) (i : ℕ) (m : Node) → list_any test nodes ≡ false → node_at i nodes ≡ Some m → test m ≡ false
none_of test [] i m h at = absurd (cc)
none_of test (n ∷ ns) i m h at = grind (arith, nat_tests, none_of test ns i m)

no_stack : (stack : List ℕ) → has_drivers stack ≡ false → stack ≡ []
no_stack [] h = refl
no_stack (d ∷ ds) h = cc

both_false : (a b : Bool) → a ≡ true → (a && b) ≡ false → b ≡ false
both_false true b e h = h
both_false false b e h = absurd (cc)

pub record IsReady (c : Core) (handles : List Handle) (node : Node) : Type 0 where
  pub shut : is_open handles node.serial ≡ false
  pub lone : list_any (holds_back c node.serial) c.nodes ≡ false

pub ready_parts : (c : Core) (handles : List Handle) (node : Node) → is_ready_device c handles node ≡ true → IsReady c handles node
ready_parts c handles node h =
    let two = and_both (is_surprise_removed node.state) (has_drivers node.stack && (not (is_open handles node.serial) && not (list_any (holds_back c node.serial) c.nodes))) h in
    let more = and_both (has_drivers node.stack) (not (is_open handles node.serial) && not (list_any (holds_back c node.serial) c.nodes)) two.1 in
    let last = and_both (not (is_open handles node.serial)) (not (list_any (holds_back c node.serial) c.nodes)) more.1 in
    record { shut = not_true (is_open handles node.serial) last.0; lone = not_true (list_any (holds_back c node.serial) c.nodes) last.1 }

pub ready_bare : (next : ℕ) (c : Core) (handles : List Handle) (node : Node) → StacksFit c.nodes → Tree next c → IsReady c handles node → (i : ℕ) (m : Node) → node_at i c.nodes ≡ Some m → hangs_on c (node.serial ∷ []) m ≡ true → m.state ≡ NoStack
ready_bare next c handles node stacks tree ready i m at on =
    let stack = no_stack m.stack (both_false (hangs_on c (node.serial ∷ []) m) (has_drivers m.stack) on (none_of (holds_back c node.serial) c.nodes i m ready.lone at)) in
    let up : i ≢ 0 = λ z. tree.free node.serial m (subst (λ (x : ℕ). node_at x c.nodes ≡ Some m) z at) on in
    (stacks i m at).some up stack

-- A device that does not stay behind was not told before, and no handle to it is open ------------

goes_new : (c : Core) (o : Job) (handles : List Handle) (j : ℕ) → stays_behind c o handles j ≡ false → HeadIs j o.todo → IsNew o.todo o.told
goes_new c o handles j goes head k h =
    subst (λ (x : ℕ). has o.told x ≡ false) (head_same o.todo j k head h) (or_neither (has o.told j) (is_open handles j || list_any (λ i. has o.behind i) (dependents c j)) goes).0

goes_shut : (c : Core) (o : Job) (handles : List Handle) (j : ℕ) → stays_behind c o handles j ≡ false → is_open handles j ≡ false
goes_shut c o handles j goes =
    (or_neither (is_open handles j) (list_any (λ i. has o.behind i) (dependents c j)) (or_neither (has o.told j) (is_open handles j || list_any (λ i. has o.behind i) (dependents c j)) goes).1).0

head_shut : (handles : List Handle) (todo : List ℕ) (j : ℕ) → HeadIs j todo → is_open handles j ≡ false → HeadShut handles todo
head_shut handles todo j head shut k h = subst (λ (x : ℕ). is_open handles x ≡ false) (head_same todo j k head h) shut

-- The turn ---------------------------------------------------------------------------------

pub turn_waiting : (s : State) (o p : Job) → Turn s o p → waiting (Some p) ≡ waiting (Some o)
turn_waiting s _ _ (Turn.same o) = refl
turn_waiting s _ _ (Turn.queries o node course is idle first asks) = ap (λ (x : Course). waiting_in x (queried o)) course ∙ sym (ap (λ (x : Course). waiting_in x o) course)
turn_waiting s _ _ (Turn.removes o node d ds course is idle first goes full) = ap (λ (x : Course). waiting_in x (removing o)) course ∙ sym (ap (λ (x : Course). waiting_in x o) course)
turn_waiting s _ _ (Turn.settles o node course is idle first goes none) = ap (λ (x : Course). waiting_in x (stands o o.todo Stage.Settling)) course ∙ sym (ap (λ (x : Course). waiting_in x o) course)
turn_waiting s _ _ (Turn.finishes f k node course is idle ready at) = ap (λ (x : Course). waiting_in x (taken f node)) course ∙ sym (ap (λ (x : Course). waiting_in x f) course)

module _ (s : State) (tree : Tree s.next_serial s.core) where
  -- nothing hangs on the device of a surprise that is taken
  taken_alone : (o : Job) (node : Node) → first_node s.core.nodes o.todo ≡ Some node → stays_behind s.core o s.handles node.serial ≡ false → Ascending 0 s.core.nodes → SurpriseKeeps o Stage.Next s.core.nodes → FinishesBut s.core o.set o.behind o.todo → HeadAlone s.core o.todo
  taken_alone o node first goes order keeps f =
      let head = (head_found s.core.nodes o.todo node first).0 in
      head_alone s.core o.todo node.serial head (goes_free s.next_serial s.core o s.handles o.todo node.serial order tree head (keeps.inside node.serial (head_has node.serial o.todo head)) f goes)

  pub turn_stage : (o p : Job) → Turn s o p → Good s.next_serial s.core.nodes s.activities (Some o) → ToldKept (Some o) s.core → StageKept (Some o) s.core → StageKept (Some p) s.core
  turn_stage _ _ (Turn.same o) good told h = h
  turn_stage _ _ (Turn.queries o node course is idle first asks) good told h =
      let kept = subst (λ (x : Course). JobKept x o s.core) course h in
      subst (λ (x : Course). JobKept x (queried o) s.core) (sym course) (subst (λ (x : Stage). RemovalOrder s.core o x) is kept.0, subst (λ (x : Stage). RemovalThere o x s.core.nodes) is kept.1)
  turn_stage _ _ (Turn.removes o node d ds course is idle first goes full) good told h =
      let kept = subst (λ (x : Course). JobKept x o s.core) course h in
      let keeps = fits_by Course.Surprising o s.core.nodes course good.fits in
      let order = subst (λ (x : Stage). SurpriseOrder s.core o x) is kept.0 in
      subst (λ (x : Course). JobKept x (removing o) s.core) (sym course)
      ((order, taken_alone o node first goes good.serials (subst (λ (x : Stage). SurpriseKeeps o x s.core.nodes) is keeps) order), subst (λ (x : Stage). SurpriseThere o x s.core.nodes) is kept.1)
  turn_stage _ _ (Turn.settles o node course is idle first goes none) good told h =
      let kept = subst (λ (x : Course). JobKept x o s.core) course h in
      let keeps = fits_by Course.Surprising o s.core.nodes course good.fits in
      let order = subst (λ (x : Stage). SurpriseOrder s.core o x) is kept.0 in
      subst (λ (x : Course). JobKept x (stands o o.todo Stage.Settling) s.core) (sym course)
      ((order, taken_alone o node first goes good.serials (subst (λ (x : Stage). SurpriseKeeps o x s.core.nodes) is keeps) order), subst (λ (x : Stage). SurpriseThere o x s.core.nodes) is kept.1)
  turn_stage _ _ (Turn.finishes f k node course is idle ready at) good told h =
      let own = found_self k s.core.nodes node at in
      let parts = ready_parts s.core s.handles node (ready_is s.core s.handles k node good.serials ready at) in
      let free = ready_free s.core node.serial node (subst (λ (x : Stage). FinishTold s.core f x) is (subst (λ (x : Course). JobTold x f s.core) course told)) own (taken_told s good.stacks good.serials k node ready at) (ready_bare s.next_serial s.core s.handles node good.stacks tree parts) in
      subst (λ (x : Course). JobKept x (taken f node) s.core) (sym course) (head_alone s.core (node.serial ∷ []) node.serial refl free, goes_on node.serial [] s.core.nodes (λ j q. (node, subst (λ (x : ℕ). node_at x s.core.nodes ≡ Some node) (one_has node.serial j q) own)))

pub turn_told : (s : State) (o p : Job) → Turn s o p → ToldKept (Some o) s.core → ToldKept (Some p) s.core
turn_told s _ _ (Turn.same o) h = h
turn_told s _ _ (Turn.queries o node course is idle first asks) h = subst (λ (x : Course). JobTold x (queried o) s.core) (sym course) (subst (λ (x : Stage). RemovalTold s.core o x) is (subst (λ (x : Course). JobTold x o s.core) course h))
turn_told s _ _ (Turn.removes o node d ds course is idle first goes full) h =
    subst (λ (x : Course). JobTold x (removing o) s.core) (sym course)
    (goes_new s.core o s.handles node.serial goes (head_found s.core.nodes o.todo node first).0, subst (λ (x : Stage). SurpriseTold s.core o x) is (subst (λ (x : Course). JobTold x o s.core) course h))
turn_told s _ _ (Turn.settles o node course is idle first goes none) h = subst (λ (x : Course). JobTold x (stands o o.todo Stage.Settling) s.core) (sym course) (subst (λ (x : Stage). SurpriseTold s.core o x) is (subst (λ (x : Course). JobTold x o s.core) course h))
turn_told s _ _ (Turn.finishes f k node course is idle ready at) h = subst (λ (x : Course). JobTold x (taken f node) s.core) (sym course) (subst (λ (x : Stage). FinishTold s.core f x) is (subst (λ (x : Course). JobTold x f s.core) course h))

pub turn_shut : (s : State) (o p : Job) → Turn s o p → Ascending 0 s.core.nodes → StageShut s.handles (Some o) → StageShut s.handles (Some p)
turn_shut s _ _ (Turn.same o) order h = h
turn_shut s _ _ (Turn.queries o node course is idle first asks) order h =
    let head = (head_found s.core.nodes o.todo node first).0 in
    subst (λ (x : Course). JobShut s.handles x (queried o)) (sym course)
    (subst (λ (x : Stage). RemovalShut s.handles o x) is (subst (λ (x : Course). JobShut s.handles x o) course h), head_shut s.handles o.todo node.serial head (or_neither (is_open s.handles node.serial) (is_surprise_removed node.state) asks).0)
turn_shut s _ _ (Turn.removes o node d ds course is idle first goes full) order h =
    subst (λ (x : Course). JobShut s.handles x (removing o)) (sym course) (head_shut s.handles o.todo node.serial (head_found s.core.nodes o.todo node first).0 (goes_shut s.core o s.handles node.serial goes))
turn_shut s _ _ (Turn.settles o node course is idle first goes none) order h = subst (λ (x : Course). JobShut s.handles x (stands o o.todo Stage.Settling)) (sym course) tt
turn_shut s _ _ (Turn.finishes f k node course is idle ready at) order h =
    subst (λ (x : Course). JobShut s.handles x (taken f node)) (sym course) (head_shut s.handles (node.serial ∷ []) node.serial refl (ready_parts s.core s.handles node (ready_is s.core s.handles k node order ready at)).shut)

-- So all of it holds of the operation that runs, its next device taken
module _ (s : State) (o : Job) (running : Running s o) (kept : Kept s) where
  before_good : Good s.next_serial s.core.nodes s.activities (Some running.before)
  before_good = subst (λ (x : Option Job). Good s.next_serial s.core.nodes s.activities x) running.runs kept.good

  before_told : ToldKept (Some running.before) s.core
  before_told = subst (λ (x : Option Job). ToldKept x s.core) running.runs kept.waits.told

  pub running_stage : StageKept (Some o) s.core
  running_stage = turn_stage s kept.stands.tree running.before o running.turn before_good before_told (subst (λ (x : Option Job). StageKept x s.core) running.runs kept.stands.stage)

  pub running_told : ToldKept (Some o) s.core
  running_told = turn_told s running.before o running.turn before_told

  pub running_shut : StageShut s.handles (Some o)
  running_shut = turn_shut s running.before o running.turn before_good.serials (subst (λ (x : Option Job). StageShut s.handles x) running.runs kept.waits.shut)
