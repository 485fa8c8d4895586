-- The parts of a step of a finish are moves of the machine.
use Rattle.std.proofs.Common.{◌≡◌, ℕ, Bool, true, false, not, ◌&&◌, List, [], ◌∷◌, length, nat_le, Option, Some, None, IsSome, is_some, option_map, refl, sym, ap, ◌∙◌, subst, arith}
use Rattle.std.specs.List.{list_any}
use Rattle.std.proofs.lemmas.Bool.Decides.{nat_tests}
use Rattle.pnp_labels.specs.Texts.{Text}
use Rattle.pnp_labels.specs.declared.label.Label.{Label}
use Rattle.pnp_labels.specs.declared.label.OpEnd.{OpEnd}
use Rattle.pnp_labels.specs.declared.label.RemoveStep.{RemoveStep}
use Rattle.pnp_labels.specs.declared.label.RemoveStep.TheVariants as steps
use Rattle.pnp_labels.specs.declared.words.Minor.{Minor}
use Rattle.pnp_labels.specs.declared.states.Problem.{Problem}
use Rattle.pnp_model.specs.Keyed.{changed_first, without_first}
use Rattle.pnp_model.specs.Cores.{is_node, node_at, with_problem, set_rack}
use Rattle.pnp_model.specs.Frames.{asked, first_node}
use Rattle.pnp_model.specs.Walks.{walk_of, has_ended}
use Rattle.pnp_model.specs.Jobs.{JobMove, Beside, stands}
use Rattle.pnp_model.specs.Records as Records
use Rattle.pnp_model.specs.Records.{Node, Core, Driver, Relation, Handle, Walk, Job, Course, Doing}
use Rattle.pnp_model.specs.Records.Doing.{Does}
use Rattle.pnp_model.specs.Handles as handles
use Rattle.pnp_model.specs.Handles.{ready_device, is_open, holds_back}
use Rattle.pnp_model.specs.Tests.{is_surprise_removed}
use Rattle.pnp_model.specs.Finishes.{acts, after_end, take, node_of_ready, is_leaving, settle_on, leave, hold, next_on}
use Rattle.pnp_laws.proofs.Lookups.{own_serial}
use Rattle.pnp_laws.proofs.Truths.{and_both}
use Rattle.devnode_tree.specs.Cores.{at_nodes, at_related}
use Rattle.operation_frame.specs.Steps.{Moved, MovedBy, MovesFor, JobSteps, StandsAfter}
use Rattle.operation_frame.specs.Walks.{WalksFor}
use Rattle.operation_frame.specs.declared.walking.Walked.TheVariants.{On, Ended}
use Rattle.operation_frame.proofs.Ends.{stands_if}
use Rattle.operation_frame.proofs.Stepping.{acts_so, moves_so}
use Rattle.surprise_remove.specs.FinishStages.{stage_of, todo_of, walk_at, settled_with, settled_at}
use Rattle.surprise_remove.specs.Ready.{is_ready_at}
use Rattle.surprise_remove.specs.declared.finish.Stage.{Stage}
use Rattle.surprise_remove.specs.declared.finish.Stage.TheVariants.{Next, Removing, Leaving, Holding}

-- A ready device is taken, or the end comes -------------------------------------------------------

module _ (nodes : List Node) (rs : List Relation) (rack rack' : List Driver) (f f' : Job) (handles : List Handle) (next : f.stage ≡ Records.Stage.Next) (none : f.walk ≡ None) where
  at_next : (found : Option ℕ) (step : RemoveStep) → ((around : Core) → found ≡ ready_device (at_related nodes rs around) handles)
      → ((around : Core) → Moved (take (at_related nodes rs (set_rack rack around)) f (node_of_ready nodes found)) step (at_related nodes rs (set_rack rack' around)) f')
      → (in_world : Bool) → JobSteps Course.Finishing nodes rs rack in_world handles f step nodes rs rack' f'
  at_next found step is h in_world =
      acts_so Course.Finishing nodes nodes rs rs rack rack' in_world handles f f' step none
      (λ around.
      let c = at_related nodes rs (set_rack rack around) in
      subst (λ (s : Records.Stage). MovedBy (option_map (λ m. Does m) (acts c f handles s (first_node nodes f.todo))) step (at_related nodes rs (set_rack rack' around)) f') (sym next)
      (subst (λ (o : Option ℕ). Moved (take c f (node_of_ready nodes o)) step (at_related nodes rs (set_rack rack' around)) f') (is (set_rack rack around)) (h around)))

  pub taken_is : (k : ℕ) (w w' : Walk) (label : Label) → ((around : Core) → Some k ≡ ready_device (at_related nodes rs around) handles) → w ≡ walk_of Minor.Remove
      → ((around : Core) → WalksFor (node_at k nodes) (set_rack rack around) w (On label) (set_rack rack' around) w') → f' ≡ record f { todo = k ∷ []; stage = Records.Stage.Removing; walk = Some w' }
      → (in_world : Bool) → JobSteps Course.Finishing nodes rs rack in_world handles f (steps.Did label) nodes rs rack' f'
  taken_is k w w' label is begun walks new =
      at_next (Some k) (steps.Did label) is
      (λ around. by around (node_at k nodes) refl (subst (λ (v : Walk). WalksFor (node_at k nodes) (at_related nodes rs (set_rack rack around)) v (On label) (at_related nodes rs (set_rack rack' around)) w') begun (walks (at_related nodes rs around))))
    where
      by : (around : Core) (x : Option Node) → node_at k nodes ≡ x → WalksFor x (at_related nodes rs (set_rack rack around)) (walk_of Minor.Remove) (On label) (at_related nodes rs (set_rack rack' around)) w'
          → Moved (take (at_related nodes rs (set_rack rack around)) f x) (steps.Did label) (at_related nodes rs (set_rack rack' around)) f'
      by around None at h = absurd h
      by around (Some n) at h = (
        refl,
        h.1,
        h.2,
        new ∙ (ap (λ v. record f { todo = k ∷ []; stage = Records.Stage.Removing; walk = Some v }) h.3
            ∙ ap (λ i. record f { todo = i ∷ []; stage = Records.Stage.Removing; walk = Some (asked (at_related nodes rs (set_rack rack around)) n (walk_of Minor.Remove)).walk }) (sym (own_serial k n nodes at))),
      )

-- nothing is ready
pub over_is : (nodes : List Node) (rs : List Relation) (rack : List Driver) (f : Job) (handles : List Handle) → f.stage ≡ Records.Stage.Next → f.walk ≡ None → (label : Label) → label ≡ Label.End f.kind f.path OpEnd.Done
    → ((around : Core) → None ≡ ready_device (at_related nodes rs around) handles) → (in_world : Bool) → JobSteps Course.Finishing nodes rs rack in_world handles f (steps.Over label) nodes rs rack f
over_is nodes rs rack f handles next none label l is = at_next nodes rs rack rack f f handles next none None (steps.Over label) is (λ around. (refl, l, refl, refl))

-- a device that is ready is there
pub ready_there : (c : Core) (hs : List Handle) (x : Option Node) → is_ready_at c hs x ≡ true → IsSome x
ready_there c hs None h = absurd (cc)
ready_there c hs (Some n) h = refl

-- a device that is ready has a driver to ask
pub asks_first : (c : Core) (hs : List Handle) (x : Option Node) → is_ready_at c hs x ≡ true → (around around' : Core) (path : Text) (refused : Bool) (w w' : Walk) → w ≡ walk_of Minor.Remove → WalksFor x around w (Ended path refused) around' w' → ⊥
asks_first c hs None ready around around' path refused w w' begun h = h
asks_first c hs (Some n) ready around around' path refused w w' begun h =
    let two = and_both (is_surprise_removed n.state) (handles.has_drivers n.stack && (not (is_open hs n.serial) && not (list_any (holds_back c n.serial) c.nodes))) ready in
    let has = and_both (handles.has_drivers n.stack) (not (is_open hs n.serial) && not (list_any (holds_back c n.serial) c.nodes)) two.1 in
    by n.stack has.0 (sym (ap (λ v. has_ended v (length n.stack)) begun) ∙ h.0)
  where
    by : (stack : List ℕ) → handles.has_drivers stack ≡ true → has_ended (walk_of Minor.Remove) (length stack) ≡ true → ⊥
    by [] full e = cc
    by (d ∷ ds) full e = let some : nat_le (length (d ∷ ds)) 0 ≡ true = e in grind (arith, nat_tests)

-- The request that removes the drivers ------------------------------------------------------------

-- it is on its way in one stage alone
pub removes_with : (s : Stage) (w : Walk) → is_some (walk_at s w) ≡ true → stage_of s ≡ Records.Stage.Removing
removes_with Next w h = absurd (cc)
removes_with (Removing k) w h = refl
removes_with (Leaving k) w h = absurd (cc)
removes_with (Holding k) w h = absurd (cc)

-- the drivers are gone: what becomes of the device
settled_is : (f : Job) (k : ℕ) (w : Walk) → f.todo ≡ k ∷ [] → (leaves : Bool) (problem : Option Problem)
    → record f { todo = todo_of (settled_with k leaves problem); stage = stage_of (settled_with k leaves problem); walk = walk_at (settled_with k leaves problem) w } ≡ settle_on f leaves problem
settled_is f k w todo true problem = ap (λ t. stands f t Records.Stage.Leaving) (sym todo)
settled_is f k w todo false (Some problem) = refl
settled_is f k w todo false None = ap (λ t. stands f t Records.Stage.Holding) (sym todo)

pub stands_so : (nodes : List Node) (f f' : Job) (in_world refused : Bool) (k : ℕ) (w : Walk) → f.todo ≡ k ∷ [] → f.stage ≡ Records.Stage.Removing
    → f' ≡ record f { todo = todo_of (settled_at nodes k (node_at k nodes) in_world); stage = stage_of (settled_at nodes k (node_at k nodes) in_world); walk = walk_at (settled_at nodes k (node_at k nodes) in_world) w }
    → StandsAfter Course.Finishing (node_at k nodes) nodes f in_world refused f'
stands_so nodes f f' in_world refused k w todo stage new =
    stands_if Course.Finishing (node_at k nodes) nodes f in_world refused f'
    (λ n at around.
    ap (λ s. after_end (at_nodes nodes around) f n in_world s) stage
    ∙ ap Some (sym (new ∙ (ap (λ x. record f { todo = todo_of (settled_at nodes k x in_world); stage = stage_of (settled_at nodes k x in_world); walk = walk_at (settled_at nodes k x in_world) w }) at
    ∙ settled_is f k w todo (is_leaving nodes n in_world) n.problem))))

-- The device is settled ------------------------------------------------------------------------------

module _ (nodes nodes' : List Node) (f f' : Job) (x : Option Node) (node : Node) (at : x ≡ Some node) (line : Text) (named : line ≡ node.path) (on : f' ≡ next_on f) where
  pub left_is : (path : Text) (born : ℕ) → path ≡ node.path → born ≡ node.born → nodes' ≡ without_first (is_node node.serial) nodes
      → MovesFor Moved x (λ c n. leave c f n) nodes (steps.Left (Label.Leave line) path born) nodes' f'
  left_is path born p b e =
      subst (λ (o : Option Node). MovesFor Moved o (λ c n. leave c f n) nodes (steps.Left (Label.Leave line) path born) nodes' f') (sym at)
      (λ around. (ap (λ t. Beside.Left t node.born) (sym p) ∙ ap (λ i. Beside.Left path i) (sym b), ap Label.Leave named, ap (λ ns. at_nodes ns around) e, on))

  pub held_is : (k : ℕ) → k ≡ node.serial → nodes' ≡ changed_first (is_node k) (with_problem (Some Problem.Held)) nodes → MovesFor Moved x (λ c n. hold c f n) nodes (steps.Did (Label.Trouble line Problem.Held)) nodes' f'
  held_is k own e =
      subst (λ (o : Option Node). MovesFor Moved o (λ c n. hold c f n) nodes (steps.Did (Label.Trouble line Problem.Held)) nodes' f') (sym at)
      (λ around. (refl, ap (λ t. Label.Trouble t Problem.Held) named, ap (λ ns. at_nodes ns around) (e ∙ ap (λ i. changed_first (is_node i) (with_problem (Some Problem.Held)) nodes) own), on))

-- the step of a stage without a request
module _ (nodes nodes' : List Node) (rs : List Relation) (rack : List Driver) (f f' : Job) (in_world : Bool) (handles : List Handle) (k : ℕ) (todo : f.todo ≡ k ∷ []) (none : f.walk ≡ None) (step : RemoveStep) where
  settles : (stage : Records.Stage) (move : Core → Node → JobMove) → f.stage ≡ stage → ((c : Core) (n : Node) → acts c f handles stage (Some n) ≡ Some (move c n))
      → MovesFor Moved (node_at k nodes) move nodes step nodes' f' → JobSteps Course.Finishing nodes rs rack in_world handles f step nodes' rs rack f'
  settles stage move is shape h =
      moves_so Course.Finishing nodes nodes' rs rack in_world handles f f' step move none
      (λ c n. ap (option_map (λ m. Does m)) (ap (λ s. acts c f handles s (Some n)) is ∙ shape c n))
      (subst (λ (ks : List ℕ). MovesFor Moved (first_node nodes ks) move nodes step nodes' f') (sym todo) h)

  pub leaves_so : f.stage ≡ Records.Stage.Leaving → MovesFor Moved (node_at k nodes) (λ c n. leave c f n) nodes step nodes' f' → JobSteps Course.Finishing nodes rs rack in_world handles f step nodes' rs rack f'
  leaves_so is h = settles Records.Stage.Leaving (λ c n. leave c f n) is (λ c n. refl) h

  pub holds_so : f.stage ≡ Records.Stage.Holding → MovesFor Moved (node_at k nodes) (λ c n. hold c f n) nodes step nodes' f' → JobSteps Course.Finishing nodes rs rack in_world handles f step nodes' rs rack f'
  holds_so is h = settles Records.Stage.Holding (λ c n. hold c f n) is (λ c n. refl) h
