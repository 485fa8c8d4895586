-- A step of an operation that does not search is the step of the machine.
use Rattle.std.proofs.Common.{◌≡◌, ℕ, Bool, List, Option, Some, None, slice_get, sym, ap, ◌∙◌, subst}
use Rattle.pnp_labels.specs.Texts.{Text}
use Rattle.pnp_labels.specs.declared.label.Label.{Label}
use Rattle.pnp_labels.specs.declared.label.RemoveStep.{RemoveStep}
use Rattle.pnp_labels.specs.declared.label.RemoveStep.TheVariants as steps
use Rattle.pnp_model.specs.Cores.{node_at, set_rack}
use Rattle.pnp_model.specs.Frames.{first_node}
use Rattle.pnp_model.specs.Jobs.{JobMove}
use Rattle.pnp_model.specs.Machine.{acts, job_step}
use Rattle.pnp_model.specs.Records.{Node, Core, Driver, Handle, Relation, Walk, Job, Course, Doing}
use Rattle.pnp_model.specs.Records.Doing.{Does}
use Rattle.devnode_tree.specs.Cores.{at_nodes, at_related}
use Rattle.operation_frame.specs.Steps.{Moved, MovesFor, MovedBy, JobSteps, StandsAfter}
use Rattle.operation_frame.specs.Walks.{WalksFor, EndedFor}
use Rattle.operation_frame.specs.declared.walking.Walked.TheVariants.{On, Ended}
use Rattle.operation_frame.proofs.Ends.{goes_on, ends_so}
use Rattle.operation_frame.proofs.Queues.{first_is}

module _ (course : Course) (nodes nodes' : List Node) (rs rs' : List Relation) (rack rack' : List Driver) (in_world : Bool) (handles : List Handle) (j new : Job) where
  -- of the request of the device that is next
  module _ (k : ℕ) (first : slice_get j.todo 0 ≡ Some k) (w w' : Walk) (walk : j.walk ≡ Some w) (label : Label) where
    at_first : ((around : Core) → MovedBy (job_step (at_related nodes rs (set_rack rack around)) j course in_world handles (Some w) (node_at k nodes)) (steps.Did label) (at_related nodes' rs' (set_rack rack' around)) new)
        → JobSteps course nodes rs rack in_world handles j (steps.Did label) nodes' rs' rack' new
    at_first h = λ around.
        let c = at_related nodes rs (set_rack rack around) in
        subst (λ (m : Option (Doing JobMove)). MovedBy m (steps.Did label) (at_related nodes' rs' (set_rack rack' around)) new)
        (sym (ap (λ v. job_step c j course in_world handles v (first_node nodes j.todo)) walk ∙ ap (λ x. job_step c j course in_world handles (Some w) x) (first_is nodes j.todo k first))) (h around)

    pub ended_so : (path : Text) (refused : Bool) → ((around : Core) → WalksFor (node_at k nodes) (set_rack rack around) w (Ended path refused) (set_rack rack' around) w')
        → EndedFor (node_at k nodes) w.minor refused nodes rs label nodes' rs' → StandsAfter course (node_at k nodes) nodes j in_world refused new
        → JobSteps course nodes rs rack in_world handles j (steps.Did label) nodes' rs' rack' new
    ended_so path refused h e stands =
        at_first
        (ends_so (λ m l c v. MovedBy m (steps.Did l) c v) (λ m l c v h. h) course in_world handles j new (node_at k nodes) rack rack' w w' label path refused nodes nodes' rs rs' h e stands)

  -- without a request
  pub acts_so : (step : RemoveStep) → j.walk ≡ None
      → ((around : Core) → MovedBy (acts (at_related nodes rs (set_rack rack around)) j in_world handles (first_node nodes j.todo) course) step (at_related nodes' rs' (set_rack rack' around)) new)
      → JobSteps course nodes rs rack in_world handles j step nodes' rs' rack' new
  acts_so step none h = λ around.
      let c = at_related nodes rs (set_rack rack around) in
      subst (λ (v : Option Walk). MovedBy (job_step c j course in_world handles v (first_node nodes j.todo)) step (at_related nodes' rs' (set_rack rack' around)) new) (sym none) (h around)

-- a driver is asked, and nothing else changes
pub asks_so : (course : Course) (nodes : List Node) (rs : List Relation) (rack rack' : List Driver) (in_world : Bool) (handles : List Handle) (j new : Job) (k : ℕ) → slice_get j.todo 0 ≡ Some k → (w w' : Walk) → j.walk ≡ Some w → (label : Label)
    → ((around : Core) → WalksFor (node_at k nodes) (set_rack rack around) w (On label) (set_rack rack' around) w') → new ≡ record j { walk = Some w' }
    → JobSteps course nodes rs rack in_world handles j (steps.Did label) nodes rs rack' new
asks_so course nodes rs rack rack' in_world handles j new k first w w' walk label h f =
    at_first course nodes nodes rs rs rack rack' in_world handles j new k first w w' walk label
    (λ around. goes_on (λ m l c v. MovedBy m (steps.Did l) c v) (λ m l c v h. h) course in_world handles j new (node_at k nodes) rack rack' w w' label h f (at_related nodes rs around))

-- for the device that is next, where nodes change alone
pub moves_so : (course : Course) (nodes nodes' : List Node) (rs : List Relation) (rack : List Driver) (in_world : Bool) (handles : List Handle) (j new : Job) (step : RemoveStep) (move : Core → Node → JobMove) → j.walk ≡ None
    → ((c : Core) (n : Node) → acts c j in_world handles (Some n) course ≡ Some (Does (move c n)))
    → MovesFor Moved (first_node nodes j.todo) move nodes step nodes' new → JobSteps course nodes rs rack in_world handles j step nodes' rs rack new
moves_so course nodes nodes' rs rack in_world handles j new step move none is h =
    acts_so course nodes nodes' rs rs rack rack in_world handles j new step none (λ around. by (first_node nodes j.todo) h (set_rack rack (record around { relations = rs })))
  where
    by : (x : Option Node) → MovesFor Moved x move nodes step nodes' new → (c : Core) → MovedBy (acts (at_nodes nodes c) j in_world handles x course) step (at_nodes nodes' c) new
    by None h c = absurd h
    by (Some n) h c = subst (λ (m : Option (Doing JobMove)). MovedBy m step (at_nodes nodes' c) new) (sym (is (at_nodes nodes c) n)) (h c)
