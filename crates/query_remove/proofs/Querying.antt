-- The device that is next is asked, or refuses unasked.
use Rattle.std.proofs.Common.{◌≡◌, ℕ, Bool, true, false, List, Option, Some, None, option_map, slice_get, sym, ap, ◌∙◌, subst}
use Rattle.pnp_labels.specs.declared.label.RemoveStep.{RemoveStep}
use Rattle.pnp_labels.specs.declared.words.Minor.{Minor}
use Rattle.pnp_model.specs.Walks.{walk_of}
use Rattle.pnp_model.specs.Cores.{node_at, set_rack}
use Rattle.pnp_model.specs.Frames.{first_node}
use Rattle.pnp_model.specs.Jobs.{JobMove}
use Rattle.pnp_model.specs.Machine.{job_step}
use Rattle.pnp_model.specs.Records.{Node, Core, Driver, Handle, Relation, Job, Course, Doing, Stage}
use Rattle.pnp_model.specs.Records.Doing.{Does}
use Rattle.pnp_model.specs.Removals.{acts, query, queried, declines, refuses_unasked}
use Rattle.devnode_tree.specs.Cores.{at_related}
use Rattle.operation_frame.specs.Steps.{Moved, MovedBy, MovesFor, JobSteps}
use Rattle.operation_frame.proofs.Queues.{first_is}

module _ (nodes nodes' : List Node) (rs rs' : List Relation) (rack rack' : List Driver) (handles : List Handle) (o o' : Job) (step : RemoveStep) (k : ℕ) (node : Node)
    (stage : o.stage ≡ Stage.Next) (none : o.walk ≡ None) (first : slice_get o.todo 0 ≡ Some k) (there : Some node ≡ node_at k nodes) where
  at : first_node nodes o.todo ≡ Some node
  at = first_is nodes o.todo k first ∙ sym there

  queries : (b : Bool) → refuses_unasked handles node ≡ b → (c : Core) → job_step c o Course.Removing false handles o.walk (first_node nodes o.todo) ≡ option_map (λ m. Does m) (query c o node b)
  queries b e c =
      ap (λ v. job_step c o Course.Removing false handles v (first_node nodes o.todo)) none
      ∙ (ap (λ x. job_step c o Course.Removing false handles None x) at
      ∙ (ap (λ s. option_map (λ m. Does m) (acts c o handles s (Some node))) stage ∙ ap (λ t. option_map (λ m. Does m) (query c o node t)) e))

  -- it is asked
  pub queries_so : (b : Bool) → b ≡ refuses_unasked handles node → b ≡ false → (begun : Job) → begun ≡ queried o → JobSteps Course.Removing nodes rs rack false handles begun step nodes' rs' rack' o'
      → JobSteps Course.Removing nodes rs rack false handles o step nodes' rs' rack' o'
  queries_so b is e begun q h = λ around.
      let c = at_related nodes rs (set_rack rack around) in
      let same : job_step c o Course.Removing false handles o.walk (first_node nodes o.todo) ≡ job_step c begun Course.Removing false handles begun.walk (first_node nodes begun.todo) =
      queries false (sym is ∙ e) c
      ∙ (ap (λ x. job_step c (queried o) Course.Removing false handles (Some (walk_of Minor.QueryRemove)) x) (sym at) ∙ ap (λ (v : Job). job_step c v Course.Removing false handles v.walk (first_node nodes v.todo)) (sym q)) in
      subst (λ (m : Option (Doing JobMove)). MovedBy m step (at_related nodes' rs' (set_rack rack' around)) o') (sym same) (h around)

-- or it refuses
pub refuses_so : (nodes : List Node) (rs : List Relation) (rack : List Driver) (handles : List Handle) (o o' : Job) (step : RemoveStep) (k : ℕ) (node : Node)
    → o.stage ≡ Stage.Next → o.walk ≡ None → slice_get o.todo 0 ≡ Some k → Some node ≡ node_at k nodes → (b : Bool) → b ≡ refuses_unasked handles node → b ≡ true
    → MovesFor Moved (first_node nodes o.todo) (λ c n. declines c o n) nodes step nodes o' → JobSteps Course.Removing nodes rs rack false handles o step nodes rs rack o'
refuses_so nodes rs rack handles o o' step k node stage none first there b is e h = λ around.
    let c = at_related nodes rs (set_rack rack around) in
    subst (λ (m : Option (Doing JobMove)). MovedBy m step c o') (sym (queries nodes nodes rs rs rack rack handles o o' step k node stage none first there true (sym is ∙ e) c))
    (subst (λ (x : Option Node). MovesFor Moved x (λ c n. declines c o n) nodes step nodes o') (at nodes nodes rs rs rack rack handles o o' step k node stage none first there) h c)
