-- A step of the request of the device that is next is the step of the machine.
use Rattle.std.proofs.Common.{◌≡◌, ℕ, Bool, false, List, Option, Some, None, option_map, slice_get, sym, ap, ◌∙◌, subst}
use Rattle.pnp_labels.specs.Texts.{Text}
use Rattle.pnp_labels.specs.declared.label.Label.{Label}
use Rattle.pnp_labels.specs.declared.words.Minor.{Minor}
use Rattle.pnp_model.specs.Cores.{node_at, set_rack}
use Rattle.pnp_model.specs.Frames.{first_node}
use Rattle.pnp_model.specs.Machine.{job_step}
use Rattle.pnp_model.specs.Records.{Node, Core, Driver, Walk, Handle, Job, Course}
use Rattle.pnp_laws.specs.Kept.{IsOwn, asked_in}
use Rattle.devnode_tree.specs.Cores.{at_nodes}
use Rattle.operation_frame.specs.Nodes.{PathIs}
use Rattle.operation_frame.specs.Steps.{StandsAfter}
use Rattle.operation_frame.specs.Walks.{EndsFor, WalksFor}
use Rattle.operation_frame.specs.declared.walking.Walked.TheVariants.{On, Ended}
use Rattle.operation_frame.proofs.Queues.{first_is}
use Rattle.operation_frame.proofs.Ends as requests
use Rattle.rebalance.specs.Steps.{MovedBy}
use Rattle.rebalance.specs.declared.next.RebalanceStep.TheVariants as steps
use Rattle.rebalance.proofs.Moving.{no_remove}

module _ (nodes : List Node) (rack rack' : List Driver) (r : Job) (k : ℕ) (w w' : Walk) (first : slice_get r.todo 0 ≡ Some k) (walk : r.walk ≡ Some w) (label : Label) (r' : Job) (budget : ℕ) where
  -- the step of the machine, with the device that is next
  abbrev StepsWith : Core → Option Walk → Option Node → List Node → Bool → List Handle → Type 0
  StepsWith around v x nodes' in_world handles =
      MovedBy budget (job_step (at_nodes nodes (set_rack rack around)) r Course.Rebalancing in_world handles v x) (steps.Did label) (at_nodes nodes' (set_rack rack' around)) r'

  at_first : (nodes' : List Node) (around : Core) (in_world : Bool) (handles : List Handle) → StepsWith around (Some w) (node_at k nodes) nodes' in_world handles → StepsWith around r.walk (first_node nodes r.todo) nodes' in_world handles
  at_first nodes' around in_world handles h =
      subst (λ v. StepsWith around v (first_node nodes r.todo) nodes' in_world handles) (sym walk) (subst (λ x. StepsWith around (Some w) x nodes' in_world handles) (sym (first_is nodes r.todo k first)) h)

  pub goes_on : ((around : Core) → WalksFor (node_at k nodes) (set_rack rack around) w (On label) (set_rack rack' around) w') → r' ≡ record r { walk = Some w' }
      → (around : Core) (in_world : Bool) (handles : List Handle) → StepsWith around r.walk (first_node nodes r.todo) nodes in_world handles
  goes_on h f around in_world handles =
      at_first nodes around in_world handles
      (requests.goes_on (λ m l c v. MovedBy budget m (steps.Did l) c v) (λ m l c v h. h) Course.Rebalancing in_world handles r r' (node_at k nodes) rack rack' w w' label h f (at_nodes nodes around))

  pub ends_so : IsOwn r.walk (asked_in Course.Rebalancing r.stage) → (path : Text) (refused : Bool) (nodes' : List Node) → ((around : Core) → WalksFor (node_at k nodes) (set_rack rack around) w (Ended path refused) (set_rack rack' around) w')
      → PathIs (node_at k nodes) path → EndsFor (node_at k nodes) w.minor refused path nodes label nodes' → StandsAfter Course.Rebalancing (node_at k nodes) nodes r false refused r'
      → (around : Core) (in_world : Bool) (handles : List Handle) → StepsWith around r.walk (first_node nodes r.todo) nodes' in_world handles
  ends_so own path refused nodes' h p ends stands around in_world handles =
      let other : w.minor ≡ Minor.Remove → ⊥ = no_remove r.stage w.minor (sym own ∙ ap (option_map (λ (v : Walk). v.minor)) walk) in
      at_first nodes' around in_world handles
      (requests.ends_so (λ m l c v. MovedBy budget m (steps.Did l) c v) (λ m l c v h. h) Course.Rebalancing in_world handles r r' (node_at k nodes) rack rack' w w' label path refused nodes nodes' around.relations around.relations h
      (requests.ended_alone (node_at k nodes) w.minor refused path nodes nodes' around.relations label other p ends) (by (node_at k nodes) stands) around)
    where
      by : (x : Option Node) → StandsAfter Course.Rebalancing x nodes r false refused r' → StandsAfter Course.Rebalancing x nodes r in_world refused r'
      by None h = tt
      by (Some n) h = h
