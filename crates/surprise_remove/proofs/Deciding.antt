-- The step in which it is decided whether a device stays behind is the step of the machine.
use Rattle.std.proofs.Common.{◌≡◌, ◌||◌, ℕ, Bool, true, false, List, [], ◌∷◌, length, nat_le, Option, Some, None, IfSome, IsSome, option_map, if◌then◌else◌, slice_get, refl, sym, ap, ◌∙◌, subst, arith}
use Rattle.std.proofs.lemmas.Bool.Decides.{nat_tests}
use Rattle.pnp_labels.specs.declared.label.Label.{Label}
use Rattle.pnp_labels.specs.declared.label.RemoveStep.{RemoveStep}
use Rattle.pnp_labels.specs.declared.label.RemoveStep.TheVariants as steps
use Rattle.pnp_labels.specs.declared.words.Minor.{Minor}
use Rattle.pnp_model.specs.Tests.{has}
use Rattle.pnp_model.specs.Walks.{walk_of, is_bad, has_ended}
use Rattle.pnp_model.specs.Cores.{node_at, set_rack}
use Rattle.pnp_model.specs.Frames.{asked, first_node}
use Rattle.pnp_model.specs.Handles.{is_open}
use Rattle.pnp_model.specs.Trees.{dependents}
use Rattle.pnp_model.specs.Jobs.{JobMove, asks, ends}
use Rattle.pnp_model.specs.Machine.{after_end, job_step}
use Rattle.pnp_model.specs.Records.{Node, Core, Driver, Relation, Handle, Job, Course, Stage, Doing}
use Rattle.pnp_model.specs.Records.Doing.{Does}
use Rattle.pnp_model.specs.Surprises.{acts, removing, stays_behind, wait, finish, finish_with}
use Rattle.pnp_laws.proofs.Lookups.{own_serial}
use Rattle.devnode_tree.specs.Cores.{at_related}
use Rattle.relations.specs.Leaving.{base, below}
use Rattle.relations.proofs.Bases.{dependents_same}
use Rattle.operation_frame.specs.Nodes.{IsStripped, has_drivers, is_full}
use Rattle.operation_frame.specs.Steps.{Moved, MovedBy, MovesFor, JobSteps}
use Rattle.operation_frame.proofs.Queues.{first_is}
use Rattle.surprise_remove.specs.Steps.{DirectSays, SettlesStripped, has_behind, stays}
use Rattle.surprise_remove.specs.Parts.{finishing, finishing_with}
use Rattle.surprise_remove.specs.Requests.{begun_removal, removal_unless}

-- one that is finished stands as the stage of its own has it
begins_so : (c : Core) (o : Job) (in_world : Bool) (handles : List Handle) (n : Node) (stack : List ℕ) → n.stack ≡ stack
    → Some (Does (finish_with c o n in_world stack)) ≡ job_step c (finishing_with o stack) Course.Surprising in_world handles (finishing_with o stack).walk (Some n)
begins_so c o in_world handles n [] is = refl
begins_so c o in_world handles n (d ∷ ds) is =
    let w = walk_of Minor.Remove in
    let goes : has_ended w (length n.stack) ≡ false = ap (λ ds. has_ended w (length ds)) is ∙ some_left ds in
    ap (λ (b : Bool). option_map (λ m. Does m) (if b then option_map (ends c n w) (after_end c (removing o) in_world n (is_bad w) Course.Surprising) else Some (asks (removing o) (asked c n w)))) (sym goes)
  where
    some_left : (ds : List ℕ) → has_ended (walk_of Minor.Remove) (length (d ∷ ds)) ≡ false
    some_left ds = let no : nat_le (length (d ∷ ds)) 0 ≡ false = grind (arith, nat_tests) in no

same_todo : (o : Job) (stack : List ℕ) → (finishing_with o stack).todo ≡ o.todo
same_todo o [] = refl
same_todo o (d ∷ ds) = refl

module _ (nodes : List Node) (rs : List Relation) (o : Job) (handles : List Handle) (direct : DirectSays nodes rs o Stage.Next) where
  -- what the machine asks of all dependents is told by the direct ones
  stays_is : (around : Core) (n : Node) → first_node nodes o.todo ≡ Some n → stays_behind (at_related nodes rs around) o handles n.serial ≡ stays nodes rs o handles n.serial
  stays_is around n first =
      let says = subst (λ (x : Option Node). IfSome x (λ n. has_behind o (dependents (base nodes rs) n.serial) ≡ has_behind o (below nodes rs n.serial))) first direct in
      ap (λ b. has o.told n.serial || (is_open handles n.serial || b)) (ap (has_behind o) (dependents_same nodes rs around n.serial) ∙ says)

  -- its drivers are removed with the next step, or it has none, or stays behind
  pub removed_so : (around : Core) (k : ℕ) (full behind : Bool) → slice_get o.todo 0 ≡ Some k → full ≡ has_drivers (node_at k nodes) → behind ≡ stays nodes rs o handles k
      → (if full then (if behind then None else Some (walk_of Minor.Remove)) else None) ≡ begun_removal (at_related nodes rs around) o handles (first_node nodes o.todo)
  removed_so around k full behind first drivers stay =
      subst (λ (x : Option Node). (if full then (if behind then None else Some (walk_of Minor.Remove)) else None) ≡ begun_removal (at_related nodes rs around) o handles x) (sym at) (by (node_at k nodes) refl full drivers)
    where
      at : first_node nodes o.todo ≡ node_at k nodes
      at = first_is nodes o.todo k first

      of_stack : (stack : List ℕ) (b c : Bool) → b ≡ is_full stack → (if b then (if c then None else Some (walk_of Minor.Remove)) else None) ≡ removal_unless c stack
      of_stack [] true c e = absurd (cc)
      of_stack [] false true e = refl
      of_stack [] false false e = refl
      of_stack (d ∷ ds) true true e = refl
      of_stack (d ∷ ds) true false e = refl
      of_stack (d ∷ ds) false c e = absurd (cc)

      by : (x : Option Node) → node_at k nodes ≡ x → (b : Bool) → b ≡ has_drivers x → (if b then (if behind then None else Some (walk_of Minor.Remove)) else None) ≡ begun_removal (at_related nodes rs around) o handles x
      by None e true drivers = absurd (cc)
      by None e false drivers = refl
      by (Some n) e b drivers =
          of_stack n.stack b behind drivers
          ∙ ap (λ (c : Bool). removal_unless c n.stack) (stay ∙ sym (ap (stays nodes rs o handles) (own_serial k n nodes e)) ∙ sym (stays_is around n (at ∙ e)))

module _ (nodes : List Node) (rs : List Relation) (o : Job) (in_world : Bool) (handles : List Handle) (stage : o.stage ≡ Stage.Next) (none : o.walk ≡ None) (direct : DirectSays nodes rs o Stage.Next) where
  -- the step of the machine, for the device that is next
  decided : (around : Core) (n : Node) (b : Bool) → first_node nodes o.todo ≡ Some n → stays nodes rs o handles n.serial ≡ b
      → job_step (at_related nodes rs around) o Course.Surprising in_world handles o.walk (first_node nodes o.todo) ≡ Some (Does (finish (at_related nodes rs around) o n in_world b))
  decided around n b first is =
      let c = at_related nodes rs around in
      ap (λ v. job_step c o Course.Surprising in_world handles v (first_node nodes o.todo)) none
      ∙ (ap (λ x. job_step c o Course.Surprising in_world handles None x) first
      ∙ (ap (λ t. option_map (λ m. Does m) (acts c o in_world handles t (Some n))) stage
      ∙ ap (λ b. Some (Does (finish c o n in_world b))) (stays_is nodes rs o handles direct around n first ∙ is)))

  module _ (k : ℕ) (first : slice_get o.todo 0 ≡ Some k) (there : IsSome (first_node nodes o.todo)) where
    -- the device that is next
    next : (n : Node) × (first_node nodes o.todo ≡ Some n) × (n.serial ≡ k)
    next = by (node_at k nodes) refl (subst (λ (x : Option Node). IsSome x) (first_is nodes o.todo k first) there)
      where
        by : (x : Option Node) → node_at k nodes ≡ x → IsSome x → (n : Node) × (first_node nodes o.todo ≡ Some n) × (n.serial ≡ k)
        by None at some = absurd (cc)
        by (Some n) at some = (n, first_is nodes o.todo k first ∙ at, own_serial k n nodes at)

    word : (b : Bool) → stays nodes rs o handles k ≡ b → stays nodes rs o handles next.0.serial ≡ b
    word b is = ap (stays nodes rs o handles) next.2 ∙ is

    -- it stays behind
    pub waits_so : (rack : List Driver) (o' : Job) (label : Label) → stays nodes rs o handles k ≡ true
        → MovesFor Moved (first_node nodes o.todo) (λ c n. wait c o n) nodes (steps.Did label) nodes o' → JobSteps Course.Surprising nodes rs rack in_world handles o (steps.Did label) nodes rs rack o'
    waits_so rack o' label is h = λ around.
        let c = at_related nodes rs (set_rack rack around) in
        subst (λ (m : Option (Doing JobMove)). MovedBy m (steps.Did label) c o') (sym (decided (set_rack rack around) next.0 true next.1 (word true is)))
        (subst (λ (x : Option Node). MovesFor Moved x (λ c n. wait c o n) nodes (steps.Did label) nodes o') next.1 h c)

    -- it is finished
    pub finishes_so : (rack rack' : List Driver) (nodes' : List Node) (rs' : List Relation) (begun o' : Job) (step : RemoveStep) → stays nodes rs o handles k ≡ false → begun ≡ finishing o (first_node nodes o.todo)
        → JobSteps Course.Surprising nodes rs rack in_world handles begun step nodes' rs' rack' o' → JobSteps Course.Surprising nodes rs rack in_world handles o step nodes' rs' rack' o'
    finishes_so rack rack' nodes' rs' begun o' step is begins h = λ around.
        let c = at_related nodes rs (set_rack rack around) in
        let n = next.0 in
        let as_is : begun ≡ finishing_with o n.stack = begins ∙ ap (finishing o) next.1 in
        let there : first_node nodes (finishing_with o n.stack).todo ≡ Some n = ap (first_node nodes) (same_todo o n.stack) ∙ next.1 in
        let same : job_step c o Course.Surprising in_world handles o.walk (first_node nodes o.todo) ≡ job_step c begun Course.Surprising in_world handles begun.walk (first_node nodes begun.todo) =
        decided (set_rack rack around) n false next.1 (word false is)
        ∙ (begins_so c o in_world handles n n.stack refl
        ∙ (ap (λ x. job_step c (finishing_with o n.stack) Course.Surprising in_world handles (finishing_with o n.stack).walk x) (sym there)
        ∙ ap (λ (v : Job). job_step c v Course.Surprising in_world handles v.walk (first_node nodes v.todo)) (sym as_is))) in
        subst (λ (m : Option (Doing JobMove)). MovedBy m step (at_related nodes' rs' (set_rack rack' around)) o') (sym same) (h around)

    -- where it is settled at once, it may leave
    pub settles_at : (begun : Job) → stays nodes rs o handles k ≡ false → begun ≡ finishing o (first_node nodes o.todo) → SettlesStripped nodes rs o handles Stage.Next
        → begun.stage ≡ Stage.Settling → IfSome (first_node nodes begun.todo) (IsStripped nodes)
    settles_at begun is begins settles at =
        let n = next.0 in
        let as_is : begun ≡ finishing_with o n.stack = begins ∙ ap (finishing o) next.1 in
        let may = subst (λ (x : Option Node). IfSome x (λ n. n.stack ≡ [] → stays nodes rs o handles n.serial ≡ false → IsStripped nodes n)) next.1 settles in
        let there : first_node nodes begun.todo ≡ Some n = ap (λ (v : Job). first_node nodes v.todo) as_is ∙ (ap (first_node nodes) (same_todo o n.stack) ∙ next.1) in
        subst (λ (x : Option Node). IfSome x (IsStripped nodes)) (sym there) (may (bare n.stack (sym (ap (λ (v : Job). v.stage) as_is) ∙ at)) (word false is))
      where
        bare : (stack : List ℕ) → (finishing_with o stack).stage ≡ Stage.Settling → stack ≡ []
        bare [] at = refl
        bare (d ∷ ds) at = absurd (cc)
