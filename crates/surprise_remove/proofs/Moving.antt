-- Where a surprise removal stands, and how a device is settled, as the machine has it.
use Rattle.std.proofs.Common.{◌≡◌, ℕ, ◌==◌, Bool, true, false, List, [], ◌∷◌, drop, Option, Some, None, is_some, option_map, if◌then◌else◌, refl, sym, ap, ◌∙◌, subst}
use Rattle.pnp_labels.specs.Texts.{Text}
use Rattle.pnp_labels.specs.declared.label.Label.{Label}
use Rattle.pnp_labels.specs.declared.label.RemoveStep.{RemoveStep}
use Rattle.pnp_labels.specs.declared.label.RemoveStep.TheVariants as steps
use Rattle.pnp_labels.specs.declared.states.Problem.{Problem}
use Rattle.pnp_model.specs.Keyed.{changed_first, without_first}
use Rattle.pnp_model.specs.Tests.{has}
use Rattle.pnp_model.specs.Cores.{is_node, with_problem, set_problem, set_rack}
use Rattle.pnp_model.specs.Frames.{first_node, rest}
use Rattle.pnp_model.specs.Jobs.{JobMove, Beside, moves}
use Rattle.pnp_model.specs.Records as Records
use Rattle.pnp_model.specs.Records.{Node, Core, Driver, Handle, Relation, Walk, Job, Course, Doing}
use Rattle.pnp_model.specs.Records.Doing.{Does}
use Rattle.pnp_model.specs.Surprises.{end_of, finish_on, tell_on, close, leaves, acts, after_end}
use Rattle.devnode_tree.specs.Cores.{at_nodes, at_related}
use Rattle.operation_frame.specs.Steps.{Moved, MovedBy, JobSteps, StandsAfter}
use Rattle.operation_frame.proofs.Ends.{stands_if}
use Rattle.operation_frame.proofs.Queues.{rest_is}
use Rattle.operation_frame.proofs.Stepping.{acts_so}
use Rattle.surprise_remove.specs.Parts.{SettlesFor}
use Rattle.surprise_remove.specs.Stages.{walk_at}
use Rattle.surprise_remove.specs.declared.frame.Stage.{Stage}
use Rattle.surprise_remove.specs.declared.frame.Stage.TheVariants.{Telling, Next, Removing, Settling, Ending}

-- What comes next does not read what was done before ----------------------------------------

finish_same : (o : Job) (t : List ℕ) (stage : Records.Stage) (todo : List ℕ) → finish_on (record o { todo = t; stage = stage }) todo ≡ finish_on o todo
finish_same o t stage [] = refl
finish_same o t stage (k ∷ ks) = refl

pub tell_same : (o : Job) (t : List ℕ) (stage : Records.Stage) (todo : List ℕ) → tell_on (record o { todo = t; stage = stage }) todo ≡ tell_on o todo
tell_same o t stage [] = finish_same o t stage o.set
tell_same o t stage (k ∷ ks) = refl

pub tell_frame : (o : Job) (t : List ℕ) → t ≡ drop 1 o.todo → tell_on (record o { todo = t }) t ≡ tell_on o (rest o.todo)
tell_frame o t e = tell_same o t o.stage t ∙ ap (λ (t : List ℕ). tell_on o t) (e ∙ rest_is o.todo)

-- The request of a stage ---------------------------------------------------------------------------

-- not told, it loses its drivers
pub only_removing : (s : Stage) (w : Walk) → (s ≡ Telling → ⊥) → is_some (walk_at s w) ≡ true → s ≡ Removing
only_removing Telling w a h = absurd (a refl)
only_removing Next w a h = absurd (cc)
only_removing Removing w a h = refl
only_removing Settling w a h = absurd (cc)
only_removing Ending w a h = absurd (cc)

-- it has ended
pub stands_so : (x : Option Node) (nodes : List Node) (o o' : Job) (in_world refused : Bool) → after_end o o.stage ≡ Some o' → StandsAfter Course.Surprising x nodes o in_world refused o'
stands_so x nodes o o' in_world refused h = stands_if Course.Surprising x nodes o in_world refused o' (λ n at around. h)

-- the end
pub over_so : (nodes : List Node) (rs : List Relation) (rack : List Driver) (in_world : Bool) (handles : List Handle) (o : Job) (label : Label) → o.stage ≡ Records.Stage.Ending → o.walk ≡ None
    → label ≡ Label.End o.kind o.path (end_of o.behind) → JobSteps Course.Surprising nodes rs rack in_world handles o (steps.Over label) nodes rs rack o
over_so nodes rs rack in_world handles o label stage none l =
    acts_so Course.Surprising nodes nodes rs rs rack rack in_world handles o o (steps.Over label) none
    (λ around.
    let c = at_related nodes rs (set_rack rack around) in
    subst (λ (s : Records.Stage). MovedBy (option_map (λ m. Does m) (acts c o in_world handles s (first_node nodes o.todo))) (steps.Over label) c o) (sym stage) (refl, l, refl, refl))

-- A device is settled ---------------------------------------------------------------------------

-- `settle` by its tests: it is the target, it is in the world, its parent leaves
abbrev settled : Core → Job → Node → Bool → Bool → Bool → JobMove
settled c o node target in_world inside =
    if target then if in_world then close c o else leaves c o node
    else if inside then leaves c o node
    else
    moves (Label.Trouble node.path Problem.Held) (set_problem node.serial (Some Problem.Held) c)
    (finish_on o (rest o.todo))

module _ (nodes : List Node) (o : Job) (in_world : Bool) (node : Node) (at : first_node nodes o.todo ≡ Some node) where
  settles : (nodes' : List Node) (o' : Job) (target there inside : Bool) → (node.serial == o.target) ≡ target → in_world ≡ there → has o.set node.parent ≡ inside → (step : RemoveStep)
      → ((around : Core) → Moved (settled (at_nodes nodes around) o node target there inside) step (at_nodes nodes' around) o') → SettlesFor (first_node nodes o.todo) nodes o in_world step nodes' o'
  settles nodes' o' target there inside t w i step moved =
      subst (λ (x : Option Node). SettlesFor x nodes o in_world step nodes' o') (sym at)
      (λ around.
      let c = at_nodes nodes around in
      let on : JobMove → Type 0 = λ m. Moved m step (at_nodes nodes' around) o' in
      subst (λ (b : Bool). on (settled c o node b in_world (has o.set node.parent))) (sym t)
      (subst (λ (b : Bool). on (settled c o node target b (has o.set node.parent))) (sym w)
      (subst (λ (b : Bool). on (settled c o node target there b)) (sym i) (moved around))))

  -- the target stays where the world has it: the operation ends
  pub settled_over : (label : Label) → (node.serial == o.target) ≡ true → in_world ≡ true → label ≡ Label.End o.kind o.path (end_of o.behind)
      → SettlesFor (first_node nodes o.todo) nodes o in_world (steps.Over label) nodes o
  settled_over label target there l = settles nodes o true true _ target there refl (steps.Over label) (λ around. (refl, l, refl, refl))

  module _ (nodes' : List Node) (o' : Job) (line : Text) (named : line ≡ node.path) (goes : o' ≡ finish_on o (rest o.todo)) where
    module _ (path : Text) (born : ℕ) (p : path ≡ node.path) (b : born ≡ node.born) (e : nodes' ≡ without_first (is_node node.serial) nodes) where
      pub settled_gone : (node.serial == o.target) ≡ true → in_world ≡ false → SettlesFor (first_node nodes o.todo) nodes o in_world (steps.Left (Label.Leave line) path born) nodes' o'
      settled_gone target gone =
          settles nodes' o' true false _ target gone refl (steps.Left (Label.Leave line) path born)
          (λ around. (ap (λ t. Beside.Left t node.born) (sym p) ∙ ap (λ b. Beside.Left path b) (sym b), ap Label.Leave named, ap (λ n. at_nodes n around) e, goes))

      pub settled_left : (node.serial == o.target) ≡ false → has o.set node.parent ≡ true → SettlesFor (first_node nodes o.todo) nodes o in_world (steps.Left (Label.Leave line) path born) nodes' o'
      settled_left other inside =
          settles nodes' o' false _ true other refl inside (steps.Left (Label.Leave line) path born)
          (λ around. (ap (λ t. Beside.Left t node.born) (sym p) ∙ ap (λ b. Beside.Left path b) (sym b), ap Label.Leave named, ap (λ n. at_nodes n around) e, goes))

    pub settled_held : (node.serial == o.target) ≡ false → has o.set node.parent ≡ false → nodes' ≡ changed_first (is_node node.serial) (with_problem (Some Problem.Held)) nodes
        → SettlesFor (first_node nodes o.todo) nodes o in_world (steps.Did (Label.Trouble line Problem.Held)) nodes' o'
    settled_held other outside e =
        settles nodes' o' false _ false other refl outside (steps.Did (Label.Trouble line Problem.Held))
        (λ around. (refl, ap (λ t. Label.Trouble t Problem.Held) named, ap (λ n. at_nodes n around) e, goes))
