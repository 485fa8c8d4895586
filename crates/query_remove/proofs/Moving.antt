-- Where a removal stands, and how a device is settled, as the machine has it.
use Rattle.std.proofs.Common.{◌≡◌, ℕ, ◌==◌, Bool, true, false, ◌&&◌, List, [], ◌∷◌, drop, Option, Some, None, option_map, is_some, if◌then◌else◌, refl, sym, ap, ◌∙◌, subst}
use Rattle.pnp_labels.specs.Texts.{Text}
use Rattle.pnp_labels.specs.declared.label.Label.{Label}
use Rattle.pnp_labels.specs.declared.label.RemoveStep.{RemoveStep}
use Rattle.pnp_labels.specs.declared.label.RemoveStep.TheVariants as steps
use Rattle.pnp_labels.specs.declared.words.Minor.{Minor}
use Rattle.pnp_labels.specs.declared.label.OpKind.{OpKind}
use Rattle.pnp_labels.specs.declared.states.Problem.{Problem}
use Rattle.pnp_model.specs.Keyed.{changed_first, without_first}
use Rattle.pnp_model.specs.Tests.{has, is_eject}
use Rattle.pnp_model.specs.Walks.{walk_of}
use Rattle.pnp_model.specs.Cores.{is_node, node_at, with_problem, stack_of, set_rack}
use Rattle.pnp_model.specs.Frames.{first_node, rest}
use Rattle.pnp_model.specs.Jobs.{JobMove, Beside}
use Rattle.pnp_model.specs.Machine.{is_in_order}
use Rattle.pnp_model.specs.Records as Records
use Rattle.pnp_model.specs.Records.{Node, Core, Driver, Handle, Relation, Walk, Job, Course, Doing, course_of}
use Rattle.pnp_model.specs.Records.Doing.{Does}
use Rattle.pnp_model.specs.Removals.{finish_with, finish_on, ask_on, cancel_on, leaves, remains, end_of, acts, after_end}
use Rattle.pnp_laws.proofs.Lookups.{own_serial}
use Rattle.devnode_tree.specs.Cores.{at_nodes, at_related}
use Rattle.operation_frame.specs.Finishes.{finish_by, finish_of}
use Rattle.operation_frame.specs.Nodes.{is_full}
use Rattle.operation_frame.specs.Steps.{Moved, MovedBy, JobSteps, StandsAfter}
use Rattle.operation_frame.proofs.Ends.{stands_if}
use Rattle.operation_frame.proofs.Queues.{rest_is}
use Rattle.operation_frame.proofs.Stepping.{acts_so}
use Rattle.query_remove.specs.Parts.{is_settling, problem_if, SettlesFor}
use Rattle.query_remove.specs.Stages.{kind_by, stage_of, walk_at, finishing}
use Rattle.query_remove.specs.declared.frame.Stage.{Stage}
use Rattle.query_remove.specs.declared.frame.Stage.TheVariants.{Next, Asking, TakingBack, Cancelling, Removing, Settling, Ending}

-- What comes next does not read what was done before ----------------------------------------

-- the word for how a device is finished
pub finish_is : (nodes : List Node) (o : Job) (todo : List ℕ)
    → record o { todo = todo; stage = stage_of (finishing (finish_of nodes todo)); walk = walk_at (finishing (finish_of nodes todo)) (walk_of Minor.Remove) } ≡ finish_on nodes o todo
finish_is nodes o [] = refl
finish_is nodes o (k ∷ ks) =
    elim (stack_of (node_at k nodes)) as (λ stack.
    record o { todo = k ∷ ks; stage = stage_of (finishing (finish_by (is_full stack))); walk = walk_at (finishing (finish_by (is_full stack))) (walk_of Minor.Remove) }
    ≡ finish_with o (k ∷ ks) stack) [ [] ↦ refl | d ∷ ds ↦ refl ]

cancel_same : (o : Job) (t todo : List ℕ) → cancel_on (record o { todo = t }) todo ≡ cancel_on o todo
cancel_same o t [] = refl
cancel_same o t (k ∷ ks) = refl

pub ask_same : (nodes : List Node) (o : Job) (t : List ℕ) (stage : Records.Stage) (todo : List ℕ) → ask_on nodes (record o { todo = t; stage = stage }) todo ≡ ask_on nodes o todo
ask_same nodes o t stage [] = sym (finish_is nodes (record o { todo = t; stage = stage }) o.set) ∙ finish_is nodes o o.set
ask_same nodes o t stage (k ∷ ks) = refl

pub agree_frame : (nodes : List Node) (o : Job) (k : ℕ) (a t : List ℕ) → a ≡ k ∷ o.agreed → t ≡ drop 1 o.todo
    → ask_on nodes (record o { agreed = a; todo = t }) t ≡ ask_on nodes (record o { agreed = k ∷ o.agreed }) (rest o.todo)
agree_frame nodes o k a t ea et =
    ap (λ (a : List ℕ). ask_on nodes (record o { agreed = a; todo = t }) t) ea
    ∙ (ap (λ (t : List ℕ). ask_on nodes (record o { agreed = k ∷ o.agreed; todo = t }) t) (et ∙ rest_is o.todo)
    ∙ ask_same nodes (record o { agreed = k ∷ o.agreed }) (rest o.todo) o.stage (rest o.todo))

-- those that agreed are told, or the rest of them
pub cancel_frame : (o : Job) (t todo : List ℕ) → t ≡ todo → cancel_on (record o { todo = t }) t ≡ cancel_on o todo
cancel_frame o t todo e = ap (λ (t : List ℕ). cancel_on (record o { todo = t }) t) e ∙ cancel_same o todo todo

-- The request of a stage ---------------------------------------------------------------------------

pub course_is : (ejects : Bool) → course_of (kind_by ejects) ≡ Course.Removing
course_is true = refl
course_is false = refl

pub kind_is : (kind : OpKind) → is_in_order kind ≡ true → kind_by (is_eject kind) ≡ kind
kind_is OpKind.Disable h = refl
kind_is OpKind.Eject h = refl
kind_is _ h = absurd (cc)

pub not_settling : (s : Stage) → (s ≡ Settling → ⊥) → false ≡ is_settling (stage_of s)
not_settling Settling other = absurd (other refl)
not_settling _ other = refl

-- not asked and not told, it loses its drivers
pub only_removing : (s : Stage) (w : Walk) → (s ≡ Asking → ⊥) → (s ≡ TakingBack → ⊥) → (s ≡ Cancelling → ⊥) → is_some (walk_at s w) ≡ true → s ≡ Removing
only_removing Asking w a b c h = absurd (a refl)
only_removing TakingBack w a b c h = absurd (b refl)
only_removing Cancelling w a b c h = absurd (c refl)
only_removing Removing w a b c h = refl
only_removing Next w a b c h = absurd (cc)
only_removing Settling w a b c h = absurd (cc)
only_removing Ending w a b c h = absurd (cc)

-- it has ended
pub stands_so : (stage : Records.Stage) (nodes : List Node) (k : ℕ) (o o' : Job) (refused : Bool) → o.stage ≡ stage
    → ((around : Core) (n : Node) → n.serial ≡ k → after_end (at_nodes nodes around) o n refused stage ≡ Some o') → StandsAfter Course.Removing (node_at k nodes) nodes o false refused o'
stands_so stage nodes k o o' refused is h =
    stands_if Course.Removing (node_at k nodes) nodes o false refused o'
    (λ n at around. ap (λ s. after_end (at_nodes nodes around) o n refused s) is ∙ h around n (own_serial k n nodes at))

-- the end
pub over_so : (nodes : List Node) (rs : List Relation) (rack : List Driver) (handles : List Handle) (o : Job) (label : Label) → o.stage ≡ Records.Stage.Ending → o.walk ≡ None
    → ((around : Core) → label ≡ Label.End o.kind o.path (end_of (at_nodes nodes around) o.refused)) → JobSteps Course.Removing nodes rs rack false handles o (steps.Over label) nodes rs rack o
over_so nodes rs rack handles o label stage none l =
    acts_so Course.Removing nodes nodes rs rs rack rack false handles o o (steps.Over label) none
    (λ around.
    let c = at_related nodes rs (set_rack rack around) in
    subst (λ (s : Records.Stage). MovedBy (option_map (λ m. Does m) (acts c o handles s (first_node nodes o.todo))) (steps.Over label) c o) (sym stage) (refl, l c, refl, refl))

-- A device is settled ---------------------------------------------------------------------------

-- `settle` by its tests: its parent leaves, it is the target, it is ejected, it is held for an eject
abbrev settled : Core → Job → Node → Bool → Bool → Bool → Bool → JobMove
settled c o node inside target eject held =
    if inside then leaves c o node (Label.Leave node.path) (Beside.Left node.path node.born)
    else if target then
    if eject then leaves c o node (Label.Ejected node.path) (Beside.Ejected node.path node.born)
    else remains c o node Problem.Disabled (Beside.Disabled node.path)
    else if held then remains c o node Problem.HeldForEject Beside.On
    else remains c o node Problem.Held Beside.On

module _ (nodes nodes' : List Node) (o o' : Job) (node : Node) (at : first_node nodes o.todo ≡ Some node) (line : Text) (named : line ≡ node.path) (goes : o' ≡ finish_on nodes o (rest o.todo)) where
  settles : (inside target eject held : Bool) → has o.set node.parent ≡ inside → (node.serial == o.target) ≡ target → is_eject o.kind ≡ eject → (is_eject o.kind && has o.ejecting node.serial) ≡ held → (step : RemoveStep)
      → ((around : Core) → Moved (settled (at_nodes nodes around) o node inside target eject held) step (at_nodes nodes' around) o') → SettlesFor (first_node nodes o.todo) nodes o step nodes' o'
  settles inside target eject held i t e h step moved =
      subst (λ (x : Option Node). SettlesFor x nodes o step nodes' o') (sym at)
      (λ around.
      let c = at_nodes nodes around in
      let on : JobMove → Type 0 = λ m. Moved m step (at_nodes nodes' around) o' in
      subst (λ (b : Bool). on (settled c o node b (node.serial == o.target) (is_eject o.kind) (is_eject o.kind && has o.ejecting node.serial))) (sym i)
      (subst (λ (b : Bool). on (settled c o node inside b (is_eject o.kind) (is_eject o.kind && has o.ejecting node.serial))) (sym t)
      (subst (λ (b : Bool). on (settled c o node inside target b (is_eject o.kind && has o.ejecting node.serial))) (sym e)
      (subst (λ (b : Bool). on (settled c o node inside target eject b)) (sym h) (moved around)))))

  pub settled_left : has o.set node.parent ≡ true → (path : Text) (born : ℕ) → path ≡ node.path → born ≡ node.born → nodes' ≡ without_first (is_node node.serial) nodes
      → SettlesFor (first_node nodes o.todo) nodes o (steps.Left (Label.Leave line) path born) nodes' o'
  settled_left inside path born p b e =
      settles true _ _ _ inside refl refl refl (steps.Left (Label.Leave line) path born)
      (λ around. (ap (λ t. Beside.Left t node.born) (sym p) ∙ ap (λ b. Beside.Left path b) (sym b), ap Label.Leave named, ap (λ n. at_nodes n around) e, goes))

  module _ (outside : has o.set node.parent ≡ false) where
    pub settled_related : (node.serial == o.target) ≡ false → (problem : Problem) → problem ≡ problem_if (is_eject o.kind && has o.ejecting node.serial)
        → nodes' ≡ changed_first (is_node node.serial) (with_problem (Some problem)) nodes
        → SettlesFor (first_node nodes o.todo) nodes o (steps.Did (Label.Trouble line problem)) nodes' o'
    settled_related other problem p e =
        settles false false _ _ outside other refl refl (steps.Did (Label.Trouble line problem))
        (λ around. by around (is_eject o.kind && has o.ejecting node.serial) p)
      where
        by : (around : Core) (b : Bool) → problem ≡ problem_if b
            → Moved (settled (at_nodes nodes around) o node false false (is_eject o.kind) b) (steps.Did (Label.Trouble line problem)) (at_nodes nodes' around) o'
        by around true q = (
          refl,
          ap (λ t. Label.Trouble t problem) named ∙ ap (λ x. Label.Trouble node.path x) q,
          ap (λ n. at_nodes n around) (e ∙ ap (λ x. changed_first (is_node node.serial) (with_problem (Some x)) nodes) q),
          goes,
        )
        by around false q = (
          refl,
          ap (λ t. Label.Trouble t problem) named ∙ ap (λ x. Label.Trouble node.path x) q,
          ap (λ n. at_nodes n around) (e ∙ ap (λ x. changed_first (is_node node.serial) (with_problem (Some x)) nodes) q),
          goes,
        )

    module _ (target : (node.serial == o.target) ≡ true) where
      pub settled_ejected : is_eject o.kind ≡ true → (path : Text) (born : ℕ) → path ≡ node.path → born ≡ node.born → nodes' ≡ without_first (is_node node.serial) nodes
          → SettlesFor (first_node nodes o.todo) nodes o (steps.Ejected (Label.Ejected line) path born) nodes' o'
      settled_ejected eject path born p b e =
          settles false true true _ outside target eject refl (steps.Ejected (Label.Ejected line) path born)
          (λ around. (ap (λ t. Beside.Ejected t node.born) (sym p) ∙ ap (λ b. Beside.Ejected path b) (sym b), ap Label.Ejected named, ap (λ n. at_nodes n around) e, goes))

      pub settled_disabled : is_eject o.kind ≡ false → nodes' ≡ changed_first (is_node node.serial) (with_problem (Some Problem.Disabled)) nodes
          → SettlesFor (first_node nodes o.todo) nodes o (steps.Disabled (Label.Trouble line Problem.Disabled)) nodes' o'
      settled_disabled disable e =
          settles false true false _ outside target disable refl (steps.Disabled (Label.Trouble line Problem.Disabled))
          (λ around. (node.path, ap (λ t. Label.Trouble t Problem.Disabled) named, (refl, ap (λ t. Label.Trouble t Problem.Disabled) named, ap (λ n. at_nodes n around) e, goes)))
