-- The answer to the search for the resources of a device is a step of the machine.
use Rattle.std.proofs.Common.{◌≡◌, ℕ, List, [], ◌∷◌, Option, Some, Result, Ok, Err, IfOk, OnOk, refl, sym, ap, ◌∙◌, subst, arith, length}
use Rattle.std.proofs.lemmas.Bool.Decides.{nat_tests}
use Rattle.resource_reqs.specs.Resources.{Res, Reqs}
use Rattle.resource_reqs.specs.Spelling.{IsAnswer, IsPlan}
use Rattle.pnp_labels.specs.Texts.{Text}
use Rattle.pnp_labels.specs.declared.label.Label.{Label}
use Rattle.pnp_labels.specs.declared.states.Problem.{Problem}
use Rattle.pnp_labels.specs.declared.words.Minor.{Minor}
use Rattle.pnp_model.specs.Keyed.{changed_first}
use Rattle.pnp_model.specs.Records.{Node, Core, Driver, Phase, Activity}
use Rattle.pnp_model.specs.Records.Phase.{Starting, Due}
use Rattle.pnp_model.specs.Records.Doing.{Searches}
use Rattle.pnp_model.specs.Rebalances.{reqs_of}
use Rattle.pnp_model.specs.Cores.{is_node, node_at, set_rack, with_holds}
use Rattle.pnp_model.specs.Starts.{own_part, own_problem, searched}
use Rattle.pnp_model.specs.Walks.{walk_of}
use Rattle.devnode_tree.specs.Cores.{at_nodes}
use Rattle.devnode_tree.specs.Trees.{Tree, changed}
use Rattle.trial_journal.specs.ByKind.{Arbiters}
use Rattle.assign_search.specs.Fixed.{answer_of}
use Rattle.assign_search.specs.declared.plan.Found.{Found}
use Rattle.assign_search.specs.declared.plan.Found.TheVariants.{Assignment, NoFit, Spent}
use Rattle.assign_search.proofs.Planning.{plan_at_once}
use Rattle.device_holdings.specs.Mirrors.{Mirrors}
use Rattle.device_holdings.specs.Answers.{held_beside, Answers}
use Rattle.start_sequence.specs.Steps.{Done}
use Rattle.start_sequence.specs.Parts.{SearchedFor}
use Rattle.start_sequence.specs.declared.next.StartStep.{StartStep}
use Rattle.start_sequence.specs.declared.next.StartStep.TheVariants as steps

pub own_serial : (k : ℕ) (n : Node) (nodes : List Node) → node_at k nodes ≡ Some n → n.serial ≡ k
own_serial k n [] h = cc
own_serial k n (x ∷ xs) h = grind (arith, nat_tests, own_serial k n xs)

none_of : {X : Type 0} (xs : List X) → length xs ≡ 0 → xs ≡ []
none_of [] h = refl
none_of (x ∷ xs) h = absurd (omega arith)

-- a device that requires nothing has its answer at once: nothing
pub nothing_needed : (budget k : ℕ) (nodes : List Node) (a : Arbiters) (node : Node) → node_at k nodes ≡ Some node → length node.reqs ≡ 0
    → Answers nodes a (k ∷ []) budget (Assignment ([] ∷ []))
nothing_needed budget k nodes a node at none reserved mirrors =
    let fixed = held_beside reserved nodes (k ∷ []) in
    subst (λ (o : Option Node). IsPlan fixed (reqs_of o ∷ []) budget ([] ∷ [])) (sym at)
    (subst (λ (r : Reqs). IsPlan fixed (r ∷ []) budget ([] ∷ [])) (sym (none_of node.reqs none)) (plan_at_once fixed ([] ∷ []) budget (refl, tt)))

module _ (budget k : ℕ) (nodes : List Node) (a : Arbiters) (node : Node) (at : node_at k nodes ≡ Some node) (path : Text) (named : path ≡ node.path)
    (around : Core) (mirrors : Mirrors around.reserved nodes a) where
  abbrev before : Core
  before = at_nodes nodes around

  -- the answer of the problem of the machine
  own_answer : (found : Found) → Answers nodes a (k ∷ []) budget found → IsAnswer (own_problem before node).fixed (own_problem before node).movers budget (answer_of found)
  own_answer found answers =
      subst (λ (i : ℕ). IsAnswer (held_beside around.reserved nodes (i ∷ [])) (node.reqs ∷ []) budget (answer_of found)) (sym (own_serial k node nodes at))
      (subst (λ (o : Option Node). IsAnswer (held_beside around.reserved nodes (k ∷ [])) (reqs_of o ∷ []) budget (answer_of found)) at (answers around.reserved mirrors))

  -- the step for the device that was found
  for_node : (step : StartStep) (nodes' : List Node) (phase : Phase)
      → Done budget (Searches (own_problem before node) (searched before node)) step (at_nodes nodes' around) phase
      → SearchedFor budget (node_at k nodes) before step (at_nodes nodes' around) phase
  for_node step nodes' phase h = subst (λ (o : Option Node). SearchedFor budget o before step (at_nodes nodes' around) phase) (sym at) h

  pub found_assignment : (plan : List (List Res)) (holds held : List Res) (nodes' : List Node) (phase : Phase) → Answers nodes a (k ∷ []) budget (Assignment plan)
      → holds ≡ own_part plan → held ≡ holds → nodes' ≡ changed_first (is_node k) (with_holds holds) nodes → phase ≡ Starting (walk_of Minor.Start)
      → SearchedFor budget (node_at k nodes) before (steps.Did (Label.Assign path held)) (at_nodes nodes' around) phase
  found_assignment plan holds held nodes' phase answers part same changed starts =
      for_node (steps.Did (Label.Assign path held)) nodes' phase (
        answer_of (Assignment plan),
        own_answer (Assignment plan) answers,
        (
          refl,
          ap (λ t. Label.Assign t held) named ∙ ap (λ l. Label.Assign node.path l) (same ∙ part),
          ap (λ ns. at_nodes ns around)
              (changed ∙ (ap (λ l. changed_first (is_node k) (with_holds l) nodes) part ∙ ap (λ i. changed_first (is_node i) (with_holds (own_part plan)) nodes) (sym (own_serial k node nodes at)))),
          starts,
        ),
      )

  pub found_nothing : (phase : Phase) → Answers nodes a (k ∷ []) budget NoFit → SearchedFor budget (node_at k nodes) before (steps.Needs (Label.NoFit path)) before phase
  found_nothing phase answers =
      for_node (steps.Needs (Label.NoFit path)) nodes phase (answer_of NoFit, own_answer NoFit answers, (refl, ap Label.NoFit named, refl))

  pub found_spent : Answers nodes a (k ∷ []) budget Spent → SearchedFor budget (node_at k nodes) before (steps.Did (Label.Spent path)) before (Due Problem.Budget)
  found_spent answers =
      for_node (steps.Did (Label.Spent path)) nodes (Due Problem.Budget) (answer_of Spent, own_answer Spent answers, (refl, ap Label.Spent named, refl, refl))

-- The device gets what was found, where there is memory
module _ (budget k : ℕ) (tree tree' : Tree) (a : Arbiters) (node : Node) (at : node_at k tree.nodes ≡ Some node) (path : Text) (named : path ≡ node.path)
    (plan : List (List Res)) (answers : Answers tree.nodes a (k ∷ []) budget (Assignment plan)) (holds : List Res) (part : holds ≡ own_part plan) (work work' : Activity) where
  pub found_given : {E : Type 0} (result : Result StartStep E) → IfOk result (λ step. step ≡ steps.Did (Label.Assign path holds)) → OnOk result (tree' ≡ changed k (with_holds holds) tree)
      → OnOk result (work' ≡ record work { phase = Starting (walk_of Minor.Start) })
      → IfOk result (λ step. (rack : List Driver) (around : Core) → Mirrors around.reserved tree.nodes a → SearchedFor budget (node_at k tree.nodes) (at_nodes tree.nodes (set_rack rack around)) step (at_nodes tree'.nodes (set_rack rack around)) work'.phase)
  found_given (Err error) told given starts = tt
  found_given (Ok step) told given starts = λ rack around mirrors.
      subst (λ (s : StartStep). SearchedFor budget (node_at k tree.nodes) (at_nodes tree.nodes (set_rack rack around)) s (at_nodes tree'.nodes (set_rack rack around)) work'.phase) (sym told)
      (found_assignment budget k tree.nodes a node at path named (set_rack rack around) mirrors plan holds holds tree'.nodes work'.phase answers part refl (ap (λ (t : Tree). t.nodes) given) (ap (λ (w : Activity). w.phase) starts))
