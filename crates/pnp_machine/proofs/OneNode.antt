-- What a start changes of the nodes: at most one of them, and not where it stands.
use Rattle.std.proofs.Common.{◌≡◌, ℕ, ◌==◌, Bool, true, false, not, ◌&&◌, ◌||◌, cond, List, [], ◌∷◌, Option, Some, None, Result, Ok, Err, IfOk, OnErr, length, nat_le, ◌+◌, ◌∙◌, refl, sym, ap, subst}
use Rattle.std.specs.List.{AllByRecursion}
use Rattle.std.specs.declared.alloc.AllocError.{AllocError}
use Rattle.inf_reader.specs.declared.parts.Inf.{Inf}
use Rattle.pnp_labels.specs.Texts.{Text}
use Rattle.pnp_labels.specs.declared.label.Label.{Label}
use Rattle.pnp_labels.specs.declared.states.DevState.{DevState}
use Rattle.pnp_labels.specs.declared.states.Problem.{Problem}
use Rattle.pnp_labels.specs.declared.words.Answer.{Answer}
use Rattle.pnp_labels.specs.declared.words.Answer.TheVariants as answers
use Rattle.pnp_labels.specs.declared.words.AskWhat.{AskWhat}
use Rattle.pnp_model.specs.Books.{driver_named, rack_reply}
use Rattle.pnp_model.specs.Cores.{is_node, node_at, with_state, with_problem, with_stack, with_holds, bare, core_of}
use Rattle.pnp_model.specs.Frames.{core_after}
use Rattle.pnp_model.specs.Handles.{was_told}
use Rattle.pnp_model.specs.Keyed.{changed_first}
use Rattle.pnp_model.specs.Records.{Activity, Choice, Core, Device, Doing, Driver, Found, Node, Phase, Settings, State, Step, Walk}
use Rattle.pnp_model.specs.Records.Doing.{Does, Searches}
use Rattle.pnp_model.specs.Records.Phase.{Adding, Searching, Starting, Removing, Due}
use Rattle.pnp_model.specs.Runs.{opening}
use Rattle.pnp_model.specs.Starts.{StartMove, act, add_driver, remove_on, searched, start_on, undo, end_start}
use Rattle.pnp_model.specs.States.{is_in_world}
use Rattle.pnp_model.specs.Tasks.{install_best, install_few, install_named, install_service, numbered, start_enabled}
use Rattle.pnp_model.specs.Tests.{is_surprise_removed}
use Rattle.pnp_model.specs.Trees.{is_child}
use Rattle.pnp_model.specs.Walks.{has_ended, is_bad}
use Rattle.resource_reqs.specs.Spelling.Answer.{assignment, no_fit, spent}
use Rattle.resource_reqs.specs.Resources.{Res}
use Rattle.trial_journal.specs.ByKind.{Arbiters}
use Rattle.device_holdings.specs.Mirrors.{Mirrors}
use Rattle.devnode_tree.specs.Trees.{Tree}
use Rattle.pnp_laws.proofs.Lookups.{own_serial}
use Rattle.script_bus.proofs.Unplugs.{by_bool}
use Rattle.start_sequence.specs.Begins.{BegunFor, begun, settings_of}
use Rattle.start_sequence.specs.Steps.{Acts, Done, DoneFor, Moved}
use Rattle.start_sequence.specs.declared.next.StartStep.{StartStep}
use Rattle.start_sequence.specs.declared.next.StartStep.TheVariants as steps
use Rattle.pnp_machine.specs.Devices.{IsHere}

-- a node stays where it stands
pub record KeepsPlace (f : Node → Node) : Type 0 where
  pub serial : (n : Node) → (f n).serial ≡ n.serial
  pub parent : (n : Node) → (f n).parent ≡ n.parent
  pub born : (n : Node) → (f n).born ≡ n.born

-- nothing changes, or one node does
pub data ChangesAt (k : ℕ) (nodes : List Node) : List Node → Type 0 where
  same : ChangesAt k nodes nodes
  changed : (f : Node → Node) → KeepsPlace f → ChangesAt k nodes (changed_first (is_node k) f nodes)

-- Who is here stays here ------------------------------------------------------------------

or_second : (a b : Bool) → b ≡ true → (a || b) ≡ true
or_second true b h = refl
or_second false b h = h

second_of : (a b : Bool) → a ≡ false → (a || b) ≡ true → b ≡ true
second_of true b e h = absurd (cc)
second_of false b e h = h

module _ (ds : List Device) (j k : ℕ) (f : Node → Node) (keeps : KeepsPlace f) where
  -- one that was not told that it has gone is in the world
  moved_here : (n : Node) → is_surprise_removed n.state ≡ false → IsHere j ds n → IsHere j ds (f n)
  moved_here n untold h child =
      let own : is_child j n ≡ true = subst (λ p. (p == j && not (n.serial == 0)) ≡ true) (keeps.parent n) (subst (λ i. ((f n).parent == j && not (i == 0)) ≡ true) (keeps.serial n) child) in
      or_second (is_surprise_removed (f n).state) (is_in_world ds (f n).born)
      (subst (λ b. is_in_world ds b ≡ true) (sym (keeps.born n)) (second_of (is_surprise_removed n.state) (is_in_world ds n.born) untold (h own)))

  changed_here : (nodes : List Node) → was_told (node_at k nodes) ≡ false → AllByRecursion (IsHere j ds) nodes → AllByRecursion (IsHere j ds) (changed_first (is_node k) f nodes)
  changed_here [] untold all = tt
  changed_here (n ∷ nodes) untold all =
      by_bool (λ b. was_told (cond b (Some n) (node_at k nodes)) ≡ false → AllByRecursion (IsHere j ds) (cond b (f n ∷ nodes) (n ∷ changed_first (is_node k) f nodes))) (n.serial == k)
      (λ e u. (moved_here n u all.0, all.1))
      (λ e u. (all.0, changed_here nodes u all.1))
      untold

here_after : (ds : List Device) (j k : ℕ) (nodes nodes' : List Node) → ChangesAt k nodes nodes' → was_told (node_at k nodes) ≡ false → AllByRecursion (IsHere j ds) nodes → AllByRecursion (IsHere j ds) nodes'
here_after ds j k nodes _ ChangesAt.same untold all = all
here_after ds j k nodes _ (ChangesAt.changed f keeps) untold all = changed_here ds j k f keeps nodes untold all

-- A step of a start -----------------------------------------------------------------------

state_place : (state : DevState) → KeepsPlace (with_state state)
state_place state = record { serial = λ n. refl; parent = λ n. refl; born = λ n. refl }

problem_place : (problem : Option Problem) → KeepsPlace (with_problem problem)
problem_place problem = record { serial = λ n. refl; parent = λ n. refl; born = λ n. refl }

stack_place : (stack : List ℕ) (state : DevState) → KeepsPlace (with_stack stack state)
stack_place stack state = record { serial = λ n. refl; parent = λ n. refl; born = λ n. refl }

holds_place : (holds : List Res) → KeepsPlace (with_holds holds)
holds_place holds = record { serial = λ n. refl; parent = λ n. refl; born = λ n. refl }

bare_place : KeepsPlace bare
bare_place = record { serial = λ n. refl; parent = λ n. refl; born = λ n. refl }

module _ (c : Core) (node : Node) where
  -- of the nodes only that of the device changes
  abbrev ChangesOwn : StartMove → Type 0
  ChangesOwn m = ChangesAt node.serial c.nodes m.core.nodes

  abbrev AllChange : Doing StartMove → Type 0
  AllChange (Does m) = ChangesOwn m
  AllChange (Searches problem by_answer) = (found : Found) → ChangesOwn (by_answer found)

  added : (d : ℕ) (ds : List ℕ) (answer : Answer) → ChangesOwn (add_driver (core_after c AskWhat.Add node.path d) node d ds answer)
  added d ds answers.Ok = ChangesAt.changed _ (stack_place _ _)
  added d ds answers.Fail = ChangesAt.same
  added d ds answers.Pend = ChangesAt.same

  found_changes : (found : Found) → ChangesOwn (searched c node found)
  found_changes (assignment plan) = ChangesAt.changed _ (holds_place _)
  found_changes no_fit = ChangesAt.same
  found_changes spent = ChangesAt.same

  start_ends : (bad : Bool) → ChangesOwn (end_start c node bad)
  start_ends true = ChangesAt.changed _ (state_place _)
  start_ends false = ChangesAt.changed _ (state_place _)

  start_changes : (w : Walk) (b : Bool) → ChangesOwn (start_on c node w b)
  start_changes w true = start_ends (is_bad w)
  start_changes w false = ChangesAt.same

  remove_changes : (w : Walk) (b : Bool) → ChangesOwn (remove_on c node w b)
  remove_changes w true = ChangesAt.changed _ bare_place
  remove_changes w false = ChangesAt.same

  act_changes : (phase : Phase) → AllChange (act c node phase)
  act_changes (Adding []) = found_changes
  act_changes (Adding (d ∷ ds)) = added d ds (rack_reply AskWhat.Add node.path c.rack d)
  act_changes Searching = found_changes
  act_changes (Starting w) = start_changes w (has_ended w (length node.stack))
  act_changes (Removing w) = remove_changes w (has_ended w (length node.stack))
  act_changes (Due problem) = undone problem node.stack
    where
      undone : (problem : Problem) (stack : List ℕ) → ChangesOwn (undo (record c { nodes = changed_first (is_node node.serial) (with_problem (Some problem)) c.nodes }) node problem stack)
      undone problem [] = ChangesAt.changed _ (problem_place _)
      undone problem (d ∷ ds) = ChangesAt.changed _ (problem_place _)

  moved_core : (m : StartMove) (step : StartStep) (core : Core) (phase : Phase) → Moved m step core phase → core ≡ m.core
  moved_core m (steps.Did label) core phase (beside, l, is, frame) = is
  moved_core m (steps.Needs label) core phase (beside, l, is) = is
  moved_core m (steps.Up label) core phase (beside, l, is) = is
  moved_core m (steps.Over label) core phase (beside, l, is) = is

  done_changes : (budget : ℕ) (doing : Doing StartMove) (step : StartStep) (core : Core) (phase : Phase) → AllChange doing → Done budget doing step core phase → ChangesAt node.serial c.nodes core.nodes
  done_changes budget (Does m) step core phase all h = subst (λ (x : Core). ChangesAt node.serial c.nodes x.nodes) (sym (moved_core m step core phase h)) all
  done_changes budget (Searches problem by_answer) step core phase all (found, answers, h) =
      subst (λ (x : Core). ChangesAt node.serial c.nodes x.nodes) (sym (moved_core (by_answer found) step core phase h)) (all found)

-- what is around a start, where nothing is related
abbrev alone : List Res → Core
alone reserved = core_of [] [] [] reserved

module _ (ds : List Device) (j : ℕ) (reserved : List Res) (arbiters : Arbiters) (k : ℕ) (t t' : Tree) (untold : was_told (node_at k t.nodes) ≡ false) (all : AllByRecursion (IsHere j ds) t.nodes) where
  -- after a step of its start each child of the node is here still
  pub here_acted : (budget : ℕ) (rack rack' : List Driver) (phase phase' : Phase) (result : Result StartStep AllocError) → Mirrors reserved t.nodes arbiters
      → IfOk result (λ step. Acts budget arbiters k t.nodes rack phase step t'.nodes rack' phase') → OnErr result (t' ≡ t) → AllByRecursion (IsHere j ds) t'.nodes
  here_acted budget rack rack' phase phase' (Err error) mirrors acts stays = subst (λ (x : Tree). AllByRecursion (IsHere j ds) x.nodes) (sym stays) all
  here_acted budget rack rack' phase phase' (Ok step) mirrors acts stays = by_node (node_at k t.nodes) refl (acts (alone reserved) mirrors)
    where
      by_node : (o : Option Node) → node_at k t.nodes ≡ o → DoneFor budget o (core_of t.nodes [] rack reserved) phase step (core_of t'.nodes [] rack' reserved) phase'
          → AllByRecursion (IsHere j ds) t'.nodes
      by_node None at h = absurd h
      by_node (Some n) at h =
          let own = own_serial k n t.nodes at in
          let c : Core = core_of t.nodes [] rack reserved in
          here_after ds j n.serial t.nodes t'.nodes
          (done_changes c n budget (act c n phase) step (core_of t'.nodes [] rack' reserved) phase' (act_changes c n phase) (h refl))
          (subst (λ i. was_told (node_at i t.nodes) ≡ false) (sym own) untold) all

-- The begin of a start --------------------------------------------------------------------

module _ (settings : Settings) (s : State) (node : Node) where
  abbrev ChangesIn : Step → Type 0
  ChangesIn step = ChangesAt node.serial s.core.nodes step.state.core.nodes

  named_changes : (rank : ℕ) (lower : Option (List ℕ)) (driver : Option ℕ) (upper : Option (List ℕ)) → ChangesIn (install_named s node rank lower driver upper)
  named_changes rank (Some lower) (Some driver) (Some upper) = ChangesAt.changed _ (problem_place _)
  named_changes rank (Some lower) (Some driver) None = ChangesAt.changed _ (problem_place _)
  named_changes rank (Some lower) None upper = ChangesAt.changed _ (problem_place _)
  named_changes rank None driver upper = ChangesAt.changed _ (problem_place _)

  few_changes : (choice : Choice) (service : Text) (b : Bool) → ChangesIn (install_few s node choice service b)
  few_changes choice service true =
      named_changes choice.rank (numbered s.core.rack choice.lower) (driver_named service s.core.rack) (numbered s.core.rack choice.upper)
  few_changes choice service false = ChangesAt.changed _ (problem_place _)

  service_changes : (choice : Choice) (service : Option Text) → ChangesIn (install_service s node choice service)
  service_changes choice None = ChangesAt.changed _ (problem_place _)
  service_changes choice (Some service) = few_changes choice service (nat_le (length choice.lower + 1 + length choice.upper) 16)

  best_changes : (choice : Option Choice) → ChangesIn (install_best s node choice)
  best_changes None = ChangesAt.changed _ (problem_place _)
  best_changes (Some choice) = service_changes choice choice.service

  begun_changes : (disabled : Bool) → ChangesIn (start_enabled settings s node disabled)
  begun_changes true = ChangesAt.changed _ (problem_place _)
  begun_changes false = best_changes (settings.best node.hw node.compat)

begun_nodes : (s : State) (work : Option Activity) (nodes : List Node) → (begun s work nodes).core.nodes ≡ nodes
begun_nodes s None nodes = refl
begun_nodes s (Some a) nodes = refl

-- a state with these nodes
abbrev with_nodes : List Node → List Driver → State
with_nodes nodes rack = let s = opening rack in record s { core = core_of nodes [] rack [] }

module _ (ds : List Device) (j k : ℕ) (t t' : Tree) (untold : was_told (node_at k t.nodes) ≡ false) (all : AllByRecursion (IsHere j ds) t.nodes) where
  -- likewise after its begin
  pub here_begun : (infs : List Inf) (rack : List Driver) (disabled : Bool) (result : Result (Label × Option Activity) AllocError)
      → IfOk result (λ r. (budget : ℕ) (s : State) → s.core.rack ≡ rack → s.core.nodes ≡ t.nodes → BegunFor (settings_of infs budget) s (node_at k t.nodes) disabled r.0 r.1 t'.nodes)
      → OnErr result (t' ≡ t) → AllByRecursion (IsHere j ds) t'.nodes
  here_begun infs rack disabled (Err error) begins stays = subst (λ (x : Tree). AllByRecursion (IsHere j ds) x.nodes) (sym stays) all
  here_begun infs rack disabled (Ok (label, work)) begins stays = by_node (node_at k t.nodes) refl (begins 0 (with_nodes t.nodes rack) refl refl)
    where
      by_node : (o : Option Node) → node_at k t.nodes ≡ o → BegunFor (settings_of infs 0) (with_nodes t.nodes rack) o disabled label work t'.nodes → AllByRecursion (IsHere j ds) t'.nodes
      by_node None at h = absurd h
      by_node (Some n) at h =
          let own = own_serial k n t.nodes at in
          let is : (start_enabled (settings_of infs 0) (with_nodes t.nodes rack) n disabled).state.core.nodes ≡ t'.nodes =
          ap (λ (x : Step). x.state.core.nodes) h ∙ begun_nodes (with_nodes t.nodes rack) work t'.nodes in
          here_after ds j n.serial t.nodes t'.nodes
          (subst (ChangesAt n.serial t.nodes) is (begun_changes (settings_of infs 0) (with_nodes t.nodes rack) n disabled))
          (subst (λ i. was_told (node_at i t.nodes) ≡ false) (sym own) untold) all
