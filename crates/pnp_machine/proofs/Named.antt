-- Who is to be asked is a driver of the rack, and has a name.
use Rattle.std.proofs.Common.{ℕ, ◌≡◌, Bool, true, false, List, [], ◌∷◌, ◌++◌, length, nat_le, Option, Some, None, find, refl, sym, ap, ◌∙◌, subst, slice_get, option_map, arith}
use Rattle.std.proofs.lemmas.Bool.Decides.{nat_tests}
use Rattle.std.proofs.lemmas.Option.{slice_get-map}
use Rattle.pnp_labels.specs.declared.words.Answer.{Answer}
use Rattle.pnp_labels.specs.declared.words.Answer.TheVariants.{Ok}
use Rattle.pnp_labels.specs.declared.words.AskWhat.{AskWhat}
use Rattle.pnp_labels.specs.declared.words.AskWhat.TheVariants.{Add, Irp}
use Rattle.pnp_labels.specs.declared.words.Minor.{Minor}
use Rattle.pnp_model.specs.Books.{book_of, rack_after, rack_reply, reply}
use Rattle.pnp_model.specs.Cores.{node_at, set_rack, stacked, with_stack}
use Rattle.pnp_model.specs.Finishes.{node_of_ready}
use Rattle.pnp_model.specs.Frames.{core_after, first_node, next_driver}
use Rattle.pnp_model.specs.Handles.{ready_device}
use Rattle.pnp_model.specs.Machine.{IsStep, Steps, activity_next, idle_next, is_ready, is_waiting, next, next_of, start_lifted}
use Rattle.pnp_model.specs.Records.{Activity, Core, Course, Doing, Driver, Job, Node, Phase, Settings, Stage, State, Step, Walk, course_of, doing_map}
use Rattle.pnp_model.specs.Records.Doing.{Does}
use Rattle.pnp_model.specs.Records.Phase.{Adding, Searching, Starting, Removing, Due}
use Rattle.pnp_model.specs.Removals.{refuses_unasked}
use Rattle.pnp_model.specs.Runs.{Entry, opening}
use Rattle.pnp_model.specs.Runs.Entry.{Did}
use Rattle.pnp_model.specs.Starts.{act, add_driver}
use Rattle.pnp_model.specs.Surprises.{stays_behind}
use Rattle.pnp_model.specs.Walks.{has_ended, place_of, walk_of}
use Rattle.pnp_laws.specs.Kept.{IsGood}
use Rattle.pnp_laws.specs.Stacks.{AllNamed, IsNamed, StacksFit}
use Rattle.pnp_laws.proofs.DriverNames.{named_at, place_below}
use Rattle.pnp_laws.proofs.Lookups.{found_self, node_changed_same, own_serial, ready_found}
use Rattle.pnp_laws.proofs.Readies.{ready_fresh}
use Rattle.pnp_laws.proofs.RunsStacks.{stacks_fit}
use Rattle.free_model.specs.Asks.{Query, activity_query, acts_query, at_query, idle_query, job_query, next_query, next_removal, next_surprise, operation_query, phase_query, query, query_of, ready_query, stack_query, walk_next, walk_query}
use Rattle.free_model.specs.Frees.{told, telling, with_rack}
use Rattle.free_model.specs.Shapes.{faces}
use Rattle.free_model.proofs.Racks.{faces_of, faces_told, shapes_after, tells}
use Rattle.pnp_machine.specs.Managers.{IsOfRun}
use Rattle.pnp_machine.proofs.ButBooks.{shadow, swaps_end, swaps_on}
use Rattle.pnp_machine.proofs.RunLaws.{of_run_good}
use Rattle.pnp_machine.proofs.SameLaws.{all_named_same, stacks_same}

pub stacks_of : (s : State) → IsOfRun s → StacksFit s
stacks_of s run =
    let h = shadow run.told run.rack run.entries s run.reaches in
    stacks_same s h.here h.shown (stacks_fit run.told h.rack _ (with_rack h.here s) h.reaches)

-- the last of drivers that have names
last_named : (rack : List Driver) (ds : List ℕ) (d : ℕ) → AllNamed rack (ds ++ d ∷ []) → IsNamed rack d
last_named rack [] d h = h.0
last_named rack (x ∷ ds) d h = last_named rack ds d h.1

-- where all drivers say Ok, so does the one of any number
says_ok : (what : AskWhat) (rack : List Driver) (node : Node) (d : ℕ) → rack_reply what node.path (told Ok rack) d ≡ Ok
says_ok what rack node d = by_get (slice_get rack d) refl
  where
    at : (o : Option Driver) → slice_get rack d ≡ o → rack_reply what node.path (told Ok rack) d ≡ reply what node.path (book_of (option_map (telling Ok) o))
    at o is = ap (λ (x : Option Driver). reply what node.path (book_of x)) (slice_get-map (telling Ok) rack d ∙ ap (option_map (telling Ok)) is)

    by_get : (o : Option Driver) → slice_get rack d ≡ o → rack_reply what node.path (told Ok rack) d ≡ Ok
    by_get None is = at None is
    by_get (Some driver) is = at (Some driver) is ∙ tells Ok what node.path

module _ (s : State) (run : IsOfRun s) where
  abbrev rack : List Driver
  rack = s.core.rack

  abbrev nodes : List Node
  nodes = s.core.nodes

  abbrev pub Named : Option Query → Type 0
  Named None = Unit {0}
  Named (Some q) = IsNamed rack q.driver

  -- A request -----------------------------------------------------------------------------

  over_named : (k : ℕ) (node : Node) (w : Walk) (over : Bool) → node_at k nodes ≡ Some node → has_ended w (length node.stack) ≡ over → Named (walk_query node w over)
  over_named k node w true at e = tt
  over_named k node w false at e = named_at rack node.stack (place_of w.minor (length node.stack) w.asked) ((stacks_of s run).named k node at) (place_below w (length node.stack) e)

  walk_named : (k : ℕ) (node : Node) (w : Walk) → node_at k nodes ≡ Some node → Named (walk_next node w)
  walk_named k node w at = over_named k node w (has_ended w (length node.stack)) at refl

  removed_named : (k : ℕ) (node : Node) → node_at k nodes ≡ Some node → has_ended (walk_of Minor.Remove) (length node.stack) ≡ false → Named (Some (query node (walk_of Minor.Remove)))
  removed_named k node at e = over_named k node (walk_of Minor.Remove) false at e

  -- An operation -----------------------------------------------------------------------------

  first_there : (todo : List ℕ) (n : Option Node) → first_node nodes todo ≡ n → (node : Node) → n ≡ Some node → (k : ℕ) × (node_at k nodes ≡ Some node)
  first_there [] n e node is = absurd (cc)
  first_there (k ∷ todo) n e node is = (k, e ∙ is)

  module _ (j : Job) where
    abbrev Is : Option Node → Type 0
    Is n = (node : Node) → n ≡ Some node → (k : ℕ) × (node_at k nodes ≡ Some node)

    at_named : (n : Option Node) (w : Walk) → Is n → Named (at_query n w)
    at_named None w there = tt
    at_named (Some node) w there = let at = there node refl in walk_named at.0 node w at.1

    removal_named : (node : Node) (refuses : Bool) → Is (Some node) → Named (next_removal node refuses)
    removal_named node true there = tt
    removal_named node false there = let at = there node refl in walk_named at.0 node (walk_of Minor.QueryRemove) at.1

    stack_named : (node : Node) (stack : List ℕ) → node.stack ≡ stack → Is (Some node) → Named (stack_query node stack)
    stack_named node [] e there = tt
    stack_named node (d ∷ ds) e there =
        let at = there node refl in
        removed_named at.0 node at.1 (ap (λ (x : List ℕ). has_ended (walk_of Minor.Remove) (length x)) e ∙ some_left)
      where
        some_left : has_ended (walk_of Minor.Remove) (length (d ∷ ds)) ≡ false
        some_left = let no : nat_le (length (d ∷ ds)) 0 ≡ false = grind (arith, nat_tests) in no

    surprise_named : (node : Node) (stays : Bool) → Is (Some node) → Named (next_surprise node stays)
    surprise_named node true there = tt
    surprise_named node false there = stack_named node node.stack refl there

    ready_named : (o : Option ℕ) → ready_device s.core s.handles ≡ o → Named (ready_query (node_of_ready nodes o))
    ready_named None e = tt
    ready_named (Some k) e = by_node (node_at k nodes) refl
      where
        by_node : (n : Option Node) → node_at k nodes ≡ n → Named (ready_query n)
        by_node None at = tt
        by_node (Some node) at = removed_named k node at (ready_fresh s.core s.handles k node (of_run_good s run).serials e at)

    acts_named : (course : Course) (stage : Stage) (n : Option Node) → Is n → Named (acts_query s.core s.handles j course stage n)
    acts_named Course.Removing Stage.Next (Some node) there = removal_named node (refuses_unasked s.handles node) there
    acts_named Course.Removing Stage.Next None there = tt
    acts_named Course.Removing _ n there = tt
    acts_named Course.Surprising Stage.Next (Some node) there = surprise_named node (stays_behind s.core j s.handles node.serial) there
    acts_named Course.Surprising Stage.Next None there = tt
    acts_named Course.Surprising _ n there = tt
    acts_named Course.Finishing Stage.Next n there = ready_named (ready_device s.core s.handles) refl
    acts_named Course.Finishing _ n there = tt
    acts_named Course.Rebalancing _ n there = tt

    job_named : (w : Option Walk) (n : Option Node) → Is n → Named (job_query s.core s.handles j w n)
    job_named None n there = acts_named (course_of j.kind) j.stage n there
    job_named (Some w) n there = at_named n w there

    operation_named : (waits : Bool) → Named (operation_query s.core s.handles j waits)
    operation_named true = tt
    operation_named false = job_named j.walk (first_node nodes j.todo) (first_there j.todo (first_node nodes j.todo) refl)

  -- A driver that is to add a device: where all say Ok it stands on top after the next step -------

  module _ (a : Activity) (node : Node) (d : ℕ) (ds : List ℕ) (none : s.operation ≡ None) (first : find is_ready s.activities ≡ Some a) (at : node_at a.serial nodes ≡ Some node) (adds : a.phase ≡ Adding (d ∷ ds)) where
    abbrev r : List Driver
    r = told Ok rack

    abbrev old : State
    old = with_rack r s

    abbrev step : Step
    step = start_lifted old node.serial (add_driver (core_after old.core AskWhat.Add node.path d) node d ds Ok)

    next_is : next run.told old ≡ Some (Does step)
    next_is =
        ap (next_of run.told old) none ∙ ap (idle_next run.told old) first ∙ ap (activity_next old a) at
        ∙ ap (λ (phase : Phase). Some (doing_map (start_lifted old node.serial) (act old.core node phase))) adds
        ∙ ap (λ (answer : Answer). Some (Does (start_lifted old node.serial (add_driver (core_after old.core AskWhat.Add node.path d) node d ds answer)))) (says_ok AskWhat.Add rack node d)

    goes : Steps run.told old step.label step.state
    goes = subst (λ (x : Option (Doing Step)). IsStep run.told x step) (sym next_is) refl

    run_on : IsOfRun step.state
    run_on =
        record {
          told = run.told;
          rack = run.rack;
          entries = run.entries ++ Did step.label ∷ [];
          reaches = swaps_on run.told (opening run.rack) old step.state run.entries (Did step.label) (swaps_end run.told (opening run.rack) run.entries s r run.reaches (faces_told Ok rack)) goes;
        }

    abbrev on_top : Node → Node
    on_top n = with_stack (node.stack ++ d ∷ []) (stacked node.state) n

    at_top : node_at node.serial step.state.core.nodes ≡ Some (on_top node)
    at_top = node_changed_same node.serial on_top nodes (λ n. refl) ∙ ap (option_map on_top) (found_self a.serial nodes node at)

    shown : faces step.state.core.rack ≡ faces rack
    shown = faces_of step.state.core.rack r (shapes_after AskWhat.Add node.path r d) ∙ faces_told Ok rack

    added_named : IsNamed rack d
    added_named =
        let named = last_named step.state.core.rack node.stack d ((stacks_of step.state run_on).named node.serial (on_top node) at_top) in
        (all_named_same step.state.core.rack rack shown (d ∷ []) (named, tt)).0

  start_named : (a : Activity) → s.operation ≡ None → find is_ready s.activities ≡ Some a → Named (activity_query a (node_at a.serial nodes))
  start_named a none first = by_node (node_at a.serial nodes) refl
    where
      by_phase : (node : Node) → node_at a.serial nodes ≡ Some node → (phase : Phase) → a.phase ≡ phase → Named (phase_query node phase)
      by_phase node at (Adding []) e = tt
      by_phase node at (Adding (d ∷ ds)) e = added_named a node d ds none first at e
      by_phase node at Searching e = tt
      by_phase node at (Starting w) e = walk_named a.serial node w at
      by_phase node at (Removing w) e = walk_named a.serial node w at
      by_phase node at (Due problem) e = tt

      by_node : (n : Option Node) → node_at a.serial nodes ≡ n → Named (activity_query a n)
      by_node None at = tt
      by_node (Some node) at = by_phase node at a.phase refl

  all_named : Named (next_query s)
  all_named = by_operation s.operation refl
    where
      by_first : s.operation ≡ None → (o : Option Activity) → find is_ready s.activities ≡ o → Named (idle_query nodes o)
      by_first none None e = tt
      by_first none (Some a) e = start_named a none e

      by_operation : (o : Option Job) → s.operation ≡ o → Named (query_of s o)
      by_operation (Some j) e = operation_named j (is_waiting j.walk)
      by_operation None e = by_first e (find is_ready s.activities) refl

-- whoever is to be asked
pub query_named : (s : State) → IsOfRun s → (q : Query) → next_query s ≡ Some q → IsNamed s.core.rack q.driver
query_named s run q e = subst (Named s run) e (all_named s run)
