-- What a step is where no operation runs, end by end: the one list that laws over tasks and starts read; with it what each step of the machine is.
use Rattle.std.proofs.Common.{ℕ, ◌+◌, ◌≡◌, ◌==◌, Bool, true, false, not, ◌&&◌, List, [], ◌∷◌, length, nat_le, Option, Some, None, refl, sym, ap, ◌∙◌, subst, arith}
use Rattle.std.specs.List.{find, slice_get}
use Rattle.std.specs.Option.{is_some}
use Rattle.std.proofs.lemmas.Bool.Decides.{nat_tests}
use Rattle.resource_reqs.specs.Resources.{Res}
use Rattle.resource_reqs.specs.Spelling.{IsAnswer}
use Rattle.resource_reqs.specs.Spelling.Answer.{assignment, no_fit, spent}
use Rattle.pnp_labels.specs.Texts.{Text}
use Rattle.pnp_labels.specs.declared.states.DevState.{DevState}
use Rattle.pnp_labels.specs.declared.states.DevState.TheVariants.{NoStack, NotStarted, Started, SurpriseRemoved}
use Rattle.pnp_labels.specs.declared.states.Problem.{Problem}
use Rattle.pnp_labels.specs.declared.words.AskWhat.{AskWhat}
use Rattle.pnp_labels.specs.declared.words.Answer.{Answer}
use Rattle.pnp_labels.specs.declared.words.Answer.TheVariants.{Ok, Fail, Pend}
use Rattle.pnp_labels.specs.declared.label.OpKind.{OpKind}
use Rattle.pnp_model.specs.Books.{driver_named, rack_reply}
use Rattle.pnp_model.specs.Cores.{node_at, set_problem}
use Rattle.pnp_model.specs.Frames.{asked, core_after}
use Rattle.pnp_model.specs.Records.{Activity, Choice, Core, Device, Duty, Found, Node, Phase, Settings, State, Step, Task, Walk, doing_map, Job}
use Rattle.pnp_model.specs.Records.Phase.{Adding, Searching, Starting, Removing, Due}
use Rattle.pnp_model.specs.Rebalances.{begun_change}
use Rattle.pnp_model.specs.States.{activity_at, device_born}
use Rattle.pnp_model.specs.Tests.{has_same, is_surprise_removed, is_surprise_task}
use Rattle.pnp_model.specs.Handles.{is_ready_device}
use Rattle.pnp_model.specs.Trees.{is_child}
use Rattle.pnp_model.specs.Walks.{has_ended, is_bad}
use Rattle.pnp_laws.specs.Effects.{Acting, BeginsFor, Chosen, IsSearch, begun, required}
use Rattle.pnp_laws.specs.Kept.{Ascending}
use Rattle.pnp_laws.specs.Words.{NotTwelve}
use Rattle.pnp_laws.proofs.Lookups.{find_passes, find_those, found_self, node_found, own_serial}
use Rattle.pnp_laws.proofs.Passing.{AllBy, AllNext, all_step}
use Rattle.pnp_laws.proofs.Stages.{TakenStep, operation_step}
use Rattle.pnp_laws.proofs.Truths.{and_both, by_test, not_true}
use Rattle.pnp_model.specs.Machine as ma
use Rattle.pnp_model.specs.Starts as st
use Rattle.pnp_model.specs.Tasks as tk

-- Tasks --------------------------------------------------------------------------------

-- the first task is this one
abbrev pub First : State → Duty → ℕ → Type 0
First s kind k = slice_get s.tasks 0 ≡ Some (record { kind = kind; serial = k })

-- the first task is to start a device, which has no drivers and is not being started
pub record Bare (s : State) (node : Node) : Type 0 where
  pub first : First s Duty.Starting node.serial
  pub at : node_at node.serial s.core.nodes ≡ Some node
  pub state : node.state ≡ NoStack
  pub free : activity_at node.serial s.activities ≡ None

pub data TaskStep (s : State) : Step → Type 0 where
  skips : (kind : Duty) (k j : ℕ) → First s kind k → is_surprise_task kind ≡ false → TaskStep s (tk.skip kind j s)
  -- a surprise removal of a device that is not there
  misses : (k : ℕ) → First s (Duty.Begins OpKind.Surprise) k → node_at k s.core.nodes ≡ None → TaskStep s (tk.skip (Duty.Begins OpKind.Surprise) k s)
  -- or that was told already
  told : (node : Node) → First s (Duty.Begins OpKind.Surprise) node.serial → node_at node.serial s.core.nodes ≡ Some node → node.state ≡ SurpriseRemoved → TaskStep s (tk.skip (Duty.Begins OpKind.Surprise) node.serial s)
  lists : (k : ℕ) (node : Node) → First s Duty.Listing k → TaskStep s (tk.gone_or_listed s node None)
  finds_gone : (node child : Node) → tk.gone_child s node.serial ≡ Some child → TaskStep s (tk.gone_or_listed s node (Some child))
  joins : (node : Node) (d : Device) → node_at node.serial s.core.nodes ≡ Some node → node.state ≡ Started → tk.joining node.born s.core.nodes s.world ≡ Some d → TaskStep s (tk.join_step s node d)
  troubles : (node : Node) (problem : Problem) → Bare s node → NotTwelve problem → TaskStep s (tk.begin_trouble s node problem)
  installs : (node : Node) (rank driver : ℕ) (drivers : List ℕ) → Bare s node → Chosen s node.serial drivers → TaskStep s (tk.install s node rank driver drivers)
  begins : (kind : OpKind) (node : Node) → First s (Duty.Begins kind) node.serial → s.activities ≡ [] → node_at node.serial s.core.nodes ≡ Some node → BeginsFor s kind node
      → TaskStep s (tk.begin s kind node (begun s kind node))

-- the child that is found gone
pub gone_is : (s : State) (k : ℕ) (child : Node) → Ascending 0 s.core.nodes → tk.gone_child s k ≡ Some child
    → (node_at child.serial s.core.nodes ≡ Some child) × (is_child k child ≡ true) × (tk.is_gone s child ≡ true)
gone_is s k child order e =
    let found : find (λ n. is_child k n && tk.is_gone s n) s.core.nodes ≡ Some child = sym (find_those (tk.is_gone s) (is_child k) s.core.nodes) ∙ e in
    let both = and_both (is_child k child) (tk.is_gone s child) (find_passes (λ n. is_child k n && tk.is_gone s n) s.core.nodes child found) in
    ((node_found (λ n. is_child k n && tk.is_gone s n) 0 s.core.nodes child order found).1, both.0, both.1)

-- the device that joins is below this one, and no node has its birth number or its path
pub joins_is : (born : ℕ) (nodes : List Node) (d : Device) → tk.joins born nodes d ≡ true → (d.parent ≡ born) × (tk.has_born d.born nodes ≡ false) × (tk.has_path d.path nodes ≡ false)
joins_is born nodes d h =
    let two = and_both (d.parent == born && not (tk.has_born d.born nodes)) (not (tk.has_path d.path nodes)) h in
    let first = and_both (d.parent == born) (not (tk.has_born d.born nodes)) two.0 in
    let e = first.0 in
    (grind (arith, nat_tests), not_true (tk.has_born d.born nodes) first.1, not_true (tk.has_path d.path nodes) two.1)

module _ (s : State) where
  listed : (k : ℕ) (node : Node) (o : Option Node) → First s Duty.Listing k → tk.gone_child s node.serial ≡ o → TaskStep s (tk.gone_or_listed s node o)
  listed k node None first e = TaskStep.lists k node first
  listed k node (Some child) first e = TaskStep.finds_gone node child e

  joins_or_on : (k : ℕ) (node : Node) (o : Option Device) → First s Duty.Listing k → node_at node.serial s.core.nodes ≡ Some node → node.state ≡ Started → tk.joining node.born s.core.nodes s.world ≡ o → TaskStep s (tk.join_or_on s node o)
  joins_or_on k node None first at up e = listed k node (tk.gone_child s node.serial) first refl
  joins_or_on k node (Some d) first at up e = TaskStep.joins node d at up e

  lists_up : (k : ℕ) (node : Node) (x : DevState) → First s Duty.Listing k → node_at node.serial s.core.nodes ≡ Some node → node.state ≡ x → TaskStep s (tk.list_up s node x)
  lists_up k node Started first at up = joins_or_on k node (tk.joining node.born s.core.nodes s.world) first at up refl
  lists_up k node _ first at up = TaskStep.skips Duty.Listing k node.serial first refl

  list_step : (k : ℕ) (o : Option Node) → First s Duty.Listing k → node_at k s.core.nodes ≡ o → TaskStep s (tk.list_step s k o)
  list_step k None first e = TaskStep.skips Duty.Listing k k first refl
  list_step k (Some node) first e = lists_up k node node.state first (found_self k s.core.nodes node e) refl

  module _ (node : Node) (bare : Bare s node) where
    installs_named : (choice : Choice) (service : Text) → nat_le (length choice.lower + 1 + length choice.upper) 16 ≡ true → (lower : Option (List ℕ)) (driver : Option ℕ) (upper : Option (List ℕ))
        → tk.numbered s.core.rack choice.lower ≡ lower → driver_named service s.core.rack ≡ driver → tk.numbered s.core.rack choice.upper ≡ upper → TaskStep s (tk.install_named s node choice.rank lower driver upper)
    installs_named choice service few (Some lower) (Some driver) (Some upper) lower_are driver_is upper_are =
        TaskStep.installs node choice.rank driver _ bare
        (record {
          first = bare.first;
          free = bare.free;
          node = node;
          at = bare.at;
          bare = bare.state;
          lower_names = choice.lower;
          service = service;
          upper_names = choice.upper;
          few = few;
          lower = lower;
          driver = driver;
          upper = upper;
          lower_are = lower_are;
          driver_is = driver_is;
          upper_are = upper_are;
          all = refl;
        })
    installs_named choice service few (Some lower) (Some driver) None a b c = TaskStep.troubles node Problem.LoadFailed bare tt
    installs_named choice service few (Some lower) None upper a b c = TaskStep.troubles node Problem.LoadFailed bare tt
    installs_named choice service few None driver upper a b c = TaskStep.troubles node Problem.LoadFailed bare tt

    installs_service : (choice : Choice) (o : Option Text) → TaskStep s (tk.install_service s node choice o)
    installs_service choice None = TaskStep.troubles node Problem.FailedInstall bare tt
    installs_service choice (Some service) =
        by_test (λ b. TaskStep s (tk.install_few s node choice service b)) (nat_le (length choice.lower + 1 + length choice.upper) 16)
        (λ few. installs_named choice service few (tk.numbered s.core.rack choice.lower) (driver_named service s.core.rack) (tk.numbered s.core.rack choice.upper) refl refl refl)
        (λ many. TaskStep.troubles node Problem.FailedInstall bare tt)

    installs_best : (o : Option Choice) → TaskStep s (tk.install_best s node o)
    installs_best None = TaskStep.troubles node Problem.FailedInstall bare tt
    installs_best (Some choice) = installs_service choice choice.service

    starts_enabled : (settings : Settings) (disabled : Bool) → TaskStep s (tk.start_enabled settings s node disabled)
    starts_enabled settings true = TaskStep.troubles node Problem.Disabled bare tt
    starts_enabled settings false = installs_best (settings.best node.hw node.compat)

  module _ (settings : Settings) (node : Node) (first : First s Duty.Starting node.serial) (at : node_at node.serial s.core.nodes ≡ Some node) where
    starts_idle : (o : Option Activity) → node.state ≡ NoStack → activity_at node.serial s.activities ≡ o → TaskStep s (tk.start_idle settings s node o)
    starts_idle (Some a) state free = TaskStep.skips Duty.Starting node.serial node.serial first refl
    starts_idle None state free = starts_enabled node (record { first = first; at = at; state = state; free = free }) settings (has_same node.path s.disabled)

    starts_bare : (x : DevState) → node.state ≡ x → TaskStep s (tk.start_bare settings s node x)
    starts_bare NoStack state = starts_idle (activity_at node.serial s.activities) state refl
    starts_bare _ state = TaskStep.skips Duty.Starting node.serial node.serial first refl

  -- the device of the first task, by its own serial
  own_first : (kind : Duty) (k : ℕ) (node : Node) → node_at k s.core.nodes ≡ Some node → First s kind k → First s kind node.serial
  own_first kind k node at first = subst (λ (i : ℕ). First s kind i) (sym (own_serial k node s.core.nodes at)) first

  start_step : (settings : Settings) (k : ℕ) (o : Option Node) → First s Duty.Starting k → node_at k s.core.nodes ≡ o → TaskStep s (tk.start_step settings s k o)
  start_step settings k None first e = TaskStep.skips Duty.Starting k k first refl
  start_step settings k (Some node) first e = starts_bare settings node (own_first Duty.Starting k node e first) (found_self k s.core.nodes node e) node.state refl

  module _ (alone : s.activities ≡ []) (node : Node) (at : node_at node.serial s.core.nodes ≡ Some node) where
    rebalances_idle : (o : Option Activity) → First s (Duty.Begins OpKind.Rebalance) node.serial → node.state ≡ NotStarted → activity_at node.serial s.activities ≡ o → TaskStep s (tk.rebalance_idle s node o)
    rebalances_idle (Some a) first state free = TaskStep.skips _ node.serial node.serial first refl
    rebalances_idle None first state free = TaskStep.begins OpKind.Rebalance node first alone at (state, free)

    rebalances : (x : DevState) → First s (Duty.Begins OpKind.Rebalance) node.serial → node.state ≡ x → TaskStep s (tk.rebalance_task s node x)
    rebalances NotStarted first state = rebalances_idle (activity_at node.serial s.activities) first state refl
    rebalances _ first state = TaskStep.skips _ node.serial node.serial first refl

    disables : (disabled : Bool) → First s (Duty.Begins OpKind.Disable) node.serial → has_same node.path s.disabled ≡ disabled → TaskStep s (tk.disable_task s node disabled)
    disables true first e = TaskStep.skips _ node.serial node.serial first refl
    disables false first e = TaskStep.begins OpKind.Disable node first alone at e

    surprises : (x : DevState) → First s (Duty.Begins OpKind.Surprise) node.serial → node.state ≡ x → TaskStep s (tk.surprise_task s node x)
    surprises SurpriseRemoved first state = TaskStep.told node first at state
    surprises _ first state = TaskStep.begins OpKind.Surprise node first alone at (ap is_surprise_removed state)

    finishes : (ready : Bool) → First s (Duty.Begins OpKind.Finish) node.serial → is_ready_device s.core s.handles node ≡ ready → TaskStep s (tk.finish_task s node ready)
    finishes true first e = TaskStep.begins OpKind.Finish node first alone at e
    finishes false first e = TaskStep.skips _ node.serial node.serial first refl

    changes_born : (o : Option Device) → First s (Duty.Begins OpKind.Change) node.serial → node.state ≡ Started → device_born node.born s.world ≡ o → TaskStep s (tk.change_born s node o)
    changes_born None first state e = TaskStep.skips _ node.serial node.serial first refl
    changes_born (Some d) first state e =
        subst (λ (x : Option Device). TaskStep s (tk.begin s OpKind.Change node (begun_change s.core node (required s node x)))) e
        (TaskStep.begins OpKind.Change node first alone at (state, ap is_some e))

    changes : (x : DevState) → First s (Duty.Begins OpKind.Change) node.serial → node.state ≡ x → TaskStep s (tk.change_task s node x)
    changes Started first state = changes_born (device_born node.born s.world) first state refl
    changes _ first state = TaskStep.skips _ node.serial node.serial first refl

  begin_step : (kind : OpKind) (k : ℕ) (o : Option Node) → First s (Duty.Begins kind) k → s.activities ≡ [] → node_at k s.core.nodes ≡ o → TaskStep s (tk.begin_step s kind k o)
  begin_step OpKind.Surprise k None first alone e = TaskStep.misses k first e
  begin_step kind k None first alone e = TaskStep.skips (Duty.Begins kind) k k first refl
  begin_step OpKind.Rebalance k (Some node) first alone e = rebalances alone node (found_self k s.core.nodes node e) node.state (own_first _ k node e first) refl
  begin_step OpKind.Disable k (Some node) first alone e = disables alone node (found_self k s.core.nodes node e) (has_same node.path s.disabled) (own_first _ k node e first) refl
  begin_step OpKind.Eject k (Some node) first alone e = TaskStep.begins OpKind.Eject node (own_first _ k node e first) alone (found_self k s.core.nodes node e) tt
  begin_step OpKind.Surprise k (Some node) first alone e = surprises alone node (found_self k s.core.nodes node e) node.state (own_first _ k node e first) refl
  begin_step OpKind.Finish k (Some node) first alone e = finishes alone node (found_self k s.core.nodes node e) (is_ready_device s.core s.handles node) (own_first _ k node e first) refl
  begin_step OpKind.Change k (Some node) first alone e = changes alone node (found_self k s.core.nodes node e) node.state (own_first _ k node e first) refl

-- Starts -------------------------------------------------------------------------------

-- the start of a device goes on in a phase
pub data ActivityStep (c : Core) (node : Node) : Phase → st.StartMove → Type 0 where
  adds : (d : ℕ) (ds : List ℕ) → ActivityStep c node (Adding (d ∷ ds)) (st.add_driver (core_after c AskWhat.Add node.path d) node d ds Ok)
  refused : (d : ℕ) (ds : List ℕ) → ActivityStep c node (Adding (d ∷ ds)) (st.add_driver (core_after c AskWhat.Add node.path d) node d ds Fail)
  fits : (phase : Phase) (plan : List (List Res)) (budget : ℕ) → IsSearch phase → IsAnswer (st.own_problem c node).fixed (st.own_problem c node).movers budget (assignment plan) → ActivityStep c node phase (st.searched c node (assignment plan))
  unplaced : (phase : Phase) → IsSearch phase → ActivityStep c node phase (st.searched c node no_fit)
  tires : (phase : Phase) → IsSearch phase → ActivityStep c node phase (st.searched c node spent)
  asks_start : (w : Walk) → w.waits ≡ false → has_ended w (length node.stack) ≡ false → ActivityStep c node (Starting w) (st.asks Starting (asked c node w))
  fails : (w : Walk) → has_ended w (length node.stack) ≡ true → is_bad w ≡ true → ActivityStep c node (Starting w) (st.end_start c node true)
  starts : (w : Walk) → has_ended w (length node.stack) ≡ true → is_bad w ≡ false → ActivityStep c node (Starting w) (st.end_start c node false)
  asks_remove : (w : Walk) → w.waits ≡ false → has_ended w (length node.stack) ≡ false → ActivityStep c node (Removing w) (st.asks Removing (asked c node w))
  strips : (w : Walk) → has_ended w (length node.stack) ≡ true → ActivityStep c node (Removing w) (st.remove_on c node w true)
  empty : (problem : Problem) → node.stack ≡ [] → ActivityStep c node (Due problem) (st.undo (set_problem node.serial (Some problem) c) node problem [])
  undoes : (problem : Problem) (d : ℕ) (ds : List ℕ) → node.stack ≡ d ∷ ds → ActivityStep c node (Due problem) (st.undo (set_problem node.serial (Some problem) c) node problem (d ∷ ds))

-- What a step of the machine is ----------------------------------------------------------

pub data MachineStep (s : State) : Step → Type 0 where
  operates : (o : Job) (step : Step) → s.operation ≡ Some o → TakenStep s o step → MachineStep s step
  starts : (node : Node) (phase : Phase) (m : st.StartMove) → node_at node.serial s.core.nodes ≡ Some node → Acting s node.serial phase → ActivityStep s.core node phase m → MachineStep s (ma.start_lifted s node.serial m)
  does : (step : Step) → s.operation ≡ None → TaskStep s step → MachineStep s step

module _ (budget : ℕ) (s : State) (node : Node) (at : node_at node.serial s.core.nodes ≡ Some node) where
  adds_driver : (d : ℕ) (ds : List ℕ) (answer : Answer) → ActivityStep s.core node (Adding (d ∷ ds)) (st.add_driver (core_after s.core AskWhat.Add node.path d) node d ds answer)
  adds_driver d ds Ok = ActivityStep.adds d ds
  adds_driver d ds Fail = ActivityStep.refused d ds
  adds_driver d ds Pend = ActivityStep.refused d ds

  undoes_start : (problem : Problem) (stack : List ℕ) → node.stack ≡ stack → ActivityStep s.core node (Due problem) (st.undo (set_problem node.serial (Some problem) s.core) node problem stack)
  undoes_start problem [] e = ActivityStep.empty problem e
  undoes_start problem (d ∷ ds) e = ActivityStep.undoes problem d ds e

  searches : (phase : Phase) → IsSearch phase → (found : Found) → IsAnswer (st.own_problem s.core node).fixed (st.own_problem s.core node).movers budget found → ActivityStep s.core node phase (st.searched s.core node found)
  searches phase search (assignment plan) answer = ActivityStep.fits phase plan budget search answer
  searches phase search no_fit answer = ActivityStep.unplaced phase search
  searches phase search spent answer = ActivityStep.tires phase search

  acts : (phase : Phase) → Acting s node.serial phase → ma.is_waiting (ma.phase_walk phase) ≡ false → AllBy budget (MachineStep s) (doing_map (ma.start_lifted s node.serial) (st.act s.core node phase))
  acts (Adding []) acting waits = λ found answer. MachineStep.starts node (Adding []) _ at acting (searches (Adding []) tt found answer)
  acts (Adding (d ∷ ds)) acting waits = MachineStep.starts node (Adding (d ∷ ds)) _ at acting (adds_driver d ds (rack_reply AskWhat.Add node.path s.core.rack d))
  acts Searching acting waits = λ found answer. MachineStep.starts node Searching _ at acting (searches Searching tt found answer)
  acts (Starting w) acting waits =
      MachineStep.starts node (Starting w) _ at acting
      (by_test (λ b. ActivityStep s.core node (Starting w) (st.start_on s.core node w b)) (has_ended w (length node.stack))
      (λ ended. by_test (λ b. ActivityStep s.core node (Starting w) (st.end_start s.core node b)) (is_bad w) (ActivityStep.fails w ended) (ActivityStep.starts w ended))
      (ActivityStep.asks_start w waits))
  acts (Removing w) acting waits =
      MachineStep.starts node (Removing w) _ at acting
      (by_test (λ b. ActivityStep s.core node (Removing w) (st.remove_on s.core node w b)) (has_ended w (length node.stack)) (ActivityStep.strips w) (ActivityStep.asks_remove w waits))
  acts (Due problem) acting waits = MachineStep.starts node (Due problem) _ at acting (undoes_start problem node.stack refl)

module _ (settings : Settings) (s : State) (none : s.operation ≡ None) where
  begins_alone : (kind : OpKind) (k : ℕ) (activities : List Activity) → s.activities ≡ activities → First s (Duty.Begins kind) k → AllNext settings.budget (MachineStep s) (ma.begin_alone s kind k activities)
  begins_alone kind k [] alone first = MachineStep.does _ none (begin_step s kind k (node_at k s.core.nodes) first alone refl)
  begins_alone kind k (a ∷ activities) alone first = tt

  does_task : (kind : Duty) (k : ℕ) → First s kind k → AllNext settings.budget (MachineStep s) (ma.task_of settings s kind k)
  does_task Duty.Listing k first = MachineStep.does _ none (list_step s k (node_at k s.core.nodes) first refl)
  does_task Duty.Starting k first = MachineStep.does _ none (start_step s settings k (node_at k s.core.nodes) first refl)
  does_task (Duty.Begins kind) k first = begins_alone kind k s.activities refl first

  does_first : (o : Option Task) → slice_get s.tasks 0 ≡ o → AllNext settings.budget (MachineStep s) (ma.task_next settings s o)
  does_first None first = tt
  does_first (Some task) first = does_task task.kind task.serial first

  activity_next : (a : Activity) (o : Option Node) → find ma.is_ready s.activities ≡ Some a → node_at a.serial s.core.nodes ≡ o → AllNext settings.budget (MachineStep s) (ma.activity_next s a o)
  activity_next a None ready e = tt
  activity_next a (Some node) ready e =
      acts settings.budget s node (found_self a.serial s.core.nodes node e) a.phase
      (record { none = none; activity = a; ready = ready; own = sym (own_serial a.serial node s.core.nodes e); is = refl })
      (not_true (ma.is_waiting (ma.phase_walk a.phase)) (find_passes ma.is_ready s.activities a ready))

  idle_next : (o : Option Activity) → find ma.is_ready s.activities ≡ o → AllNext settings.budget (MachineStep s) (ma.idle_next settings s o)
  idle_next (Some a) ready = activity_next a (node_at a.serial s.core.nodes) ready refl
  idle_next None ready = does_first (slice_get s.tasks 0) refl

-- each step is in the list
pub machine_step : (settings : Settings) (s : State) (step : Step) → ma.IsStep settings (ma.next settings s) step → MachineStep s step
machine_step settings s step is = by_operation s.operation refl
  where
    by_operation : (o : Option Job) → s.operation ≡ o → MachineStep s step
    by_operation (Some o) runs = MachineStep.operates o step runs (operation_step settings s o step runs is)
    by_operation None none =
        all_step (MachineStep s) settings (ma.next_of settings s None) step (idle_next settings s none (find ma.is_ready s.activities) refl) (subst (λ (x : Option Job). ma.IsStep settings (ma.next_of settings s x) step) none is)
