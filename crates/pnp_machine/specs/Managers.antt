-- The manager as contracts see it, and what holds of its state and of each of its steps.
use Rattle.std.specs.Prelude.{◌≡◌, ℕ, ◌<◌, ◌≤◌, ◌^◌, Bool, true, false, List, [], ◌∷◌, None, length}
use Rattle.std.specs.List.{AllByRecursion}
use Rattle.inf_reader.specs.declared.parts.Inf.{Inf}
use Rattle.pnp_labels.specs.Texts.{Text}
use Rattle.pnp_labels.specs.declared.label.Label.{Label}
use Rattle.pnp_labels.specs.declared.states.Problem.TheVariants.{NormalConflict}
use Rattle.pnp_model.specs.Diagram.{FollowsDiagram, Walked}
use Rattle.pnp_model.specs.Laws.{Reaches, HoldsWhole, DependentsFirst}
use Rattle.pnp_model.specs.Records.{Driver, Settings, State}
use Rattle.pnp_model.specs.Runs.{Entry, Goes, opening}
use Rattle.pnp_model.specs.Sharing.{Clear}
use Rattle.free_model.specs.Frees.{with_rack}
use Rattle.free_model.specs.Shapes.{faces}
use Rattle.pnp_laws.specs.Begun.{Belongs, Restoring, Conflicts}
use Rattle.pnp_laws.specs.Facts.{Facts}
use Rattle.pnp_laws.specs.Held.{AllHoldParts, how_many}
use Rattle.pnp_laws.specs.Keys.{Keyed, IsAcyclic, NothingHeldClashes}
use Rattle.pnp_laws.specs.Listed.{IsHopelessBy}
use Rattle.pnp_laws.specs.Needs.{IsEntryWithin}
use Rattle.pnp_laws.specs.Stacks.{NamesDriver, StacksFit}
use Rattle.pnp_laws.specs.Strays.{NobodyForgotten}
use Rattle.pnp_laws.specs.Told.{StatesTold}
use Rattle.pnp_laws.specs.Waiting.{DependentsTold, NeitherRuns, OpenHandles, ReadyDue}
use Rattle.pnp_laws.specs.Windows.{InsideWindows}
use Rattle.pnp_laws.specs.Ends as ends
use Rattle.start_sequence.specs.Begins.{settings_of}
use Rattle.pnp_model.specs.Machine.{IsQuiet}
use Rattle.pnp_machine.specs.Ids.{AreFewIds}
use Rattle.pnp_machine.specs.declared.manager.Moved.{Moved}
use Rattle.pnp_machine.specs.declared.manager.Moved.TheVariants.{Label as Printed, Quiet}

-- the INFs and the budget of the run, how many events happened, and the machine's state
pub record Manager : Type 0 where
  pub infs : List Inf
  pub budget : ℕ
  pub events : ℕ
  pub state : State

-- what stays the same in a run
abbrev pub settings : Manager → Settings
settings m = settings_of m.infs m.budget

-- a run in which, before each entry and at its end, other drivers of the same kinds and names may take the place of those that
-- are there, with whatever books
abbrev pub SwapRun : Settings → State → List Entry → State → Type 0
SwapRun told old [] new = (rack : List Driver) × (faces rack ≡ faces old.core.rack) × (new ≡ with_rack rack old)
SwapRun told old (entry ∷ rest) new =
    (rack : List Driver) × (faces rack ≡ faces old.core.rack) × (mid : State) × Goes told (with_rack rack old) entry mid × SwapRun told mid rest new

-- such a run of so many events leads to this state, and no device was plugged with an alternative of more than 16 groups
pub record IsRunOf (told : Settings) (events : ℕ) (s : State) : Type 0 where
  pub rack : List Driver
  pub entries : List Entry
  pub reaches : SwapRun told (opening rack) entries s
  pub count : ends.events entries ≡ events
  pub within : AllByRecursion (IsEntryWithin 16) entries

-- some such run leads to this state
pub record IsOfRun (s : State) : Type 0 where
  pub told : Settings
  pub rack : List Driver
  pub entries : List Entry
  pub reaches : SwapRun told (opening rack) entries s

-- what a manager keeps
pub record IsManager (infs : List Inf) (budget events : ℕ) (s : State) : Type 0 where
  pub few : length infs ≤ 64
  pub spends : budget ≤ 1000000
  pub happened : events ≤ 2 ^ 24
  pub ids : AreFewIds s
  pub run : IsRunOf (settings_of infs budget) events s

-- what each state keeps that a manager comes to, also within operations: nodes are told apart, each below the one above it, and nothing depends on
-- itself; stacks are short and of drivers with names; who is related has drivers, and one that is NotStarted has no relations; nothing stands below a
-- device in NoStack or NotStarted; nothing is being started while an operation runs; whoever is Stopped, or holds something and is not up, is due to
-- go or seen to by the operation that runs; and each node and each device of the world has at most 64 IDs of each sort
pub record KeepsFacts (s : State) : Type 0 where
  pub keyed : Keyed s
  pub acyclic : IsAcyclic s.core
  pub stacks : StacksFit s
  pub facts : Facts s
  pub ids : AreFewIds s

-- what holds of each step and each event: states change by rows of the diagram, at the printed path alone and by the
-- request that has just ended there; nothing clashes, devices that are up hold one whole alternative and all others one or
-- nothing, so that fewer than 2^29 resources are held or reserved, and each inside the windows above; who has an open handle is up or waits to be finished, what depends on a device that waits
-- waits as well, and one that is ready has a task; dependents go first; nodes are told apart, nothing
-- depends on itself, no two of the printed resources clash, stacks are short and of drivers with names, and such a name is
-- printed where a driver is asked; where no operation runs, who was stopped, or holds something and is not up, is being
-- started or is due to go; where problem 12 is printed nothing fits by the list of those that refused that the operation keeps; and whatever run
-- leads to it, what ends has begun in it, a veto and a futile rebalance restore, and problem 12 is real
pub record KeepsLaws (told : Settings) (label : Label) (old new : State) : Type 0 where
  pub diagram : FollowsDiagram label old.core.nodes new.core.nodes
  pub walked : Walked label old.core.nodes new.core.nodes
  pub clear : Clear new.core.reserved new.core.nodes
  pub whole : HoldsWhole new.core.nodes
  pub parts : AllHoldParts new.core.nodes
  pub few : how_many new.core < 2 ^ 29
  pub inside : InsideWindows new
  pub handles : OpenHandles new
  pub together : NeitherRuns new.operation → DependentsTold new.core
  pub ready : NeitherRuns new.operation → ReadyDue new
  pub states : StatesTold label old new
  pub first : DependentsFirst label old.core new.core
  pub keyed : Keyed new
  pub acyclic : IsAcyclic new.core
  pub apart : NothingHeldClashes new.core
  pub stacks : StacksFit new
  pub names : NamesDriver label new.core.rack
  pub remembered : new.operation ≡ None → NobodyForgotten new
  pub listed : (path : Text) → label ≡ Label.Trouble path NormalConflict → IsHopelessBy old path
  pub begun : (rack : List Driver) (entries : List Entry) → Reaches told rack entries old → Belongs told rack entries old label
  pub restores : (rack : List Driver) (entries : List Entry) → Reaches told rack entries old → Restoring told rack entries old new label
  pub conflicts : (rack : List Driver) (entries : List Entry) (path : Text) → Reaches told rack entries old → label ≡ Label.Trouble path NormalConflict
      → Conflicts told rack entries old path

abbrev pub LawsOf : Settings → Moved → State → State → Type 0
LawsOf told (Printed label) old new = KeepsLaws told label old new
LawsOf told Quiet old new = Unit {0}

-- a test tells whether a state is quiet
abbrev pub IfQuiet : Bool → Settings → State → Type 0
IfQuiet true told s = IsQuiet told s
IfQuiet false told s = IsQuiet told s → ⊥
