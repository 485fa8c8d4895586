-- Operations begin before they end: where an end or problem 12 is printed, its operation began and has not ended since.
use Rattle.std.specs.Prelude.{ℕ, ◌≡◌, ◌≢◌, List, ◌∷◌, ◌++◌, Some}
use Rattle.pnp_model.specs.Cores.{node_at}
use Rattle.pnp_model.specs.Records.{Driver, Node, State, Settings}
use Rattle.pnp_model.specs.Runs.{Entry, Goes, Run, printed}
use Rattle.pnp_model.specs.Runs.Entry.{Did}
use Rattle.pnp_model.specs.Laws.{Reaches, AllWithin, AreFree, NothingFits, Restores, RestoresBut}
use Rattle.pnp_labels.specs.Texts.{Text}
use Rattle.pnp_labels.specs.declared.states.Problem.{Problem}
use Rattle.pnp_labels.specs.declared.label.Label.{Label}
use Rattle.pnp_labels.specs.declared.label.OpKind.{OpKind}
use Rattle.pnp_labels.specs.declared.label.OpEnd.{OpEnd}

-- in the run of these entries, which leads to s, an operation of the kind began for the device of the path, and none has ended since
pub record HasBegun (settings : Settings) (rack : List Driver) (entries : List Entry) (s : State) (kind : OpKind) (path : Text) : Type 0 where
  pub earlier : List Entry
  pub later : List Entry
  pub before : State
  pub begun : State
  pub all : entries ≡ earlier ++ Did (Label.Begin kind path) ∷ later
  pub reaches : Reaches settings rack earlier before
  pub begins : Goes settings before (Did (Label.Begin kind path)) begun
  pub run : Run settings begun later s
  pub within : AllWithin later

-- what has to have begun where this is printed
abbrev pub Belongs : Settings → List Driver → List Entry → State → Label → Type 0
Belongs settings rack entries s (Label.End kind path result) = HasBegun settings rack entries s kind path
Belongs settings rack entries s (Label.Trouble path Problem.NormalConflict) = HasBegun settings rack entries s OpKind.Rebalance path
Belongs settings rack entries s _ = Unit {0}

abbrev pub OperationsBeginLaw : Type 0
OperationsBeginLaw =
    (settings : Settings) (rack : List Driver) (entries : List Entry) (s : State) (entry : Entry) (t : State)
    → Reaches settings rack entries s → Goes settings s entry t → Belongs settings rack entries s (printed entry)

-- what stands behind problem 12 of a device: the rebalance that began for it, the devices that can move, in order of serial, and that nothing fits
pub record Conflicts (settings : Settings) (rack : List Driver) (entries : List Entry) (s : State) (path : Text) : Type 0 where
  pub began : HasBegun settings rack entries s OpKind.Rebalance path
  pub movers : List ℕ
  pub free : AreFree settings began.begun began.later s movers
  pub device : ℕ
  pub node : Node
  pub there : node_at device s.core.nodes ≡ Some node
  pub named : node.path ≡ path
  pub none : NothingFits s.core (device ∷ movers)

-- each problem 12 that is printed is real
abbrev pub EachConflictIsRealLaw : Type 0
EachConflictIsRealLaw =
    (settings : Settings) (rack : List Driver) (entries : List Entry) (s : State) (entry : Entry) (t : State) (path : Text)
    → Reaches settings rack entries s → Goes settings s entry t → printed entry ≡ Label.Trouble path Problem.NormalConflict
    → Conflicts settings rack entries s path

-- a change that found nothing, or whose device would not stop, restores everything
abbrev pub UnchangedRestoresLaw : Type 0
UnchangedRestoresLaw =
    (settings : Settings) (rack : List Driver) (earlier entries : List Entry) (before begun last after : State) (path end_path : Text) (result : OpEnd)
    → Reaches settings rack earlier before → Goes settings before (Did (Label.Begin OpKind.Change path)) begun
    → Run settings begun entries last → AllWithin entries
    → Goes settings last (Did (Label.End OpKind.Change end_path result)) after → result ≢ OpEnd.Moved
    → Restores before.core after.core

-- what an end restores: a veto, or that of a change that was not made, all that was before the begin; a rebalance that found nothing
-- all but the problem of its device
abbrev pub Restoring : Settings → List Driver → List Entry → State → State → Label → Type 0
Restoring settings rack entries s t (Label.End kind path (OpEnd.Veto refuser)) = (b : HasBegun settings rack entries s kind path) × Restores b.before.core t.core
Restoring settings rack entries s t (Label.End OpKind.Rebalance path OpEnd.NoFit) = (b : HasBegun settings rack entries s OpKind.Rebalance path) × RestoresBut path b.before.core t.core
Restoring settings rack entries s t (Label.End OpKind.Rebalance path OpEnd.Spent) = (b : HasBegun settings rack entries s OpKind.Rebalance path) × RestoresBut path b.before.core t.core
Restoring settings rack entries s t (Label.End OpKind.Change path OpEnd.NoFit) = (b : HasBegun settings rack entries s OpKind.Change path) × Restores b.before.core t.core
Restoring settings rack entries s t (Label.End OpKind.Change path OpEnd.Spent) = (b : HasBegun settings rack entries s OpKind.Change path) × Restores b.before.core t.core
Restoring settings rack entries s t (Label.End OpKind.Change path OpEnd.Refused) = (b : HasBegun settings rack entries s OpKind.Change path) × Restores b.before.core t.core
Restoring settings rack entries s t _ = Unit {0}

-- each such end that is printed restores
abbrev pub EachEndRestoresLaw : Type 0
EachEndRestoresLaw =
    (settings : Settings) (rack : List Driver) (entries : List Entry) (s : State) (entry : Entry) (t : State)
    → Reaches settings rack entries s → Goes settings s entry t → Restoring settings rack entries s t (printed entry)
