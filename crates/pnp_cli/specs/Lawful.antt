-- That an output tells a run of the front and of the machine behind it, and what is kept by each state and each step of these.
use Rattle.std.specs.Prelude.{ℕ, ◌+◌, ◌*◌, ◌≤◌, ◌≡◌, ◌≢◌, ◌⊎◌, true, List, [], ◌∷◌, ◌++◌, Option, Some, None, Result, Ok, Err, map}
use Rattle.pnp_labels.specs.Texts.{Text}
use Rattle.pnp_labels.specs.declared.deed.Deed.{Deed}
use Rattle.pnp_labels.specs.declared.event.Event.{Event}
use Rattle.pnp_labels.specs.declared.states.Problem.{Problem}
use Rattle.pnp_labels.specs.declared.label.Label.{Label}
use Rattle.pnp_labels.specs.declared.label.OpEnd.{OpEnd}
use Rattle.pnp_labels.specs.declared.label.Shown.{Shown}
use Rattle.pnp_labels.specs.declared.words.Minor.{Minor}
use Rattle.pnp_labels.specs.declared.label.OpKind.{OpKind}
use Rattle.pnp_model.specs.Records as machines
use Rattle.pnp_model.specs.Records.{Beginning, Driver, State}
use Rattle.pnp_model.specs.Cores.{node_at}
use Rattle.pnp_model.specs.Endings.{print_order}
use Rattle.pnp_model.specs.Machine.{due, is_in_order}
use Rattle.pnp_model.specs.Runs.{Entry, Goes, Run, opening, printed}
use Rattle.pnp_model.specs.Runs.Entry.{Happens, Did, Declines}
use Rattle.pnp_model.specs.Diagram.{FollowsDiagram, Walked}
use Rattle.pnp_model.specs.Sharing.{Clear}
use Rattle.pnp_model.specs.Laws.{AllWithin, Reaches, HoldsWhole, DependentsFirst}
use Rattle.pnp_laws.specs.Begun.{Belongs, Restoring, Conflicts}
use Rattle.pnp_laws.specs.Ends.{events, joins}
use Rattle.pnp_laws.specs.Held.{AllHoldParts, NodesWithin, how_many}
use Rattle.pnp_laws.specs.Keys.{Keyed, IsAcyclic, NothingHeldClashes}
use Rattle.pnp_laws.specs.Printed.{TreeIsPrinted}
use Rattle.pnp_laws.specs.Stacks.{NamesDriver, StacksFit}
use Rattle.pnp_laws.specs.Strays.{NobodyForgotten}
use Rattle.pnp_laws.specs.Told.{StatesTold}
use Rattle.pnp_laws.specs.Waiting.{DependentsTold, NeitherRuns, OpenHandles, ReadyDue}
use Rattle.pnp_laws.specs.Windows.{InsideWindows}
use Rattle.pnp_promises.specs.Accepted.{IsDone}
use Rattle.pnp_promises.specs.Alone.{IsOfOperation}
use Rattle.pnp_promises.specs.Asks.{AsksNext}
use Rattle.pnp_promises.specs.Endings.{EndTells}
use Rattle.pnp_promises.specs.Keeps.{InTurn, KeepsHoldings}
use Rattle.pnp_promises.specs.Lines.{Means}
use Rattle.pnp_promises.specs.Named.{ChangesBy}
use Rattle.pnp_promises.specs.Pended.{IsCompletion}
use Rattle.pnp_promises.specs.Refusals.{AwaitsAnswer, ChangesNothing, IsExact}
use Rattle.pnp_promises.specs.Relations.{GoesWithDrivers}
use Rattle.pnp_promises.specs.Searches.{Costs}
use Rattle.pnp_promises.specs.Settled.{AllAreSettled, NothingLeft}
use Rattle.pnp_promises.specs.TreeOrder.{TreeStands}
use Rattle.client_promises.specs.Notices.{HasCause}
use Rattle.client_promises.specs.Registering.{After, IsExactOf, IsRegistered}
use Rattle.notify_front.specs.Fronts.{Front, FrontEntry, IsFrontQuiet, front_printed, on_set, opening_front}
use Rattle.notify_front.specs.Fronts.FrontEntry.{Passes, Tells, Watches}
use Rattle.notify_front.specs.Laws as notices
use Rattle.notify_front.specs.Laws.{AllHeard, HasNoClient, IsDeclinedAfter, IsMachineAlone, asked, is_told_of, results}
use Rattle.notify_front.specs.Notices.{FrontGoes, FrontRun, machine_part}
use Rattle.script_reader.specs.Script.{Trace, gives, waits, ends, stops}
use Rattle.inf_reader.specs.declared.parts.Inf.{Inf}
use Rattle.inf_reader.specs.declared.parts.InfError.{InfError}
use Rattle.inf_reader.specs.Meaning.{inf}
use Rattle.pnp_cli.specs.Outputs.{Report, written}
use Rattle.pnp_cli.specs.Generated.{gen_script, gen_inf}
use Rattle.pnp_cli.specs.Summaries.{summary}
use Rattle.pnp_cli.specs.Infs.{infs_in}
use Rattle.pnp_cli.specs.Contents.{events_of}
use Rattle.pnp_cli.specs.Runs.{IsOutput, Known, machine}
use Rattle.pnp_cli.specs.declared.infs.InfsError.{InfsError}

-- The run that an output tells ----------------------------------------------------------

-- the events that happened
abbrev pub happened : List FrontEntry → List Event
happened [] = []
happened (Passes (Happens event label) ∷ rest) = event ∷ happened rest
happened (Passes (Did label) ∷ rest) = happened rest
happened (Passes (Declines label) ∷ rest) = happened rest
happened (Watches event label ∷ rest) = event ∷ happened rest
happened (Tells label ∷ rest) = happened rest

-- the events of a script, up to its end or its first bad line
abbrev pub events_in : Trace → List Event
events_in (gives number event rest) = event ∷ events_in rest
events_in waits = []
events_in ends = []
events_in (stops number) = []

-- the text tells this run of the events, up to where nothing is next: it is the report of its labels and of its last state
pub record IsTold (settings : machines.Settings) (rack : List Driver) (t : Trace) (report : Report) (text : Text) (entries : List FrontEntry) (last : Front) : Type 0 where
  pub run : FrontRun settings (opening_front (opening rack)) entries last
  pub rests : IsFrontQuiet settings last
  pub events : happened entries ≡ events_in t
  pub is : text ≡ report (map front_printed entries) last.state

-- a step of a run of the front, with the entries before it
pub record IsFrontTurn (settings : machines.Settings) (rack : List Driver) (entries : List FrontEntry) (last : Front) (earlier : List FrontEntry) (old : Front) (entry : FrontEntry) (new : Front) : Type 0 where
  pub later : List FrontEntry
  pub all : entries ≡ earlier ++ entry ∷ later
  pub before : FrontRun settings (opening_front (opening rack)) earlier old
  pub goes : FrontGoes settings old entry new
  pub after : FrontRun settings new later last

-- a step of a run of the machine, with the entries before it
pub record IsStep (settings : machines.Settings) (rack : List Driver) (entries : List Entry) (last : State) (earlier : List Entry) (old : State) (entry : Entry) (new : State) : Type 0 where
  pub later : List Entry
  pub all : entries ≡ earlier ++ entry ∷ later
  pub before : Reaches settings rack earlier old
  pub goes : Goes settings old entry new
  pub after : Run settings new later last

-- a state of a run
pub record IsState (settings : machines.Settings) (rack : List Driver) (entries : List Entry) (last s : State) : Type 0 where
  pub earlier : List Entry
  pub later : List Entry
  pub all : entries ≡ earlier ++ later
  pub before : Reaches settings rack earlier s
  pub after : Run settings s later last

-- What is said of it ----------------------------------------------------------------------

-- what can be said of a run from the opening state of a rack on, over the events of a script, whose report is a text
abbrev pub Said : Type 1
Said = machines.Settings → List Driver → Trace → Report → Text → Type 0

-- the text tells a run
abbrev pub SomeRun : Said
SomeRun settings rack t report text = (entries : List FrontEntry) × (last : Front) × IsTold settings rack t report text entries last

-- the run of the front that it tells keeps a law
abbrev pub OfFrontRun : (machines.Settings → List Driver → List FrontEntry → Front → Type 0) → Said
OfFrontRun Law settings rack t report text =
    (entries : List FrontEntry) (last : Front) → IsTold settings rack t report text entries last → Law settings rack entries last

-- each step of it does
abbrev pub EachFrontStep : (List FrontEntry → Front → FrontEntry → Front → Type 0) → Said
EachFrontStep Law settings rack t report text =
    (entries : List FrontEntry) (last : Front) → IsTold settings rack t report text entries last
    → (earlier : List FrontEntry) (old : Front) (entry : FrontEntry) (new : Front) → IsFrontTurn settings rack entries last earlier old entry new
    → Law earlier old entry new

-- the machine's part of it keeps a law
abbrev pub OfRun : (List Entry → Type 0) → Said
OfRun Law settings rack t report text =
    (entries : List FrontEntry) (last : Front) → IsTold settings rack t report text entries last → Law (machine_part entries)

-- each state of that does
abbrev pub EachState : (State → Type 0) → Said
EachState Law settings rack t report text =
    (entries : List FrontEntry) (last : Front) → IsTold settings rack t report text entries last
    → (s : State) → IsState settings rack (machine_part entries) last.state s → Law s

-- each state of that does, with the entries before it
abbrev pub EachPassed : (List Entry → State → Type 0) → Said
EachPassed Law settings rack t report text =
    (entries : List FrontEntry) (last : Front) → IsTold settings rack t report text entries last
    → (s : State) (state : IsState settings rack (machine_part entries) last.state s) → Law state.earlier s

-- each step of that does
abbrev pub EachStep : (machines.Settings → List Driver → List Entry → State → Entry → State → Type 0) → Said
EachStep Law settings rack t report text =
    (entries : List FrontEntry) (last : Front) → IsTold settings rack t report text entries last
    → (earlier : List Entry) (old : State) (entry : Entry) (new : State) → IsStep settings rack (machine_part entries) last.state earlier old entry new
    → Law settings rack earlier old entry new

-- for a script that is there
abbrev pub OfScript : Said → machines.Settings → List Driver → Option (List ℕ) → Text → Type 0
OfScript Says settings rack None text = Unit {0}
OfScript Says settings rack (Some script) text = Says settings rack (events_of script) (written (events_of script)) text

-- where all INFs are taken
abbrev pub OfInfs : Said → List Driver → ℕ → Result (List Inf) InfsError → Option (List ℕ) → Text → Type 0
OfInfs Says rack budget (Ok infs) script text = OfScript Says (machine infs budget) rack script text
OfInfs Says rack budget (Err error) script text = Unit {0}

-- for a generated script, of which the summary is written
abbrev pub OfMade : Said → List Driver → ℕ → ℕ → Result Inf InfError → Text → Type 0
OfMade Says rack budget n (Ok read) text = Says (machine (read ∷ []) budget) rack (events_of (gen_script n)) (summary n) text
OfMade Says rack budget n (Err error) text = Unit {0}

-- by whether a script is named, or else how many devices are generated
abbrev pub OfSource : Said → List Driver → ℕ → (Text → Option (List ℕ)) → List Text → Option Text → Option ℕ → Text → Type 0
OfSource Says rack budget told infs (Some name) made text = OfInfs Says rack budget (infs_in told infs) (told name) text
OfSource Says rack budget told infs None (Some n) text = OfMade Says rack budget n (inf gen_inf) text
OfSource Says rack budget told infs None None text = Unit {0}

-- it is so of the output for the words, the contents that their files tell, and the kinds and books of a rack, where no trace is to be checked
abbrev pub OfOutput : Said → List Text → Option (Text → Option (List ℕ)) → List Driver → Type 0
OfOutput Says words contents rack =
    Known words contents (λ s told. s.check ≡ None → (text : Text) → IsOutput rack told s text → OfSource Says rack s.budget told s.infs s.script s.made text)

-- The laws ----------------------------------------------------------------------------------

-- devices change their states by the diagram, and join and leave without drivers
abbrev pub ByDiagram : machines.Settings → List Driver → List Entry → State → Entry → State → Type 0
ByDiagram settings rack earlier old entry new =
    FollowsDiagram (printed entry) old.core.nodes new.core.nodes × Walked (printed entry) old.core.nodes new.core.nodes

-- no two resources among all holdings and the reserved ranges clash
abbrev pub NothingClashes : State → Type 0
NothingClashes s = Clear s.core.reserved s.core.nodes

-- devices that are up hold one whole alternative, and devices without drivers hold nothing
abbrev pub AllHoldWhole : State → Type 0
AllHoldWhole s = HoldsWhole s.core.nodes

-- an end, and problem 12, come only where their operation began and has not ended since
abbrev pub OperationsBegan : machines.Settings → List Driver → List Entry → State → Entry → State → Type 0
OperationsBegan settings rack earlier old entry new = Belongs settings rack earlier old (printed entry)

-- a veto restores all that was before the operation began; a rebalance that found nothing all but the problem of its device
abbrev pub EndsRestore : machines.Settings → List Driver → List Entry → State → Entry → State → Type 0
EndsRestore settings rack earlier old entry new = Restoring settings rack earlier old new (printed entry)

-- a device loses its drivers after all that depend on it, and a node leaves after all below it
abbrev pub DependentsGoFirst : machines.Settings → List Driver → List Entry → State → Entry → State → Type 0
DependentsGoFirst settings rack earlier old entry new = DependentsFirst (printed entry) old.core new.core

-- problem 12 comes only where no assignment exists for the device and all that can move
abbrev pub ConflictsAreReal : machines.Settings → List Driver → List Entry → State → Entry → State → Type 0
ConflictsAreReal settings rack earlier old entry new =
    (path : Text) → printed entry ≡ Label.Trouble path Problem.NormalConflict → Conflicts settings rack earlier old path

-- at most 4,096 times as many nodes join as events happened
abbrev pub FewJoin : List Entry → Type 0
FewJoin entries = joins entries ≤ 4096 * events entries

-- only the device whose path is printed changes its state, by the row of the request that has just ended there
abbrev pub AllStatesTold : machines.Settings → List Driver → List Entry → State → Entry → State → Type 0
AllStatesTold settings rack earlier old entry new = StatesTold (printed entry) old new

-- serials ascend; birth numbers, and paths up to ASCII case, name one node; each node but the root has its parent
abbrev pub NodesAreKeyed : State → Type 0
NodesAreKeyed s = Keyed s

-- nothing depends on itself
abbrev pub NothingOnItself : State → Type 0
NothingOnItself s = IsAcyclic s.core

-- no two of all that is reserved or held clash, of the one list that is printed
abbrev pub MapIsClear : State → Type 0
MapIsClear s = NothingHeldClashes s.core

-- a device has at most 16 drivers, each with a name
abbrev pub AllStacksFit : State → Type 0
AllStacksFit s = StacksFit s

-- a driver that is asked or added is printed by its name
abbrev pub NamesAreKnown : machines.Settings → List Driver → List Entry → State → Entry → State → Type 0
NamesAreKnown settings rack earlier old entry new = NamesDriver (printed entry) new.core.rack

-- where no operation runs, a device that was stopped, or that holds something and is not up, is being started or is due to go
abbrev pub NobodyIsForgotten : State → Type 0
NobodyIsForgotten s = s.operation ≡ None → NobodyForgotten s

-- each device holds one whole alternative, or nothing
abbrev pub EachHoldsPart : State → Type 0
EachHoldsPart s = AllHoldParts s.core.nodes

-- what a device holds lies inside the windows of every device above it
abbrev pub HeldInsideWindows : State → Type 0
HeldInsideWindows s = InsideWindows s

-- who has an open handle is up or waits to be finished; and where neither a surprise removal nor a finish runs, what depends on
-- a device that waits to be finished waits as well, and one that is ready has a task that finishes it
abbrev pub HandlesAreKept : State → Type 0
HandlesAreKept s = OpenHandles s × (NeitherRuns s.operation → DependentsTold s.core × ReadyDue s)

-- who is asked is asked in order, in a state that has a row, and answers by its book
abbrev pub AsksInOrder : State → Label → State → Type 0
AsksInOrder old label new = (minor : Minor) (path driver : Text) (shown : Shown) → label ≡ Label.Asked minor path driver shown → AsksNext old minor path driver shown new

-- of a device that is there before and after a line what the line names changes, and nothing else
abbrev pub NamedAlone : State → Label → State → Type 0
NamedAlone old label new =
    (k : ℕ) (n m : machines.Node) → node_at k old.core.nodes ≡ Some n → node_at k new.core.nodes ≡ Some m → (m ≡ n) ⊎ ChangesBy old label n m

-- no relation is made, and those of a device that loses its drivers are forgotten
abbrev pub RelationsGo : State → Label → State → Type 0
RelationsGo old label new = (new.core.relations ≡ old.core.relations) ⊎ GoesWithDrivers old label new

-- while an operation runs nothing is being started, and each step is its own
abbrev pub IsAlone : State → Label → Type 0
IsAlone old label = (o : machines.Job) → old.operation ≡ Some o → (old.activities ≡ []) × IsOfOperation label

-- what a line says is so, a search keeps its budget, and each line changes what it names, and nothing else
abbrev pub LinePromised : machines.Settings → State → Label → State → Type 0
LinePromised settings old label new =
    Means settings old label new × AsksInOrder old label new × Costs settings old label × NamedAlone old label new × RelationsGo old label new × IsAlone old label

-- a refused event changes nothing, and its cause is the first that holds; an accepted one is done, and nothing else; and what a line says is so
abbrev pub PromisesKept : machines.Settings → List Driver → List Entry → State → Entry → State → Type 0
PromisesKept settings rack earlier old (Happens event label) new = ChangesNothing old label new × IsExact old event label × IsDone old event label new
PromisesKept settings rack earlier old (Did label) new = LinePromised settings old label new
PromisesKept settings rack earlier old (Declines label) new = Unit {0}

-- a request whose answer is waited for waits until it is completed
abbrev pub PendedWaits : State → Entry → State → Type 0
PendedWaits old entry new = (k : ℕ) (minor : Minor) → AwaitsAnswer old k minor → AwaitsAnswer new k minor ⊎ IsCompletion old entry k minor

-- tasks are taken in turn, a running device keeps what it holds, and what is pended waits
abbrev pub KeptRunning : machines.Settings → List Driver → List Entry → State → Entry → State → Type 0
KeptRunning settings rack earlier old entry new = InTurn old new × KeepsHoldings old new × PendedWaits old entry new

-- what the end would tell is so; under `tree` each line stands below that of its parent; and where nothing is left to do each device is Started
-- without a problem, has no drivers and a problem, or has gone
abbrev pub EndIsSo : State → Type 0
EndIsSo s = EndTells s × TreeStands (print_order s.core.nodes) × (NothingLeft s → AllAreSettled s)

-- no alternative of a device has more than 16 groups; and where none has more than some number, at most one more than that
-- number is held or reserved for each event, and for the root
abbrev pub FewAreHeld : List Entry → State → Type 0
FewAreHeld earlier s = NodesWithin 16 s.core.nodes × ((most : ℕ) → NodesWithin most s.core.nodes → how_many s.core ≤ (most + 1) * (events earlier + 1))

-- the name that is printed for it is not empty
abbrev pub ShowsName : Label → Type 0
ShowsName (Label.Asked minor path name shown) = name ≢ []
ShowsName (Label.Add path name ok) = name ≢ []
ShowsName _ = Unit {0}

abbrev pub NamesAreShown : machines.Settings → List Driver → List Entry → State → Entry → State → Type 0
NamesAreShown settings rack earlier old entry new = ShowsName (printed entry)

-- under `tree` each node has one line, and each line is of a node
abbrev pub TreeIsWhole : State → Type 0
TreeIsWhole s = TreeIsPrinted s.core.nodes

-- The laws of clients -------------------------------------------------------------------------

-- without its notices and the events of clients the run is one of the machine
abbrev pub MachineRuns : machines.Settings → List Driver → List FrontEntry → Front → Type 0
MachineRuns settings rack entries last = Reaches settings rack (machine_part entries) last.state

-- where a disable or an eject begins, all clients on its device and on what depends on it were asked directly before, in order, and each agreed
abbrev pub ClientsWereAsked : List FrontEntry → Front → FrontEntry → Front → Type 0
ClientsWereAsked earlier old entry new =
    (label : Label) (first : Beginning) → entry ≡ Passes (Did label) → due old.state ≡ Some first → is_in_order first.kind ≡ true
    → (before : List FrontEntry) × (earlier ≡ before ++ map asked (on_set old first.serial))

-- before a disable or an eject is declined, some clients were asked directly before, in order, of which the last one refused and is named;
-- then those that agreed heard of it, the last one first
abbrev pub ClientsDecline : List FrontEntry → Front → FrontEntry → Front → Type 0
ClientsDecline earlier old entry new = (label : Label) → entry ≡ Passes (Declines label) → IsDeclinedAfter earlier old label

-- an event of a client is refused by the first cause that holds, or done; a notice has its cause; and registrations come and go so alone
abbrev pub ClientsPromised : List FrontEntry → Front → FrontEntry → Front → Type 0
ClientsPromised earlier old (Watches event label) new = IsExactOf old event label new × ((deed : Deed) → label ≡ Label.Did deed → IsRegistered old event deed new)
ClientsPromised earlier old (Tells label) new = HasCause earlier old label × After old (Tells label) new
ClientsPromised earlier old (Passes entry) new = After old (Passes entry) new

-- a notice and a `declined` leave nodes, relations, reserved ranges and every book as they are
abbrev pub NoticesKeepAll : List FrontEntry → Front → FrontEntry → Front → Type 0
NoticesKeepAll earlier old entry new = notices.IsTold entry → new.state.core ≡ old.state.core

-- directly after the end of a disable, an eject or a surprise all clients on its set at the begin hear the result, one after another and each
-- registration once; then nothing is at hand
abbrev pub ClientsHear : machines.Settings → List Driver → List FrontEntry → Front → Type 0
ClientsHear settings rack entries last =
    (earlier during more : List FrontEntry) (f g h i : Front) (label : Label) (first : Beginning) (kind : OpKind) (path : Text) (result : OpEnd)
    → entries ≡ earlier ++ Passes (Did label) ∷ (during ++ Passes (Did (Label.End kind path result)) ∷ more)
    → FrontRun settings (opening_front (opening rack)) earlier f → FrontGoes settings f (Passes (Did label)) g → due f.state ≡ Some first → is_told_of first.kind ≡ true
    → FrontRun settings g during h → AllWithin (machine_part during)
    → FrontGoes settings h (Passes (Did (Label.End kind path result))) i → FrontRun settings i more last
    → AllHeard settings (results result (on_set f first.serial)) i more last

-- where no event is one of a client, nothing but what the machine does alone
abbrev pub MachineAlone : machines.Settings → List Driver → List FrontEntry → Front → Type 0
MachineAlone settings rack entries last = HasNoClient entries → IsMachineAlone entries
