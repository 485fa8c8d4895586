-- What a status says of a live run, of the files that were read for it, and of what was written.
use Rattle.std.specs.Prelude.{ℕ, ◌≡◌, ◌<◌, ◌≤◌, ◌⊎◌, Bool, true, false, List, ◌∷◌, length, min, Option, Some, None, Result, Ok, Err}
use Rattle.inf_reader.specs.declared.parts.Inf.{Inf}
use Rattle.live_io.specs.Turns.{HasSaid, HasSaidFront, Past}
use Rattle.pnp_io.specs.Outside.{Appends, AppendsFront, Holds}
use Rattle.pnp_labels.specs.Texts.{Text}
use Rattle.pnp_labels.specs.declared.event.Event.{Event}
use Rattle.pnp_model.specs.Records.{Settings}
use Rattle.script_reader.specs.Script.{Trace, gives, trace}
use Rattle.script_reader.specs.declared.next.Next.{Next}
use Rattle.script_reader.specs.declared.next.Next.TheVariants as nexts
use Rattle.free_model.specs.Checks.{IsOfMachine}
use Rattle.free_model.specs.Frees.{free_opening}
use Rattle.free_run.specs.FreeRuns.{Free, settings}
use Rattle.live_laws.specs.Scripts.{HasNoClients}
use Rattle.live_model.specs.Fronts.{GreetsFront, HasBegun, HasLived}
use Rattle.live_model.specs.Lives.{Lives}
use Rattle.live_model.specs.Outputs as outputs
use Rattle.live_model.specs.Outputs.{Acts, Greets, Stand, Told, beginning, untalked}
use Rattle.live_run.specs.Runs.{how}
use Rattle.live_run.specs.declared.stop.DriveError.{DriveError}
use Rattle.live_run.specs.declared.stop.Ended.{Ended}
use Rattle.drive_cli.specs.Files.{AreRead, program_kinds}
use Rattle.drive_cli.specs.declared.fault.DriveFault.{DriveFault}
use Rattle.drive_cli.specs.declared.status.Status.{Status}

abbrev pub ended_status : Ended → Status
ended_status Ended.Done = Status.Done
ended_status Ended.BadLine = Status.BadLine
ended_status Ended.AnswersEnd = Status.AnswersEnd
ended_status Ended.AnswersBad = Status.AnswersBad

abbrev pub error_status : DriveError → Status
error_status DriveError.ReadFault = Status.ReadFault
error_status DriveError.WriteFault = Status.WriteFault
error_status DriveError.WantOfMemory = Status.WantOfMemory
error_status DriveError.TooLarge = Status.TooLarge

-- The INFs and the script of these names are read, the machine stands before its first event, over the drivers of the program, and this is what the
-- script gives, which has no lines of clients.
pub record IsNamed (contents : Option (Text → Option Text)) (script : Text) (infs : List Text) (budget : ℕ) (machine : Free) (rest : Trace) : Type 0 where
  pub read : List Inf
  pub are : AreRead contents infs read
  pub bytes : Text
  pub holds : Holds contents script bytes
  pub machine_is : machine ≡ record { infs = read; budget = budget; events = 0; state = free_opening program_kinds }
  pub rest_is : rest ≡ trace true 0 bytes
  pub free : HasNoClients rest

-- what was said where the machine ran: up to this end of the run, or a front of it
abbrev pub Runs : Status → Lives → Settings → Stand → Option Past → Option Text → Type 0
Runs Status.Done lives told first past taken = HasLived lives told first outputs.Done past taken
Runs Status.BadLine lives told first past taken = HasLived lives told first outputs.BadLine past taken
Runs Status.AnswersEnd lives told first past taken = HasLived lives told first outputs.AnswersEnd past taken
Runs Status.AnswersBad lives told first past taken = HasLived lives told first outputs.AnswersBad past taken
Runs Status.ReadFault lives told first past taken = HasBegun lives told (Acts first) past taken
Runs Status.WriteFault lives told first past taken = HasBegun lives told (Acts first) past taken
Runs Status.WantOfMemory lives told first past taken = HasBegun lives told (Acts first) past taken
Runs Status.TooLarge lives told first past taken = HasBegun lives told (Acts first) past taken
Runs _ lives told first past taken = ⊥

-- the file of the script has a line of a client
pub record HasClient (contents : Option (Text → Option Text)) (script : Text) : Type 0 where
  pub bytes : Text
  pub holds : Holds contents script bytes
  pub client : HasNoClients (trace true 0 bytes) → ⊥

-- statuses where a file was not read; and where the line of a refused INF was not written whole
abbrev pub IsUnread : Status → Type 0
IsUnread Status.ReadFault = Unit {0}
IsUnread Status.WantOfMemory = Unit {0}
IsUnread Status.TooLarge = Unit {0}
IsUnread _ = ⊥

abbrev pub IsUnsaid : Status → Type 0
IsUnsaid Status.ReadFault = Unit {0}
IsUnsaid Status.WriteFault = Unit {0}
IsUnsaid Status.WantOfMemory = Unit {0}
IsUnsaid _ = ⊥

-- What a status says where the other side was greeted: the machine ran over what the names hold; or a file was not read, or the script has a line of
-- a client, and nothing was said; or an INF is refused, and a line was said, or a front of one.
pub data Outcome (contents : Option (Text → Option Text)) (script : Text) (infs : List Text) (lives : Lives) (budget : ℕ) (t : Told) (past : Option Past) (taken : Option Text) : Status → Type 0 where
  ran : (status : Status) (machine : Free) (rest : Trace) → IsNamed contents script infs budget machine rest
      → Runs status lives (settings machine) (beginning machine.state t rest) past taken → Outcome contents script infs lives budget t past taken status
  unread : (status : Status) → IsUnread status → past ≡ t.past → taken ≡ t.taken → Outcome contents script infs lives budget t past taken status
  has_clients : HasClient contents script → past ≡ t.past → taken ≡ t.taken → Outcome contents script infs lives budget t past taken Status.HasClients
  refused : (line : Text) → HasSaid t.past past line → Appends t.taken taken line → Outcome contents script infs lives budget t past taken Status.BadInf
  unsaid : (status : Status) → IsUnsaid status → (line : Text) → HasSaidFront t.past past line → AppendsFront t.taken taken line
      → Outcome contents script infs lives budget t past taken status

-- What a status says of the names: the answers could not be taken; or the other side was not greeted, and that was said; or a front was; or it was
-- greeted, and the run began.
pub data Answered (contents : Option (Text → Option Text)) (script : Text) (infs : List Text) (lives : Lives) (budget : ℕ) (first : Told) (past : Option Past) (taken : Option Text) : Status → Type 0 where
  unopened : past ≡ first.past → taken ≡ first.taken → Answered contents script infs lives budget first past taken Status.WantOfMemory
  greeted_badly : (ended : Ended) (answers : Option Text) → Greets first (Some (how ended)) (untalked past taken answers)
      → Answered contents script infs lives budget first past taken (ended_status ended)
  greeting_failed : (error : DriveError) → GreetsFront first past taken → Answered contents script infs lives budget first past taken (error_status error)
  began : (status : Status) (t : Told) → Greets first None t → Outcome contents script infs lives budget t past taken status
      → Answered contents script infs lives budget first past taken status

-- the same of a list of names: the answers, a script and up to 64 INFs; of another list, that the words are bad, and nothing was said
abbrev pub AnswersOf : Option (Text → Option Text) → (Text → Option Text) → List Text → Lives → ℕ → Option Past → Option Text → Option Past → Option Text → Status → Type 0
AnswersOf contents held (answers ∷ script ∷ infs) lives budget past taken past' taken' status =
    ((length infs ≤ 64) × Answered contents script infs lives budget (untalked past taken (held answers)) past' taken' status)
    ⊎ ((64 < length infs) × (status ≡ Status.BadWords) × (past' ≡ past) × (taken' ≡ taken))
AnswersOf contents held _ lives budget past taken past' taken' status = (status ≡ Status.BadWords) × (past' ≡ past) × (taken' ≡ taken)

-- what a fault says before the machine runs
abbrev pub FaultSays : DriveFault → Status → Option Past → Option Text → Option Past → Option Text → Type 0
FaultSays DriveFault.BadWords status past taken past' taken' = status ≡ Status.BadWords
FaultSays DriveFault.ReadFault status past taken past' taken' = (status ≡ Status.ReadFault) × (past' ≡ past) × (taken' ≡ taken)
FaultSays DriveFault.WantOfMemory status past taken past' taken' = (status ≡ Status.WantOfMemory) × (past' ≡ past) × (taken' ≡ taken)
FaultSays DriveFault.TooLarge status past taken past' taken' = (status ≡ Status.TooLarge) × (past' ≡ past) × (taken' ≡ taken)
FaultSays DriveFault.Client status past taken past' taken' = (status ≡ Status.HasClients) × (past' ≡ past) × (taken' ≡ taken)
FaultSays (DriveFault.Refused number error) status past taken past' taken' =
    (line : Text) × (((status ≡ Status.BadInf) × HasSaid past past' line × Appends taken taken' line) ⊎ (IsUnsaid status × HasSaidFront past past' line × AppendsFront taken taken' line))

abbrev pub event_in : Next → Option Event
event_in (nexts.Event event) = Some event
event_in _ = None

-- what is next of a script; or there is no event more
abbrev pub GivesNext : Option Event → Trace → Trace → Type 0
GivesNext (Some event) old new = (number : ℕ) × (old ≡ gives number event new)
GivesNext None old new = HasNoClients old

-- it is one of a client; or it is not
abbrev pub IfClient : Bool → Event → Type 0
IfClient true event = IsOfMachine event → ⊥
IfClient false event = IsOfMachine event

abbrev pub run_status : Result Ended DriveError → Status
run_status (Ok ended) = ended_status ended
run_status (Err error) = error_status error

-- the budget that is given, or 20,000
abbrev pub budget_of : Option ℕ → ℕ
budget_of None = min 20000 1000000
budget_of (Some budget) = min budget 1000000

-- what a status says of words: that they are bad, or memory was refused, and nothing was said; or what it says of names, of drivers that are live,
-- and of a budget
pub data SaysOf (contents : Option (Text → Option Text)) (held : Text → Option Text) (past : Option Past) (taken : Option Text) (past' : Option Past) (taken' : Option Text) : Status → Type 0 where
  bad : past' ≡ past → taken' ≡ taken → SaysOf contents held past taken past' taken' Status.BadWords
  memory : past' ≡ past → taken' ≡ taken → SaysOf contents held past taken past' taken' Status.WantOfMemory
  names : (status : Status) (all : List Text) (lives : Lives) (budget : ℕ) → AnswersOf contents held all lives budget past taken past' taken' status
      → SaysOf contents held past taken past' taken' status
