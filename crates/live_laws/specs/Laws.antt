-- What holds of each live run.
use Rattle.std.specs.Prelude.{ℕ, ◌≡◌, ◌⊎◌, List, [], ◌++◌, Option, Some}
use Rattle.live_io.specs.Turns.{Past}
use Rattle.pnp_labels.specs.Texts.{Text}
use Rattle.pnp_labels.specs.declared.words.DriverKind.{DriverKind}
use Rattle.pnp_model.specs.Endings.{joined}
use Rattle.pnp_model.specs.Laws.{Reaches}
use Rattle.pnp_model.specs.Records.{Driver, Settings, State}
use Rattle.pnp_model.specs.Runs.{Entry}
use Rattle.script_reader.specs.Script.{Trace}
use Rattle.free_model.specs.Checks.{IsYes, beginning}
use Rattle.free_model.specs.Frees.{free_opening, with_rack}
use Rattle.free_model.specs.Outputs.{MachinePrints, end_text}
use Rattle.live_model.specs.Fronts.{HasLived}
use Rattle.live_model.specs.Lived.{IsLived}
use Rattle.live_model.specs.Lives.{Lives}
use Rattle.live_model.specs.Outputs.{Acts, AnswersEnd, BadLine, Done, Ended, Leads, LiveOutput, Place, Told, end_line, stand_of}
use Rattle.live_model.specs.Outputs as live
use Rattle.live_laws.specs.Notes.{without_notes}
use Rattle.live_laws.specs.Scripts.{HasNoClients, IsWhole, end_of}
use Rattle.live_laws.specs.Talks.{AsksCameFirst}

-- The law: for a script and answers one output is written, in one way does the run end, and one script was lived.
abbrev pub OneLiveOutputLaw : Type 0
OneLiveOutputLaw =
    (lives : Lives) (settings : Settings) (kinds : List DriverKind) (script : Trace) (answers a b : Text) (x y : Ended) (m n : Trace)
    → LiveOutput lives settings kinds script answers a x m → LiveOutput lives settings kinds script answers b y n → (a ≡ b) × (x ≡ y) × (m ≡ n)

-- The law: and there is one. A live run over a script that was read whole comes to an end, whatever the answers are.
abbrev pub EachHasALiveOutputLaw : Type 0
EachHasALiveOutputLaw =
    (lives : Lives) (settings : Settings) (kinds : List DriverKind) (script : Trace) (answers : Text) → IsWhole script
    → (out : Text) × (ended : Ended) × (then_lived : Trace) × LiveOutput lives settings kinds script answers out ended then_lived

-- what a machine writes by the books, whose run came to the end of the script as it was given
pub record IsByBooks (settings : Settings) (kinds : List DriverKind) (script : Trace) (out : Text) (ended : Ended) (then_lived : Trace) : Type 0 where
  pub prints : MachinePrints settings (free_opening kinds) script out
  pub ended_is : Some ended ≡ end_of script
  pub script_is : then_lived ≡ script

-- The law: where no driver is live, the output is the one that the machine prints by the books.
abbrev pub NobodyLiveLaw : Type 0
NobodyLiveLaw =
    (lives : Lives) (settings : Settings) (kinds : List DriverKind) (script : Trace) (answers out : Text) (ended : Ended) (then_lived : Trace)
    → lives.names ≡ [] → HasNoClients script → LiveOutput lives settings kinds script answers out ended then_lived → IsByBooks settings kinds script out ended then_lived

-- The law: the same where drivers are live, and none was asked.
abbrev pub NobodyAskedLaw : Type 0
NobodyAskedLaw =
    (lives : Lives) (settings : Settings) (kinds : List DriverKind) (script : Trace) (answers out : Text) (ended : Ended) (then_lived : Trace)
    → HasNoClients script → (h : LiveOutput lives settings kinds script answers out ended then_lived) → h.run.last.told.asks ≡ 0
    → IsByBooks settings kinds script out ended then_lived

-- where the answers ended, all but the last line of the output is a front of the longer output; else that is the same
abbrev pub GoesOn : Ended → Text → Trace → Ended → Text → Trace → Type 0
GoesOn AnswersEnd a m y b n = (front : Text) × (rest : Text) × (ask : ℕ) × (a ≡ front ++ end_line ask) × (b ≡ front ++ rest)
GoesOn x a m y b n = (y ≡ x) × (b ≡ a) × (n ≡ m)

-- The law: more answers behind those that were given go on with the output, and change nothing that was written before.
abbrev pub FrontsLaw : Type 0
FrontsLaw =
    (lives : Lives) (settings : Settings) (kinds : List DriverKind) (script : Trace) (answers more a b : Text) (x y : Ended) (m n : Trace)
    → LiveOutput lives settings kinds script answers a x m → LiveOutput lives settings kinds script (answers ++ more) b y n → GoesOn x a m y b n

-- The law: each ask is said before its answer is heard, and nothing else is said in between.
abbrev pub AsksComeFirstLaw : Type 0
AsksComeFirstLaw =
    (lives : Lives) (settings : Settings) (kinds : List DriverKind) (script : Trace) (answers out : Text) (ended : Ended) (then_lived : Trace)
    (h : LiveOutput lives settings kinds script answers out ended then_lived)
    → (p : Past) × (h.run.last.told.past ≡ Some p) × AsksCameFirst answers out h.run.last.told.asks p

-- lines, and then the end of an output; without its notes it is a run of this script
pub record IsRunButNotes (settings : Settings) (kinds : List DriverKind) (script : Trace) (end out : Text) : Type 0 where
  pub lines : List Text
  pub is : out ≡ joined lines ++ end
  pub yes : IsYes settings (beginning kinds script) (joined (without_notes lines) ++ end)

-- The law: where the script came to its end, what is written is, but for its notes, a run of the script as it was lived.
abbrev pub EachLiveOutputIsARunLaw : Type 0
EachLiveOutputIsARunLaw =
    (lives : Lives) (settings : Settings) (kinds : List DriverKind) (script : Trace) (answers out : Text) (ended : Ended) (then_lived : Trace)
    → HasNoClients script → (ended ≡ Done) ⊎ (ended ≡ BadLine) → (h : LiveOutput lives settings kinds script answers out ended then_lived)
    → IsRunButNotes settings kinds then_lived (end_text h.run.last.state) out

-- The law: but for books, each state of a live run is one of the machine whatever its drivers answer.
abbrev pub EachLiveStateIsLivedLaw : Type 0
EachLiveStateIsLivedLaw =
    (lives : Lives) (settings : Settings) (kinds : List DriverKind) (told : Told) (script : Trace) (p : Place)
    → Leads lives settings (Acts (live.beginning (free_opening kinds) told script)) p → IsLived settings (stand_of p).state

-- with other books, a state of a run of the machine
pub record IsButBooks (settings : Settings) (s : State) : Type 0 where
  pub rack : List Driver
  pub own : List Driver
  pub entries : List Entry
  pub reaches : Reaches settings rack entries (with_rack own s)

-- The law: so, but for books, it is a state of a run by the books. What is proved of nodes, relations and labels in all these holds in it too.
abbrev pub LivedStatesAreOfRunsLaw : Type 0
LivedStatesAreOfRunsLaw = (settings : Settings) (s : State) → IsLived settings s → IsButBooks settings s

-- The law: what was said before a run began, as when the other side was greeted, changes nothing: what was written is a live output.
abbrev pub LivedIsAnOutputLaw : Type 0
LivedIsAnOutputLaw =
    (lives : Lives) (settings : Settings) (kinds : List DriverKind) (script : Trace) (t : Told) (answers out : Text) (ended : Ended) (past : Option Past)
    → t.asks ≡ 0 → t.taken ≡ Some [] → t.answers ≡ Some answers → HasLived lives settings (live.beginning (free_opening kinds) t script) ended past (Some out)
    → (then_lived : Trace) × LiveOutput lives settings kinds script answers out ended then_lived
