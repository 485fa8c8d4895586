-- Two runs whose drivers give the same answers are one run, whatever else stands in the drivers' books; so each ask comes again.
use Rattle.std.specs.Prelude.{◌≡◌, ◌≢◌, ◌⊎◌, List, [], ◌∷◌, ◌++◌, Some}
use Rattle.pnp_labels.specs.Texts.{Text}
use Rattle.pnp_labels.specs.declared.event.Event.{Event}
use Rattle.pnp_labels.specs.declared.label.Label.{Label}
use Rattle.pnp_labels.specs.declared.label.Shown.{Shown}
use Rattle.pnp_labels.specs.declared.words.Answer.{Answer}
use Rattle.pnp_labels.specs.declared.words.DriverKind.{DriverKind}
use Rattle.pnp_model.specs.Books.{name_of}
use Rattle.pnp_model.specs.Laws.{Reaches}
use Rattle.pnp_model.specs.Machine.{IsQuiet}
use Rattle.pnp_model.specs.Records.{Driver, Settings, State}
use Rattle.pnp_model.specs.Runs.{Entry}
use Rattle.pnp_model.specs.Runs.Entry.{Did}
use Rattle.free_model.specs.Asking.{answered}
use Rattle.free_model.specs.Asks.{Query, next_query}
use Rattle.free_model.specs.Frees.{free_opening, with_rack}
use Rattle.free_model.specs.Runs.{FreeRun, without_teaching}
use Rattle.free_model.specs.Shapes.{faces}
use Rattle.pnp_promises.specs.Later.{NoneDeclined, happened}
use Rattle.free_pairs.specs.Answers.{answers}

-- one state but for the books of its drivers
pub record AreAlike (s t : State) : Type 0 where
  pub is : t ≡ with_rack t.core.rack s
  pub shown : faces t.core.rack ≡ faces s.core.rack

-- the entries without those that teach a driver
abbrev pub plain : List Entry → List Entry
plain entries = without_teaching entries

-- What came from outside in one run stands at the front of what came in the other: what happened, and what the drivers answered.
-- What drivers were taught may differ.
pub record ComesFirst (one two : List Entry) (more : List Event) (told : List Shown) : Type 0 where
  pub events : happened (plain two) ≡ happened (plain one) ++ more
  pub replies : answers two ≡ answers one ++ told

-- More came from outside than this: more happened, more was answered, or the machine waits for it, that is, it rests or a driver is to
-- be asked next.
pub data GoesBeyond (settings : Settings) (t : State) (more : List Event) (told : List Shown) : Type 0 where
  more_happened : more ≢ [] → GoesBeyond settings t more told
  more_answered : told ≢ [] → GoesBeyond settings t more told
  rests : IsQuiet settings t → GoesBeyond settings t more told
  asks : (q : Query) → next_query t ≡ Some q → GoesBeyond settings t more told

-- the label tells that the driver of this name was asked this for this device, and some answer
pub record TellsAsk (q : Query) (name : Text) (label : Label) : Type 0 where
  pub answer : Answer
  pub is : label ≡ answered q.what q.path name answer

-- the other run asked the same right after the same lines, or it stands there and asks it next
abbrev pub IsAskedAgain : Query → Text → List Entry → List Entry → State → Type 0
IsAskedAgain q name one two t =
    ((label : Label) × (rest : List Entry) × (plain two ≡ plain one ++ Did label ∷ rest) × TellsAsk q name label) ⊎ ((plain two ≡ plain one) × (next_query t ≡ Some q))

-- The laws over drivers of the same kinds and names ------------------------------------------------------------

-- Where what came from outside in one run stands at the front of what came in another, and the other goes beyond that, all that the one did
-- and printed stands at the front of what the other did and printed.
abbrev pub SameAnswersSameRunLaw : Type 0
SameAnswersSameRunLaw =
    (settings : Settings) (rack other : List Driver) (one two : List Entry) (s t : State) (more : List Event) (told : List Shown)
    → faces other ≡ faces rack → Reaches settings rack one s → Reaches settings other two t → NoneDeclined one → NoneDeclined two
    → ComesFirst one two more told → GoesBeyond settings t more told → (rest : List Entry) × (plain two ≡ plain one ++ rest)

-- After the same lines two runs are in one state but for the books.
abbrev pub SameLinesSameStateLaw : Type 0
SameLinesSameStateLaw =
    (settings : Settings) (rack other : List Driver) (one two : List Entry) (s t : State)
    → faces other ≡ faces rack → Reaches settings rack one s → Reaches settings other two t → NoneDeclined one → NoneDeclined two
    → plain two ≡ plain one → AreAlike s t

-- Whom a run is to ask next, what, and for which device, is asked after the same lines in each run in which the same came from outside so
-- far, and which goes beyond that.
abbrev pub AsksAreAskedAgainLaw : Type 0
AsksAreAskedAgainLaw =
    (settings : Settings) (rack other : List Driver) (one two : List Entry) (s t : State) (more : List Event) (told : List Shown) (q : Query)
    → faces other ≡ faces rack → Reaches settings rack one s → Reaches settings other two t → NoneDeclined one → NoneDeclined two
    → ComesFirst one two more told → GoesBeyond settings t more told → next_query s ≡ Some q → IsAskedAgain q (name_of s.core.rack q.driver) one two t

-- The same of runs whatever the drivers answer ------------------------------------------------------------------

abbrev pub FreeAnswersSameRunLaw : Type 0
FreeAnswersSameRunLaw =
    (settings : Settings) (kinds : List DriverKind) (one two : List Entry) (s t : State) (more : List Event) (told : List Shown)
    → FreeRun settings (free_opening kinds) one s → FreeRun settings (free_opening kinds) two t
    → ComesFirst one two more told → GoesBeyond settings t more told → (rest : List Entry) × (plain two ≡ plain one ++ rest)

abbrev pub FreeLinesSameStateLaw : Type 0
FreeLinesSameStateLaw =
    (settings : Settings) (kinds : List DriverKind) (one two : List Entry) (s t : State)
    → FreeRun settings (free_opening kinds) one s → FreeRun settings (free_opening kinds) two t → plain two ≡ plain one → AreAlike s t

abbrev pub FreeAsksAreAskedAgainLaw : Type 0
FreeAsksAreAskedAgainLaw =
    (settings : Settings) (kinds : List DriverKind) (one two : List Entry) (s t : State) (more : List Event) (told : List Shown) (q : Query)
    → FreeRun settings (free_opening kinds) one s → FreeRun settings (free_opening kinds) two t
    → ComesFirst one two more told → GoesBeyond settings t more told → next_query s ≡ Some q → IsAskedAgain q (name_of s.core.rack q.driver) one two t
