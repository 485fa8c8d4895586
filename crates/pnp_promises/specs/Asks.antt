-- How a request goes: which driver is asked, when it has ended, and who is asked at all.
use Rattle.std.specs.Prelude.{ℕ, ◌+◌, ◌-◌, ◌≡◌, ◌≢◌, ◌≤◌, ◌⊎◌, true, false, List, ◌∷◌, ◌++◌, Option, Some, None, Contains, length, slice_get}
use Rattle.pnp_labels.specs.Texts.{Text}
use Rattle.pnp_labels.specs.declared.label.Label.{Label}
use Rattle.pnp_labels.specs.declared.label.Shown.{Shown}
use Rattle.pnp_labels.specs.declared.states.DevState.{DevState}
use Rattle.pnp_labels.specs.declared.event.Rule.{Rule}
use Rattle.pnp_labels.specs.declared.words.Answer.{Answer}
use Rattle.pnp_labels.specs.declared.words.AskWhat.{AskWhat}
use Rattle.pnp_labels.specs.declared.words.Minor.{Minor}
use Rattle.pnp_labels.specs.declared.words.Minor.TheVariants.{Start, QueryRemove, Remove, CancelRemove, QueryStop, CancelStop}
use Rattle.pnp_model.specs.Books.{book_of, fits, name_of}
use Rattle.pnp_model.specs.Cores.{node_at}
use Rattle.pnp_model.specs.Diagram.{Row}
use Rattle.pnp_model.specs.Handles.{is_open}
use Rattle.pnp_model.specs.Laws.{Reaches}
use Rattle.pnp_model.specs.Records.{Driver, Node, Settings, State, Walk}
use Rattle.pnp_model.specs.Runs.{Entry, Goes, printed}
use Rattle.pnp_model.specs.Walks.{walk_of}
use Rattle.pnp_laws.specs.Told.{IsWalkOf}

-- The words ------------------------------------------------------------------------------------

-- START and what takes back a query go from the bottom of the stack up, all others from the top down
abbrev pub GoesUp : Minor → Type 0
GoesUp Start = Unit {0}
GoesUp CancelRemove = Unit {0}
GoesUp CancelStop = Unit {0}
GoesUp _ = ⊥

-- a driver may fail START and the queries, and nothing else
abbrev pub MayFail : Minor → Type 0
MayFail Start = Unit {0}
MayFail QueryRemove = Unit {0}
MayFail QueryStop = Unit {0}
MayFail _ = ⊥

-- of a stack of n drivers, place p is the one that comes when so many have answered
abbrev pub IsTurnOf : Minor → ℕ → ℕ → ℕ → Type 0
IsTurnOf minor n answered p = (GoesUp minor → p ≡ answered) × ((GoesUp minor → ⊥) → p + answered + 1 ≡ n)

-- the request on its way to the device: one that began before, or one that begins now
pub data Goes_on (s : State) (k : ℕ) (w : Walk) : Type 0 where
  began : IsWalkOf s k w → Goes_on s k w
  begins : w ≡ walk_of w.minor → Goes_on s k w

-- By which rule a driver answers ----------------------------------------------------------------------

abbrev pub fewer : Option ℕ → Option ℕ
fewer None = None
fewer (Some n) = Some (n - 1)

-- the rule has been used once more
abbrev pub once_more : Rule → Rule
once_more rule = record rule { uses = fewer rule.uses }

-- by the first rule of the book that fits and has uses left, which has one use less then; where none does, with ok
pub data ByBook (what : AskWhat) (path : Text) : List Rule → Answer → List Rule → Type 0 where
  no_rule : (book : List Rule) → ((r : Rule) → Contains book r → fits what path r ≡ false) → ByBook what path book Answer.Ok book
  by_rule : (before : List Rule) (rule : Rule) (after : List Rule) → ((r : Rule) → Contains before r → fits what path r ≡ false) → fits what path rule ≡ true
      → ByBook what path (before ++ rule ∷ after) rule.answer (before ++ once_more rule ∷ after)

abbrev pub book_at : State → ℕ → List Rule
book_at s d = book_of (slice_get s.core.rack d)

-- a failure that must not be shows as such
abbrev pub failing : Minor → Shown
failing Start = Shown.Fail
failing QueryRemove = Shown.Fail
failing QueryStop = Shown.Fail
failing _ = Shown.Violation

abbrev pub shows : Minor → Answer → Shown
shows minor Answer.Ok = Shown.Ok
shows minor Answer.Fail = failing minor
shows minor Answer.Pend = Shown.Pend

-- the driver answers by its book, and no other driver learns or forgets anything
pub record Replies (s : State) (minor : Minor) (path : Text) (shown : Shown) (asked : ℕ) (t : State) : Type 0 where
  pub answer : Answer
  pub is_shown : shown ≡ shows minor answer
  pub by_book : ByBook (AskWhat.Irp minor) path (book_at s asked) answer (book_at t asked)
  pub others : (d : ℕ) → d ≢ asked → slice_get t.core.rack d ≡ slice_get s.core.rack d

-- Which driver is asked ------------------------------------------------------------------------------

-- one driver of the device is asked: none waits, none that may fail has failed, and it is the next by the request's order; then
-- it has answered, or is waited for
pub record AsksNext (s : State) (minor : Minor) (path driver : Text) (shown : Shown) (t : State) : Type 0 where
  pub node : Node
  pub there : node_at node.serial s.core.nodes ≡ Some node
  pub named : node.path ≡ path
  pub walk : Walk
  pub on : Goes_on s node.serial walk
  pub own : walk.minor ≡ minor
  pub answers : walk.waits ≡ false
  pub none_failed : MayFail minor → walk.failed ≡ false
  pub place : ℕ
  pub next : IsTurnOf minor (length node.stack) walk.asked place
  pub asked : ℕ
  pub of_stack : slice_get node.stack place ≡ Some asked
  pub says : driver ≡ name_of s.core.rack asked
  pub replies : Replies s minor path shown asked t
  -- the device has the state for the request
  pub state : DevState
  pub row : Row node.state minor false state
  -- no handle is open to a device that is to go in order, or to lose its drivers
  pub closed : (minor ≡ QueryRemove) ⊎ (minor ≡ Remove) → is_open s.handles node.serial ≡ false

abbrev pub AsksAreInOrderLaw : Type 0
AsksAreInOrderLaw =
    (settings : Settings) (rack : List Driver) (entries : List Entry) (s : State) (entry : Entry) (t : State) (minor : Minor) (path driver : Text) (shown : Shown)
    → Reaches settings rack entries s → Goes settings s entry t → printed entry ≡ Label.Asked minor path driver shown → AsksNext s minor path driver shown t

-- When it has ended ------------------------------------------------------------------------------------

-- all n drivers have answered, or one failed that may
abbrev pub AllAnswered : Walk → ℕ → Type 0
AllAnswered w n = (n ≤ w.asked) ⊎ (MayFail w.minor × (w.failed ≡ true))

-- the state is printed when the request has ended
abbrev pub EndsWhenAnsweredLaw : Type 0
EndsWhenAnsweredLaw =
    (settings : Settings) (rack : List Driver) (entries : List Entry) (s : State) (entry : Entry) (t : State) (path : Text) (state : DevState) (k : ℕ) (n : Node)
    → Reaches settings rack entries s → Goes settings s entry t → printed entry ≡ Label.State path state → node_at k s.core.nodes ≡ Some n → n.path ≡ path
    → (w : Walk) × IsWalkOf s k w × AllAnswered w (length n.stack)
