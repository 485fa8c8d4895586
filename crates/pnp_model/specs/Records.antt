-- What the machine's state is made of.
use Rattle.std.specs.Prelude.{ℕ, Bool, List, Option}
use Rattle.resource_reqs.specs.Resources.{Res, Reqs}
use Rattle.pnp_labels.specs.Texts.{Text}
use Rattle.pnp_labels.specs.declared.states.DevState.{DevState}
use Rattle.pnp_labels.specs.declared.words.Minor.{Minor}
use Rattle.pnp_labels.specs.declared.states.Problem.{Problem}
use Rattle.pnp_labels.specs.declared.event.Rule.{Rule}
use Rattle.pnp_labels.specs.declared.words.DriverKind.{DriverKind}
use Rattle.pnp_labels.specs.declared.words.RelKind.{RelKind}
use Rattle.pnp_labels.specs.declared.label.OpKind.{OpKind}
use Rattle.pnp_labels.specs.declared.label.Label.{Label}
use Rattle.resource_reqs.specs.Spelling as spelling

-- a device of the world
pub record Device : Type 0 where
  pub born : ℕ
  pub parent : ℕ
  pub path : Text
  pub hw : List Text
  pub compat : List Text
  pub reqs : Reqs

-- a device node
pub record Node : Type 0 where
  pub serial : ℕ
  pub parent : ℕ
  pub born : ℕ
  pub path : Text
  pub hw : List Text
  pub compat : List Text
  pub reqs : Reqs
  pub state : DevState
  pub problem : Option Problem
  pub stack : List ℕ
  pub holds : List Res

-- how many handles to the device are open: at least one
pub record Handle : Type 0 where
  pub serial : ℕ
  pub count : ℕ

-- the device of this birth number passes on only what lies in this range of its kind
pub record Window : Type 0 where
  pub born : ℕ
  pub res : Res

-- a driver of the rack
pub record Driver : Type 0 where
  pub kind : DriverKind
  pub name : Option Text
  pub book : List Rule

-- the member loses its drivers when the owner does
pub record Relation : Type 0 where
  pub kind : RelKind
  pub owner : ℕ
  pub member : ℕ

-- what activities and operations work on
pub record Core : Type 0 where
  pub nodes : List Node
  pub relations : List Relation
  pub rack : List Driver
  pub reserved : List Res

-- one request on its way through a stack: how many drivers have answered, whether the last of them
-- failed, and whether the next one was asked and has not answered
pub record Walk : Type 0 where
  pub minor : Minor
  pub asked : ℕ
  pub failed : Bool
  pub waits : Bool

-- where the start of a device stands
pub data Phase : Type 0 where
  Adding : (drivers : List ℕ) → Phase  -- these are still to be added
  Searching : Phase
  Starting : (walk : Walk) → Phase
  Removing : (walk : Walk) → Phase
  Due : (problem : Problem) → Phase

pub record Activity : Type 0 where
  pub serial : ℕ
  pub phase : Phase

-- what a search gives: `assignment plan`, `no_fit` or `spent`
abbrev pub Found : Type 0
Found = spelling.Answer

-- how an operation goes: a change is a rebalance with what is wanted, a disable and an eject are removals in order
pub data Course : Type 0 where
  Rebalancing : Course
  Removing : Course
  Surprising : Course
  Finishing : Course

abbrev pub course_of : OpKind → Course
course_of OpKind.Rebalance = Course.Rebalancing
course_of OpKind.Change = Course.Rebalancing
course_of OpKind.Disable = Course.Removing
course_of OpKind.Eject = Course.Removing
course_of OpKind.Surprise = Course.Surprising
course_of OpKind.Finish = Course.Finishing

-- what is done with the device that is next, the head of `todo`
pub data Stage : Type 0 where
  Next : Stage  -- it is asked or finished, or passed over; in a finish, the ready device of the greatest serial is taken
  Asking : Stage  -- whether it may stop, or may be removed
  TakingBack : Stage  -- it refused, and is told that it stays
  Cancelling : Stage  -- it agreed, and is told that it stays
  Searching : Stage  -- none is next
  Stuck : Stage  -- the problem of the target is due
  Stopping : Stage
  Committing : Stage
  Restarting : Stage
  Failed : Stage  -- problem 10 is due
  Telling : Stage  -- that it has gone
  Removing : Stage  -- its drivers
  Settling : Stage  -- it leaves or remains
  Leaving : Stage  -- in a finish, its node leaves
  Holding : Stage  -- in a finish, its problem is due
  Ending : Stage

-- an operation
pub record Job : Type 0 where
  pub kind : OpKind
  pub target : ℕ
  pub path : Text  -- of the target, which may leave before the end
  pub wanted : Option Reqs  -- in a change: what the target requires from the commit on
  pub set : List ℕ  -- the devices that are to be removed, in leaving order
  pub ejecting : List ℕ  -- the members at begin of ejection relations whose owner is in the set
  pub told : List ℕ  -- those of the set that were SurpriseRemoved at begin
  pub todo : List ℕ  -- the device that is next stands first
  pub agreed : List ℕ  -- the last one first
  pub refused : List ℕ
  pub behind : List ℕ  -- those that stayed behind when they had gone, the last one first
  pub found : Found
  pub stage : Stage
  pub walk : Option Walk  -- the request on its way through the drivers of the device that is next

-- what a task is for: to list the children of a device, to start it, or to begin an operation for it
pub data Duty : Type 0 where
  Listing : Duty
  Starting : Duty
  Begins : OpKind → Duty

pub record Task : Type 0 where
  pub kind : Duty
  pub serial : ℕ

-- the whole machine between two steps
pub record State : Type 0 where
  pub world : List Device
  pub next_born : ℕ
  pub core : Core
  pub next_serial : ℕ
  pub disabled : List Text
  pub activities : List Activity
  pub operation : Option Job
  pub tasks : List Task
  pub windows : List Window
  pub handles : List Handle

-- an operation, and the device that it is for
pub record Beginning : Type 0 where
  pub kind : OpKind
  pub serial : ℕ

-- the drivers that the INFs name for a device
pub record Choice : Type 0 where
  pub rank : ℕ
  pub lower : List Text
  pub service : Option Text
  pub upper : List Text

-- what stays the same in a run: the best choice for hardware and compatible IDs, and the budget
pub record Settings : Type 0 where
  pub best : List Text → List Text → Option Choice
  pub budget : ℕ

-- a step: what is printed, and the state after it
pub record Step : Type 0 where
  pub label : Label
  pub state : State

-- movers with their requirements, beside what is fixed
pub record SearchProblem : Type 0 where
  pub fixed : List Res
  pub movers : List Reqs

-- what is done, outright or by the answer of a search
pub data Doing (A : Type 0) : Type 0 where
  Does : A → Doing A
  Searches : (problem : SearchProblem) (by_answer : Found → A) → Doing A

abbrev pub doing_map : {A B : Type 0} → (A → B) → Doing A → Doing B
doing_map f (Does a) = Does (f a)
doing_map f (Searches problem g) = Searches problem (λ found. f (g found))
