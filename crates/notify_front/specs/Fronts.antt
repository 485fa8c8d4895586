-- What stands before the machine: clients that are registered on devices are asked before a removal, and told of its end.
use Rattle.std.specs.Prelude.{ℕ, ◌==◌, ◌≡◌, Bool, true, false, ◌&&◌, List, [], ◌∷◌, ◌++◌, Option, Some, None, find, option_map, reverse, nat_lt}
use Rattle.std.specs.List.{list_any}
use Rattle.std.specs.Str.{bytes_eq}
use Rattle.resource_reqs.specs.Spelling.{IsAnswer}
use Rattle.pnp_model.specs.Keyed.{without_first, put_before, those}
use Rattle.pnp_model.specs.Cores.{node_at, path_of}
use Rattle.pnp_model.specs.Trees.{leaving}
use Rattle.pnp_model.specs.Tests.{is_started}
use Rattle.pnp_model.specs.States.{drop_task, node_of}
use Rattle.pnp_model.specs.Events.{happens}
use Rattle.pnp_model.specs.Machine.{next, due}
use Rattle.pnp_model.specs.Runs.{Entry, printed}
use Rattle.pnp_model.specs.Records.{Node, State, Step, Settings, Job, Found, Doing, doing_map, Beginning}
use Rattle.pnp_model.specs.Records.Doing.{Does, Searches}
use Rattle.pnp_labels.specs.Texts.{Text}
use Rattle.pnp_labels.specs.declared.event.Event.{Event}
use Rattle.pnp_labels.specs.declared.label.EventWord.{EventWord}
use Rattle.pnp_labels.specs.declared.label.Reason.{Reason}
use Rattle.pnp_labels.specs.declared.label.OpKind.{OpKind}
use Rattle.pnp_labels.specs.declared.label.OpEnd.{OpEnd}
use Rattle.pnp_labels.specs.declared.label.NoticeKind.{NoticeKind}
use Rattle.pnp_labels.specs.declared.deed.Deed.{Deed}
use Rattle.pnp_labels.specs.declared.label.Label.{Label}

-- a client is registered on a device, and agrees to its removal or not. The path is kept, since the device may have left
-- when the client hears of it
pub record Registration : Type 0 where
  pub client : Text
  pub device : ℕ
  pub path : Text
  pub agrees : Bool

-- what is at hand
pub data Hand : Type 0 where
  Nothing : Hand
  -- an operation is due: these agreed, the last one first, and these are still to be asked
  Asking : (first : Beginning) (agreed left : List Registration) → Hand
  -- the client refused, and these are still to hear it
  Cancelling : (first : Beginning) (client : Text) (left : List Registration) → Hand
  -- an operation runs, of whose end these are to hear
  Running : (told : List Registration) → Hand
  -- it ended with a veto, and these are still to hear it
  Vetoed : (left : List Registration) → Hand
  -- it ended otherwise, and these are still to hear it
  Ended : (left : List Registration) → Hand

-- the registrations stand in order of their devices, those of one device as they were made
pub record Front : Type 0 where
  pub state : State
  pub registrations : List Registration
  pub hand : Hand

-- what goes on: an entry of the machine's run, an event of a client, or a notice
pub data FrontEntry : Type 0 where
  Passes : (entry : Entry) → FrontEntry
  Watches : (event : Event) (label : Label) → FrontEntry
  Tells : (label : Label) → FrontEntry

abbrev pub front_printed : FrontEntry → Label
front_printed (FrontEntry.Passes entry) = printed entry
front_printed (FrontEntry.Watches event label) = label
front_printed (FrontEntry.Tells label) = label

-- a step: what goes on, and what stands after it
pub record FrontStep : Type 0 where
  pub entry : FrontEntry
  pub front : Front

abbrev pub opening_front : State → Front
opening_front s = record { state = s; registrations = []; hand = Hand.Nothing }

-- Registrations -----------------------------------------------------------------

abbrev pub is_on : ℕ → Registration → Bool
is_on k r = r.device == k

abbrev pub is_of : Text → ℕ → Registration → Bool
is_of client k r = bytes_eq r.client client && r.device == k

abbrev pub comes_after : ℕ → Registration → Bool
comes_after k r = nat_lt k r.device

-- those on these devices, in the order of the devices
abbrev pub on_each : List ℕ → List Registration → List Registration
on_each [] registrations = []
on_each (k ∷ ks) registrations = those (is_on k) registrations ++ on_each ks registrations

-- those on a device and on what depends on it, in leaving order
abbrev pub on_set : Front → ℕ → List Registration
on_set f k = on_each (leaving f.state.core k) f.registrations

-- Notices -------------------------------------------------------------------------

abbrev pub notice : NoticeKind → Registration → Option Bool → Label
notice what r agrees = Label.Notice what r.client r.path agrees

abbrev pub with_hand : Hand → Front → Front
with_hand hand f = record f { hand = hand }

abbrev pub tells : NoticeKind → Registration → Option Bool → Front → FrontStep
tells what r agrees f = record { entry = FrontEntry.Tells (notice what r agrees); front = f }

abbrev pub without : Registration → Front → Front
without r f = record f { registrations = without_first (is_of r.client r.device) f.registrations }

-- nothing is at hand where nobody is told, and once no result is left

abbrev pub running : List Registration → Hand
running [] = Hand.Nothing
running (r ∷ rs) = Hand.Running (r ∷ rs)

abbrev pub vetoed : List Registration → Hand
vetoed [] = Hand.Nothing
vetoed (r ∷ rs) = Hand.Vetoed (r ∷ rs)

abbrev pub over : List Registration → Hand
over [] = Hand.Nothing
over (r ∷ rs) = Hand.Ended (r ∷ rs)

-- what an end leaves to tell
abbrev pub after_end : OpEnd → List Registration → Hand
after_end (OpEnd.Veto path) told = vetoed (reverse told)
after_end _ told = over told

-- an operation of which these were told goes on, or ends
abbrev pub still : Label → List Registration → Hand
still (Label.End kind path result) told = after_end result told
still _ told = Hand.Running told

-- what is at hand after a step of the machine
abbrev pub heard : Label → Hand → Hand
heard label (Hand.Running told) = still label told
heard label hand = hand

-- The steps -------------------------------------------------------------------------

-- the machine steps, with this at hand
abbrev pub lifted : Front → Hand → Step → FrontStep
lifted f hand step =
    record { entry = FrontEntry.Passes (Entry.Did step.label); front = record f { state = step.state; hand = heard step.label hand } }

abbrev pub machine_next : Settings → Front → Hand → Option (Doing FrontStep)
machine_next settings f hand = option_map (doing_map (lifted f hand)) (next settings f.state)

-- does it agree?
abbrev pub ask_one : Front → Beginning → List Registration → Registration → List Registration → Bool → FrontStep
ask_one f first agreed r left true =
    tells NoticeKind.QueryRemove r (Some true) (with_hand (Hand.Asking first (r ∷ agreed) left) f)
ask_one f first agreed r left false =
    tells NoticeKind.QueryRemove r (Some false) (with_hand (Hand.Cancelling first r.client agreed) f)

-- where all agreed the operation begins
abbrev pub ask_next : Settings → Front → Beginning → List Registration → List Registration → Option (Doing FrontStep)
ask_next settings f first agreed [] = machine_next settings f (running (reverse agreed))
ask_next settings f first agreed (r ∷ left) = Some (Does (ask_one f first agreed r left r.agrees))

abbrev pub decline : Front → Beginning → Text → FrontStep
decline f first client =
    record {
      entry = FrontEntry.Passes (Entry.Declines (Label.Declined first.kind (path_of (node_at first.serial f.state.core.nodes)) client));
      front = record f { state = drop_task f.state; hand = Hand.Nothing };
    }

abbrev pub cancel_next : Front → Beginning → Text → List Registration → FrontStep
cancel_next f first client [] = decline f first client
cancel_next f first client (r ∷ left) = tells NoticeKind.RemoveCancelled r None (with_hand (Hand.Cancelling first client left) f)

-- a disable and an eject are announced, of a surprise those on its set are told afterwards, and nothing else is told of
abbrev pub begin_next : Settings → Front → Beginning → OpKind → Option (Doing FrontStep)
begin_next settings f first OpKind.Disable = ask_next settings f first [] (on_set f first.serial)
begin_next settings f first OpKind.Eject = ask_next settings f first [] (on_set f first.serial)
begin_next settings f first OpKind.Surprise = machine_next settings f (running (on_set f first.serial))
begin_next settings f first _ = machine_next settings f Hand.Nothing

abbrev pub idle_next : Settings → Front → Option Beginning → Option (Doing FrontStep)
idle_next settings f None = machine_next settings f Hand.Nothing
idle_next settings f (Some first) = begin_next settings f first first.kind

abbrev pub hand_next : Settings → Front → Hand → Option (Doing FrontStep)
hand_next settings f Hand.Nothing = idle_next settings f (due f.state)
hand_next settings f (Hand.Asking first agreed left) = ask_next settings f first agreed left
hand_next settings f (Hand.Cancelling first client left) = Some (Does (cancel_next f first client left))
hand_next settings f (Hand.Running told) = machine_next settings f (Hand.Running told)
hand_next settings f (Hand.Vetoed []) = machine_next settings f Hand.Nothing
hand_next settings f (Hand.Vetoed (r ∷ left)) = Some (Does (tells NoticeKind.RemoveCancelled r None (with_hand (vetoed left) f)))
hand_next settings f (Hand.Ended []) = machine_next settings f Hand.Nothing
hand_next settings f (Hand.Ended (r ∷ left)) = Some (Does (tells NoticeKind.RemoveComplete r None (with_hand (over left) (without r f))))

abbrev pub front_next : Settings → Front → Option (Doing FrontStep)
front_next settings f = hand_next settings f f.hand

abbrev pub IsFrontStep : Settings → Option (Doing FrontStep) → FrontStep → Type 0
IsFrontStep settings None step = ⊥
IsFrontStep settings (Some (Does one)) step = step ≡ one
IsFrontStep settings (Some (Searches problem by_answer)) step =
    (found : Found) × IsAnswer problem.fixed problem.movers settings.budget found × (step ≡ by_answer found)

abbrev pub FrontSteps : Settings → Front → FrontEntry → Front → Type 0
FrontSteps settings old entry new = IsFrontStep settings (front_next settings old) (record { entry = entry; front = new })

abbrev pub IsFrontQuiet : Settings → Front → Type 0
IsFrontQuiet settings f = front_next settings f ≡ None

-- Events ------------------------------------------------------------------------------

-- an event of a client: a label, and what stands after it
pub record Answered : Type 0 where
  pub label : Label
  pub front : Front

abbrev pub refuses : EventWord → Reason → Front → Answered
refuses word reason f = record { label = Label.Refused word reason; front = f }

abbrev pub registration : Text → Node → Bool → Registration
registration client node agrees = record { client = client; device = node.serial; path = node.path; agrees = agrees }

-- is the client registered on the device?
abbrev pub watch_new : Front → Text → Node → Bool → Bool → Answered
watch_new f client node agrees true = refuses EventWord.Watch Reason.SameWatch f
watch_new f client node agrees false =
    record {
      label = Label.Did (Deed.Watched client node.path);
      front = record f { registrations = put_before (comes_after node.serial) (registration client node agrees) f.registrations };
    }

-- is the device Started?
abbrev pub watch_up : Front → Text → Node → Bool → Bool → Answered
watch_up f client node agrees false = refuses EventWord.Watch Reason.NotStarted f
watch_up f client node agrees true = watch_new f client node agrees (list_any (is_of client node.serial) f.registrations)

abbrev pub watch_idle : Front → Text → Node → Bool → Option Job → Answered
watch_idle f client node agrees (Some o) = refuses EventWord.Watch Reason.Busy f
watch_idle f client node agrees None = watch_up f client node agrees (is_started node.state)

abbrev pub watch_at : Front → Text → Bool → Option Node → Answered
watch_at f client agrees None = refuses EventWord.Watch Reason.NoDevice f
watch_at f client agrees (Some node) = watch_idle f client node agrees f.state.operation

abbrev pub unwatch_old : Front → Text → Node → Option Registration → Answered
unwatch_old f client node None = refuses EventWord.Unwatch Reason.NoWatch f
unwatch_old f client node (Some r) =
    record { label = Label.Did (Deed.Unwatched client node.path); front = without r f }

abbrev pub unwatch_idle : Front → Text → Node → Option Job → Answered
unwatch_idle f client node (Some o) = refuses EventWord.Unwatch Reason.Busy f
unwatch_idle f client node None = unwatch_old f client node (find (is_of client node.serial) f.registrations)

abbrev pub unwatch_at : Front → Text → Option Node → Answered
unwatch_at f client None = refuses EventWord.Unwatch Reason.NoDevice f
unwatch_at f client (Some node) = unwatch_idle f client node f.state.operation

-- the machine takes the event
abbrev pub passed : Front → Event → Step → FrontStep
passed f event step =
    record { entry = FrontEntry.Passes (Entry.Happens event step.label); front = record f { state = step.state } }

abbrev pub watched : Event → Answered → FrontStep
watched event answered = record { entry = FrontEntry.Watches event answered.label; front = answered.front }

abbrev pub front_happens : Front → Event → FrontStep
front_happens f (Event.Watch client path agrees) =
    watched (Event.Watch client path agrees) (watch_at f client agrees (node_of path f.state.core.nodes))
front_happens f (Event.Unwatch client path) =
    watched (Event.Unwatch client path) (unwatch_at f client (node_of path f.state.core.nodes))
front_happens f event = passed f event (happens f.state event)
