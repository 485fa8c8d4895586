-- What the lines of a trace say, in words for people, and which of them tell that something went wrong.
use Rattle.std.specs.Prelude.{Bool, true, false, Option, Some, None, codes}
use Rattle.pnp_labels.specs.declared.words.Minor.{Minor}
use Rattle.pnp_labels.specs.declared.states.DevState.{DevState}
use Rattle.pnp_labels.specs.declared.states.Problem.{Problem}
use Rattle.pnp_labels.specs.declared.label.Reason.{Reason}
use Rattle.pnp_labels.specs.declared.label.NoticeKind.{NoticeKind}
use Rattle.pnp_labels.specs.declared.label.Shown.{Shown}
use Rattle.pnp_labels.specs.declared.label.OpKind.{OpKind}
use Rattle.pnp_labels.specs.declared.label.OpEnd.{OpEnd}
use Rattle.pnp_labels.specs.declared.deed.Deed.{Deed}
use Rattle.pnp_labels.specs.declared.label.Label.{Label}
use Rattle.pnp_labels.specs.Texts.{Text}

-- what a problem means
abbrev pub problem_words : Problem → Text
problem_words Problem.FailedStart = codes "its drivers failed START_DEVICE"
problem_words Problem.NormalConflict = codes "nothing fits for it, even if all devices that agree to stop may move"
problem_words Problem.Disabled = codes "its path is disabled"
problem_words Problem.FailedInstall = codes "no INF has a driver for it"
problem_words Problem.FailedAdd = codes "a driver did not add it"
problem_words Problem.LoadFailed = codes "a driver that the INF names is not there"
problem_words Problem.HeldForEject = codes "it was related to a device that was ejected, and stays"
problem_words Problem.Budget = codes "the budget of a search was spent, so it is not known whether anything fits"
problem_words Problem.Held = codes "it lost its drivers with another device, or when its last handle was closed, and stays"

-- why a line of a script was refused
abbrev pub reason_words : Reason → Text
reason_words Reason.NoParent = codes "the world has no device of the path of the parent"
reason_words Reason.SameId = codes "the world has a device of the path"
reason_words Reason.WorldFull = codes "the world has 4,096 devices besides the root"
reason_words Reason.NoDevice = codes "there is no device of the path"
reason_words Reason.RootStays = codes "it is the root, which stays"
reason_words Reason.SameName = codes "a driver has the name"
reason_words Reason.RackEmpty = codes "no driver of the kind is without a name"
reason_words Reason.NoDriver = codes "no driver has the name"
reason_words Reason.NotTeachable = codes "the driver is not scripted"
reason_words Reason.BookFull = codes "its book has 64 rules"
reason_words Reason.AlreadyDisabled = codes "the path is disabled"
reason_words Reason.NotDisabled = codes "the path is not disabled"
reason_words Reason.Busy = codes "an operation runs"
reason_words Reason.SelfRelation = codes "owner and member are one"
reason_words Reason.SameRelation = codes "they are related already, by this kind and this way round"
reason_words Reason.RelationCycle = codes "the owner depends on the member"
reason_words Reason.NotStarted = codes "a device that must be Started is not"
reason_words Reason.InUse = codes "the range clashes with what a device holds or with a reserved range"
reason_words Reason.NoSuchRequest = codes "at no device of the path a request of the minor waits"
reason_words Reason.NoHandle = codes "no handle to it is open"
reason_words Reason.HasChildren = codes "a device stands below it"
reason_words Reason.SameWindow = codes "it has a window of the kind"
reason_words Reason.SameWatch = codes "the client is registered on it"
reason_words Reason.NoWatch = codes "the client is not registered on it"

-- what an event was
abbrev pub done_words : Deed → Text
done_words (Deed.Plugged path) = codes "a device arrives"
done_words (Deed.Pulled path) = codes "a device goes without a word, with all below it"
done_words (Deed.Named driver) = codes "a driver of the rack has this name from now on"
done_words (Deed.Taught driver) = codes "the driver learns how to answer"
done_words (Deed.Disabled path) = codes "the device is to be disabled"
done_words (Deed.Enabled path) = codes "the path is not disabled any more"
done_words (Deed.Ejected path) = codes "the device is to be ejected"
done_words (Deed.Related kind owner member) = codes "where the owner loses its drivers, the member does too"
done_words (Deed.Reserved res) = codes "no device may have this range"
done_words (Deed.Completed path minor shown) = codes "a driver answers what it had pended"
done_words (Deed.HandleOpened path) = codes "a handle to the device is opened"
done_words (Deed.HandleClosed path) = codes "a handle to the device is closed"
done_words (Deed.Windowed path res) = codes "devices below it have what they need of this kind inside the range"
done_words (Deed.Changed path) = codes "the device requires something else from now on"
done_words (Deed.Watched client path) = codes "the client is told from now on when the device is to lose its drivers"
done_words (Deed.Unwatched client path) = codes "the client hears no more of the device"

-- a driver did as it was asked
abbrev pub good_words : Minor → Text
good_words Minor.Start = codes "the driver starts the device"
good_words Minor.QueryRemove = codes "the driver agrees that the device is removed"
good_words Minor.Remove = codes "the driver lets the device go"
good_words Minor.CancelRemove = codes "the driver hears that the device stays"
good_words Minor.Stop = codes "the driver stops the device"
good_words Minor.QueryStop = codes "the driver agrees that the device is stopped"
good_words Minor.CancelStop = codes "the driver hears that the device is not stopped"
good_words Minor.SurpriseRemoval = codes "the driver hears that the device is gone"

-- a driver refused
abbrev pub failed_words : Minor → Text
failed_words Minor.Start = codes "the driver did not start the device"
failed_words Minor.QueryRemove = codes "the driver refused that the device is removed"
failed_words Minor.QueryStop = codes "the driver refused that the device is stopped"
failed_words _ = codes "the driver failed the request"

-- what a driver answered
abbrev pub asked_words : Minor → Shown → Text
asked_words minor Shown.Ok = good_words minor
asked_words minor Shown.Fail = failed_words minor
asked_words minor Shown.Pend = codes "the driver answers later: a line `complete` ends it"
asked_words minor Shown.Violation = codes "the driver failed what it must not fail; it is taken for done"

-- whether a driver added a device
abbrev pub added_words : Bool → Text
added_words true = codes "the driver adds the device"
added_words false = codes "the driver did not add the device"

-- what a state is
abbrev pub state_words : DevState → Text
state_words DevState.NoStack = codes "no driver has added the device"
state_words DevState.NotStarted = codes "drivers have added the device; it was not started"
state_words DevState.Started = codes "the device works"
state_words DevState.StopPending = codes "its drivers agreed that it is stopped"
state_words DevState.Stopped = codes "it is stopped, so that what it holds can change"
state_words DevState.RemovePending = codes "its drivers agreed that it is removed"
state_words DevState.SurpriseRemoved = codes "its drivers heard that it is gone"

-- what an operation is for
abbrev pub begin_words : OpKind → Text
begin_words OpKind.Rebalance = codes "devices are to stop, so that one more can have what it needs"
begin_words OpKind.Disable = codes "the device and all that depends on it are to lose their drivers, and it stays disabled"
begin_words OpKind.Eject = codes "the device and all that depends on it are to lose their drivers, and it leaves"
begin_words OpKind.Surprise = codes "a device has gone without a word"
begin_words OpKind.Finish = codes "no handle holds them any more: devices that have gone are to lose their drivers"
begin_words OpKind.Change = codes "devices are to stop, so that this one can have what it requires now"

-- how an operation ended
abbrev pub result_words : OpEnd → Text
result_words OpEnd.Moved = codes "the resources were found and given"
result_words OpEnd.NoFit = codes "nothing fits, so all is as before"
result_words OpEnd.Spent = codes "the budget was spent, so all is as before"
result_words OpEnd.Done = codes "nothing is left to do"
result_words OpEnd.Waiting = codes "a device stays behind, as a handle is open"
result_words OpEnd.Refused = codes "the device itself would not stop, so all is as before"
result_words (OpEnd.Veto path) = codes "this device refused, so all is as before"

-- what a client is told, or how it answers
abbrev pub notice_words : NoticeKind → Option Bool → Text
notice_words what (Some true) = codes "the client agrees"
notice_words what (Some false) = codes "the client refuses"
notice_words NoticeKind.QueryRemove None = codes "the client is asked whether the device may lose its drivers"
notice_words NoticeKind.RemoveCancelled None = codes "the client hears that the device stays"
notice_words NoticeKind.RemoveComplete None = codes "the client hears that the device lost its drivers, or is gone"

-- what a line says
abbrev pub label_words : Label → Text
label_words (Label.Did deed) = done_words deed
label_words (Label.Refused word reason) = reason_words reason
label_words (Label.Trouble path problem) = problem_words problem
label_words (Label.Asked minor path driver shown) = asked_words minor shown
label_words (Label.Add path driver ok) = added_words ok
label_words (Label.State path state) = state_words state
label_words (Label.Begin op path) = begin_words op
label_words (Label.End op path result) = result_words result
label_words (Label.Notice what client path agrees) = notice_words what agrees
label_words (Label.Skip task serial) = codes "there was nothing to do for the device of this number"
label_words (Label.Join serial path) = codes "the device is new in the tree, with this number"
label_words (Label.Gone path) = codes "the device is not there any more: its surprise removal is due"
label_words (Label.Listed path) = codes "the devices below it were compared with the tree"
label_words (Label.Install path rank driver) = codes "the best driver that an INF has for it, with its rank: the lower, the better"
label_words (Label.Assign path held) = codes "the device has these resources from now on"
label_words (Label.Fits path) = codes "it fits if those that agreed to stop move"
label_words (Label.NoFit path) = codes "nothing fits for it beside what others hold"
label_words (Label.Spent path) = codes "the budget was spent before the search was over"
label_words (Label.Commit movers) = codes "so many devices get their new resources at once"
label_words (Label.Leave path) = codes "the device leaves the tree"
label_words (Label.Ejected path) = codes "the device leaves the tree, and was taken out"
label_words (Label.Handles path) = codes "it refuses: a handle to it is open, or it has gone and waits to be finished"
label_words (Label.Waits path) = codes "it keeps its drivers until no handle holds it any more"
label_words (Label.Declined op path client) = codes "this client refused, so it does not begin"

-- an operation did not do what it was for
abbrev pub is_in_vain : OpEnd → Bool
is_in_vain OpEnd.NoFit = true
is_in_vain OpEnd.Spent = true
is_in_vain OpEnd.Refused = true
is_in_vain (OpEnd.Veto path) = true
is_in_vain _ = false

-- a driver failed
abbrev pub is_failure : Shown → Bool
is_failure Shown.Fail = true
is_failure Shown.Violation = true
is_failure _ = false

-- a line tells that something went wrong: it was refused, a driver failed, a device or a client refused, a device got a problem, or an
-- operation was in vain
abbrev pub is_wrong : Label → Bool
is_wrong (Label.Refused word reason) = true
is_wrong (Label.Trouble path problem) = true
is_wrong (Label.Handles path) = true
is_wrong (Label.Declined op path client) = true
is_wrong (Label.Add path driver false) = true
is_wrong (Label.Asked minor path driver shown) = is_failure shown
is_wrong (Label.End op path result) = is_in_vain result
is_wrong _ = false
