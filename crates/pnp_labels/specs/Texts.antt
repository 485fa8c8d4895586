-- The printed words, and the line of each label.
use Rattle.std.specs.Prelude.{ℕ, ◌-◌, Bool, true, false, List, [], ◌∷◌, ◌++◌, Option, Some, None, codes, length, map, replicate}
use Rattle.std.specs.Fmt.{decimal, digits}
use Rattle.resource_reqs.specs.Resources.{Res}
use Rattle.resource_reqs.specs.declared.kind.Kind.{Kind}
use Rattle.resource_reqs.specs.declared.kind.Kind.TheVariants as kinds
use Rattle.pnp_labels.specs.declared.words.Minor.{Minor}
use Rattle.pnp_labels.specs.declared.states.DevState.{DevState}
use Rattle.pnp_labels.specs.declared.states.Problem.{Problem}
use Rattle.pnp_labels.specs.declared.label.EventWord.{EventWord}
use Rattle.pnp_labels.specs.declared.label.Reason.{Reason}
use Rattle.pnp_labels.specs.declared.label.NoticeKind.{NoticeKind}
use Rattle.pnp_labels.specs.declared.label.Shown.{Shown}
use Rattle.pnp_labels.specs.declared.label.TaskKind.{TaskKind}
use Rattle.pnp_labels.specs.declared.label.OpKind.{OpKind}
use Rattle.pnp_labels.specs.declared.label.OpEnd.{OpEnd}
use Rattle.pnp_labels.specs.declared.deed.Deed.{Deed}
use Rattle.pnp_labels.specs.declared.label.Label.{Label}

-- a text is its bytes
abbrev pub Text : Type 0
Text = List ℕ

-- a space before each
abbrev pub after_spaces : List Text → Text
after_spaces [] = []
after_spaces (t ∷ ts) = 32 ∷ t ++ after_spaces ts

-- a space between any two
abbrev pub spaced : List Text → Text
spaced [] = []
spaced (t ∷ ts) = t ++ after_spaces ts

abbrev pub minor_text : Minor → Text
minor_text Minor.Start = codes "START_DEVICE"
minor_text Minor.QueryRemove = codes "QUERY_REMOVE_DEVICE"
minor_text Minor.Remove = codes "REMOVE_DEVICE"
minor_text Minor.CancelRemove = codes "CANCEL_REMOVE_DEVICE"
minor_text Minor.Stop = codes "STOP_DEVICE"
minor_text Minor.QueryStop = codes "QUERY_STOP_DEVICE"
minor_text Minor.CancelStop = codes "CANCEL_STOP_DEVICE"
minor_text Minor.SurpriseRemoval = codes "SURPRISE_REMOVAL"

abbrev pub shown_text : Shown → Text
shown_text Shown.Ok = codes "ok"
shown_text Shown.Fail = codes "fail"
shown_text Shown.Pend = codes "pend"
shown_text Shown.Violation = codes "violation"

abbrev pub ok_text : Bool → Text
ok_text true = codes "ok"
ok_text false = codes "fail"

abbrev pub state_text : DevState → Text
state_text DevState.NoStack = codes "NoStack"
state_text DevState.NotStarted = codes "NotStarted"
state_text DevState.Started = codes "Started"
state_text DevState.StopPending = codes "StopPending"
state_text DevState.Stopped = codes "Stopped"
state_text DevState.RemovePending = codes "RemovePending"
state_text DevState.SurpriseRemoved = codes "SurpriseRemoved"

abbrev pub problem_text : Problem → Text
problem_text Problem.FailedStart = codes "10"
problem_text Problem.NormalConflict = codes "12"
problem_text Problem.Disabled = codes "22"
problem_text Problem.FailedInstall = codes "28"
problem_text Problem.FailedAdd = codes "31"
problem_text Problem.LoadFailed = codes "39"
problem_text Problem.HeldForEject = codes "47"
problem_text Problem.Budget = codes "budget"
problem_text Problem.Held = codes "held"

abbrev pub op_text : OpKind → Text
op_text OpKind.Rebalance = codes "rebalance"
op_text OpKind.Disable = codes "disable"
op_text OpKind.Eject = codes "eject"
op_text OpKind.Surprise = codes "surprise"
op_text OpKind.Finish = codes "finish"
op_text OpKind.Change = codes "change"

abbrev pub task_text : TaskKind → Text
task_text TaskKind.List = codes "list"
task_text TaskKind.Start = codes "start"
task_text TaskKind.Rebalance = codes "rebalance"
task_text TaskKind.Disable = codes "disable"
task_text TaskKind.Eject = codes "eject"
task_text TaskKind.Surprise = codes "surprise"
task_text TaskKind.Finish = codes "finish"
task_text TaskKind.Change = codes "change"

abbrev pub end_text : OpEnd → Text
end_text OpEnd.Moved = codes "moved"
end_text OpEnd.NoFit = codes "nofit"
end_text OpEnd.Spent = codes "spent"
end_text OpEnd.Refused = codes "refused"
end_text OpEnd.Done = codes "done"
end_text OpEnd.Waiting = codes "waiting"
end_text (OpEnd.Veto path) = codes "veto " ++ path

abbrev pub word_text : EventWord → Text
word_text EventWord.Plug = codes "plug"
word_text EventWord.Pull = codes "pull"
word_text EventWord.Name = codes "driver"
word_text EventWord.Teach = codes "teach"
word_text EventWord.Disable = codes "disable"
word_text EventWord.Enable = codes "enable"
word_text EventWord.Eject = codes "eject"
word_text EventWord.Relate = codes "relate"
word_text EventWord.Reserve = codes "reserve"
word_text EventWord.Complete = codes "complete"
word_text EventWord.HandleOpen = codes "open"
word_text EventWord.HandleClose = codes "close"
word_text EventWord.Window = codes "window"
word_text EventWord.Change = codes "change"
word_text EventWord.Watch = codes "watch"
word_text EventWord.Unwatch = codes "unwatch"

abbrev pub reason_text : Reason → Text
reason_text Reason.NoParent = codes "NoParent"
reason_text Reason.SameId = codes "SameId"
reason_text Reason.WorldFull = codes "WorldFull"
reason_text Reason.NoDevice = codes "NoDevice"
reason_text Reason.RootStays = codes "RootStays"
reason_text Reason.SameName = codes "SameName"
reason_text Reason.RackEmpty = codes "RackEmpty"
reason_text Reason.NoDriver = codes "NoDriver"
reason_text Reason.NotTeachable = codes "NotTeachable"
reason_text Reason.BookFull = codes "BookFull"
reason_text Reason.AlreadyDisabled = codes "AlreadyDisabled"
reason_text Reason.NotDisabled = codes "NotDisabled"
reason_text Reason.Busy = codes "Busy"
reason_text Reason.SelfRelation = codes "SelfRelation"
reason_text Reason.SameRelation = codes "SameRelation"
reason_text Reason.RelationCycle = codes "RelationCycle"
reason_text Reason.NotStarted = codes "NotStarted"
reason_text Reason.InUse = codes "InUse"
reason_text Reason.NoSuchRequest = codes "NoSuchRequest"
reason_text Reason.NoHandle = codes "NoHandle"
reason_text Reason.HasChildren = codes "HasChildren"
reason_text Reason.SameWindow = codes "SameWindow"
reason_text Reason.SameWatch = codes "SameWatch"
reason_text Reason.NoWatch = codes "NoWatch"

abbrev pub notice_text : NoticeKind → Text
notice_text NoticeKind.QueryRemove = codes "QUERY_REMOVE"
notice_text NoticeKind.RemoveCancelled = codes "REMOVE_CANCELLED"
notice_text NoticeKind.RemoveComplete = codes "REMOVE_COMPLETE"

-- what a client answered, where it was asked
abbrev pub agrees_text : Option Bool → Text
agrees_text None = []
agrees_text (Some true) = codes " ok"
agrees_text (Some false) = codes " refuse"

abbrev pub hex : ℕ → Text
hex n = codes "0x" ++ digits 16 false n

abbrev pub share_text : Bool → Text
share_text true = codes ":shared"
share_text false = []

abbrev pub range_text : Kind → ℕ → ℕ → Text
range_text kinds.Port lo hi = codes "port:" ++ hex lo ++ 45 ∷ hex hi
range_text kinds.Irq lo hi = codes "irq:" ++ decimal lo ++ 45 ∷ decimal hi
range_text kinds.Mem lo hi = codes "mem:" ++ hex lo ++ 45 ∷ hex hi
range_text kinds.Dma lo hi = codes "dma:" ++ decimal lo ++ 45 ∷ decimal hi
range_text kinds.Bus lo hi = codes "bus:" ++ decimal lo ++ 45 ∷ decimal hi

abbrev pub res_text : Res → Text
res_text res = range_text res.kind res.lo res.hi ++ share_text res.shared

-- eight lower-case hexadecimal digits, or more where the number has more
abbrev pub rank_text : ℕ → Text
rank_text n = replicate (8 - length (digits 16 false n)) 48 ++ digits 16 false n

-- which event was taken, and what was done
abbrev pub deed_words : Deed → List Text
deed_words (Deed.Plugged path) = word_text EventWord.Plug ∷ path ∷ []
deed_words (Deed.Pulled path) = word_text EventWord.Pull ∷ path ∷ []
deed_words (Deed.Named driver) = word_text EventWord.Name ∷ driver ∷ []
deed_words (Deed.Taught driver) = word_text EventWord.Teach ∷ driver ∷ []
deed_words (Deed.Disabled path) = word_text EventWord.Disable ∷ path ∷ []
deed_words (Deed.Enabled path) = word_text EventWord.Enable ∷ path ∷ []
deed_words (Deed.Ejected path) = word_text EventWord.Eject ∷ path ∷ []
deed_words (Deed.Related kind owner member) = word_text EventWord.Relate ∷ owner ∷ member ∷ []
deed_words (Deed.Reserved res) = word_text EventWord.Reserve ∷ res_text res ∷ []
deed_words (Deed.Completed path minor shown) = word_text EventWord.Complete ∷ path ∷ minor_text minor ∷ shown_text shown ∷ []
deed_words (Deed.HandleOpened path) = word_text EventWord.HandleOpen ∷ path ∷ []
deed_words (Deed.HandleClosed path) = word_text EventWord.HandleClose ∷ path ∷ []
deed_words (Deed.Windowed path res) = word_text EventWord.Window ∷ path ∷ res_text res ∷ []
deed_words (Deed.Changed path) = word_text EventWord.Change ∷ path ∷ []
deed_words (Deed.Watched client path) = word_text EventWord.Watch ∷ client ∷ path ∷ []
deed_words (Deed.Unwatched client path) = word_text EventWord.Unwatch ∷ client ∷ path ∷ []

-- the line of a label, without its end
abbrev pub label_line : Label → Text
label_line (Label.Did deed) = spaced (codes "event" ∷ deed_words deed)
label_line (Label.Refused word reason) = spaced (codes "refused" ∷ word_text word ∷ reason_text reason ∷ [])
label_line (Label.Skip task serial) = spaced (codes "skip" ∷ task_text task ∷ decimal serial ∷ [])
label_line (Label.Join serial path) = spaced (codes "join" ∷ decimal serial ∷ path ∷ [])
label_line (Label.Gone path) = spaced (codes "gone" ∷ path ∷ [])
label_line (Label.Listed path) = spaced (codes "listed" ∷ path ∷ [])
label_line (Label.Install path rank driver) = spaced (codes "install" ∷ path ∷ rank_text rank ∷ driver ∷ [])
label_line (Label.Trouble path problem) = spaced (codes "problem" ∷ path ∷ problem_text problem ∷ [])
label_line (Label.Add path driver ok) = spaced (codes "add" ∷ path ∷ driver ∷ ok_text ok ∷ [])
label_line (Label.Assign path held) = spaced (codes "assign" ∷ path ∷ map res_text held)
label_line (Label.Fits path) = spaced (codes "fits" ∷ path ∷ [])
label_line (Label.NoFit path) = spaced (codes "nofit" ∷ path ∷ [])
label_line (Label.Spent path) = spaced (codes "spent" ∷ path ∷ [])
label_line (Label.Asked minor path driver shown) = spaced (minor_text minor ∷ path ∷ driver ∷ shown_text shown ∷ [])
label_line (Label.State path state) = spaced (codes "state" ∷ path ∷ state_text state ∷ [])
label_line (Label.Begin op path) = spaced (codes "begin" ∷ op_text op ∷ path ∷ [])
label_line (Label.Commit movers) = spaced (codes "commit" ∷ decimal movers ∷ [])
label_line (Label.Leave path) = spaced (codes "leave" ∷ path ∷ [])
label_line (Label.Ejected path) = spaced (codes "ejected" ∷ path ∷ [])
label_line (Label.Handles path) = spaced (codes "handles" ∷ path ∷ [])
label_line (Label.Waits path) = spaced (codes "waits" ∷ path ∷ [])
label_line (Label.End op path result) = spaced (codes "end" ∷ op_text op ∷ path ∷ end_text result ∷ [])
label_line (Label.Notice what client path agrees) =
    spaced (codes "notice" ∷ notice_text what ∷ client ∷ path ∷ []) ++ agrees_text agrees
label_line (Label.Declined op path client) = spaced (codes "declined" ∷ op_text op ∷ path ∷ client ∷ [])
