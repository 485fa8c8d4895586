-- The rows of the state diagram as they are drawn.
use Rattle.std.specs.Prelude.{Bool, true, false, Option, Some, None}
use Rattle.pnp_labels.specs.declared.states.DevState.{DevState}
use Rattle.pnp_labels.specs.declared.words.Minor.{Minor}
use Rattle.pnp_labels.specs.declared.states.DevState.TheVariants as states
use Rattle.pnp_labels.specs.declared.words.Minor.TheVariants as minors
use Rattle.view_drawings.specs.declared.rows.Row.{Row}
use Rattle.view_drawings.specs.declared.rows.Row.TheVariants.{Add, Start, StartBad, Remove, QueryStop, QueryStopBad, CancelStopRefused, CancelStop, Stop, Restart, RestartBad, SurpriseStopped, QueryRemove, QueryRemoveBad, CancelRemoveRefused, CancelRemove, RemovePending, Surprise, RemoveSurprised}

abbrev pub from_of : Row → DevState
from_of Add = states.NoStack
from_of Start = states.NotStarted
from_of StartBad = states.NotStarted
from_of Remove = states.NotStarted
from_of QueryStop = states.Started
from_of QueryStopBad = states.Started
from_of CancelStopRefused = states.Started
from_of CancelStop = states.StopPending
from_of Stop = states.StopPending
from_of Restart = states.Stopped
from_of RestartBad = states.Stopped
from_of SurpriseStopped = states.Stopped
from_of QueryRemove = states.Started
from_of QueryRemoveBad = states.Started
from_of CancelRemoveRefused = states.Started
from_of CancelRemove = states.RemovePending
from_of RemovePending = states.RemovePending
from_of Surprise = states.Started
from_of RemoveSurprised = states.SurpriseRemoved

-- none where the first driver is added
abbrev pub minor_of : Row → Option Minor
minor_of Add = None
minor_of Start = Some minors.Start
minor_of StartBad = Some minors.Start
minor_of Remove = Some minors.Remove
minor_of QueryStop = Some minors.QueryStop
minor_of QueryStopBad = Some minors.QueryStop
minor_of CancelStopRefused = Some minors.CancelStop
minor_of CancelStop = Some minors.CancelStop
minor_of Stop = Some minors.Stop
minor_of Restart = Some minors.Start
minor_of RestartBad = Some minors.Start
minor_of SurpriseStopped = Some minors.SurpriseRemoval
minor_of QueryRemove = Some minors.QueryRemove
minor_of QueryRemoveBad = Some minors.QueryRemove
minor_of CancelRemoveRefused = Some minors.CancelRemove
minor_of CancelRemove = Some minors.CancelRemove
minor_of RemovePending = Some minors.Remove
minor_of Surprise = Some minors.SurpriseRemoval
minor_of RemoveSurprised = Some minors.Remove

-- whether the request ended badly
abbrev pub bad_of : Row → Bool
bad_of StartBad = true
bad_of QueryStopBad = true
bad_of RestartBad = true
bad_of QueryRemoveBad = true
bad_of _ = false

abbrev pub to_of : Row → DevState
to_of Add = states.NotStarted
to_of Start = states.Started
to_of StartBad = states.NotStarted
to_of Remove = states.NoStack
to_of QueryStop = states.StopPending
to_of QueryStopBad = states.Started
to_of CancelStopRefused = states.Started
to_of CancelStop = states.Started
to_of Stop = states.Stopped
to_of Restart = states.Started
to_of RestartBad = states.Stopped
to_of SurpriseStopped = states.SurpriseRemoved
to_of QueryRemove = states.RemovePending
to_of QueryRemoveBad = states.Started
to_of CancelRemoveRefused = states.Started
to_of CancelRemove = states.Started
to_of RemovePending = states.NoStack
to_of Surprise = states.SurpriseRemoved
to_of RemoveSurprised = states.NoStack
