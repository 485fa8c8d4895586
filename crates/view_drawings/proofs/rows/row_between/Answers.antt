-- Each arm is a row of the diagram.
use Rattle.pnp_model.specs.Diagram.{Row}
use Rattle.view_drawings.proofs.rows.row_between.Goals as goal

pub returns-in-NotStarted-Start-Started-clause-drawn : goal.returns-in-NotStarted-Start-Started-clause-drawn
returns-in-NotStarted-Start-Started-clause-drawn c =
    rw (c.in-NotStarted-Start-Started.is-0, c.in-NotStarted-Start-Started.is-1, c.in-NotStarted-Start-Started.is-2) Row.start

pub returns-in-NotStarted-Start-NotStarted-clause-drawn : goal.returns-in-NotStarted-Start-NotStarted-clause-drawn
returns-in-NotStarted-Start-NotStarted-clause-drawn c =
    rw (c.in-NotStarted-Start-NotStarted.is-0, c.in-NotStarted-Start-NotStarted.is-1, c.in-NotStarted-Start-NotStarted.is-2) Row.start_bad

pub returns-in-NotStarted-Remove-NoStack-clause-drawn : goal.returns-in-NotStarted-Remove-NoStack-clause-drawn
returns-in-NotStarted-Remove-NoStack-clause-drawn c =
    rw (c.in-NotStarted-Remove-NoStack.is-0, c.in-NotStarted-Remove-NoStack.is-1, c.in-NotStarted-Remove-NoStack.is-2) Row.remove

pub returns-in-Started-QueryStop-StopPending-clause-drawn : goal.returns-in-Started-QueryStop-StopPending-clause-drawn
returns-in-Started-QueryStop-StopPending-clause-drawn c =
    rw (c.in-Started-QueryStop-StopPending.is-0, c.in-Started-QueryStop-StopPending.is-1, c.in-Started-QueryStop-StopPending.is-2) Row.query_stop

pub returns-in-Started-QueryStop-Started-clause-drawn : goal.returns-in-Started-QueryStop-Started-clause-drawn
returns-in-Started-QueryStop-Started-clause-drawn c =
    rw (c.in-Started-QueryStop-Started.is-0, c.in-Started-QueryStop-Started.is-1, c.in-Started-QueryStop-Started.is-2) Row.query_stop_bad

pub returns-in-Started-CancelStop-Started-clause-drawn : goal.returns-in-Started-CancelStop-Started-clause-drawn
returns-in-Started-CancelStop-Started-clause-drawn c =
    rw (c.in-Started-CancelStop-Started.is-0, c.in-Started-CancelStop-Started.is-1, c.in-Started-CancelStop-Started.is-2) Row.cancel_stop_refused

pub returns-in-Started-QueryRemove-RemovePending-clause-drawn : goal.returns-in-Started-QueryRemove-RemovePending-clause-drawn
returns-in-Started-QueryRemove-RemovePending-clause-drawn c =
    rw (c.in-Started-QueryRemove-RemovePending.is-0, c.in-Started-QueryRemove-RemovePending.is-1, c.in-Started-QueryRemove-RemovePending.is-2) Row.query_remove

pub returns-in-Started-QueryRemove-Started-clause-drawn : goal.returns-in-Started-QueryRemove-Started-clause-drawn
returns-in-Started-QueryRemove-Started-clause-drawn c =
    rw (c.in-Started-QueryRemove-Started.is-0, c.in-Started-QueryRemove-Started.is-1, c.in-Started-QueryRemove-Started.is-2) Row.query_remove_bad

pub returns-in-Started-CancelRemove-Started-clause-drawn : goal.returns-in-Started-CancelRemove-Started-clause-drawn
returns-in-Started-CancelRemove-Started-clause-drawn c =
    rw (c.in-Started-CancelRemove-Started.is-0, c.in-Started-CancelRemove-Started.is-1, c.in-Started-CancelRemove-Started.is-2) Row.cancel_remove_refused

pub returns-in-Started-SurpriseRemoval-SurpriseRemoved-clause-drawn : goal.returns-in-Started-SurpriseRemoval-SurpriseRemoved-clause-drawn
returns-in-Started-SurpriseRemoval-SurpriseRemoved-clause-drawn c =
    rw (c.in-Started-SurpriseRemoval-SurpriseRemoved.is-0, c.in-Started-SurpriseRemoval-SurpriseRemoved.is-1, c.in-Started-SurpriseRemoval-SurpriseRemoved.is-2) Row.surprise

pub returns-in-StopPending-CancelStop-Started-clause-drawn : goal.returns-in-StopPending-CancelStop-Started-clause-drawn
returns-in-StopPending-CancelStop-Started-clause-drawn c =
    rw (c.in-StopPending-CancelStop-Started.is-0, c.in-StopPending-CancelStop-Started.is-1, c.in-StopPending-CancelStop-Started.is-2) Row.cancel_stop

pub returns-in-StopPending-Stop-Stopped-clause-drawn : goal.returns-in-StopPending-Stop-Stopped-clause-drawn
returns-in-StopPending-Stop-Stopped-clause-drawn c =
    rw (c.in-StopPending-Stop-Stopped.is-0, c.in-StopPending-Stop-Stopped.is-1, c.in-StopPending-Stop-Stopped.is-2) Row.stop

pub returns-in-Stopped-Start-Started-clause-drawn : goal.returns-in-Stopped-Start-Started-clause-drawn
returns-in-Stopped-Start-Started-clause-drawn c =
    rw (c.in-Stopped-Start-Started.is-0, c.in-Stopped-Start-Started.is-1, c.in-Stopped-Start-Started.is-2) Row.restart

pub returns-in-Stopped-Start-Stopped-clause-drawn : goal.returns-in-Stopped-Start-Stopped-clause-drawn
returns-in-Stopped-Start-Stopped-clause-drawn c =
    rw (c.in-Stopped-Start-Stopped.is-0, c.in-Stopped-Start-Stopped.is-1, c.in-Stopped-Start-Stopped.is-2) Row.restart_bad

pub returns-in-Stopped-SurpriseRemoval-SurpriseRemoved-clause-drawn : goal.returns-in-Stopped-SurpriseRemoval-SurpriseRemoved-clause-drawn
returns-in-Stopped-SurpriseRemoval-SurpriseRemoved-clause-drawn c =
    rw (c.in-Stopped-SurpriseRemoval-SurpriseRemoved.is-0, c.in-Stopped-SurpriseRemoval-SurpriseRemoved.is-1, c.in-Stopped-SurpriseRemoval-SurpriseRemoved.is-2) Row.surprise_stopped

pub returns-in-RemovePending-CancelRemove-Started-clause-drawn : goal.returns-in-RemovePending-CancelRemove-Started-clause-drawn
returns-in-RemovePending-CancelRemove-Started-clause-drawn c =
    rw (c.in-RemovePending-CancelRemove-Started.is-0, c.in-RemovePending-CancelRemove-Started.is-1, c.in-RemovePending-CancelRemove-Started.is-2) Row.cancel_remove

pub returns-in-RemovePending-Remove-NoStack-clause-drawn : goal.returns-in-RemovePending-Remove-NoStack-clause-drawn
returns-in-RemovePending-Remove-NoStack-clause-drawn c =
    rw (c.in-RemovePending-Remove-NoStack.is-0, c.in-RemovePending-Remove-NoStack.is-1, c.in-RemovePending-Remove-NoStack.is-2) Row.remove_pending

pub returns-in-SurpriseRemoved-Remove-NoStack-clause-drawn : goal.returns-in-SurpriseRemoved-Remove-NoStack-clause-drawn
returns-in-SurpriseRemoved-Remove-NoStack-clause-drawn c =
    rw (c.in-SurpriseRemoved-Remove-NoStack.is-0, c.in-SurpriseRemoved-Remove-NoStack.is-1, c.in-SurpriseRemoved-Remove-NoStack.is-2) Row.remove_surprised
