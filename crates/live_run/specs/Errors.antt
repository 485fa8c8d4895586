-- Why a turn was not taken, as a reason why a run is given up.
use Rattle.live_io.specs.declared.peer.PeerError.{PeerError}
use Rattle.live_io.specs.declared.peer.PeerError.TheVariants as peers
use Rattle.live_run.specs.declared.stop.DriveError.{DriveError}
use Rattle.live_run.specs.declared.stop.Stop.{Stop}

abbrev pub drive_error : PeerError → DriveError
drive_error peers.ReadFault = DriveError.ReadFault
drive_error peers.WriteFault = DriveError.WriteFault
drive_error peers.WantOfMemory = DriveError.WantOfMemory

abbrev pub stop_of : PeerError → Stop
stop_of error = Stop.Fault (drive_error error)
