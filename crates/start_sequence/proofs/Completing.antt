-- A walk that is completed, as part of its start.
use Rattle.std.proofs.Common.{ℕ, Bool, true, false, Result, Ok, Err, ap}
use Rattle.pnp_model.specs.Records as Records
use Rattle.pnp_model.specs.Records.{Activity, Walk}
use Rattle.pnp_model.specs.Records.Phase.{Starting, Removing}
use Rattle.device_stack.specs.declared.walk.NoSuchRequest.{NoSuchRequest}
use Rattle.device_stack.specs.Waiting.{CompletesWalk, CompletedWalk}
use Rattle.start_sequence.specs.Works.{CompletesWork, CompletedWork}

abbrev pub activity : ℕ → Records.Phase → Activity
activity serial phase = record { serial = serial; phase = phase }

start_by : (serial : ℕ) (w w' : Walk) (ok b : Bool) (r : Result (Unit {0}) NoSuchRequest) → CompletesWalk b r w ok w'
    → CompletesWork b r (activity serial (Starting w)) ok (activity serial (Starting w'))
start_by serial w w' ok true (Ok done) h = ap (λ w. activity serial (Starting w)) h
start_by serial w w' ok true (Err refused) h = h
start_by serial w w' ok false (Ok done) h = h
start_by serial w w' ok false (Err refused) h = ap (λ w. activity serial (Starting w)) h

remove_by : (serial : ℕ) (w w' : Walk) (ok b : Bool) (r : Result (Unit {0}) NoSuchRequest) → CompletesWalk b r w ok w'
    → CompletesWork b r (activity serial (Removing w)) ok (activity serial (Removing w'))
remove_by serial w w' ok true (Ok done) h = ap (λ w. activity serial (Removing w)) h
remove_by serial w w' ok true (Err refused) h = h
remove_by serial w w' ok false (Ok done) h = h
remove_by serial w w' ok false (Err refused) h = ap (λ w. activity serial (Removing w)) h

pub completed_start : (serial : ℕ) (w w' : Walk) (ok : Bool) (r : Result (Unit {0}) NoSuchRequest) → CompletedWalk r w ok w'
    → CompletedWork r (activity serial (Starting w)) ok (activity serial (Starting w'))
completed_start serial w w' ok r h = start_by serial w w' ok w.waits r h

pub completed_remove : (serial : ℕ) (w w' : Walk) (ok : Bool) (r : Result (Unit {0}) NoSuchRequest) → CompletedWalk r w ok w'
    → CompletedWork r (activity serial (Removing w)) ok (activity serial (Removing w'))
completed_remove serial w w' ok r h = remove_by serial w w' ok w.waits r h
