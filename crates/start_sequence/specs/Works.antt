-- What a start is in the words of the machine.
use Rattle.std.specs.Prelude.{◌≡◌, Bool, true, false, List, [], ◌∷◌, Option, Ok, Err, Result}
use Rattle.pnp_labels.specs.declared.words.Minor.{Minor}
use Rattle.pnp_model.specs.Records as Records
use Rattle.pnp_model.specs.Records.{Activity}
use Rattle.pnp_model.specs.Machine.{phase_walk, is_waiting}
use Rattle.pnp_model.specs.Events.{answer_of, completed_phase}
use Rattle.device_stack.specs.declared.walk.NoSuchRequest.{NoSuchRequest}
use Rattle.device_stack.specs.Waiting.{minor_of}
use Rattle.start_sequence.specs.declared.work.Phase.{Phase}
use Rattle.start_sequence.specs.declared.work.Phase.TheVariants.{Adding, Searching, Starting, Removing, Due}

abbrev pub is_empty : {A : Type 0} → List A → Bool
is_empty [] = true
is_empty (x ∷ xs) = false

abbrev pub phase_of : Phase → Records.Phase
phase_of (Adding drivers) = Records.Phase.Adding drivers
phase_of Searching = Records.Phase.Searching
phase_of (Starting standing) = Records.Phase.Starting standing.walk
phase_of (Removing standing) = Records.Phase.Removing standing.walk
phase_of (Due problem) = Records.Phase.Due problem

-- the request that waits in a phase
abbrev pub minor_that_waits : Records.Phase → Option Minor
minor_that_waits phase = minor_of (phase_walk phase)

-- a start that waits goes on with the answer; any other refuses, and stays
abbrev pub CompletesWork : Bool → Result (Unit {0}) NoSuchRequest → Activity → Bool → Activity → Type 0
CompletesWork true (Ok done) old ok new = new ≡ record old { phase = completed_phase (answer_of ok) old.phase }
CompletesWork false (Err refused) old ok new = new ≡ old
CompletesWork true (Err refused) old ok new = ⊥
CompletesWork false (Ok done) old ok new = ⊥

abbrev pub CompletedWork : Result (Unit {0}) NoSuchRequest → Activity → Bool → Activity → Type 0
CompletedWork result old ok new = CompletesWork (is_waiting (phase_walk old.phase)) result old ok new
