-- A request that waits, and its completion, whatever the place.
use Rattle.std.specs.Prelude.{◌≡◌, Bool, true, false, Option, Some, None, Ok, Err, Result}
use Rattle.pnp_labels.specs.declared.words.Minor.{Minor}
use Rattle.pnp_model.specs.Records.{Walk}
use Rattle.pnp_model.specs.Events.{answer_of}
use Rattle.pnp_model.specs.Walks.{after}
use Rattle.device_stack.specs.declared.walk.NoSuchRequest.{NoSuchRequest}

abbrev pub minor_if : Walk → Bool → Option Minor
minor_if w true = Some w.minor
minor_if w false = None

abbrev pub minor_of : Option Walk → Option Minor
minor_of None = None
minor_of (Some w) = minor_if w w.waits

-- a walk that waits goes on with the answer; any other refuses, and stays
abbrev pub CompletesWalk : Bool → Result (Unit {0}) NoSuchRequest → Walk → Bool → Walk → Type 0
CompletesWalk true (Ok done) old ok new = new ≡ after old (answer_of ok)
CompletesWalk false (Err refused) old ok new = new ≡ old
CompletesWalk true (Err refused) old ok new = ⊥
CompletesWalk false (Ok done) old ok new = ⊥

abbrev pub CompletedWalk : Result (Unit {0}) NoSuchRequest → Walk → Bool → Walk → Type 0
CompletedWalk result old ok new = CompletesWalk old.waits result old ok new
