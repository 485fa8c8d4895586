-- One step of a request on its way through a stack of drivers.
use Rattle.std.specs.Prelude.{◌≡◌, ℕ, ◌==◌, ◌&&◌, Bool, true, false, List, Option, Some, None, Ok, Err, Result, length, slice_index}
use Rattle.pnp_labels.specs.Texts.{Text}
use Rattle.pnp_labels.specs.declared.words.Answer.{Answer}
use Rattle.pnp_labels.specs.declared.words.AskWhat.TheVariants.{Irp}
use Rattle.pnp_labels.specs.declared.states.Verdict.{Verdict}
use Rattle.pnp_labels.specs.declared.states.Verdict.TheVariants.{Good, Bad}
use Rattle.pnp_model.specs.Records.{Driver, Walk}
use Rattle.pnp_model.specs.Books.{rack_reply, rack_after}
use Rattle.pnp_model.specs.Walks.{place_of, is_bad, has_ended, after}
use Rattle.pnp_model.specs.Events.{answer_of}
use Rattle.device_stack.specs.Standing.{Standing}
use Rattle.device_stack.specs.declared.walk.WalkStep.{WalkStep}
use Rattle.device_stack.specs.declared.walk.WalkStep.TheVariants.{Asked, Waits, Ended}
use Rattle.device_stack.specs.declared.walk.NoSuchRequest.{NoSuchRequest}

-- what a step tells, and what is there after it
pub record Went : Type 0 where
  pub step : WalkStep
  pub standing : Standing
  pub rack : List Driver

abbrev pub verdict : Bool → Verdict
verdict true = Bad
verdict false = Good

-- a step that changes nothing
abbrev pub stays : Standing → List Driver → WalkStep → Went
stays s rack step = record { step = step; standing = s; rack = rack }

-- a driver answers
abbrev pub answers : Walk → ℕ → Answer → List Driver → Went
answers w pos answer rack = record { step = Asked pos answer; standing = record { walk = after w answer; pos = pos }; rack = rack }

-- the driver at the place is asked, by its book
abbrev pub asks : Walk → List ℕ → Text → List Driver → ℕ → Went
asks w stack path rack pos =
    answers w pos (rack_reply (Irp w.minor) path rack (slice_index stack pos)) (rack_after (Irp w.minor) path rack (slice_index stack pos))

-- by whether it waits, and whether it has ended
abbrev pub goes : Standing → List ℕ → Text → List Driver → Bool → Bool → Went
goes s stack path rack true ended = stays s rack (Waits s.pos)
goes s stack path rack false true = stays s rack (Ended (verdict (is_bad s.walk)))
goes s stack path rack false false = asks s.walk stack path rack (place_of s.walk.minor (length stack) s.walk.asked)

abbrev pub went : Standing → List ℕ → Text → List Driver → Went
went s stack path rack = goes s stack path rack s.walk.waits (has_ended s.walk (length stack))

-- the place at which a walk waits
abbrev pub waits_there : Bool → ℕ → Option ℕ
waits_there true pos = Some pos
waits_there false pos = None

abbrev pub waits_at : Standing → Option ℕ
waits_at s = waits_there s.walk.waits s.pos

-- a walk that waits at the place goes on with the answer; any other refuses, and stays
abbrev pub Completes : Bool → Result (Unit {0}) NoSuchRequest → Standing → Bool → Standing → Type 0
Completes true (Ok done) old ok new = new ≡ record { walk = after old.walk (answer_of ok); pos = old.pos }
Completes false (Err refused) old ok new = new ≡ old
Completes true (Err refused) old ok new = ⊥
Completes false (Ok done) old ok new = ⊥

abbrev pub Completed : Result (Unit {0}) NoSuchRequest → Standing → ℕ → Bool → Standing → Type 0
Completed result old pos ok new = Completes (old.walk.waits && (old.pos == pos)) result old ok new
