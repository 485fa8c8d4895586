-- What is heard of a driver that is probed.
use Rattle.std.specs.Prelude.{◌≡◌, ◌++◌, ℕ, Bool, true, false, Option, Some, None, Result, Ok, Err, is_some}
use Rattle.live_io.specs.Turns.{Hears, Past}
use Rattle.live_io.specs.declared.peer.Heard.TheVariants.{Line, Over}
use Rattle.pnp_labels.specs.Texts.{Text}
use Rattle.pnp_labels.specs.declared.states.DevState.{DevState}
use Rattle.live_model.specs.Answers.{Reply, reply_in}
use Rattle.live_model.specs.Fronts.{IsFront}
use Rattle.live_model.specs.Notes.{probe_lines}
use Rattle.live_model.specs.Outputs.{Told, hears, says}
use Rattle.live_run.specs.Talks.{HearsBad, HearsNone}
use Rattle.live_run.specs.declared.stop.Stop.{Stop}

-- where the line is an answer: which rules are broken is to be said
abbrev pub TakesProbed : Bool → Option Reply → ℕ → Text → DevState → Text → Text → Type 0
TakesProbed true (Some reply) ask driver state old new = new ≡ old ++ probe_lines ask driver state reply.answer reply.tags
TakesProbed false None ask driver state old new = new ≡ old
TakesProbed _ _ ask driver state old new = ⊥

-- it answers
pub record HearsProbed (driver : Text) (state : DevState) (old new : Told) : Type 0 where
  pub line : Text
  pub rest : Option Text
  pub reply : Reply
  pub comes : Hears old.answers Line line rest
  pub is : reply_in old.asks true line ≡ Some reply
  pub talk : new ≡ says (probe_lines old.asks driver state reply.answer reply.tags) (hears (Some line) rest old)

abbrev pub HasProbed : Result (Unit {0}) Stop → Text → DevState → Told → Told → Option Past → Option Text → Type 0
HasProbed (Ok done) driver state old new past taken = HearsProbed driver state old new
HasProbed (Err Stop.End) driver state old new past taken = HearsNone Over old new
HasProbed (Err Stop.Bad) driver state old new past taken = HearsBad (λ line. is_some (reply_in old.asks true line)) old new
HasProbed (Err (Stop.Fault e)) driver state old new past taken = IsFront old past taken
