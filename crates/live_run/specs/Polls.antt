-- What is heard where it is asked whether a request completes.
use Rattle.std.specs.Prelude.{◌≡◌, ◌++◌, ℕ, Bool, true, false, List, Option, Some, None, Result, Ok, Err}
use Rattle.live_io.specs.Turns.{Hears, Past}
use Rattle.live_io.specs.declared.peer.Heard.TheVariants.{Line, Over}
use Rattle.device_ids.specs.Ids.{is_path}
use Rattle.pnp_labels.specs.Texts.{Text}
use Rattle.pnp_labels.specs.declared.event.Event.{Event}
use Rattle.pnp_labels.specs.declared.words.Minor.{Minor}
use Rattle.live_model.specs.Answers as answers
use Rattle.live_model.specs.Answers.{Completion, polled_in}
use Rattle.live_model.specs.Fronts.{IsFront}
use Rattle.live_model.specs.Notes.{broke_lines, done_line}
use Rattle.live_model.specs.Outputs.{Told, completion, hears, is_polled, says}
use Rattle.live_model.specs.Trails.{Trail, Waiting, request_at}
use Rattle.live_run.specs.Talks.{HearsBad, HearsNone}
use Rattle.live_run.specs.declared.poll.Polled.{Polled}
use Rattle.live_run.specs.declared.stop.Stop.{Stop}

-- the completion of a request that waits at a live driver: that it does, and which rules are broken, is to be said
pub record Completes (event : Event) (c : Completion) (ask : ℕ) (t : Trail) (old new : Text) : Type 0 where
  pub at : Waiting
  pub waits : request_at c.path c.minor t ≡ Some at
  pub happens : event ≡ (completion c).event
  pub said : new ≡ old ++ (done_line ask at.driver ++ broke_lines ask at.driver c.tags)

-- the words name a path, and a request that waits at a live driver; or they do not
abbrev pub HasCompleted : Polled → ℕ → Trail → Text → Minor → Bool → List Text → Text → Text → Type 0
HasCompleted (Polled.Completes event) ask t path minor ok tags old new =
    (is_path path ≡ true) × Completes event (record { path = path; minor = minor; ok = ok; tags = tags }) ask t old new
HasCompleted Polled.Bad ask t path minor ok tags old new = (is_path path ≡ true → request_at path minor t ≡ None) × (new ≡ old)
HasCompleted Polled.Nothing ask t path minor ok tags old new = ⊥

abbrev pub TakesPolled : Polled → Option answers.Polled → ℕ → Trail → Text → Text → Type 0
TakesPolled Polled.Nothing polled ask t old new = (polled ≡ Some answers.nothing) × (new ≡ old)
TakesPolled (Polled.Completes event) polled ask t old new = (c : Completion) × (polled ≡ Some (answers.completes c)) × Completes event c ask t old new
TakesPolled Polled.Bad polled ask t old new = (is_polled t polled ≡ false) × (new ≡ old)

-- none completes
pub record HearsNothing (old new : Told) : Type 0 where
  pub line : Text
  pub rest : Option Text
  pub comes : Hears old.answers Line line rest
  pub is : polled_in old.asks line ≡ Some answers.nothing
  pub talk : new ≡ hears (Some line) rest old

-- this event happens
pub record HearsCompletion (t : Trail) (event : Event) (old new : Told) : Type 0 where
  pub line : Text
  pub rest : Option Text
  pub c : Completion
  pub at : Waiting
  pub comes : Hears old.answers Line line rest
  pub is : polled_in old.asks line ≡ Some (answers.completes c)
  pub waits : request_at c.path c.minor t ≡ Some at
  pub happens : event ≡ (completion c).event
  pub talk : new ≡ says (done_line old.asks at.driver ++ broke_lines old.asks at.driver c.tags) (hears (Some line) rest old)

abbrev pub HasPolled : Result (Option Event) Stop → Trail → Told → Told → Option Past → Option Text → Type 0
HasPolled (Ok None) t old new past taken = HearsNothing old new
HasPolled (Ok (Some event)) t old new past taken = HearsCompletion t event old new × IsFront old past taken
HasPolled (Err Stop.End) t old new past taken = HearsNone Over old new
HasPolled (Err Stop.Bad) t old new past taken = HearsBad (λ line. is_polled t (polled_in old.asks line)) old new
HasPolled (Err (Stop.Fault e)) t old new past taken = IsFront old past taken
