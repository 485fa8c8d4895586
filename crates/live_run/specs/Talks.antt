-- What was said to the other side and heard from it, with what is still to be said, as one; and what a turn of the talk does.
use Rattle.std.specs.Prelude.{◌≡◌, ◌++◌, ◌⊎◌, ℕ, Bool, false, Option, Some, None, Result, Ok, Err, is_some, option_map}
use Rattle.std.specs.Str.{bytes_eq}
use Rattle.live_io.specs.Turns.{Hears, Past, with_said}
use Rattle.live_io.specs.declared.peer.Heard.{Heard}
use Rattle.live_io.specs.declared.peer.Heard.TheVariants.{Line, LongLine, Over}
use Rattle.pnp_labels.specs.Texts.{Text}
use Rattle.pnp_labels.specs.declared.words.Answer.{Answer}
use Rattle.live_model.specs.Answers.{Reply, hello, reply_in}
use Rattle.live_model.specs.Fronts.{IsFront}
use Rattle.live_model.specs.Notes.{broke_lines}
use Rattle.live_model.specs.Outputs.{Told, hears, says, with_more}
use Rattle.live_run.specs.declared.stop.Stop.{Stop}
use Rattle.live_run.specs.declared.talk.Talk.{Talk}

-- what is to be said counts as said
abbrev pub told_by : ℕ → Text → Option Past → Option Text → Option Text → Told
told_by asks said past taken answers = record { asks = asks; past = option_map (with_said said) past; taken = option_map (with_more said) taken; answers = answers }

abbrev pub told : Talk → Option Past → Option Text → Option Text → Told
told talk past taken answers = told_by talk.asks talk.said.items past taken answers

-- all that was to be said was said
pub record IsSaid (t : Told) (past : Option Past) (taken : Option Text) : Type 0 where
  pub heard : t.past ≡ past
  pub said : t.taken ≡ taken

-- all was said, and then this line was heard
pub record HearsLine (old new : Told) (line : Text) (past : Option Past) (taken : Option Text) : Type 0 where
  pub comes : Hears old.answers Line line new.answers
  pub talk : new ≡ hears (Some line) new.answers old
  pub front : IsFront old past taken

-- all was said, and then no line was heard
pub record HearsNone (heard : Heard) (old new : Told) : Type 0 where
  pub line : Text
  pub comes : Hears old.answers heard line new.answers
  pub talk : new ≡ hears None new.answers old

abbrev pub IsTurn : Result (Unit {0}) Stop → Told → Told → Text → Option Past → Option Text → Type 0
IsTurn (Ok done) old new line past taken = HearsLine old new line past taken
IsTurn (Err Stop.End) old new line past taken = HearsNone Over old new
IsTurn (Err Stop.Bad) old new line past taken = HearsNone LongLine old new
IsTurn (Err (Stop.Fault e)) old new line past taken = IsFront old past taken

-- a line was heard that is no answer
pub record HearsOther (is_answer : Text → Bool) (old new : Told) : Type 0 where
  pub line : Text
  pub comes : Hears old.answers Line line new.answers
  pub other : is_answer line ≡ false
  pub talk : new ≡ hears (Some line) new.answers old

-- too much was heard without an LF, or a line that is no answer
abbrev pub HearsBad : (Text → Bool) → Told → Told → Type 0
HearsBad is_answer old new = HearsNone LongLine old new ⊎ HearsOther is_answer old new

-- what an answer gives, where the line is one: which rules are broken is to be said
abbrev pub TakesReply : Option Answer → Option Reply → ℕ → Text → Text → Text → Type 0
TakesReply (Some answer) (Some reply) ask driver old new = (answer ≡ reply.answer) × (new ≡ old ++ broke_lines ask driver reply.tags)
TakesReply None None ask driver old new = new ≡ old
TakesReply _ _ ask driver old new = ⊥

-- a driver answered so
pub record HearsReply (may_pend : Bool) (driver : Text) (answer : Answer) (old new : Told) : Type 0 where
  pub line : Text
  pub rest : Option Text
  pub reply : Reply
  pub comes : Hears old.answers Line line rest
  pub is : reply_in old.asks may_pend line ≡ Some reply
  pub gives : answer ≡ reply.answer
  pub talk : new ≡ says (broke_lines old.asks driver reply.tags) (hears (Some line) rest old)

-- what is heard of a driver that was asked
abbrev pub HasAnswered : Result Answer Stop → Bool → Text → Told → Told → Option Past → Option Text → Type 0
HasAnswered (Ok answer) may_pend driver old new past taken = HearsReply may_pend driver answer old new × IsFront old past taken
HasAnswered (Err Stop.End) may_pend driver old new past taken = HearsNone Over old new
HasAnswered (Err Stop.Bad) may_pend driver old new past taken = HearsBad (λ line. is_some (reply_in old.asks may_pend line)) old new
HasAnswered (Err (Stop.Fault e)) may_pend driver old new past taken = IsFront old past taken

-- the first line of the answers was heard, and it is `live 1`, or it is not
abbrev pub HasGreeted : Result (Unit {0}) Stop → Told → Told → Option Past → Option Text → Type 0
HasGreeted (Ok done) old new past taken = HearsLine old new hello past taken
HasGreeted (Err Stop.End) old new past taken = HearsNone Over old new
HasGreeted (Err Stop.Bad) old new past taken = HearsBad (λ line. bytes_eq line hello) old new
HasGreeted (Err (Stop.Fault e)) old new past taken = IsFront old past taken
