-- A talk in turns: all that was said before a line was read, and the line.
use Rattle.std.specs.Prelude.{◌≡◌, ◌≤◌, ◌==◌, ◌+◌, ℕ, nat_le, nat_lt, List, [], ◌∷◌, ◌++◌, length, take, drop, Option, Some, None, option_map, unwrap_or, if◌then◌else◌}
use Rattle.std.specs.List.{position}
use Rattle.live_io.specs.declared.peer.Heard.{Heard}
use Rattle.live_io.specs.declared.peer.Heard.TheVariants.{Line, LongLine, Over}

abbrev pub Text : Type 0
Text = List ℕ

-- what was said since the last line was read, and the line that was then read; none where none came, or one that is too long
pub record Turn : Type 0 where
  pub said : Text
  pub heard : Option Text

-- the turns that were taken, and what was said since
pub record Past : Type 0 where
  pub turns : List Turn
  pub open_ : Text

abbrev pub heard_line : Heard → Text → Option Text
heard_line Line line = Some line
heard_line LongLine line = None
heard_line Over line = None

abbrev pub with_said : Text → Past → Past
with_said said past = record past { open_ = past.open_ ++ said }

abbrev pub with_turn : Text → Option Text → Past → Past
with_turn said heard past = record { turns = past.turns ++ record { said = past.open_ ++ said; heard = heard } ∷ []; open_ = [] }

-- a text was said, where the talk is told
abbrev pub HasSaid : Option Past → Option Past → Text → Type 0
HasSaid old new said = new ≡ option_map (with_said said) old

-- the same of some front of it
abbrev pub HasSaidFront : Option Past → Option Past → Text → Type 0
HasSaidFront old new said = (n : ℕ) × (n ≤ length said) × HasSaid old new (take n said)

-- a turn was taken: all of the text was said before the line was read
abbrev pub HasTurned : Option Past → Option Past → Text → Heard → Text → Type 0
HasTurned old new said heard line = new ≡ option_map (with_turn said (heard_line heard line)) old

-- how many bytes stand before the first LF, or in all where there is none
abbrev pub feed_at : Text → ℕ
feed_at text = unwrap_or (position (λ byte. byte == 10) text) (length text)

-- what is heard of a text: a line, which ends with LF; or that it has more than 4,096 bytes; or that there is none
abbrev pub heard_by : Text → ℕ → Heard
heard_by text at = if nat_le at 4096 then (if nat_lt at (length text) then Line else Over) else LongLine

abbrev pub heard_of : Text → Heard
heard_of text = heard_by text (feed_at text)

-- where a line is heard, it is what stands before the LF, and what stands behind that is still to come
abbrev pub LineOf : Text → Heard → Text → Option Text → Type 0
LineOf text Line line new = (line ≡ take (feed_at text) text) × (new ≡ Some (drop (feed_at text + 1) text))
LineOf text heard line new = Unit {0}

pub record HearsOf (text : Text) (heard : Heard) (line : Text) (new : Option Text) : Type 0 where
  pub heard_is : heard ≡ heard_of text
  pub line_is : LineOf text heard line new

-- what is heard of the answers that are still to come, where these are told
abbrev pub Hears : Option Text → Heard → Text → Option Text → Type 0
Hears None heard line new = Unit {0}
Hears (Some text) heard line new = HearsOf text heard line new
