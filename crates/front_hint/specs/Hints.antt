-- What is allowed after so many lines of a trace of a script with clients.
use Rattle.std.specs.Prelude.{ℕ, ◌+◌, ◌≡◌, ◌↔◌, List, ◌++◌, Option, Some, None, length, map, Contains}
use Rattle.pnp_labels.specs.Texts.{Text}
use Rattle.pnp_labels.specs.declared.words.Answer.{Answer}
use Rattle.pnp_model.specs.Endings.{joined}
use Rattle.pnp_model.specs.Records.{Settings}
use Rattle.front_check.specs.FrontChecks.{Place, Allows, Follow, IsStuck, IsYes}
use Rattle.front_hint.specs.Spots.{AllowsBy, AllowsNone}
use Rattle.trace_hint.specs.declared.allowed.Seen.{Seen}

-- so many lines of the trace are allowed, one after another, and lead there
pub record IsReached (told : Settings) (here : Place) (trace : Text) (count : ℕ) (there : Place) : Type 0 where
  pub lines : List Text
  pub rest : Text
  pub follow : Follow told here lines there
  pub is : trace ≡ joined lines ++ rest
  pub size : length lines ≡ count

-- so many lines of the trace lead nowhere else
abbrev pub Arrives : Settings → Place → Text → ℕ → Place → Type 0
Arrives told here trace count place = (there : Place) → IsReached told here trace count there → there ≡ place

-- the line that is allowed here where drivers that are asked answer so; or no line is
abbrev pub NextBy : Answer → Settings → Place → Option Text → Type 0
NextBy answer told here (Some line) = (next : Place) × AllowsBy answer told here line next
NextBy answer told here None = AllowsNone told here

-- the same after so many lines of the trace
abbrev pub LineBy : Answer → Settings → Place → Text → ℕ → Option Text → Type 0
LineBy answer told here trace count line = (there : Place) → IsReached told here trace count there → NextBy answer told there line

-- a line is among these exactly where it is allowed here
abbrev pub AreAllowed : Settings → Place → List Text → Type 0
AreAllowed told here allowed = (line : Text) → Contains allowed line ↔ ((next : Place) × Allows told here line next)

-- the same after so many lines of the trace
abbrev pub AllowedAt : Settings → Place → Text → ℕ → List Text → Type 0
AllowedAt told here trace count allowed = (there : Place) → IsReached told here trace count there → AreAllowed told there allowed

-- The trace is a run; or so many lines of it are allowed, and then it does not go on with one that is; and these are allowed there.
pub record Stops (told : Settings) (here : Place) (trace : Text) (line : ℕ) (allowed : List Text) : Type 0 where
  pub lines : List Text
  pub there : Place
  pub rest : Text
  pub follow : Follow told here lines there
  pub is : trace ≡ joined lines ++ rest
  pub stuck : IsStuck told there rest
  pub number : line ≡ length lines + 1
  pub exact : AreAllowed told there allowed

abbrev pub IsSeen : Settings → Place → Text → Seen → Type 0
IsSeen told here trace Seen.Yes = IsYes told here trace
IsSeen told here trace (Seen.No line allowed) = Stops told here trace line (map (λ l. l.items) allowed.items)
