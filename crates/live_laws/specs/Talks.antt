-- That each ask was said before its answer was heard.
use Rattle.std.specs.Prelude.{ℕ, ◌+◌, ◌≡◌, List, [], ◌∷◌, ◌++◌, length, Option, Some, None}
use Rattle.std.specs.List.{filter}
use Rattle.live_io.specs.Turns.{Past, Turn}
use Rattle.pnp_labels.specs.Texts.{Text}
use Rattle.pnp_model.specs.Endings.{joined}
use Rattle.live_model.specs.Notes.{ask_line}
use Rattle.live_laws.specs.Notes.{is_ask}

-- all that was said in these turns
abbrev pub said_in : List Turn → Text
said_in [] = []
said_in (turn ∷ turns) = turn.said ++ said_in turns

abbrev pub heard_line : Option Text → Text
heard_line None = []
heard_line (Some line) = line ++ 10 ∷ []

-- the lines that were heard
abbrev pub heard_in : List Turn → Text
heard_in [] = []
heard_in (turn ∷ turns) = heard_line turn.heard ++ heard_in turns

-- lines, of which none is an ask, and then the ask of this number
pub record EndsWithAsk (number : ℕ) (said : Text) : Type 0 where
  pub lines : List Text
  pub words : Text
  pub is : said ≡ joined lines ++ ask_line number words
  pub none : filter is_ask lines ≡ []

-- what was said in these turns ends with an ask each, and these are numbered from this number on
abbrev pub AsksFrom : ℕ → List Turn → Type 0
AsksFrom number [] = Unit {0}
AsksFrom number (turn ∷ turns) = EndsWithAsk number turn.said × AsksFrom (number + 1) turns

-- There were as many turns as asks, and in the turn of a number all was said up to the ask of this number, and then a line was heard, or
-- none. What was said in these turns, and then behind them, is the output; and the lines heard are those of the answers, from the first on.
pub record AsksCameFirst (answers out : Text) (asks : ℕ) (p : Past) : Type 0 where
  pub count : length p.turns ≡ asks
  pub each : AsksFrom 1 p.turns
  pub said : out ≡ said_in p.turns ++ p.open_
  pub rest : Text
  pub heard : answers ≡ heard_in p.turns ++ rest
