-- The events that a reader gives, call after call.
use Rattle.std.proofs.Common.{◌≡◌, ℕ, List, [], ◌++◌, ◌∙◌, refl, subst, append-nil}
use Rattle.script_reader.specs.declared.line.Line.{Line}
use Rattle.script_reader.specs.Reading.{Reading, HasRead, Moves}

-- what was read from old on is appended
pub record TakesOn (old new : Reading) (before after : List Line) : Type 0 where
  pub reads : (all : List ℕ) → HasRead all before old → HasRead all after new
  pub finished : new.finished ≡ old.finished
  pub fed : new.fed ≡ old.fed

pub takes_none : (r : Reading) (lines : List Line) → TakesOn r r lines lines
takes_none r lines = record { reads = λ all h. h; finished = refl; fed = refl }

pub takes_more : (old mid new : Reading) (before lines more : List Line) → TakesOn old mid before lines
    → ((all : List ℕ) (events : List Line) → HasRead all events mid → HasRead all (events ++ more) new)
    → Moves mid new more → TakesOn old new before (lines ++ more)
takes_more old mid new before lines more so reads moves = record {
  reads = λ all h. reads all lines (so.reads all h);
  finished = moves.finished ∙ so.finished;
  fed = moves.fed ∙ so.fed;
}

pub takes_no_more : (old mid new : Reading) (before lines : List Line) → TakesOn old mid before lines
    → ((all : List ℕ) (events : List Line) → HasRead all events mid → HasRead all (events ++ []) new)
    → Moves mid new [] → TakesOn old new before lines
takes_no_more old mid new before lines so reads moves =
    subst (λ ls. TakesOn old new before ls) (append-nil lines) (takes_more old mid new before lines [] so reads moves)
