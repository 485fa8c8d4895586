-- A tally with one run more, and with the runs of another.
use Rattle.std.proofs.Common.{◌≡◌, ℕ, ◌+◌, ◌<◌, ◌≤◌, Bool, true, false, cond, List, [], ◌∷◌, ◌++◌, length, refl, ap, ◌∙◌, arith, Some, None}
use Rattle.std.specs.Str.{bytes_eq}
use Rattle.std.specs.FinMap.{get}
use Rattle.std.proofs.lemmas.List.Elements.{All-cons, All-nil}
use Rattle.ending_tally.specs.Tallies.{Run, Ended, Told, IsMark, IsEnded, IsTally, capped, is_broken_at, mark_at}
use Rattle.ending_tally.specs.Steps.{both, mark_if, with_kind}
use Rattle.ending_tally.proofs.Marks.{joined, mark_of_none, IsTally-append}
use Rattle.ending_tally.proofs.Maps.{get-with_kind}

mark_of_one : (there : Bool) (run : Run) → IsMark (cond there (run ∷ []) []) (mark_if there run.number)
mark_of_one true run = record {
  scripts = omega arith;
  first = ((0, omega arith, refl), All-cons (λ m. run.number ≤ m) run.number [] (omega arith) (All-nil (λ m. run.number ≤ m)));
}
mark_of_one false run = mark_of_none

-- what there is to tell of one run
abbrev pub one_ended : Run → Ended
one_ended run = record { mark = record { scripts = 1; first = run.number }; text = run.text }

ended_of_one : (there : Bool) (run : Run) → IsEnded (cond there (run ∷ []) []) (cond there (Some (one_ended run)) None)
ended_of_one true run = (mark_of_one true run, (0, run, omega arith, refl, (refl, refl)))
ended_of_one false run = refl

pub tally_add : (few : ℕ) (runs : List Run) (old new : Told) (run : Run) → IsTally few runs old
    → new.scripts ≡ capped (old.scripts + 1)
    → length new.broken ≡ length old.broken
    → ((place : ℕ) → place < length old.broken → mark_at new.broken place ≡ both (mark_at old.broken place) (mark_if (is_broken_at run.broken place) run.number))
    → new.endings ≡ with_kind old.endings run.kind (one_ended run)
    → IsTally few (runs ++ run ∷ []) new
tally_add few runs old new run h count many marks ends =
    IsTally-append few runs (run ∷ []) old new 1 (λ place. mark_if (is_broken_at run.broken place) run.number) (λ kind. cond (bytes_eq kind run.kind) (Some (one_ended run)) None) h
    (omega arith)
    (λ place l. mark_of_one (is_broken_at run.broken place) run)
    (λ kind. ended_of_one (bytes_eq kind run.kind) run)
    count many marks
    (λ kind. ap (λ m. get m kind) ends ∙ get-with_kind old.endings run.kind (one_ended run) kind)

pub tally_merge : (few : ℕ) (runs others : List Run) (old other new : Told) → IsTally few runs old → IsTally few others other
    → new.scripts ≡ capped (old.scripts + other.scripts)
    → length new.broken ≡ length old.broken
    → ((place : ℕ) → place < length old.broken → mark_at new.broken place ≡ both (mark_at old.broken place) (mark_at other.broken place))
    → ((kind : List ℕ) → get new.endings kind ≡ joined (get old.endings kind) (get other.endings kind))
    → IsTally few (runs ++ others) new
tally_merge few runs others old other new h k count many marks ends =
    IsTally-append few runs others old new other.scripts (λ place. mark_at other.broken place) (λ kind. get other.endings kind) h k.scripts k.broken k.endings count many marks ends
