-- The rows of a table, one after another.
use Rattle.std.proofs.Common.{◌≡◌, ℕ, ◌+◌, ◌<◌, List, ◌∷◌, length, get_or, drop, map, Some, true, false, Bool, refl, sym, ◌∙◌, ap, suc, add-one, Bor, cond}
use Rattle.std.proofs.Math.Seq.{drop-cons}
use Rattle.std.specs.Str.{bytes_eq}
use Rattle.script_reader.specs.Tables.{among}

abbrev pub rows_of : {A : Type 0} → List (Bor (List ℕ) × A) → List (List ℕ × A)
rows_of rows = map (λ row. (row.0.now, row.1)) rows

-- the first rows are not of this word
pub record Missed {A : Type 0} (rows : List (Bor (List ℕ) × A)) (word : List ℕ) (i : ℕ) : Type 0 where
  pub is : among (rows_of rows) word ≡ among (rows_of (drop i rows)) word

pub missed_none : {A : Type 0} (rows : List (Bor (List ℕ) × A)) (word : List ℕ) → Missed rows word 0
missed_none rows word = record { is = refl }

next : {A : Type 0} (rows : List (Bor (List ℕ) × A)) (word : List ℕ) (i : ℕ) (row : Bor (List ℕ) × A) (b : Bool) → i < length rows
    → row ≡ get_or rows i row → b ≡ bytes_eq row.0.now word
    → among (rows_of (drop i rows)) word ≡ cond b (Some row.1) (among (rows_of (drop (i + 1) rows)) word)
next rows word i row b less here is =
    ap (λ rs. among (rows_of rs) word) (drop-cons rows i row less)
    ∙ ap (λ r. among (rows_of (r ∷ drop (suc i) rows)) word) (sym here)
    ∙ ap (λ c. cond c (Some row.1) (among (rows_of (drop (suc i) rows)) word)) (sym is)
    ∙ ap (λ n. cond b (Some row.1) (among (rows_of (drop n rows)) word)) (sym (add-one i))

pub missed_next : {A : Type 0} (rows : List (Bor (List ℕ) × A)) (word : List ℕ) (i : ℕ) (row : Bor (List ℕ) × A) (b : Bool) → i < length rows
    → row ≡ get_or rows i row → b ≡ bytes_eq row.0.now word → b ≡ false → Missed rows word i → Missed rows word (i + 1)
missed_next rows word i row b less here is no_ so = record {
  is = so.is ∙ next rows word i row b less here is ∙ ap (λ c. cond c (Some row.1) (among (rows_of (drop (i + 1) rows)) word)) no_;
}

pub found_row : {A : Type 0} (rows : List (Bor (List ℕ) × A)) (word : List ℕ) (i : ℕ) (row : Bor (List ℕ) × A) (b : Bool) → i < length rows
    → row ≡ get_or rows i row → b ≡ bytes_eq row.0.now word → b ≡ true → Missed rows word i → Some row.1 ≡ among (rows_of rows) word
found_row rows word i row b less here is on so =
    sym (so.is ∙ next rows word i row b less here is ∙ ap (λ c. cond c (Some row.1) (among (rows_of (drop (i + 1) rows)) word)) on)
