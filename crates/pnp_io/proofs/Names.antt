-- Lemmas on files in memory, by their names.
use Rattle.std.proofs.Common.{◌≡◌, ℕ, ◌<◌, ◌≤◌, suc, zero, List, [], ◌∷◌, ◌++◌, length, get_or, set, Bool, true, false, Option, Some, None, option_map, if◌then◌else◌, refl, ap, sym, ◌∙◌, arith}
use Rattle.std.specs.Str.{bytes_eq}
use Rattle.std.specs.List.{find, position, position_or_len}
use Rattle.std.proofs.lemmas.List.Quantifiers.{position-Some}
use Rattle.std.proofs.lemmas.List.Sums.{fails_before_first}
use Rattle.std.proofs.lemmas.Slice.Eq.{bytes_eq-Decides}
use Rattle.std.proofs.lemmas.Grind.{common_steps}
use Rattle.pnp_io.specs.Memory.{file_in, with_file}

-- a file in the place of the first of its name
pub with_file_at : (name bytes : List ℕ) (files : List (List ℕ × List ℕ)) (i : ℕ) (d : List ℕ × List ℕ) → i < length files → bytes_eq (get_or files i d).0 name ≡ true → ((k : ℕ) → k < i → bytes_eq (get_or files k d).0 name ≡ false) → set files i (name, bytes) ≡ with_file name bytes files
with_file_at name bytes [] i d low at before = absurd (omega arith)
with_file_at name bytes (file ∷ files) zero d low at before = rw at refl
with_file_at name bytes (file ∷ files) (suc i) d low at before =
    rw (before 0 (omega arith)) (ap (λ (fs : List (List ℕ × List ℕ)). file ∷ fs) (with_file_at name bytes files i d (omega arith) at (λ k h. before (suc k) (omega arith))))

-- a file at the end, where none has its name
pub with_file_end : (name bytes : List ℕ) (files : List (List ℕ × List ℕ)) (d : List ℕ × List ℕ) → ((k : ℕ) → k < length files → bytes_eq (get_or files k d).0 name ≡ false) → files ++ (name, bytes) ∷ [] ≡ with_file name bytes files
with_file_end name bytes [] d none = refl
with_file_end name bytes (file ∷ files) d none =
    rw (none 0 (omega arith)) (ap (λ (fs : List (List ℕ × List ℕ)). file ∷ fs) (with_file_end name bytes files d (λ k h. none (suc k) (omega arith))))

-- where a place was found, a file is put there, and else at the end
pub placed : (name bytes : List ℕ) (key : List ℕ) (files seen : List (List ℕ × List ℕ)) (place : Option ℕ) (i : ℕ) → key ≡ name → seen ≡ files → place ≡ position (λ (file : List ℕ × List ℕ). bytes_eq file.0 key) seen → place ≡ Some i → set files i (name, bytes) ≡ with_file name bytes files
placed name bytes key files seen place i same all at is =
    let e : position (λ (file : List ℕ × List ℕ). bytes_eq file.0 name) files ≡ Some i = sym (rw (same, all) at at) ∙ is in
    let first = position-Some (λ (file : List ℕ × List ℕ). bytes_eq file.0 name) files i (name, bytes) e in
    with_file_at name bytes files i (name, bytes) first.0 first.1 first.2

pub appended : (name bytes : List ℕ) (key : List ℕ) (files seen : List (List ℕ × List ℕ)) (place : Option ℕ) → key ≡ name → seen ≡ files → place ≡ position (λ (file : List ℕ × List ℕ). bytes_eq file.0 key) seen → place ≡ None → files ++ (name, bytes) ∷ [] ≡ with_file name bytes files
appended name bytes key files seen place same all at is =
    let e : position (λ (file : List ℕ × List ℕ). bytes_eq file.0 name) files ≡ None = sym (rw (same, all) at at) ∙ is in
    let past : length files ≤ position_or_len (λ (file : List ℕ × List ℕ). bytes_eq file.0 name) files = grind (arith, common_steps) in
    with_file_end name bytes files (name, bytes) (λ k h. fails_before_first (λ (file : List ℕ × List ℕ). bytes_eq file.0 name) files k (name, bytes) (omega arith))

-- equal names are looked up alike
alike : (a b other : List ℕ) → bytes_eq a b ≡ true → bytes_eq a other ≡ bytes_eq b other
alike a b other e = ap (λ (n : List ℕ). bytes_eq n other) ((bytes_eq-Decides a b).0 e)

-- of two names that differ, one that is another's is not the other
apart : (a b other : List ℕ) → bytes_eq a b ≡ false → bytes_eq b other ≡ true → bytes_eq a other ≡ false
apart a b other e f = let same : b ≡ other = (bytes_eq-Decides b other).0 f in rw (← same) e

found_by : (here there name : Bool) (file : List ℕ × List ℕ) (bytes : List ℕ) (rest later : Option (List ℕ)) → (here ≡ true → there ≡ name) → (here ≡ false → name ≡ true → there ≡ false) → later ≡ (if name then Some bytes else rest) →
    (if here then (if name then Some bytes else rest) else (if there then Some file.1 else later)) ≡ (if name then Some bytes else (if there then Some file.1 else rest))
found_by true true true file bytes rest later h k e = refl
found_by true true false file bytes rest later h k e = absurd (let bad = h refl in cc)
found_by true false true file bytes rest later h k e = absurd (let bad = h refl in cc)
found_by true false false file bytes rest later h k e = refl
found_by false true true file bytes rest later h k e = absurd (let bad = k refl refl in cc)
found_by false true false file bytes rest later h k e = refl
found_by false false true file bytes rest later h k e = e
found_by false false false file bytes rest later h k e = e

-- a look-up, at the first file and those after it
file_in-cons : (file : List ℕ × List ℕ) (files : List (List ℕ × List ℕ)) (other : List ℕ) → file_in (file ∷ files) other ≡ (if bytes_eq file.0 other then Some file.1 else file_in files other)
file_in-cons file files other = by (bytes_eq file.0 other)
  where
    by : (b : Bool) → option_map (λ (f : List ℕ × List ℕ). f.1) (if b then Some file else find (λ (f : List ℕ × List ℕ). bytes_eq f.0 other) files) ≡ (if b then Some file.1 else file_in files other)
    by true = refl
    by false = refl

with_file-cons : (b : Bool) (name bytes : List ℕ) (file : List ℕ × List ℕ) (files rest : List (List ℕ × List ℕ)) (other : List ℕ) → file_in (if b then (name, bytes) ∷ files else file ∷ rest) other ≡ (if b then (if bytes_eq name other then Some bytes else file_in files other) else (if bytes_eq file.0 other then Some file.1 else file_in rest other))
with_file-cons true name bytes file files rest other = file_in-cons (name, bytes) files other
with_file-cons false name bytes file files rest other = file_in-cons file rest other

-- what is found after a name was given its bytes
pub file_in_with_file : (name bytes : List ℕ) (files : List (List ℕ × List ℕ)) (other : List ℕ) → file_in (with_file name bytes files) other ≡ (if bytes_eq name other then Some bytes else file_in files other)
file_in_with_file name bytes [] other = file_in-cons (name, bytes) [] other
file_in_with_file name bytes (file ∷ files) other =
    with_file-cons (bytes_eq file.0 name) name bytes file files (with_file name bytes files) other
    ∙ (found_by (bytes_eq file.0 name) (bytes_eq file.0 other) (bytes_eq name other) file bytes (file_in files other) (file_in (with_file name bytes files) other) (alike file.0 name other) (apart file.0 name other) (file_in_with_file name bytes files other)
    ∙ ap (λ (r : Option (List ℕ)). if bytes_eq name other then Some bytes else r) (sym (file_in-cons file files other)))
