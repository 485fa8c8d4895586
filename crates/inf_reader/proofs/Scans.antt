-- Loops that cut a list at each element that passes.
use Rattle.std.proofs.Common.{◌≡◌, ℕ, ◌+◌, ◌-◌, ◌≤◌, ◌<◌, Bool, true, false, cond, not, List, [], ◌∷◌, ◌++◌, length, take, drop, map, arith, ap, subst, sym, refl, ◌∙◌, Option, Some, None, append_assoc, get_or, add-one, drop-cons, suc}
use Rattle.std.specs.List.{position, position_or_len, slice_split, onto_first}
use Rattle.std.proofs.lemmas.List.Splits.{slice_split_first}
use Rattle.std.proofs.lemmas.Bool.{ltb-true, ltb-false}
use Rattle.std.proofs.lemmas.Option.{cond_some}
use Rattle.std.proofs.lemmas.Grind.{common_steps}
use Rattle.inf_reader.specs.declared.symbols.Symbol.{Symbol}
use Rattle.inf_reader.specs.declared.symbols.Symbol.TheVariants.{Mark}
use Rattle.inf_reader.specs.Symbols.{is_plain}
use Rattle.inf_reader.specs.Tokens.{Strings}
use Rattle.inf_reader.specs.Entries.{part_text, values_of}
use Rattle.inf_reader.specs.Cuts.{cut_at, cut_by}

all_behind : {X : Type 0} (xs : List X) (n : ℕ) → n ≤ length xs → take (length xs - n) (drop n xs) ≡ drop n xs
all_behind xs n within = grind (arith, common_steps)

-- what a function that found the place answers
pub cut_at-Some : {X : Type 0} (p : X → Bool) (xs : List X) (at : ℕ) → position p xs ≡ Some at → at < length xs
    → Some (take at xs, take (length xs - (at + 1)) (drop (at + 1) xs)) ≡ cut_at p xs
unfolding cut_at
cut_at-Some p xs at found within = ap (λ l. Some (take at xs, l)) (all_behind xs (at + 1) (omega arith)) ∙ sym (ap (cut_by xs) found)

pub cut_at-None : {X : Type 0} (p : X → Bool) (xs : List X) → position p xs ≡ None → None ≡ cut_at p xs
unfolding cut_at
cut_at-None p xs none = sym (ap (cut_by xs) none)

split_at_place : {X : Type 0} (p : X → Bool) (xs : List X) (at : ℕ) (d : X) → position p xs ≡ Some at → slice_split p xs ≡ take at xs ∷ slice_split p (drop (at + 1) xs)
split_at_place {X} p xs at d found =
    let c = cond_some _ (position_or_len p xs) at found in
    let P : ℕ → Type 0 = λ n. slice_split p xs ≡ take n xs ∷ slice_split p (drop (n + 1) xs) in
    subst P c.1 (slice_split_first p xs d (ltb-true _ _ c.0))

by_place : {X : Type 0} (p : X → Bool) (xs : List X) (d : X) (parts : List X × List X) (place : Option ℕ) → position p xs ≡ place → cut_by xs place ≡ Some parts → slice_split p xs ≡ parts.0 ∷ slice_split p parts.1
by_place p xs d parts None at found = let h : None ≡ Some parts = found in cc
by_place {X} p xs d parts (Some i) at found =
    let same : (take i xs, drop (i + 1) xs) ≡ parts = cc in
    let P : List X × List X → Type 0 = λ q. slice_split p xs ≡ q.0 ∷ slice_split p q.1 in
    subst P same (split_at_place p xs i d at)

-- a split, from the first element that passes on
pub slice_split-cut : {X : Type 0} (p : X → Bool) (xs : List X) (d : X) (parts : List X × List X) → cut_at p xs ≡ Some parts → slice_split p xs ≡ parts.0 ∷ slice_split p parts.1
unfolding cut_at
slice_split-cut p xs d parts found = by_place p xs d parts (position p xs) refl found

one_part : {X : Type 0} (p : X → Bool) (xs : List X) → length xs ≤ position_or_len p xs → slice_split p xs ≡ xs ∷ []
one_part p [] h = refl
one_part p (x ∷ xs) h =
    (elim (p x) as (λ b. length (x ∷ xs) ≤ cond (not b) (1 + position_or_len p xs) 0 → cond b ([] ∷ slice_split p xs) (onto_first x (slice_split p xs)) ≡ (x ∷ xs) ∷ []) [
      | true ↦ λ k. absurd (omega arith)
      | false ↦ λ k. ap (onto_first x) (one_part p xs (omega arith))
    ]) h

cond_none : {A : Type 0} (b : Bool) (x : A) → cond b (Some x) None ≡ None → b ≡ false
cond_none true x e = cc
cond_none false x e = refl

no_place : {X : Type 0} (p : X → Bool) (xs : List X) (place : Option ℕ) → position p xs ≡ place → cut_by xs place ≡ None → slice_split p xs ≡ xs ∷ []
no_place p xs None at none = one_part p xs (ltb-false _ _ (cond_none _ (position_or_len p xs) at))
no_place p xs (Some i) at none = let h : Some (take i xs, drop (i + 1) xs) ≡ None = none in cc

pub slice_split-no_cut : {X : Type 0} (p : X → Bool) (xs : List X) → cut_at p xs ≡ None → slice_split p xs ≡ xs ∷ []
unfolding cut_at
slice_split-no_cut p xs none = no_place p xs (position p xs) refl none

-- the values, from the first comma on
pub values_of-cut : (strings : Option Strings) (symbols : List Symbol) (parts : List Symbol × List Symbol) → cut_at (is_plain 44) symbols ≡ Some parts → values_of strings symbols ≡ part_text strings parts.0 ∷ values_of strings parts.1
values_of-cut strings symbols parts found = ap (map (part_text strings)) (slice_split-cut (is_plain 44) symbols Mark parts found)

pub values_of-no_cut : (strings : Option Strings) (symbols : List Symbol) → cut_at (is_plain 44) symbols ≡ None → values_of strings symbols ≡ part_text strings symbols ∷ []
values_of-no_cut strings symbols none = ap (map (part_text strings)) (slice_split-no_cut (is_plain 44) symbols none)

-- what was put at the end, and the rest
pub onto_end : {X : Type 0} (out rest all more : List X) (x : X) → out ++ rest ≡ all → rest ≡ x ∷ more → (out ++ x ∷ []) ++ more ≡ all
onto_end out rest all more x e is = append_assoc out (x ∷ []) more ∙ (sym (ap (λ r. out ++ r) is) ∙ e)

-- a list from a place on
pub drop_more : {X : Type 0} (xs : List X) (at : ℕ) (x : X) → at < length xs → ((d : X) → get_or xs at d ≡ x) → drop at xs ≡ x ∷ drop (at + 1) xs
drop_more xs at x within item = rw add-one (drop-cons xs at x within ∙ ap (λ h. h ∷ drop (suc at) xs) (item x))

pub list_more : {X Y : Type 0} (f : X → Y) (out all : List Y) (xs : List X) (at : ℕ) (x : X) (new : List Y) → out ++ map f (drop at xs) ≡ all → at < length xs → ((d : X) → get_or xs at d ≡ x) → new ≡ out ++ f x ∷ []
    → new ++ map f (drop (at + 1) xs) ≡ all
list_more f out all xs at x new e within item put =
    ap (λ l. l ++ map f (drop (at + 1) xs)) put ∙ onto_end out (map f (drop at xs)) all (map f (drop (at + 1) xs)) (f x) e (ap (map f) (drop_more xs at x within item))

-- a list copied place by place
pub copy_more : {X : Type 0} (out all xs : List X) (at : ℕ) (x : X) (new : List X) → out ++ drop at xs ≡ all → at < length xs → ((d : X) → get_or xs at d ≡ x) → new ≡ out ++ x ∷ []
    → new ++ drop (at + 1) xs ≡ all
copy_more out all xs at x new e within item put = ap (λ l. l ++ drop (at + 1) xs) put ∙ onto_end out (drop at xs) all (drop (at + 1) xs) x e (drop_more xs at x within item)
