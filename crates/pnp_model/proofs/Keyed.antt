-- What a change at a place does, by the test that found the place.
use Rattle.std.proofs.Common.{ℕ, zero, suc, ap, ◌+◌, ◌<◌, ◌≤◌, ◌≡◌, Bool, true, false, cond, List, [], ◌∷◌, length, set, get_or, Some, None, refl, arith, position, insert, remove, ◌∙◌, sym, not}
use Rattle.std.specs.List.{position_or_len, find}
use Rattle.std.proofs.lemmas.List.Folds.{find_at}
use Rattle.std.proofs.lemmas.Option.{slice_get-get_or, slice_get_past}
use Rattle.std.proofs.lemmas.Bool.Decides.{nat_tests}
use Rattle.pnp_model.specs.Keyed.{changed_first, without_first, put_before}

pub changed_first_at_len : {A : Type 0} (test : A → Bool) (f : A → A) (d : A) (xs : List A) → position_or_len test xs < length xs →
    set xs (position_or_len test xs) (f (get_or xs (position_or_len test xs) d)) ≡ changed_first test f xs
changed_first_at_len test f d [] h = grind arith
changed_first_at_len test f d (x ∷ xs) h = grind (arith, changed_first_at_len test f d xs)

pub changed_first_past : {A : Type 0} (test : A → Bool) (f : A → A) (xs : List A) → length xs ≤ position_or_len test xs →
    changed_first test f xs ≡ xs
changed_first_past test f [] h = refl
changed_first_past test f (x ∷ xs) h = grind (arith, changed_first_past test f xs)

-- where `position` found a place
pub changed_first_at : {A : Type 0} (test : A → Bool) (f : A → A) (xs : List A) (i : ℕ) (y d : A) → position test xs ≡ Some i →
    y ≡ f (get_or xs i d) → set xs i y ≡ changed_first test f xs
changed_first_at test f xs i y d h e = grind (arith, changed_first_at_len test f d xs)

pub changed_first_none : {A : Type 0} (test : A → Bool) (f : A → A) (xs : List A) → position test xs ≡ None →
    changed_first test f xs ≡ xs
changed_first_none test f xs h = grind (arith, nat_tests, changed_first_past test f xs)

-- what `find` gives where `position` found a place
pub find_from_position : {A : Type 0} (test : A → Bool) (xs : List A) (i : ℕ) (d : A) → position test xs ≡ Some i →
    find test xs ≡ Some (get_or xs i d)
find_from_position test xs i d h = grind (arith, nat_tests, find_at test xs, slice_get-get_or xs i d)

pub find_from_none : {A : Type 0} (test : A → Bool) (xs : List A) → position test xs ≡ None → find test xs ≡ None
find_from_none test xs h = grind (arith, nat_tests, find_at test xs, slice_get_past xs (position_or_len test xs))

-- a write past the end changes nothing
pub set_past : {A : Type 0} (xs : List A) (i : ℕ) (y : A) → length xs ≤ i → set xs i y ≡ xs
set_past [] i y h = refl
set_past (x ∷ xs) zero y h = absurd (omega arith)
set_past (x ∷ xs) (suc i) y h = ap (λ t. x ∷ t) (set_past xs i y (omega arith))

remove_next : {A : Type 0} (x : A) (xs : List A) (i : ℕ) → remove (x ∷ xs) (1 + i) ≡ x ∷ remove xs i
remove_next x xs i = let e : 1 + i ≡ suc i = omega arith in rw e refl

insert_next : {A : Type 0} (x y : A) (xs : List A) (i : ℕ) → insert (x ∷ xs) (1 + i) y ≡ x ∷ insert xs i y
insert_next x y xs i = let e : 1 + i ≡ suc i = omega arith in rw e refl

remove_at_len : {A : Type 0} (test : A → Bool) (xs : List A) → remove xs (position_or_len test xs) ≡ without_first test xs
remove_at_len test [] = refl
remove_at_len test (x ∷ xs) =
    let by_test : (b : Bool) → remove (x ∷ xs) (cond (not b) (1 + position_or_len test xs) 0) ≡ cond b xs (x ∷ without_first test xs) =
    λ b. elim b as (λ b. remove (x ∷ xs) (cond (not b) (1 + position_or_len test xs) 0) ≡ cond b xs (x ∷ without_first test xs)) [
      | true ↦ refl
      | false ↦ remove_next x xs (position_or_len test xs) ∙ ap (λ t. x ∷ t) (remove_at_len test xs)
    ] in
    by_test (test x)

insert_at_len : {A : Type 0} (test : A → Bool) (y : A) (xs : List A) → insert xs (position_or_len test xs) y ≡ put_before test y xs
insert_at_len test y [] = refl
insert_at_len test y (x ∷ xs) =
    let by_test : (b : Bool) → insert (x ∷ xs) (cond (not b) (1 + position_or_len test xs) 0) y ≡ cond b (y ∷ x ∷ xs) (x ∷ put_before test y xs) =
    λ b. elim b as (λ b. insert (x ∷ xs) (cond (not b) (1 + position_or_len test xs) 0) y ≡ cond b (y ∷ x ∷ xs) (x ∷ put_before test y xs)) [
      | true ↦ refl
      | false ↦ insert_next x y xs (position_or_len test xs) ∙ ap (λ t. x ∷ t) (insert_at_len test y xs)
    ] in
    by_test (test x)

length-position : {A : Type 0} (test : A → Bool) (xs : List A) → position_or_len test xs ≤ length xs
length-position test [] = omega arith
length-position test (x ∷ xs) = grind (arith, length-position test xs)

without_first_past : {A : Type 0} (test : A → Bool) (xs : List A) → length xs ≤ position_or_len test xs → without_first test xs ≡ xs
without_first_past test [] h = refl
without_first_past test (x ∷ xs) h = grind (arith, without_first_past test xs)

put_before_past : {A : Type 0} (test : A → Bool) (y : A) (xs : List A) → length xs ≤ position_or_len test xs → put_before test y xs ≡ insert xs (length xs) y
put_before_past test y xs h = grind (arith, sym (insert_at_len test y xs), length-position test xs)

-- where `position` found a place
pub without_first_at : {A : Type 0} (test : A → Bool) (xs : List A) (i : ℕ) → position test xs ≡ Some i → remove xs i ≡ without_first test xs
without_first_at test xs i h = grind (arith, nat_tests, remove_at_len test xs)

pub without_first_none : {A : Type 0} (test : A → Bool) (xs : List A) → position test xs ≡ None → without_first test xs ≡ xs
without_first_none test xs h = grind (arith, nat_tests, without_first_past test xs)

pub put_before_at : {A : Type 0} (test : A → Bool) (y : A) (xs : List A) (i : ℕ) → position test xs ≡ Some i → insert xs i y ≡ put_before test y xs
put_before_at test y xs i h = grind (arith, nat_tests, insert_at_len test y xs)

pub put_before_none : {A : Type 0} (test : A → Bool) (y : A) (xs : List A) (i : ℕ) → position test xs ≡ None → i ≡ length xs → insert xs i y ≡ put_before test y xs
put_before_none test y xs i h e = grind (arith, nat_tests, put_before_past test y xs)
