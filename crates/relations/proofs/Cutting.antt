-- The part of a sorted list that has one key.
use Rattle.std.proofs.Common.{◌≡◌, ℕ, zero, suc, ◌<◌, ◌≤◌, ◌==◌, Bool, true, false, cond, List, [], ◌∷◌, length, length-drop, get_or, take, drop, take_all, ◌-◌, refl, ap, ◌∙◌, sym, arith}
use Rattle.std.specs.List.{filter}
use Rattle.std.specs.Prelude.{nat_lt, nat_le}
use Rattle.std.proofs.lemmas.Bool.{ltb-true, ltb-false, leb-true, leb-false}
use Rattle.std.proofs.lemmas.Bool.Decides.{nat_tests}

module _ {X : Type 0} (key : X → ℕ) (k : ℕ) where
  abbrev is_at : X → Bool
  is_at x = key x == k

  none_is : (xs : List X) → ((i : ℕ) (d : X) → i < length xs → k < key (get_or xs i d)) → filter is_at xs ≡ []
  none_is [] h = refl
  none_is (x ∷ xs) h =
      let here : k < key x = h 0 x (omega arith) in
      let out : is_at x ≡ false = grind (arith, nat_tests) in
      ap (λ b. cond b (x ∷ filter is_at xs) (filter is_at xs)) out ∙ none_is xs (λ i d lt. h (suc i) d (omega arith))

  -- those with the key come first
  pub front_is : (xs : List X) (n : ℕ) → n ≤ length xs → ((i : ℕ) (d : X) → i < n → key (get_or xs i d) ≡ k)
      → ((i : ℕ) (d : X) → n ≤ i → i < length xs → k < key (get_or xs i d)) → take n xs ≡ filter is_at xs
  front_is [] zero le front back = refl
  front_is [] (suc n) le front back = absurd (omega arith)
  front_is (x ∷ xs) zero le front back = sym (none_is (x ∷ xs) (λ i d lt. back i d (omega arith) lt))
  front_is (x ∷ xs) (suc n) le front back =
      let here : key x ≡ k = front 0 x (omega arith) in
      let at : is_at x ≡ true = grind (arith, nat_tests) in
      ap (λ l. x ∷ l) (front_is xs n (omega arith) (λ i d lt. front (suc i) d (omega arith)) (λ i d l lt. back (suc i) d (omega arith) (omega arith)))
      ∙ sym (ap (λ b. cond b (x ∷ filter is_at xs) (filter is_at xs)) at)

  -- those before have lower keys
  pub rest_is : (xs : List X) (n : ℕ) → ((i : ℕ) (d : X) → i < n → i < length xs → key (get_or xs i d) < k) → filter is_at xs ≡ filter is_at (drop n xs)
  rest_is [] zero low = refl
  rest_is [] (suc n) low = refl
  rest_is (x ∷ xs) zero low = refl
  rest_is (x ∷ xs) (suc n) low =
      let here : key x < k = low 0 x (omega arith) (omega arith) in
      let out : is_at x ≡ false = grind (arith, nat_tests) in
      ap (λ b. cond b (x ∷ filter is_at xs) (filter is_at xs)) out ∙ rest_is xs n (λ i d lt within. low (suc i) d (omega arith) (omega arith))

  later : (xs : List X) (n : ℕ) → ((i : ℕ) (d : X) → n ≤ i → i < length xs → nat_lt (key (get_or xs i d)) k ≡ false) → (i : ℕ) (d : X) → i < length (drop n xs) → k ≤ key (get_or (drop n xs) i d)
  later [] zero h i d lt = absurd (omega arith)
  later [] (suc n) h i d lt = absurd (omega arith)
  later (x ∷ xs) zero h i d lt = ltb-false _ _ (h i d (omega arith) lt)
  later (x ∷ xs) (suc n) h i d lt = later xs n (λ j e l w. h (suc j) e (omega arith) (omega arith)) i d lt

  -- what lies between the two places that binary searches find
  pub part_is : (xs : List X) (low n : ℕ)
      → ((i : ℕ) (d : X) → 0 ≤ i → i < low → nat_lt (key (get_or xs i d)) k ≡ true) → ((i : ℕ) (d : X) → low ≤ i → i < length xs → nat_lt (key (get_or xs i d)) k ≡ false)
      → n ≤ length (drop low xs)
      → ((i : ℕ) (d : X) → 0 ≤ i → i < n → nat_le (key (get_or (drop low xs) i d)) k ≡ true) → ((i : ℕ) (d : X) → n ≤ i → i < length (drop low xs) → nat_le (key (get_or (drop low xs) i d)) k ≡ false)
      → take n (drop low xs) ≡ filter is_at xs
  part_is xs low n below from le upto past =
      front_is (drop low xs) n le
      (λ i d lt. let a = leb-true _ _ (upto i d (omega arith) lt) in let b = later xs low from i d (omega arith) in omega arith)
      (λ i d l lt. leb-false _ _ (past i d l lt))
      ∙ sym (rest_is xs low (λ i d lt w. ltb-true _ _ (below i d (omega arith) lt)))

pub whole_rest : {X : Type 0} (xs : List X) (n : ℕ) → take (length xs - n) (drop n xs) ≡ drop n xs
whole_rest xs n = take_all (length xs - n) (drop n xs) (omega (arith, length-drop n xs))
