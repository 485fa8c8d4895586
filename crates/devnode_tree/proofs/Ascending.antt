-- Lists whose keys ascend, and what a binary search finds there.
use Rattle.std.proofs.Common.{◌≡◌, ℕ, zero, suc, ◌+◌, ◌-◌, ◌<◌, ◌≤◌, ◌==◌, List, [], ◌∷◌, ◌++◌, length, get_or, map, position, Result, Ok, Err, Equal, Some, slice_get, remove, refl, sym, ◌∙◌, ap, subst, length-append, arith}
use Rattle.std.specs.Result.{result_ok}
use Rattle.std.specs.List.{AllByRecursion}
use Rattle.std.specs.List.Sorted.{IsSearchInRange, IsBinarySearchResult, IsNonDecreasingBy}
use Rattle.std.specs.Ordering.{nat_cmp, ordering_index}
use Rattle.std.specs.Cmp.{nat_cmp_is}
use Rattle.std.proofs.lemmas.Option.{slice_get_within, get_or_from_slice_get}
use Rattle.std.proofs.lemmas.Cmp.{ranked}
use Rattle.std.proofs.lemmas.List.Sums.{position_or_len_is}
use Rattle.std.proofs.lemmas.Bool.Decides.{nat_tests}
use Rattle.devnode_tree.specs.Trees.{Ascends}

module _ {X : Type 0} (key : X → ℕ) where
  from_low : (low : ℕ) (xs : List X) → Ascends low (map key xs) → (i : ℕ) (d : X) → i < length xs → low ≤ key (get_or xs i d)
  from_low low [] h i d lt = absurd (omega arith)
  from_low low (x ∷ xs) h zero d lt = h.0
  from_low low (x ∷ xs) h (suc i) d lt = omega (arith, from_low (key x + 1) xs h.1 i d (omega arith), h.0)

  -- a later key is greater
  pub rise : (low : ℕ) (xs : List X) → Ascends low (map key xs) → (i j : ℕ) (d : X) → i < j → j < length xs → key (get_or xs i d) < key (get_or xs j d)
  rise low [] h i j d lt within = absurd (omega arith)
  rise low (x ∷ xs) h i zero d lt within = absurd (omega arith)
  rise low (x ∷ xs) h zero (suc j) d lt within = omega (arith, from_low (key x + 1) xs h.1 j d (omega arith))
  rise low (x ∷ xs) h (suc i) (suc j) d lt within = rise (key x + 1) xs h.1 i j d (omega arith) (omega arith)

  comparisons_rise : (xs : List X) → Ascends 0 (map key xs) → (k : ℕ) → IsNonDecreasingBy (λ x. ordering_index (nat_cmp (key x) k)) xs
  comparisons_rise xs h k i j d le within =
      let keys_rise : key (get_or xs i d) ≤ key (get_or xs j d) = grind (arith, rise 0 xs h i j d, λ (same : i ≡ j). ap (λ n. key (get_or xs n d)) same) in
      grind (arith, nat_tests)

  -- a binary search by key ends at the place of the key, or nowhere
  pub search_place : (xs : List X) → Ascends 0 (map key xs) → (k : ℕ) (r : Result ℕ ℕ) → IsSearchInRange r (length xs)
      → IsBinarySearchResult (λ x. nat_cmp (key x) k) xs r → result_ok r ≡ position (λ x. key x == k) xs
  search_place [] h k (Ok i) within equal = absurd (omega arith)
  search_place [] h k (Err i) within parted = refl
  search_place (x ∷ xs) h k (Ok i) within equal =
      let here : key (get_or (x ∷ xs) i x) ≡ k = ranked _ k _ (sym (equal x)) in
      let place = position_or_len_is (λ y. key y == k) (x ∷ xs) i x (omega arith)
      (λ j lt. let lower = rise 0 (x ∷ xs) h j i x lt within in grind (arith, nat_tests))
      (λ _. grind (arith, nat_tests)) in
      grind (arith, nat_tests, place)
  search_place (x ∷ xs) h k (Err i) within parted =
      let parts = parted (comparisons_rise (x ∷ xs) h k) in
      let place = position_or_len_is (λ y. key y == k) (x ∷ xs) (length (x ∷ xs)) x (omega arith)
      (λ j lt.
      let low = λ (l : j < i). ranked (key (get_or (x ∷ xs) j x)) k _ (sym (parts.0 j x (omega arith) l)) in
      let high = λ (l : i ≤ j). ranked (key (get_or (x ∷ xs) j x)) k _ (sym (parts.1 j x l lt)) in
      grind (arith, nat_tests, low, high))
      (λ past. absurd (omega arith)) in
      grind (arith, nat_tests, place)

  -- what stands at the place of its key is found there
  pub place_at : (xs : List X) → Ascends 0 (map key xs) → (i k : ℕ) (x : X) → slice_get xs i ≡ Some x → key x ≡ k → Some i ≡ position (λ y. key y == k) xs
  place_at xs h i k x read is =
      search_place xs h k (Ok i) (slice_get_within xs i x read) (λ d. sym (nat_cmp_is (key (get_or xs i d)) k Equal (ap key (get_or_from_slice_get xs i x d read) ∙ is)))

map-same : (xs : List ℕ) → map (λ x. x) xs ≡ xs
map-same [] = refl
map-same (x ∷ xs) = ap (λ l. x ∷ l) (map-same xs)

module _ (xs : List ℕ) (h : Ascends 0 xs) (k : ℕ) where
  pub number_place : (r : Result ℕ ℕ) → IsSearchInRange r (length xs) → IsBinarySearchResult (λ x. nat_cmp x k) xs r → result_ok r ≡ position (λ x. x == k) xs
  number_place = search_place (λ x. x) xs (subst (Ascends 0) (sym (map-same xs)) h) k

  -- what stands at a place is found there
  pub number_at : (i x : ℕ) → slice_get xs i ≡ Some x → x ≡ k → Some i ≡ position (λ x. x == k) xs
  number_at i x read is = place_at (λ x. x) xs (subst (Ascends 0) (sym (map-same xs)) h) i k x read is

pub ascends_push : (low : ℕ) (ks : List ℕ) (k : ℕ) → Ascends low ks → AllByRecursion (λ j. j < k) ks → low ≤ k → Ascends low (ks ++ k ∷ [])
ascends_push low [] k h below le = (le, tt)
ascends_push low (x ∷ xs) k h below le = (h.0, ascends_push (x + 1) xs k h.1 below.1 (omega (arith, below.0)))

pub ascends_lower : (low high : ℕ) (ks : List ℕ) → low ≤ high → Ascends high ks → Ascends low ks
ascends_lower low high [] le h = tt
ascends_lower low high (k ∷ ks) le h = (omega (arith, h.0), h.1)

-- a number above the last one is above all
below_last : (low : ℕ) (ks : List ℕ) (k d : ℕ) → Ascends low ks → 0 < length ks → get_or ks (length ks - 1) d < k → AllByRecursion (λ j. j < k) ks
below_last low [] k d h some last = tt
below_last low (x ∷ []) k d h some last = (last, tt)
below_last low (x ∷ y ∷ ks) k d h some last =
    let at : length (x ∷ y ∷ ks) - 1 ≡ suc (length (y ∷ ks) - 1) = omega arith in
    let rest = below_last (x + 1) (y ∷ ks) k d h.1 (omega arith) (subst (λ n. get_or (x ∷ y ∷ ks) n d < k) at last) in
    (let step = h.1.0 in let next = rest.0 in omega arith, rest)

pub ascends_last : (ks : List ℕ) (k d : ℕ) → get_or ks (length ks - 1) d < k → Ascends 0 ks → Ascends 0 (ks ++ k ∷ [])
ascends_last [] k d last h = (omega arith, tt)
ascends_last (x ∷ xs) k d last h = ascends_push 0 (x ∷ xs) k h (below_last 0 (x ∷ xs) k d h (omega arith) last) (omega arith)

pub ascends_removed : (low : ℕ) (ks : List ℕ) (i : ℕ) → Ascends low ks → Ascends low (remove ks i)
ascends_removed low [] zero h = tt
ascends_removed low [] (suc i) h = tt
ascends_removed low (k ∷ ks) zero h = ascends_lower low (k + 1) ks (omega (arith, h.0)) h.1
ascends_removed low (k ∷ ks) (suc i) h = (h.0, ascends_removed (k + 1) ks i h.1)

-- the last of a list taken off again
pub remove_last : {X : Type 0} (xs : List X) (x : X) → remove (xs ++ x ∷ []) (length (xs ++ x ∷ []) - 1) ≡ xs
remove_last [] x = refl
remove_last (y ∷ xs) x =
    let at : length ((y ∷ xs) ++ x ∷ []) - 1 ≡ suc (length (xs ++ x ∷ []) - 1) = (let some = length-append xs (x ∷ []) in omega arith) in
    ap (remove ((y ∷ xs) ++ x ∷ [])) at ∙ ap (λ l. y ∷ l) (remove_last xs x)
