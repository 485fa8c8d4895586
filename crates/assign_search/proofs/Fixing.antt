-- What is fixed, and the board that holds it.
use Rattle.std.proofs.Common.{◌≡◌, ℕ, Bool, true, false, not, ◌==◌, ◌||◌, ◌+◌, ◌*◌, ◌^◌, ◌<◌, ◌≤◌, cond, inl, inr, List, [], ◌∷◌, ◌++◌, length, take, get_or, slice_get, Contains, Some, suc, append_assoc, append-nil, length-append, length-take, Result, Ok, Err, is_ok, filter, refl, sym, ◌∙◌, ap, ap₂, subst, arith}
use Rattle.std.specs.Prelude.{IsPermutation}
use Rattle.std.specs.List.{list_any}
use Rattle.std.specs.List.Sorted.{IsNonDecreasing, IsBinarySearchResult}
use Rattle.std.specs.Ordering.{nat_cmp}
use Rattle.std.proofs.lemmas.Bool.{eqb-true, eq-eqb, cond_both, or_cases, or_left, or_right, cases_Bool, both_ways, false_from_ne_true}
use native.Mathlib.Decide.{dec_lt}
use Rattle.std.specs.Result.{MatchResult}
use Rattle.std.proofs.lemmas.List.{get_or_default}
use Rattle.std.proofs.lemmas.Option.{slice_get_within, get_or_from_slice_get}
use Rattle.std.proofs.lemmas.List.Elements.{filter_more, filter_agree}
use Rattle.std.proofs.lemmas.List.Sorted.{searched, IsPermutation-push_more, IsPermutation-map, IsPermutation-sym, Contains-permutation, length_permutation}
use Rattle.resource_reqs.specs.declared.kind.Kind.{Kind}
use Rattle.resource_reqs.specs.declared.owner.Owner.{Owner}
use Rattle.resource_reqs.specs.declared.owner.Owner.TheVariants.{Reserved, Device}
use Rattle.resource_reqs.proofs.Counts.{contains_cons, contains_nil}
use Rattle.range_arbiter.specs.Pairs.{Pair, res_list}
use Rattle.trial_journal.specs.ByKind.{Arbiters, of_kind, lists_of}
use Rattle.trial_journal.proofs.KindsApart.{pairs_at, pairs_in}
use Rattle.assign_search.specs.Fixed.{is_mover, fixed_pairs, has_moving, fixed_of}
use Rattle.assign_search.proofs.SameHeld.{SameSet}
use Rattle.assign_search.proofs.Touching.{contains_later}

pub any_means : (serials : List ℕ) (x : ℕ) → list_any (λ s. s == x) serials ≡ true → Contains serials x
any_means [] x h = cc
any_means (s ∷ serials) x h = elim (or_cases (s == x) (list_any (λ s. s == x) serials) h) [
  | inl e ↦ (0, omega arith, eqb-true s x e)
  | inr k ↦ contains_later s serials x (any_means serials x k)
]

any_from : (serials : List ℕ) (x : ℕ) → Contains serials x → list_any (λ s. s == x) serials ≡ true
any_from [] x h = absurd (contains_nil x h)
any_from (s ∷ serials) x h = elim (contains_cons s serials x h) [
  | inl e ↦ or_left (s == x) (list_any (λ s. s == x) serials) (eq-eqb s x (sym e))
  | inr k ↦ or_right (s == x) (list_any (λ s. s == x) serials) (any_from serials x k)
]

-- what a search among ascending serials answers
pub found_serial : (serials : List ℕ) (serial : ℕ) (r : Result ℕ ℕ) → IsBinarySearchResult (λ y. nat_cmp y serial) serials r → IsNonDecreasing serials
    → is_ok r ≡ is_mover serials (Device serial)
found_serial serials serial r result up = go r (searched serials serial r result (λ i j le within. up i j 0 le within))
  where
    go : (r : Result ℕ ℕ) → MatchResult r (λ i. (i < length serials) × (get_or serials i 0 ≡ serial))
        (λ i. (i ≤ length serials) × ((k : ℕ) → k < i → get_or serials k 0 < serial) × ((k : ℕ) → i ≤ k → k < length serials → serial < get_or serials k 0))
        → is_ok r ≡ list_any (λ s. s == serial) serials
    go (Ok i) (within, is) = sym (any_from serials serial (i, within, get_or_default serials i serial 0 within ∙ is))
    go (Err i) (within, below, above) = sym (false_from_ne_true (list_any (λ s. s == serial) serials) (λ h. nowhere (any_means serials serial h)))
      where
        nowhere : Contains serials serial → ⊥
        nowhere (k, inside, is) =
            let is0 : get_or serials k 0 ≡ serial = get_or_default serials k 0 serial inside ∙ is in
            elim (dec_lt k i) [
              | yes l ↦ (let less = below k l in omega arith)
              | no l ↦ (let more = above k (omega arith) inside in omega arith)
            ]

-- the order of serials makes no difference
pub mover_same : (xs ys : List ℕ) → IsPermutation xs ys → (o : Owner) → is_mover xs o ≡ is_mover ys o
mover_same xs ys moved Reserved = refl
mover_same xs ys moved (Device serial) = elim (cases_Bool (list_any (λ s. s == serial) xs)) [
  | inl h ↦ h ∙ sym (any_from ys serial (Contains-permutation xs ys serial moved (any_means xs serial h)))
  | inr h ↦ h ∙ sym (false_from_ne_true (list_any (λ s. s == serial) ys) (λ g.
      both_ways (list_any (λ s. s == serial) xs) h (any_from xs serial (Contains-permutation ys xs serial (IsPermutation-sym xs ys moved) (any_means ys serial g)))))
]

pub fixed_same : (xs ys : List ℕ) → IsPermutation xs ys → (pairs : List Pair) → fixed_pairs xs pairs ≡ fixed_pairs ys pairs
fixed_same xs ys moved pairs = filter_agree (λ p. not (is_mover xs p.0)) (λ p. not (is_mover ys p.0)) (λ p. ap not (mover_same xs ys moved p.0)) pairs

-- one pair more of those that are copied: it is put in where it is fixed
pub copied_more : (old pairs : List Pair) (serials : List ℕ) (at : ℕ) (p : Pair) (board board' : List Pair) → slice_get pairs at ≡ Some p
    → is_mover serials p.0 ≡ false → IsPermutation (p ∷ board) board'
    → IsPermutation (old ++ fixed_pairs serials (take at pairs)) board → IsPermutation (old ++ fixed_pairs serials (take (at + 1) pairs)) board'
copied_more old pairs serials at p board board' read fixed put copied =
    let within : at < length pairs = slice_get_within pairs at p read in
    let here : get_or pairs at p ≡ p = get_or_from_slice_get pairs at p p read in
    let kept : fixed_pairs serials (take (at + 1) pairs) ≡ fixed_pairs serials (take at pairs) ++ p ∷ [] =
    filter_more (λ q. not (is_mover serials q.0)) pairs at p within
    ∙ ap (λ (q : Pair). fixed_pairs serials (take at pairs) ++ cond (not (is_mover serials q.0)) (q ∷ []) []) here
    ∙ ap (λ b. fixed_pairs serials (take at pairs) ++ cond (not b) (p ∷ []) []) fixed in
    subst (λ l. IsPermutation l board') (append_assoc old (fixed_pairs serials (take at pairs)) (p ∷ []) ∙ ap (λ l. old ++ l) (sym kept))
    (IsPermutation-push_more (old ++ fixed_pairs serials (take at pairs)) board board' p copied put)

-- and left out where its owner moves
pub copied_less : (old pairs : List Pair) (serials : List ℕ) (at : ℕ) (p : Pair) (board : List Pair) → slice_get pairs at ≡ Some p
    → is_mover serials p.0 ≡ true
    → IsPermutation (old ++ fixed_pairs serials (take at pairs)) board → IsPermutation (old ++ fixed_pairs serials (take (at + 1) pairs)) board
copied_less old pairs serials at p board read moves copied =
    let within : at < length pairs = slice_get_within pairs at p read in
    let here : get_or pairs at p ≡ p = get_or_from_slice_get pairs at p p read in
    let kept : fixed_pairs serials (take (at + 1) pairs) ≡ fixed_pairs serials (take at pairs) ++ [] =
    filter_more (λ q. not (is_mover serials q.0)) pairs at p within
    ∙ ap (λ (q : Pair). fixed_pairs serials (take at pairs) ++ cond (not (is_mover serials q.0)) (q ∷ []) []) here
    ∙ ap (λ b. fixed_pairs serials (take at pairs) ++ cond (not b) (p ∷ []) []) moves in
    subst (λ l. IsPermutation (old ++ l) board) (sym (kept ∙ append-nil (fixed_pairs serials (take at pairs)))) copied

-- how many were copied
pub copied_few : (old pairs : List Pair) (serials : List ℕ) (at : ℕ) (board : List Pair) → IsPermutation (old ++ fixed_pairs serials (take at pairs)) board
    → length board ≤ length old + at
copied_few old pairs serials at board copied =
    let same : length board ≡ length (old ++ fixed_pairs serials (take at pairs)) = length_permutation (old ++ fixed_pairs serials (take at pairs)) board copied in
    let long : length (old ++ fixed_pairs serials (take at pairs)) ≡ length old + length (fixed_pairs serials (take at pairs)) = length-append old (fixed_pairs serials (take at pairs)) in
    let kept : length (fixed_pairs serials (take at pairs)) ≤ length (take at pairs) = filter_short (λ q. not (is_mover serials q.0)) (take at pairs) in
    let cut = length-take at pairs in
    omega arith
  where
    filter_short : (p : Pair → Bool) (xs : List Pair) → length (filter p xs) ≤ length xs
    filter_short p [] = omega arith
    filter_short p (x ∷ xs) = cond_both (p x) (x ∷ filter p xs) (filter p xs) (λ l. length l ≤ suc (length xs)) (λ e. let rest = filter_short p xs in omega arith) (λ e. let rest = filter_short p xs in omega arith)

-- the same pairs in another order: the same resources
pub same_res : (a b : List Pair) → IsPermutation a b → SameSet (res_list b) (res_list a)
same_res a b moved r =
    let mapped : IsPermutation (res_list a) (res_list b) = IsPermutation-map (λ (p : Pair). p.1) a b moved in (
      λ h. Contains-permutation (res_list b) (res_list a) r (IsPermutation-sym (res_list a) (res_list b) mapped) h,
      λ h. Contains-permutation (res_list a) (res_list b) r mapped h,
    )

-- where none moves all is fixed
pub fixed_all : (serials : List ℕ) (pairs : List Pair) → has_moving serials pairs ≡ false → fixed_pairs serials pairs ≡ pairs
fixed_all serials [] h = refl
fixed_all serials (p ∷ pairs) h = elim (cases_Bool (is_mover serials p.0)) [
  | inl e ↦ absurd (both_ways (has_moving serials (p ∷ pairs)) h (or_left (is_mover serials p.0) (has_moving serials pairs) e))
  | inr e ↦
      ap (λ b. cond (not b) (p ∷ fixed_pairs serials pairs) (fixed_pairs serials pairs)) e
      ∙ ap (λ l. p ∷ l) (fixed_all serials pairs (ap (λ b. b || has_moving serials pairs) (sym e) ∙ h))
]

-- the order of serials makes no difference
pub moving_same : (xs ys : List ℕ) → IsPermutation xs ys → (pairs : List Pair) → has_moving xs pairs ≡ has_moving ys pairs
moving_same xs ys moved [] = refl
moving_same xs ys moved (p ∷ pairs) = ap₂ (λ a b. a || b) (mover_same xs ys moved p.0) (moving_same xs ys moved pairs)

-- what the arbiters hold is what is fixed, where no mover holds something
pub all_fixed : (serials : List ℕ) (ascending : List ℕ) → IsPermutation serials ascending → (pairs : List Pair) → has_moving ascending pairs ≡ false
    → SameSet (res_list pairs) (fixed_of serials pairs)
all_fixed serials ascending moved pairs none r =
    let same : fixed_of serials pairs ≡ res_list pairs = ap res_list (fixed_all serials pairs (moving_same serials ascending moved pairs ∙ none)) in
    (λ h. subst (λ l. Contains l r) (sym same) h, λ h. subst (λ l. Contains l r) same h)

-- few of each kind are few of all
pub few_in : (a : Arbiters) → ((kind : Kind) → length (of_kind a kind).pairs ≤ 2 ^ 29) → (kinds : List Kind) → length (pairs_in a kinds) ≤ length kinds * 2 ^ 29
few_in a few [] = omega arith
few_in a few (kind ∷ kinds) =
    let rest = few_in a few kinds in
    let here : length (of_kind (lists_of a) kind) ≤ 2 ^ 29 = subst (λ l. length l ≤ 2 ^ 29) (sym (pairs_at a kind)) (few kind) in
    let all : length (pairs_in a (kind ∷ kinds)) ≡ length (of_kind (lists_of a) kind) + length (pairs_in a kinds) = length-append (of_kind (lists_of a) kind) (pairs_in a kinds) in
    omega arith
