-- Where no device is related, those that are left leave by their serials, the greatest first.
use Rattle.std.proofs.Common.{◌≡◌, ℕ, zero, suc, ◌<◌, ◌≤◌, ◌==◌, inl, inr, Bool, true, false, not, ◌&&◌, cond, List, [], ◌∷◌, ◌++◌, length, get_or, reverse, append_assoc, Option, Some, None, Result, Ok, Err, IfOk, refl, sym, ap, ◌∙◌, subst, arith}
use Rattle.std.specs.List.{AllByRecursion}
use Rattle.std.specs.List.Sorted.{IsNonDecreasingBy, IsPermutation, IsSorted}
use Rattle.std.specs.Ordering.{nat_cmp}
use Rattle.std.proofs.lemmas.Bool.{cases_eq}
use Rattle.std.proofs.lemmas.Bool.Decides.{nat_tests}
use Rattle.std.proofs.lemmas.List.{reverse-append}
use Rattle.std.proofs.lemmas.List.Sorted.{IsNonDecreasingBy-from_sort, sum_by-IsPermutation}
use Rattle.pnp_model.specs.Keyed.{without_first, those}
use Rattle.pnp_model.specs.Tests.{has}
use Rattle.pnp_model.specs.Cores.{node_at}
use Rattle.pnp_model.specs.Records.{Node}
use Rattle.pnp_model.specs.Trees.{set_of, is_free, greatest, leaving_in, leaving}
use Rattle.pnp_laws.specs.Kept.{Ascending, Distinct, Within}
use Rattle.pnp_laws.specs.Rebalanced.{Falling, Rising}
use Rattle.pnp_laws.proofs.Askings.{falling_reverse}
use Rattle.pnp_laws.proofs.OpSteps.{has-reverse}
use Rattle.pnp_laws.proofs.Lists.{those_has, those_keeps, has_cases, cons_here}
use Rattle.pnp_laws.proofs.Lookups.{own_serial}
use Rattle.pnp_laws.proofs.Closures.{closed_distinct}
use Rattle.devnode_tree.specs.Trees.{HasParent}
use Rattle.relations.specs.Edges.{SameSums}
use Rattle.relations.specs.Queues.{number}
use Rattle.relations.specs.Leaving.{base, below, IsLeaving}
use Rattle.relations.proofs.Bases.{leaving_same}
use Rattle.relations.proofs.Directs.{listed_hangs, or_cases}
use Rattle.relations.proofs.Counting.{one_if, count-cons, number_some, number_one, count_none, has_without, distinct_without}
use Rattle.relations.proofs.Searching.{same_has}
use Rattle.relations.proofs.Queueing.{pending, greatest_is, none_pass, free_if, selected}

all_at : (P : Node → Type 0) (nodes : List Node) (j : ℕ) (n : Node) → AllByRecursion P nodes → node_at j nodes ≡ Some n → P n
all_at P [] j n h at = absurd (cc)
all_at P (x ∷ xs) j n h at = by_test (x.serial == j) refl at (all_at P xs j n h.1)
  where
    by_test : (b : Bool) → (x.serial == j) ≡ b → node_at j (x ∷ xs) ≡ Some n → (node_at j xs ≡ Some n → P n) → P n
    by_test true b at more = let same : x ≡ n = grind arith in subst P same h.0
    by_test false b at more = more (rw b at at)

-- Serials in order -----------------------------------------------------------------------

at_most_one : (b : Bool) → one_if b ≤ 1
at_most_one true = omega arith
at_most_one false = omega arith

distinct_if : (xs : List ℕ) → ((k : ℕ) → number k xs ≤ 1) → Distinct xs
distinct_if [] h = tt
distinct_if (x ∷ xs) h = (by (has xs x) refl, distinct_if xs (λ k. let all = count-cons (λ j. j == k) x xs in let most = h k in omega arith))
  where
    by : (b : Bool) → has xs x ≡ b → has xs x ≡ false
    by true e =
        absurd
        (let some = number_some xs x e in
        let all = count-cons (λ j. j == x) x xs in
        let one : one_if (x == x) ≡ 1 = grind (arith, nat_tests) in
        let most = h x in
        omega arith)
    by false e = e

low : (x : ℕ) (xs : List ℕ) → ((i : ℕ) → i < length xs → x ≤ get_or xs i 0) → (j : ℕ) → has xs j ≡ true → x ≤ j
low x [] h j q = absurd (cc)
low x (y ∷ ys) h j q =
    elim (has_cases y j ys q) [
      | inl e ↦ let first = h 0 (omega arith) in omega arith
      | inr m ↦ low x ys (λ i lt. h (suc i) (omega arith)) j m
    ]

rises : (xs : List ℕ) → IsNonDecreasingBy (λ x. x) xs → Distinct xs → Rising xs
rises [] up d = tt
rises (x ∷ xs) up d = (λ j h. above j h (low x xs (λ i lt. up 0 (suc i) 0 (omega arith) (omega arith)) j h), rises xs (λ i j o le lt. up (suc i) (suc j) o (omega arith) (omega arith)) d.1)
  where
    above : (j : ℕ) → has xs j ≡ true → x ≤ j → x < j
    above j h le = elim (cases_eq x j) [
      | inl e ↦ absurd (let twice = subst (λ (i : ℕ). has xs i ≡ false) e d.0 in cc)
      | inr n ↦ omega arith
    ]

-- what a sort put in order, from its end
pub sorted_falls : (xs ys : List ℕ) → Distinct xs → IsPermutation xs ys → IsSorted nat_cmp ys → Falling (reverse ys) × ((k : ℕ) → has (reverse ys) k ≡ has xs k)
sorted_falls xs ys d moved sorted =
    let sums : SameSums ys xs = λ f. sum_by-IsPermutation f xs ys moved in
    let once : Distinct ys =
    distinct_if ys
    (λ k.
    let one = number_one xs k d in
    let same : number k ys ≡ number k xs = sums (λ j. cond (j == k) 1 0) in
    let most = at_most_one (has xs k) in
    omega arith) in
    (falling_reverse ys (rises ys (IsNonDecreasingBy-from_sort (λ x. x) ys sorted) once), λ k. has-reverse ys k ∙ same_has ys xs k sums)

-- the last one goes over
pub one_over : (order rest all total : List ℕ) (x : ℕ) → all ≡ rest ++ x ∷ [] → order ++ reverse all ≡ total → (order ++ x ∷ []) ++ reverse rest ≡ total
one_over order rest all total x e h = append_assoc order (x ∷ []) (reverse rest) ∙ (ap (λ l. order ++ l) (sym (reverse-append rest (x ∷ []))) ∙ (ap (λ l. order ++ reverse l) (sym e) ∙ h))

-- Who leaves first -----------------------------------------------------------------------

-- who depends on a device joined after it
pub later : (nodes : List Node) (serials : List ℕ) → Ascending 0 nodes → AllByRecursion (HasParent serials) nodes → (k j : ℕ) → has (below nodes [] k) j ≡ true → k < j
later nodes serials g parents k j h =
    let f = listed_hangs nodes [] g k j h in
    let own = own_serial j f.0 nodes f.1 in
    elim (or_cases (has (k ∷ []) f.0.parent && not (f.0.serial == 0)) false f.2) [
      | inl a ↦ elim (all_at (HasParent serials) nodes j f.0 parents f.1) [
        | inl none ↦ absurd (grind (arith, nat_tests))
        | inr more ↦ let is : k ≡ f.0.parent = grind (arith, nat_tests) in let less = more.0 in omega arith
      ]
      | inr b ↦ absurd (cc)
    ]

module _ (nodes : List Node) (serials : List ℕ) (parents : AllByRecursion (HasParent serials) nodes) (target : ℕ) (g : Ascending 0 nodes) (m : Node) (there : node_at target nodes ≡ Some m) where
  ends : (fuel : ℕ) (left : List ℕ) → ((k : ℕ) → has [] k ≡ has left k) → leaving_in fuel (base nodes []) left ≡ []
  ends zero left none = refl
  ends (suc n) left none =
      ap (λ (o : Option ℕ). elim o as (λ _. List ℕ) [ None ↦ [] | Some k ↦ k ∷ leaving_in n (base nodes []) (without_first (λ j. j == k) left) ])
      (ap greatest (none_pass (is_free (base nodes []) left) left (λ j h. absurd (let e = none j in cc))))

  falls : (ys left : List ℕ) (fuel : ℕ) → Falling ys → ((k : ℕ) → has ys k ≡ has left k) → Distinct left → Within left (set_of (base nodes []) target)
      → ((k j : ℕ) → has (set_of (base nodes []) target) k ≡ true → has left k ≡ false → has (below nodes [] k) j ≡ true → has left j ≡ false)
      → length left ≤ fuel → leaving_in fuel (base nodes []) left ≡ ys
  falls [] left fuel f same d w closed le = ends fuel left same
  falls (y ∷ ys) left fuel f same d w closed le =
      let here : has left y ≡ true = sym (same y) ∙ cons_here y ys in
      let none : pending nodes [] left y ≡ 0 = count_none (λ j. has left j) (below nodes [] y) (λ j h. out j (later nodes serials g parents y j h)) in
      let free = free_if nodes [] target g m there left closed y (w y here) none in
      let first = greatest_is (those (is_free (base nodes []) left) left) y (those_keeps (is_free (base nodes []) left) left y here free) (λ j h. most j (those_has (is_free (base nodes []) left) left j h).0) in
      let next = selected nodes [] left y fuel le here first in
      next.1 ∙ ap (λ l. y ∷ l) (falls ys (without_first (λ i. i == y) left) next.0 f.1 rest (distinct_without left y d) (λ k h. w k (was k h)) gone next.2)
    where
      most : (j : ℕ) → has left j ≡ true → j ≤ y
      most j h = elim (has_cases y j ys (same j ∙ h)) [
        | inl e ↦ omega arith
        | inr q ↦ let less = f.0 j q in omega arith
      ]

      out : (j : ℕ) → y < j → has left j ≡ false
      out j less = by (has left j) refl
        where
          by : (b : Bool) → has left j ≡ b → has left j ≡ false
          by true e = absurd (let most_is = most j e in omega arith)
          by false e = e

      was : (j : ℕ) → has (without_first (λ i. i == y) left) j ≡ true → has left j ≡ true
      was j h = let e = has_without left y j d in grind arith

      no_twice : (k : ℕ) → y ≡ k → has ys k ≡ false
      no_twice k e = by (has ys k) refl
        where
          by : (b : Bool) → has ys k ≡ b → has ys k ≡ false
          by true q = absurd (let less = f.0 k q in omega arith)
          by false q = q

      rest : (k : ℕ) → has ys k ≡ has (without_first (λ i. i == y) left) k
      rest k =
          let one = has_without left y k d in
          let all = same k in
          elim (cases_eq y k) [
            | inl e ↦ let once = no_twice k e in grind (arith, nat_tests)
            | inr n ↦ grind (arith, nat_tests)
          ]

      stays_out : (j : ℕ) → has left j ≡ false → has (without_first (λ i. i == y) left) j ≡ false
      stays_out j h = let e = has_without left y j d in grind arith

      gone : (k j : ℕ) → has (set_of (base nodes []) target) k ≡ true → has (without_first (λ i. i == y) left) k ≡ false → has (below nodes [] k) j ≡ true → has (without_first (λ i. i == y) left) j ≡ false
      gone k j own off b = by (has left k) refl
        where
          by : (a : Bool) → has left k ≡ a → has (without_first (λ i. i == y) left) j ≡ false
          by false e = stays_out j (closed k j own e b)
          by true e =
              let one = has_without left y k d in
              let is : y ≡ k = grind (arith, nat_tests) in
              let less = later nodes serials g parents k j b in
              stays_out j (out j (omega arith))

  pub falls_leave : (order : List ℕ) → Falling order → ((k : ℕ) → has order k ≡ has (set_of (base nodes []) target) k) → order ≡ leaving (base nodes []) target
  falls_leave order f same =
      let all = set_of (base nodes []) target in
      sym (falls order all (length all) f same (closed_distinct (base nodes []) (target ∷ []) g (refl, tt)) (λ k h. h) (λ k j a b c. absurd (cc)) (omega arith))

  -- as what was found was put in order
  pub falls_leaving : (found : List ℕ) → ((k : ℕ) → has found k ≡ has (set_of (base nodes []) target) k)
      → {E : Type 0} (result : Result (List ℕ) E) → IfOk result (λ order. Falling order) → IfOk result (λ order. (k : ℕ) → has order k ≡ has found k) → IfOk result (λ order. IsLeaving nodes [] target order)
  falls_leaving found all (Ok order) f same = λ around. falls_leave order f (λ k. same k ∙ all k) ∙ sym (leaving_same nodes [] around target)
  falls_leaving found all (Err e) f same = tt
