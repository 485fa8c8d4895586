-- Ascending lists of serials: two with the same members are the same.
use Rattle.std.proofs.Common.{ℕ, zero, suc, ◌+◌, ◌<◌, ◌≤◌, ◌≡◌, inl, inr, true, List, [], ◌∷◌, refl, sym, ap, ◌∙◌, subst, arith}
use Rattle.std.specs.Prelude.{Contains, slice_index}
use Rattle.std.specs.List.Sorted.{IsStrictlyIncreasing}
use Rattle.std.proofs.lemmas.List.Elements.{Contains-append_right}
use Rattle.resource_reqs.proofs.Counts.{contains_cons, contains_nil}
use Rattle.pnp_model.specs.Tests.{has}
use Rattle.pnp_laws.specs.Rebalanced.{Rising}
use Rattle.pnp_laws.proofs.Lists.{cons_here, cons_there, has_cases}

pub has_from_contains : (ks : List ℕ) (k : ℕ) → Contains ks k → has ks k ≡ true
has_from_contains [] k c = absurd (contains_nil k c)
has_from_contains (j ∷ ks) k c =
    elim (contains_cons j ks k c) [
      | inl e ↦ subst (λ (i : ℕ). has (j ∷ ks) i ≡ true) (sym e) (cons_here j ks)
      | inr q ↦ cons_there j ks k (has_from_contains ks k q)
    ]

pub contains_from_has : (ks : List ℕ) (k : ℕ) → has ks k ≡ true → Contains ks k
contains_from_has [] k h = absurd (cc)
contains_from_has (j ∷ ks) k h =
    elim (has_cases j k ks h) [
      | inl e ↦ subst (λ (i : ℕ). Contains (j ∷ ks) i) e (0, omega arith, refl)
      | inr q ↦ Contains-append_right (j ∷ []) ks k (contains_from_has ks k q)
    ]

increasing_tail : (x : ℕ) (xs : List ℕ) → IsStrictlyIncreasing (x ∷ xs) → IsStrictlyIncreasing xs
increasing_tail x xs h k within =
    let next : suc k + 1 ≡ suc (k + 1) = omega arith in
    let step : slice_index (x ∷ xs) (suc k) < slice_index (x ∷ xs) (suc k + 1) = h (suc k) (omega arith) in
    subst (λ (i : ℕ). slice_index xs k < slice_index (x ∷ xs) i) next step

pub rising_from_increasing : (xs : List ℕ) → IsStrictlyIncreasing xs → Rising xs
rising_from_increasing [] h = tt
rising_from_increasing (x ∷ []) h = (λ j e. absurd (cc), tt)
rising_from_increasing (x ∷ y ∷ ys) h =
    let more = rising_from_increasing (y ∷ ys) (increasing_tail x (y ∷ ys) h) in
    let low : x < y = h 0 (omega arith) in (
      (λ j e. elim (has_cases y j ys e) [
        | inl q ↦ subst (λ (i : ℕ). x < i) q low
        | inr q ↦ let up = more.0 j q in omega arith
      ]),
      more,
    )

pub increasing_from_rising : (xs : List ℕ) → Rising xs → IsStrictlyIncreasing xs
increasing_from_rising [] h k within = absurd (omega arith)
increasing_from_rising (x ∷ []) h k within = absurd (omega arith)
increasing_from_rising (x ∷ y ∷ ys) h zero within = h.0 y (cons_here y ys)
increasing_from_rising (x ∷ y ∷ ys) h (suc k) within =
    let next : suc k + 1 ≡ suc (k + 1) = omega arith in
    let step : slice_index (y ∷ ys) k < slice_index (y ∷ ys) (k + 1) = increasing_from_rising (y ∷ ys) h.1 k (omega arith) in
    subst (λ (i : ℕ). slice_index (x ∷ y ∷ ys) (suc k) < slice_index (x ∷ y ∷ ys) i) (sym next) step

-- the same members, and so the same list

head_low : (x : ℕ) (xs : List ℕ) (y : ℕ) (ys : List ℕ) → Rising (y ∷ ys) → has (y ∷ ys) x ≡ true → y ≤ x
head_low x xs y ys r h = elim (has_cases y x ys h) [ inl e ↦ omega arith | inr q ↦ let up = r.0 x q in omega arith ]

tail_has : (x : ℕ) (xs : List ℕ) (y : ℕ) (ys : List ℕ) → x ≡ y → Rising (x ∷ xs) → ((k : ℕ) → has (x ∷ xs) k ≡ true → has (y ∷ ys) k ≡ true) → (k : ℕ) → has xs k ≡ true → has ys k ≡ true
tail_has x xs y ys e r into k h =
    elim (has_cases y k ys (into k (cons_there x xs k h))) [
      | inl q ↦ let up = r.0 k h in absurd (omega arith)
      | inr q ↦ q
    ]

pub same_ascent : (xs ys : List ℕ) → Rising xs → Rising ys → ((k : ℕ) → has xs k ≡ true → has ys k ≡ true) → ((k : ℕ) → has ys k ≡ true → has xs k ≡ true) → xs ≡ ys
same_ascent [] [] r q into back = refl
same_ascent [] (y ∷ ys) r q into back = let h = back y (cons_here y ys) in absurd (cc)
same_ascent (x ∷ xs) [] r q into back = let h = into x (cons_here x xs) in absurd (cc)
same_ascent (x ∷ xs) (y ∷ ys) r q into back =
    let low = head_low x xs y ys q (into x (cons_here x xs)) in
    let high = head_low y ys x xs r (back y (cons_here y ys)) in
    let e : x ≡ y = omega arith in
    let more = same_ascent xs ys r.1 q.1 (tail_has x xs y ys e r into) (tail_has y ys x xs (sym e) q back) in
    ap (λ (i : ℕ). i ∷ xs) e ∙ ap (λ (l : List ℕ). y ∷ l) more
