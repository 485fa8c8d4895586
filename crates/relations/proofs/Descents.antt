-- Where no device is related, all that depends on a device is found from parent to child, nobody twice.
use Rattle.std.proofs.Common.{◌≡◌, ℕ, zero, suc, ◌+◌, ◌<◌, ◌≤◌, ◌==◌, ◌⊎◌, inl, inr, Bool, true, false, not, ◌&&◌, ◌||◌, List, [], ◌∷◌, ◌++◌, length, take, take_all, get_or, Some, refl, sym, ap, ◌∙◌, subst, arith, append-nil}
use Rattle.std.specs.List.{AllByRecursion}
use Rattle.std.proofs.lemmas.Bool.{cases_eq}
use Rattle.std.proofs.lemmas.Bool.Decides.{nat_tests}
use Rattle.std.proofs.lemmas.List.{take_more, take-append-le}
use Rattle.pnp_model.specs.Tests.{has}
use Rattle.pnp_model.specs.Cores.{node_at}
use Rattle.pnp_model.specs.Records.{Node}
use Rattle.pnp_model.specs.Trees.{set_of, is_child}
use Rattle.pnp_laws.specs.Kept.{Ascending, Distinct, Within}
use Rattle.pnp_laws.proofs.Closures.{Closed, closed_within, hangs_some}
use Rattle.pnp_laws.proofs.Lists.{cons_here, cons_there, serials_distinct}
use Rattle.devnode_tree.specs.Trees.{HasParent}
use Rattle.devnode_tree.specs.Entries.{child_serials}
use Rattle.relations.specs.Leaving.{base, below}
use Rattle.relations.proofs.Directs.{has_either, one_of, or_cases, hangs_listed, listed_hangs}
use Rattle.relations.proofs.Searching.{same_bool, not_longer, at_has, own, below_inside}
use Rattle.relations.proofs.Falls.{later}

distinct_both : (xs ys : List ℕ) → Distinct xs → Distinct ys → ((k : ℕ) → has ys k ≡ true → has xs k ≡ false) → Distinct (xs ++ ys)
distinct_both [] ys d e apart = e
distinct_both (x ∷ xs) ys d e apart = (by (has (xs ++ ys) x) refl, distinct_both xs ys d.1 e (λ k h. not_tail x xs k (apart k h)))
  where
    not_tail : (x : ℕ) (xs : List ℕ) (k : ℕ) → has (x ∷ xs) k ≡ false → has xs k ≡ false
    not_tail x xs k h = by_tail (has xs k) refl
      where
        by_tail : (b : Bool) → has xs k ≡ b → has xs k ≡ false
        by_tail true q = absurd (let more = cons_there x xs k q in cc)
        by_tail false q = q

    by : (b : Bool) → has (xs ++ ys) x ≡ b → has (xs ++ ys) x ≡ false
    by false h = h
    by true h = absurd (elim (one_of xs ys x h) [
      | inl a ↦ let none = d.0 in cc
      | inr b ↦ let none = apart x b in let here = cons_here x xs in cc
    ])

-- what stands at a place does not stand before it
not_before : (xs : List ℕ) (i k : ℕ) → Distinct xs → i < length xs → k ≡ get_or xs i k → has (take i xs) k ≡ false
not_before [] i k d l e = absurd (omega arith)
not_before (x ∷ xs) zero k d l e = refl
not_before (x ∷ xs) (suc i) k d l e =
    let more = not_before xs i k d.1 (omega arith) e in
    let there = at_has xs i k (omega arith) e in
    elim (cases_eq x k) [
      | inl q ↦ absurd (let none = subst (λ (j : ℕ). has xs j ≡ false) q d.0 in cc)
      | inr n ↦ grind (arith, nat_tests)
    ]

of_front : (xs : List ℕ) (i j : ℕ) → has (take i xs) j ≡ true → has xs j ≡ true
of_front [] zero j h = h
of_front [] (suc i) j h = h
of_front (x ∷ xs) zero j h = absurd (cc)
of_front (x ∷ xs) (suc i) j h = elim (cases_eq x j) [ inl e ↦ grind (arith, nat_tests) | inr d ↦ let more = of_front xs i j (grind (arith, nat_tests)) in grind (arith, nat_tests) ]

-- so many are looked at: their children are found, and who was found is the target or a child of one of them
pub record Descends (nodes : List Node) (target : ℕ) (order : List ℕ) (at : ℕ) : Type 0 where
  pub distinct : Distinct order
  pub first : has order target ≡ true
  pub inside : Within order (set_of (base nodes []) target)
  pub from : (j : ℕ) → has order j ≡ true → target ≤ j
  pub found : (k : ℕ) → has (take at order) k ≡ true → Within (below nodes [] k) order
  pub over : (j : ℕ) → has order j ≡ true → (target ≡ j) ⊎ ((k : ℕ) × (has (take at order) k ≡ true) × (has (below nodes [] k) j ≡ true))

module _ (nodes : List Node) (serials : List ℕ) (parents : AllByRecursion (HasParent serials) nodes) (target : ℕ) (g : Ascending 0 nodes) (m : Node) (there : node_at target nodes ≡ Some m) where
  pub descends_none : Descends nodes target (target ∷ []) 0
  descends_none = record {
    distinct = (refl, tt);
    first = cons_here target [];
    inside = λ k h. subst (λ (i : ℕ). has (set_of (base nodes []) target) i ≡ true) (one target k h) (own nodes [] target g m there);
    from = λ j h. let e = one target j h in omega arith;
    found = λ k h. absurd (cc);
    over = λ j h. inl (one target j h);
  }
    where
      one : (x k : ℕ) → has (x ∷ []) k ≡ true → x ≡ k
      one x k h = grind (arith, nat_tests)

  -- each child has one parent
  one_parent : (i k j : ℕ) → has (below nodes [] i) j ≡ true → has (below nodes [] k) j ≡ true → i ≡ k
  one_parent i k j a b =
      let f = listed_hangs nodes [] g i j a in
      let h = listed_hangs nodes [] g k j b in
      let same : f.0 ≡ h.0 = let one = f.1 in let two = h.1 in grind arith in
      let is : f.0.parent ≡ i = parent_is i f.0 f.2 in
      let also : h.0.parent ≡ k = parent_is k h.0 h.2 in
      sym is ∙ (ap (λ (n : Node). n.parent) same ∙ also)
    where
      parent_is : (i : ℕ) (n : Node) → ((has (i ∷ []) n.parent && not (n.serial == 0)) || false) ≡ true → n.parent ≡ i
      parent_is i n h = elim (or_cases (has (i ∷ []) n.parent && not (n.serial == 0)) false h) [
        | inl q ↦ grind (arith, nat_tests)
        | inr z ↦ absurd (cc)
      ]

  module _ (order : List ℕ) (at k : ℕ) (s : Descends nodes target order at) (lt : at < length order) (is : k ≡ get_or order at k) where
    here : has order k ≡ true
    here = at_has order at k lt is

    next_is : take (at + 1) (order ++ child_serials nodes k) ≡ take at order ++ k ∷ []
    next_is = take-append-le (at + 1) order (child_serials nodes k) (omega arith) ∙ (take_more order at k lt ∙ ap (λ y. take at order ++ y ∷ []) (sym is))

    kids : (j : ℕ) → has (child_serials nodes k) j ≡ has (below nodes [] k) j
    kids j = ap (λ (l : List ℕ). has l j) (sym (append-nil (child_serials nodes k)))

    grows : (j : ℕ) → has order j ≡ true → has (order ++ child_serials nodes k) j ≡ true
    grows j h = has_either order (child_serials nodes k) j (inl h)

    apart : (j : ℕ) → has (child_serials nodes k) j ≡ true → has order j ≡ false
    apart j h = by (has order j) refl
      where
        child : has (below nodes [] k) j ≡ true
        child = sym (kids j) ∙ h

        twice : (target ≡ j) ⊎ ((i : ℕ) × (has (take at order) i ≡ true) × (has (below nodes [] i) j ≡ true)) → ⊥
        twice (inl e) = let less = later nodes serials g parents k j child in let least = s.from k here in omega arith
        twice (inr f) =
            let e = one_parent f.0 k j f.2 child in
            let seen = subst (λ (i : ℕ). has (take at order) i ≡ true) e f.1 in
            let fresh = not_before order at k s.distinct lt is in
            cc

        by : (b : Bool) → has order j ≡ b → has order j ≡ false
        by false e = e
        by true e = absurd (twice (s.over j e))

    one_is : (j : ℕ) → has (k ∷ []) j ≡ true → k ≡ j
    one_is j h = grind (arith, nat_tests)

    seen_more : (j : ℕ) → has (take at order) j ≡ true → has (take (at + 1) (order ++ child_serials nodes k)) j ≡ true
    seen_more j h = subst (λ (l : List ℕ). has l j ≡ true) (sym next_is) (has_either (take at order) (k ∷ []) j (inl h))

    pub descends_next : Descends nodes target (order ++ child_serials nodes k) (at + 1)
    descends_next = record {
      distinct = distinct_both order (child_serials nodes k) s.distinct (serials_distinct 0 (is_child k) nodes g) apart;
      first = grows target s.first;
      inside = λ j h. elim (one_of order (child_serials nodes k) j h) [
        | inl a ↦ s.inside j a
        | inr b ↦ below_inside nodes [] target g m there k j (s.inside k here) (sym (kids j) ∙ b)
      ];
      from = λ j h. elim (one_of order (child_serials nodes k) j h) [
        | inl a ↦ s.from j a
        | inr b ↦ let less = later nodes serials g parents k j (sym (kids j) ∙ b) in let least = s.from k here in omega arith
      ];
      found = λ i h. elim (one_of (take at order) (k ∷ []) i (subst (λ (l : List ℕ). has l i ≡ true) next_is h)) [
        | inl a ↦ λ j b. grows j (s.found i a j b)
        | inr a ↦ λ j b. has_either order (child_serials nodes k) j (inr (kids j ∙ subst (λ (x : ℕ). has (below nodes [] x) j ≡ true) (sym (one_is i a)) b))
      ];
      over = λ j h. elim (one_of order (child_serials nodes k) j h) [
        | inl a ↦ before j (s.over j a)
        | inr b ↦ inr (k, subst (λ (l : List ℕ). has l k ≡ true) (sym next_is) (has_either (take at order) (k ∷ []) k (inr (cons_here k []))), sym (kids j) ∙ b)
      ];
    }
      where
        before : (j : ℕ) → (target ≡ j) ⊎ ((i : ℕ) × (has (take at order) i ≡ true) × (has (below nodes [] i) j ≡ true))
            → (target ≡ j) ⊎ ((i : ℕ) × (has (take (at + 1) (order ++ child_serials nodes k)) i ≡ true) × (has (below nodes [] i) j ≡ true))
        before j (inl e) = inl e
        before j (inr f) = inr (f.0, seen_more f.0 f.1, f.2)

  -- not more than all are found
  pub descends_most : (order : List ℕ) (at : ℕ) → Descends nodes target order at → length order ≤ length (set_of (base nodes []) target)
  descends_most order at s = not_longer order (set_of (base nodes []) target) s.distinct s.inside

  pub descends_all : (order : List ℕ) (at : ℕ) → Descends nodes target order at → length order ≤ at → (k : ℕ) → has order k ≡ has (set_of (base nodes []) target) k
  descends_all order at s le k =
      let whole : take at order ≡ order = take_all at order le in
      let done : Closed (base nodes []) order =
      λ j n at2 h.
      let some = hangs_some (base nodes []) order n h in
      s.found some.0 (subst (λ (l : List ℕ). has l some.0 ≡ true) (sym whole) some.1) j (hangs_listed nodes [] g some.0 j n at2 some.2) in
      same_bool (has order k) (has (set_of (base nodes []) target) k) (s.inside k)
      (closed_within (base nodes []) (target ∷ []) order g done (λ j h. elim (cases_eq target j) [
        | inl e ↦ subst (λ (i : ℕ). has order i ≡ true) e s.first
        | inr d ↦ absurd (let out : has (target ∷ []) j ≡ false = grind (arith, nat_tests) in cc)
      ]) k)
