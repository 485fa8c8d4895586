-- One search from a device finds all that depends on it.
use Rattle.std.proofs.Common.{◌≡◌, ◌≢◌, ℕ, zero, suc, ◌+◌, ◌-◌, ◌<◌, ◌≤◌, ◌==◌, inl, inr, Bool, true, false, cond, List, [], ◌∷◌, ◌++◌, length, take, get_or, Some, None, is_some, nat_eq, refl, sym, ap, ◌∙◌, subst, arith, take_all}
use Rattle.std.specs.List.{sum_by}
use Rattle.std.specs.HashMap.{HashMap, get}
use Rattle.std.proofs.lemmas.Bool.{cases_eq}
use Rattle.std.proofs.lemmas.Bool.Decides.{nat_tests}
use Rattle.std.proofs.lemmas.List.{take_more, take-append-le}
use Rattle.std.proofs.lemmas.List.Sums.{sum_by-cons}
use Rattle.pnp_model.specs.Keyed.{without_first}
use Rattle.pnp_model.specs.Tests.{has}
use Rattle.pnp_model.specs.Cores.{node_at}
use Rattle.pnp_model.specs.Records.{Node, Relation}
use Rattle.pnp_model.specs.Trees.{hangs_on, set_of, direct, dependents}
use Rattle.pnp_laws.specs.Kept.{Ascending, Distinct, Within}
use Rattle.pnp_laws.proofs.Lists.{those_found}
use Rattle.pnp_laws.proofs.Closures.{Closed, closed_in_all, grown_from, closed_keeps, closed_within, hangs_some, hangs_more, set_within}
use Rattle.pnp_laws.proofs.Orders.{without_length}
use Rattle.pnp_laws.proofs.Finishes.{set_is_closed}
use Rattle.relations.specs.Edges.{SameSums}
use Rattle.relations.specs.Leaving.{base, below}
use Rattle.relations.specs.Searches.{IsKept, Notes, IsCounted, IsSet}
use Rattle.relations.proofs.Sums.{any_same}
use Rattle.relations.proofs.Directs.{has_either, one_of, hangs_listed, listed_hangs}

pub same_bool : (a b : Bool) → (a ≡ true → b ≡ true) → (b ≡ true → a ≡ true) → a ≡ b
same_bool true true f g = refl
same_bool true false f g = sym (f refl)
same_bool false true f g = g refl
same_bool false false f g = refl

-- Nobody twice, so not more than there are -----------------------------------------------

kept_without : (ys : List ℕ) (x k : ℕ) → x ≢ k → has ys k ≡ true → has (without_first (λ i. i == x) ys) k ≡ true
kept_without [] x k d h = h
kept_without (y ∷ ys) x k d h = grind (arith, nat_tests, kept_without ys x k d)

pub not_longer : (xs ys : List ℕ) → Distinct xs → Within xs ys → length xs ≤ length ys
not_longer [] ys d w = omega arith
not_longer (x ∷ xs) ys d w =
    let here : has ys x ≡ true = w x (grind (arith, nat_tests)) in
    let rest = without_first (λ i. i == x) ys in
    let some : 0 < length ys = by ys here in
    let less = without_length x ys (length ys - 1) here (omega arith) in
    let more = not_longer xs rest d.1 (λ k h. kept_without ys x k (λ e. absurd (let no = subst (λ (i : ℕ). has xs i ≡ false) e d.0 in cc)) (w k (grind (arith, nat_tests)))) in
    omega arith
  where
    by : (ys : List ℕ) → has ys x ≡ true → 0 < length ys
    by [] h = absurd (cc)
    by (y ∷ ys) h = omega arith

-- what stands at a place is there
pub at_has : (xs : List ℕ) (i k : ℕ) → i < length xs → k ≡ get_or xs i k → has xs k ≡ true
at_has [] i k l e = absurd (omega arith)
at_has (x ∷ xs) zero k l e = grind (arith, nat_tests)
at_has (x ∷ xs) (suc i) k l e = let more = at_has xs i k (omega arith) e in grind (arith, nat_tests)

length_sum : (xs : List ℕ) → sum_by (λ x. 1) xs ≡ length xs
length_sum [] = refl
length_sum (x ∷ xs) = sum_by-cons (λ x. 1) x xs ∙ (let more = length_sum xs in omega arith)

pub same_length : (xs ys : List ℕ) → SameSums xs ys → length xs ≡ length ys
same_length xs ys h = sym (length_sum xs) ∙ (h (λ x. 1) ∙ length_sum ys)

pub same_has : (xs ys : List ℕ) (k : ℕ) → SameSums xs ys → has xs k ≡ has ys k
same_has xs ys k h = any_same (λ j. j == k) xs ys h

-- The set ---------------------------------------------------------------------------------

module _ (nodes : List Node) (rs : List Relation) (target : ℕ) (g : Ascending 0 nodes) (m : Node) (there : node_at target nodes ≡ Some m) where
  pub closed : Closed (base nodes rs) (set_of (base nodes rs) target)
  closed = set_is_closed (base nodes rs) target m g there

  pub own : has (set_of (base nodes rs) target) target ≡ true
  own = closed_keeps (base nodes rs) (target ∷ []) target m g there (grind (arith, nat_tests))

  pub below_inside : (k j : ℕ) → has (set_of (base nodes rs) target) k ≡ true → has (below nodes rs k) j ≡ true → has (set_of (base nodes rs) target) j ≡ true
  below_inside k j h b =
      let f = listed_hangs nodes rs g k j b in
      closed j f.0 f.1 (hangs_more (base nodes rs) k (set_of (base nodes rs) target) f.0 h f.2)

  -- all of the set are there
  pub inside_there : (k : ℕ) → has (set_of (base nodes rs) target) k ≡ true → (x : Node) × (node_at k nodes ≡ Some x)
  inside_there =
      closed_in_all (λ s. (k : ℕ) → has s k ≡ true → (x : Node) × (node_at k nodes ≡ Some x)) (length nodes) (base nodes rs) (target ∷ [])
      (λ s w k h. let from = grown_from (base nodes rs) s k g h in (from.0, from.1))
      (λ k h. elim (cases_eq target k) [
        | inl e ↦ (m, subst (λ (i : ℕ). node_at i nodes ≡ Some m) e there)
        | inr d ↦ absurd (let out : has (target ∷ []) k ≡ false = grind (arith, nat_tests) in cc)
      ])

  -- another device is in the set exactly where it is a dependent
  pub set_is_dependents : (k : ℕ) → k ≢ target → has (set_of (base nodes rs) target) k ≡ has (dependents (base nodes rs) target) k
  set_is_dependents k d =
      same_bool (has (set_of (base nodes rs) target) k) (has (dependents (base nodes rs) target) k)
      (λ h. let w = set_within (base nodes rs) target g k h in let d2 : target ≢ k = λ e. d (sym e) in grind (arith, nat_tests))
      (closed_within (base nodes rs) (direct (base nodes rs) target) (set_of (base nodes rs) target) g closed
      (λ j h.
      let f = those_found 0 (hangs_on (base nodes rs) (target ∷ [])) nodes j g h in
      closed j f.0 f.1 (hangs_more (base nodes rs) target (set_of (base nodes rs) target) f.0 own f.2)) k)

-- The search ------------------------------------------------------------------------------

module _ {S : Type 0} (nodes : List Node) (rs : List Relation) (target : ℕ) where
  -- so many are done: their direct dependents are found and counted
  pub record Searched (order : List ℕ) (counts : HashMap ℕ ℕ S) (at : ℕ) : Type 0 where
    pub kept : IsKept order counts
    pub first : has order target ≡ true
    pub inside : Within order (set_of (base nodes rs) target)
    pub counted : (k : ℕ) → has (take at order) k ≡ true → get nat_eq counts k ≡ Some (length (below nodes rs k))
    pub found : (k : ℕ) → has (take at order) k ≡ true → Within (below nodes rs k) order

  module _ (g : Ascending 0 nodes) (m : Node) (there : node_at target nodes ≡ Some m) where
    pub searched_none : (order : List ℕ) (empty counts : HashMap ℕ ℕ S) → ((q : ℕ) → get nat_eq empty q ≡ None) → Notes [] order empty counts (target ∷ []) → Searched order counts 0
    searched_none order empty counts none n =
        record {
          kept = n.kept;
          first = sym (n.kept.keys target) ∙ n.all target (grind (arith, nat_tests));
          inside = λ k h. elim (cases_eq target k) [
            | inl e ↦ subst (λ (i : ℕ). has (set_of (base nodes rs) target) i ≡ true) e (own nodes rs target g m there)
            | inr d ↦ absurd (let out : has (target ∷ []) k ≡ false = grind (arith, nat_tests) in let old = n.only k (n.kept.keys k ∙ h) out in let no = ap is_some (none k) in cc)
          ];
          counted = λ k h. absurd (cc);
          found = λ k h. absurd (cc);
        }

    module _ (order order' : List ℕ) (m0 m1 m2 : HashMap ℕ ℕ S) (at k : ℕ) (bs : List ℕ) (s : Searched order m0 at) (lt : at < length order) (is : k ≡ get_or order at k)
        (same : SameSums bs (below nodes rs k)) (c : IsCounted m0 m1 k (length bs)) (n : Notes order order' m1 m2 bs) where
      next_is : take (at + 1) order' ≡ take at order ++ k ∷ []
      next_is =
          ap (take (at + 1)) n.appended
          ∙ (front order n.more (at + 1) (omega arith) ∙ (take_more order at k lt ∙ ap (λ y. take at order ++ y ∷ []) (sym is)))
        where
          front : (xs ys : List ℕ) (i : ℕ) → i ≤ length xs → take i (xs ++ ys) ≡ take i xs
          front xs ys i le = take-append-le i xs ys le

      here : has order k ≡ true
      here = at_has order at k lt is

      grows : (j : ℕ) → has order j ≡ true → has order' j ≡ true
      grows j h = subst (λ (l : List ℕ). has l j ≡ true) (sym n.appended) (has_either order n.more j (inl h))

      was : (j : ℕ) → has order j ≡ true → is_some (get nat_eq m1 j) ≡ true
      was j h = let s1 = c j in let key = s.kept.keys j ∙ h in elim (cases_eq k j) [ inl e ↦ grind (arith, nat_tests, s1) | inr d ↦ grind (arith, nat_tests, s1, key) ]

      lists : (j : ℕ) → has (below nodes rs k) j ≡ true → has order' j ≡ true
      lists j h = sym (n.kept.keys j) ∙ n.all j (same_has bs (below nodes rs k) j same ∙ h)

      count_of : (j : ℕ) → has order j ≡ true → get nat_eq m2 j ≡ cond (k == j) (Some (length (below nodes rs k))) (get nat_eq m0 j)
      count_of j h = n.same j (was j h) ∙ (c j ∙ ap (λ x. cond (k == j) (Some x) (get nat_eq m0 j)) (same_length bs (below nodes rs k) same))

      of_front : (j : ℕ) → has (take at order) j ≡ true → has order j ≡ true
      of_front j h = by order at j h
        where
          by : (xs : List ℕ) (i j : ℕ) → has (take i xs) j ≡ true → has xs j ≡ true
          by [] zero j h = h
          by [] (suc i) j h = h
          by (x ∷ xs) zero j h = absurd (cc)
          by (x ∷ xs) (suc i) j h = elim (cases_eq x j) [ inl e ↦ grind (arith, nat_tests) | inr d ↦ let more = by xs i j (grind (arith, nat_tests)) in grind (arith, nat_tests) ]

      self_counted : get nat_eq m2 k ≡ Some (length (below nodes rs k))
      self_counted = let e = count_of k here in grind (arith, nat_tests, e)

      pub searched_next : Searched order' m2 (at + 1)
      searched_next =
          record {
            kept = n.kept;
            first = grows target s.first;
            inside = λ j h. by_bs j h (has bs j) refl;
            counted = λ j h. elim (one_of (take at order) (k ∷ []) j (subst (λ (l : List ℕ). has l j ≡ true) next_is h)) [
              | inl u ↦
                  elim (cases_eq k j) [
                    | inl e ↦ subst (λ (i : ℕ). get nat_eq m2 i ≡ Some (length (below nodes rs i))) e self_counted
                    | inr d ↦ let e = count_of j (of_front j u) in let old = s.counted j u in grind (arith, nat_tests, e, old)
                  ]
              | inr u ↦ subst (λ (i : ℕ). get nat_eq m2 i ≡ Some (length (below nodes rs i))) (one_is j u) self_counted
            ];
            found = λ j h. elim (one_of (take at order) (k ∷ []) j (subst (λ (l : List ℕ). has l j ≡ true) next_is h)) [
              | inl u ↦ λ i b. grows i (s.found j u i b)
              | inr u ↦ λ i b. lists i (subst (λ (x : ℕ). has (below nodes rs x) i ≡ true) (sym (one_is j u)) b)
            ];
          }
        where
          one_is : (j : ℕ) → has (k ∷ []) j ≡ true → k ≡ j
          one_is j h = grind (arith, nat_tests)

          by_bs : (j : ℕ) → has order' j ≡ true → (b : Bool) → has bs j ≡ b → has (set_of (base nodes rs) target) j ≡ true
          by_bs j h true e = below_inside nodes rs target g m there k j (s.inside k here) (sym (same_has bs (below nodes rs k) j same) ∙ e)
          by_bs j h false e =
              let old = n.only j (n.kept.keys j ∙ h) e in
              s.inside j (from_counts j old)
            where
              from_counts : (j : ℕ) → is_some (get nat_eq m1 j) ≡ true → has order j ≡ true
              from_counts j h = elim (cases_eq k j) [
                | inl e ↦ subst (λ (i : ℕ). has order i ≡ true) e here
                | inr d ↦ let s1 = c j in let key = s.kept.keys j in grind (arith, nat_tests, s1, key)
              ]

    -- not more than all are found
    pub searched_most : (order : List ℕ) (counts : HashMap ℕ ℕ S) (at : ℕ) → Searched order counts at → length order ≤ length (set_of (base nodes rs) target)
    searched_most order counts at s = not_longer order (set_of (base nodes rs) target) s.kept.distinct s.inside

    pub searched_all : (order : List ℕ) (counts : HashMap ℕ ℕ S) (at : ℕ) → Searched order counts at → length order ≤ at → IsSet nodes rs target order counts
    searched_all order counts at s le =
        let whole : take at order ≡ order = take_all at order le in
        let done : Closed (base nodes rs) order =
        λ j n at2 h.
        let some = hangs_some (base nodes rs) order n h in
        s.found some.0 (subst (λ (l : List ℕ). has l some.0 ≡ true) (sym whole) some.1) j (hangs_listed nodes rs g some.0 j n at2 some.2) in
        record {
          kept = s.kept;
          set = λ k. same_bool (has order k) (has (set_of (base nodes rs) target) k) (s.inside k)
              (closed_within (base nodes rs) (target ∷ []) order g done (λ j h. elim (cases_eq target j) [
                | inl e ↦ subst (λ (i : ℕ). has order i ≡ true) e s.first
                | inr d ↦ absurd (let out : has (target ∷ []) j ≡ false = grind (arith, nat_tests) in cc)
              ]) k);
          counted = λ k h. s.counted k (subst (λ (l : List ℕ). has l k ≡ true) (sym whole) h);
        }
