-- A device on which nothing depends: it leaves alone, and nothing stands below it.
use Rattle.std.proofs.Common.{ℕ, ◌≡◌, ◌≢◌, ◌==◌, ◌&&◌, inl, inr, Bool, true, false, not, List, [], ◌∷◌, length, Some, refl, sym, ap, subst, arith, cond}
use Rattle.std.specs.List.{list_any}
use Rattle.std.proofs.lemmas.Bool.Decides.{nat_tests}
use Rattle.pnp_model.specs.Cores.{node_at, serials_of}
use Rattle.pnp_model.specs.Keyed.{those}
use Rattle.pnp_model.specs.Records.{Core, Node}
use Rattle.pnp_model.specs.Tests.{has}
use Rattle.pnp_model.specs.Trees.{children, dependents, direct, hangs_on, is_child, leaving, set_of}
use Rattle.pnp_laws.specs.Kept.{Ascending, IsLast}
use Rattle.pnp_laws.proofs.Closures.{closed_keeps, set_within}
use Rattle.pnp_laws.proofs.Lists.{has_cases, those_found}
use Rattle.pnp_laws.proofs.Orders.{Ranked, RootFree, leaving_fits, order_all, order_has}
use Rattle.pnp_laws.proofs.Truths.{and_both, both_true, or_left}

pub none_of : (p q : Node → Bool) → ((x : Node) → p x ≡ true → q x ≡ true) → (ns : List Node) → those q ns ≡ [] → those p ns ≡ []
none_of p q more [] none = refl
none_of p q more (x ∷ xs) none = by_tests (p x) (q x) refl refl none (none_of p q more xs)
  where
    by_tests : (a b : Bool) → p x ≡ a → q x ≡ b → cond b (x ∷ those q xs) (those q xs) ≡ [] → (those q xs ≡ [] → those p xs ≡ []) → cond a (x ∷ those p xs) (those p xs) ≡ []
    by_tests true true h g empty on = absurd (cc)
    by_tests true false h g empty on = absurd (let z = more x h in cc)
    by_tests false true h g empty on = absurd (cc)
    by_tests false false h g empty on = on empty

one_left : (k : ℕ) (xs : List ℕ) → ((j : ℕ) → has xs j ≡ true → j ≡ k) → has xs k ≡ true → IsLast k xs → xs ≡ k ∷ []
one_left k [] all own last = absurd (cc)
one_left k (j ∷ []) all own last = ap (λ (i : ℕ). i ∷ []) last
one_left k (j ∷ i ∷ xs) all own last = absurd (last.0 (all j (grind (arith, nat_tests))))

module _ (c : Core) (n : Node) (order : Ascending 0 c.nodes) (nobody : dependents c n.serial ≡ []) where
  pub none_hangs : those (hangs_on c (n.serial ∷ [])) c.nodes ≡ []
  none_hangs = by_list (those (hangs_on c (n.serial ∷ [])) c.nodes) refl
    where
      by_list : (xs : List Node) → those (hangs_on c (n.serial ∷ [])) c.nodes ≡ xs → xs ≡ []
      by_list [] e = refl
      by_list (x ∷ xs) e =
          let first : has (serials_of (x ∷ xs)) x.serial ≡ true = grind (arith, nat_tests) in
          let near : has (direct c n.serial) x.serial ≡ true = subst (λ (ys : List Node). has (serials_of ys) x.serial ≡ true) (sym e) first in
          let there = those_found 0 (hangs_on c (n.serial ∷ [])) c.nodes x.serial order near in
          let all : has (dependents c n.serial) x.serial ≡ true = closed_keeps c (direct c n.serial) x.serial there.0 order there.1 near in
          absurd (let z = subst (λ (ks : List ℕ). has ks x.serial ≡ true) nobody all in cc)

  pub childless : children n.serial c.nodes ≡ []
  childless =
      none_of (is_child n.serial) (hangs_on c (n.serial ∷ []))
      (λ x below.
      let two = and_both (x.parent == n.serial) (not (x.serial == 0)) below in
      let over : (x.parent == n.serial) ≡ true = two.0 in
      let up : not (x.serial == 0) ≡ true = two.1 in
      let here : has (n.serial ∷ []) x.parent ≡ true = grind (arith, nat_tests) in
      or_left (has (n.serial ∷ []) x.parent && not (x.serial == 0)) (list_any (λ r. r.member == x.serial && has (n.serial ∷ []) r.owner) c.relations) (both_true (has (n.serial ∷ []) x.parent) (not (x.serial == 0)) here up)) c.nodes none_hangs

  pub leaves_alone : (rank : ℕ → ℕ) → Ranked rank c → RootFree c → node_at n.serial c.nodes ≡ Some n → n.serial ≢ 0 → leaving c n.serial ≡ n.serial ∷ []
  leaves_alone rank ranked free at up =
      let set = set_of c n.serial in
      let one : has (n.serial ∷ []) n.serial ≡ true = grind (arith, nat_tests) in
      one_left n.serial (leaving c n.serial)
      (λ j here.
      let within = set_within c n.serial order j (order_has rank (length set) c set j order ranked (omega arith) here) in
      let only : has (n.serial ∷ []) j ≡ true = subst (λ (ks : List ℕ). has (n.serial ∷ ks) j ≡ true) nobody within in
      elim (has_cases n.serial j [] only) [ inl e ↦ sym e | inr none ↦ absurd (cc) ])
      (order_all rank (length set) c set n.serial order ranked (omega arith) (closed_keeps c (n.serial ∷ []) n.serial n order at one)) (leaving_fits rank c n.serial n order ranked free at up).last
