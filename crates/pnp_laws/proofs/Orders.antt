-- The leaving order: all of the set, nobody twice, each device before those it hangs on, the target last.
use Rattle.std.proofs.Common.{ℕ, zero, suc, ◌<◌, ◌≤◌, ◌≡◌, ◌≢◌, ◌==◌, ◌⊎◌, inl, inr, Bool, true, false, not, cond, List, [], ◌∷◌, length, Option, Some, None, refl, sym, ap, ◌∙◌, subst, arith, nat_le, nat_lt}
use Rattle.std.specs.List.{list_any}
use Rattle.std.proofs.lemmas.Bool.{cases_eq}
use Rattle.std.proofs.lemmas.Bool.Decides.{nat_tests}
use Rattle.pnp_model.specs.Keyed.{those, without_first}
use Rattle.pnp_model.specs.Tests.{has}
use Rattle.pnp_model.specs.Records.{Node, Core}
use Rattle.pnp_model.specs.Cores.{node_at}
use Rattle.pnp_model.specs.Trees.{hangs_on, closed, dependents, direct, set_of, is_free, greater, greatest, leaving_in, leaving}
use Rattle.pnp_laws.specs.Kept.{Ascending, Distinct, IsLast, OrderFits}
use Rattle.pnp_laws.proofs.Lists.{those_has, those_keeps, those_found}
use Rattle.pnp_laws.proofs.Closures.{closed_in_all, closed_distinct, closed_keeps, grown_from, hangs_some, set_within}

-- no cycle: what hangs on a device has a lower rank
abbrev pub Ranked : (ℕ → ℕ) → Core → Type 0
Ranked rank c = (k j : ℕ) (m : Node) → node_at j c.nodes ≡ Some m → hangs_on c (k ∷ []) m ≡ true → rank j < rank k

-- the root hangs on nothing
abbrev pub RootFree : Core → Type 0
RootFree c = (k : ℕ) (m : Node) → node_at 0 c.nodes ≡ Some m → hangs_on c (k ∷ []) m ≡ true → ⊥

below_rank : (rank : ℕ → ℕ) (top : ℕ) (c : Core) (set : List ℕ) → Ascending 0 c.nodes → Ranked rank c → ((j : ℕ) → has set j ≡ true → rank j < top) → (j : ℕ) → has (closed c set) j ≡ true → rank j < top
below_rank rank top c set g ranked low =
    closed_in_all (λ s. (j : ℕ) → has s j ≡ true → rank j < top) (length c.nodes) c set
    (λ s w j h.
    let from = grown_from c s j g h in
    elim from.2 [
      | inl a ↦ w j a
      | inr b ↦
          let some = hangs_some c s from.0 b in
          let under = ranked some.0 j from.0 from.1 some.2 in
          let over = w some.0 some.1 in
          omega arith
    ])
    low

-- dependents have a lower rank
pub dependents_rank : (rank : ℕ → ℕ) (c : Core) (k : ℕ) → Ascending 0 c.nodes → Ranked rank c → (j : ℕ) → has (dependents c k) j ≡ true → rank j < rank k
dependents_rank rank c k g ranked =
    below_rank rank (rank k) c (direct c k) g ranked
    (λ j h. let f = those_found 0 (hangs_on c (k ∷ [])) c.nodes j g h in ranked k j f.0 f.1 f.2)

pub closed_rootless : (c : Core) (set : List ℕ) → Ascending 0 c.nodes → RootFree c → (has set 0 ≡ true → ⊥) → has (closed c set) 0 ≡ true → ⊥
closed_rootless c set g free none =
    closed_in_all (λ s. has s 0 ≡ true → ⊥) (length c.nodes) c set
    (λ s w h.
    let from = grown_from c s 0 g h in
    elim from.2 [
      | inl a ↦ w a
      | inr b ↦ let some = hangs_some c s from.0 b in free some.0 from.0 from.1 some.2
    ])
    none

-- The selection ------------------------------------------------------------------------

pub greatest_some : (x : ℕ) (xs : List ℕ) → (k : ℕ) × (greatest (x ∷ xs) ≡ Some k) × (has (x ∷ xs) k ≡ true)
greatest_some x [] = (x, refl, grind (arith, nat_tests))
greatest_some x (y ∷ ys) =
    let more = greatest_some y ys in
    let e = more.1 in
    let h = more.2 in
    let by_test : (b : Bool) → (k : ℕ) × (Some (cond b more.0 x) ≡ Some k) × (has (x ∷ y ∷ ys) k ≡ true) =
    λ b. elim b as (λ b. (k : ℕ) × (Some (cond b more.0 x) ≡ Some k) × (has (x ∷ y ∷ ys) k ≡ true)) [
      | true ↦ (more.0, refl, grind (arith, nat_tests))
      | false ↦ (x, refl, grind (arith, nat_tests))
    ] in
    let chosen = by_test (nat_lt x more.0) in
    (chosen.0, ap (λ (o : Option ℕ). Some (greater x o)) e ∙ chosen.1, chosen.2)

pub picked : (xs : List ℕ) (j : ℕ) → has xs j ≡ true → (k : ℕ) × (greatest xs ≡ Some k) × (has xs k ≡ true)
picked [] j h = absurd (cc)
picked (x ∷ xs) j h = greatest_some x xs

-- of these, one has the least rank
least : (rank : ℕ → ℕ) (x : ℕ) (xs : List ℕ) → (d : ℕ) × (has (x ∷ xs) d ≡ true) × ((e : ℕ) → has (x ∷ xs) e ≡ true → rank d ≤ rank e)
least rank x [] =
    (x, grind (arith, nat_tests), λ e h. elim (cases_eq x e) [ inl q ↦ subst (λ (i : ℕ). rank x ≤ rank i) q (omega arith) | inr d ↦ absurd (let z : has (x ∷ []) e ≡ false = grind (arith, nat_tests) in cc) ])
least rank x (y ∷ ys) =
    let more = least rank y ys in
    elim (less_or (rank x) (rank more.0)) [
      | inl l ↦ (
        x,
        grind (arith, nat_tests),
        λ e h. elim (cases_eq x e) [
          | inl q ↦ subst (λ (i : ℕ). rank x ≤ rank i) q (omega arith)
          | inr d ↦ let low = more.2 e (grind (arith, nat_tests)) in omega arith
        ],
      )
      | inr l ↦
          let there = more.1 in (
            more.0,
            grind (arith, nat_tests),
            λ e h. elim (cases_eq x e) [
              | inl q ↦ subst (λ (i : ℕ). rank more.0 ≤ rank i) q (omega arith)
              | inr d ↦ more.2 e (grind (arith, nat_tests))
            ],
          )
    ]
  where
    less_or : (a b : ℕ) → (a ≤ b) ⊎ (b < a)
    less_or a b = by_test (nat_le a b) refl
      where
        by_test : (t : Bool) → nat_le a b ≡ t → (a ≤ b) ⊎ (b < a)
        by_test true e = inl (grind (arith, nat_tests))
        by_test false e = inr (grind (arith, nat_tests))

no_any : (left ds : List ℕ) → ((j : ℕ) → has ds j ≡ true → has left j ≡ true → ⊥) → list_any (λ j. has left j) ds ≡ false
no_any left [] h = refl
no_any left (d ∷ ds) h =
    let more = no_any left ds (λ j a b. h j (grind (arith, nat_tests)) b) in
    let by_test : (t : Bool) → has left d ≡ t → list_any (λ j. has left j) (d ∷ ds) ≡ false =
    λ t. elim t as (λ t. has left d ≡ t → list_any (λ j. has left j) (d ∷ ds) ≡ false) [
      | true ↦ λ e. absurd (h d (grind (arith, nat_tests)) e)
      | false ↦ λ e. grind (arith)
    ] in
    by_test (has left d) refl

pub any_some : (left ds : List ℕ) (j : ℕ) → has ds j ≡ true → has left j ≡ true → list_any (λ i. has left i) ds ≡ true
any_some left [] j a b = absurd (cc)
any_some left (d ∷ ds) j a b =
    elim (cases_eq d j) [
      | inl e ↦ let own = subst (λ (i : ℕ). has left i ≡ true) (sym e) b in grind (arith)
      | inr n ↦ let more = any_some left ds j (grind (arith, nat_tests)) b in grind (arith)
    ]

-- one of these is free
pub some_free : (rank : ℕ → ℕ) (c : Core) (x : ℕ) (xs : List ℕ) → Ascending 0 c.nodes → Ranked rank c →
    (k : ℕ) × (greatest (those (is_free c (x ∷ xs)) (x ∷ xs)) ≡ Some k) × (has (x ∷ xs) k ≡ true) × (is_free c (x ∷ xs) k ≡ true)
some_free rank c x xs g ranked =
    let low = least rank x xs in
    let none = no_any (x ∷ xs) (dependents c low.0) (λ j a b. let under = dependents_rank rank c low.0 g ranked j a in let over = low.2 j b in omega arith) in
    let free : is_free c (x ∷ xs) low.0 ≡ true = ap not none in
    let k = picked (those (is_free c (x ∷ xs)) (x ∷ xs)) low.0 (those_keeps (is_free c (x ∷ xs)) (x ∷ xs) low.0 low.1 free) in
    let two = those_has (is_free c (x ∷ xs)) (x ∷ xs) k.0 k.2 in
    (k.0, k.1, two.0, two.1)

-- what is left without one

pub without_has : (k j : ℕ) (xs : List ℕ) → has (without_first (λ i. i == k) xs) j ≡ true → has xs j ≡ true
without_has k j [] h = h
without_has k j (x ∷ xs) h = grind (arith, nat_tests, without_has k j xs)

without_keeps : (k j : ℕ) (xs : List ℕ) → j ≢ k → has xs j ≡ true → has (without_first (λ i. i == k) xs) j ≡ true
without_keeps k j [] d h = h
without_keeps k j (x ∷ xs) d h = grind (arith, nat_tests, without_keeps k j xs)

without_not : (k : ℕ) (xs : List ℕ) → Distinct xs → has (without_first (λ i. i == k) xs) k ≡ false
without_not k [] d = refl
without_not k (x ∷ xs) d =
    elim (cases_eq x k) [
      | inl e ↦ let own : has xs k ≡ false = subst (λ (i : ℕ). has xs i ≡ false) e d.0 in grind (arith, nat_tests)
      | inr n ↦ let more = without_not k xs d.1 in grind (arith, nat_tests)
    ]

not_has : (k j : ℕ) (xs : List ℕ) → has xs j ≡ false → has (without_first (λ i. i == k) xs) j ≡ false
not_has k j [] h = h
not_has k j (x ∷ xs) h = grind (arith, nat_tests, not_has k j xs)

without_distinct : (k : ℕ) (xs : List ℕ) → Distinct xs → Distinct (without_first (λ i. i == k) xs)
without_distinct k [] d = tt
without_distinct k (x ∷ xs) d =
    let by_test : (b : Bool) → Distinct (cond b xs (x ∷ without_first (λ i. i == k) xs)) =
    λ b. elim b as (λ b. Distinct (cond b xs (x ∷ without_first (λ i. i == k) xs))) [ true ↦ d.1 | false ↦ (not_has k x xs d.0, without_distinct k xs d.1) ] in
    by_test (x == k)

pub without_length : (k : ℕ) (xs : List ℕ) (n : ℕ) → has xs k ≡ true → length xs ≤ suc n → length (without_first (λ i. i == k) xs) ≤ n
without_length k [] n h l = absurd (cc)
without_length k (x ∷ []) n h l = grind (arith, nat_tests)
without_length k (x ∷ y ∷ ys) zero h l = absurd (omega arith)
without_length k (x ∷ y ∷ ys) (suc n) h l =
    elim (cases_eq x k) [
      | inl e ↦ grind (arith, nat_tests)
      | inr d ↦ let more = without_length k (y ∷ ys) n (grind (arith, nat_tests)) (omega arith) in grind (arith, nat_tests)
    ]

-- The order -------------------------------------------------------------------------------

-- one selection
pub step_of : (rank : ℕ → ℕ) (n : ℕ) (c : Core) (x : ℕ) (xs : List ℕ) → Ascending 0 c.nodes → Ranked rank c →
    (k : ℕ) × (leaving_in (suc n) c (x ∷ xs) ≡ k ∷ leaving_in n c (without_first (λ j. j == k) (x ∷ xs))) × (has (x ∷ xs) k ≡ true) × (is_free c (x ∷ xs) k ≡ true)
step_of rank n c x xs g ranked =
    let f = some_free rank c x xs g ranked in (
      f.0,
      ap (λ (o : Option ℕ). elim o as (λ _. List ℕ) [ None ↦ [] | Some k ↦ k ∷ leaving_in n c (without_first (λ j. j == k) (x ∷ xs)) ]) f.1,
      f.2,
      f.3,
    )

-- the order has just what is left
pub order_has : (rank : ℕ → ℕ) (n : ℕ) (c : Core) (left : List ℕ) (j : ℕ) → Ascending 0 c.nodes → Ranked rank c → length left ≤ n → has (leaving_in n c left) j ≡ true → has left j ≡ true
order_has rank zero c left j g ranked l h = absurd (cc)
order_has rank (suc n) c [] j g ranked l h = h
order_has rank (suc n) c (x ∷ xs) j g ranked l h =
    let s = step_of rank n c x xs g ranked in
    let h2 = subst (λ (ks : List ℕ). has ks j ≡ true) s.1 h in
    elim (cases_eq s.0 j) [
      | inl e ↦ subst (λ (i : ℕ). has (x ∷ xs) i ≡ true) e s.2
      | inr d ↦
          without_has s.0 j (x ∷ xs)
          (order_has rank n c (without_first (λ i. i == s.0) (x ∷ xs)) j g ranked (without_length s.0 (x ∷ xs) n s.2 l) (grind (arith, nat_tests)))
    ]

pub order_all : (rank : ℕ → ℕ) (n : ℕ) (c : Core) (left : List ℕ) (j : ℕ) → Ascending 0 c.nodes → Ranked rank c → length left ≤ n → has left j ≡ true → has (leaving_in n c left) j ≡ true
order_all rank zero c [] j g ranked l h = h
order_all rank zero c (x ∷ xs) j g ranked l h = absurd (omega arith)
order_all rank (suc n) c [] j g ranked l h = h
order_all rank (suc n) c (x ∷ xs) j g ranked l h =
    let s = step_of rank n c x xs g ranked in
    subst (λ (ks : List ℕ). has ks j ≡ true) (sym s.1)
    (elim (cases_eq s.0 j) [
      | inl e ↦ grind (arith, nat_tests)
      | inr d ↦
          let d2 : j ≢ s.0 = λ z. d (sym z) in
          let more = order_all rank n c (without_first (λ i. i == s.0) (x ∷ xs)) j g ranked (without_length s.0 (x ∷ xs) n s.2 l) (without_keeps s.0 j (x ∷ xs) d2 h) in
          grind (arith, nat_tests)
    ])

pub order_distinct : (rank : ℕ → ℕ) (n : ℕ) (c : Core) (left : List ℕ) → Ascending 0 c.nodes → Ranked rank c → length left ≤ n → Distinct left → Distinct (leaving_in n c left)
order_distinct rank zero c left g ranked l d = tt
order_distinct rank (suc n) c [] g ranked l d = tt
order_distinct rank (suc n) c (x ∷ xs) g ranked l d =
    let s = step_of rank n c x xs g ranked in
    let more = without_first (λ i. i == s.0) (x ∷ xs) in
    let len = without_length s.0 (x ∷ xs) n s.2 l in
    let gone = without_not s.0 (x ∷ xs) d in
    let by_test : (b : Bool) → has (leaving_in n c more) s.0 ≡ b → b ≡ false =
    λ b. elim b as (λ b. has (leaving_in n c more) s.0 ≡ b → b ≡ false) [
      | true ↦ λ h. absurd (let there = order_has rank n c more s.0 g ranked len h in cc)
      | false ↦ λ h. refl
    ] in
    subst (λ (ks : List ℕ). Distinct ks) (sym s.1)
    (let no : has (leaving_in n c more) s.0 ≡ false = (let q = by_test (has (leaving_in n c more) s.0) refl in q) in no, order_distinct rank n c more g ranked len (without_distinct s.0 (x ∷ xs) d))

-- the device on which all others hang comes last
pub order_last : (rank : ℕ → ℕ) (n : ℕ) (c : Core) (k : ℕ) (left : List ℕ) → Ascending 0 c.nodes → Ranked rank c → length left ≤ n → Distinct left → has left k ≡ true →
    ((j : ℕ) → has left j ≡ true → j ≢ k → has (dependents c k) j ≡ true) → IsLast k (leaving_in n c left)
order_last rank zero c k left g ranked l d own all = tt
order_last rank (suc n) c k [] g ranked l d own all = absurd (cc)
order_last rank (suc n) c k (x ∷ xs) g ranked l d own all =
    let s = step_of rank n c x xs g ranked in
    let more = without_first (λ i. i == s.0) (x ∷ xs) in
    let len = without_length s.0 (x ∷ xs) n s.2 l in
    subst (λ (ks : List ℕ). IsLast k ks) (sym s.1)
    (elim (cases_eq s.0 k) [
      | inl e ↦ alone s.0 k (leaving_in n c more) e (λ j h.
          let there = order_has rank n c more j g ranked len h in
          let left = without_has s.0 j (x ∷ xs) there in
          let gone = without_not s.0 (x ∷ xs) d in
          let other : j ≢ k = λ z. let own2 = subst (λ (i : ℕ). has more i ≡ true) (z ∙ sym e) there in cc in
          let dep = all j left other in
          let free_k = subst (λ (i : ℕ). is_free c (x ∷ xs) i ≡ true) e s.3 in
          let any = any_some (x ∷ xs) (dependents c k) j dep left in
          let not_free : is_free c (x ∷ xs) k ≡ false = ap not any in
          cc)
      | inr ne ↦
          let ne2 : k ≢ s.0 = λ z. ne (sym z) in
          let in_more = without_keeps s.0 k (x ∷ xs) ne2 own in
          let last = order_last rank n c k more g ranked len (without_distinct s.0 (x ∷ xs) d) in_more (λ j h q. all j (without_has s.0 j (x ∷ xs) h) q) in
          later s.0 k (leaving_in n c more) ne (order_all rank n c more k g ranked len in_more) last
    ])
  where
    -- nothing follows the target
    alone : (i k : ℕ) (ks : List ℕ) → i ≡ k → ((j : ℕ) → has ks j ≡ true → ⊥) → IsLast k (i ∷ ks)
    alone i k [] e none = e
    alone i k (j ∷ js) e none = absurd (none j (grind (arith, nat_tests)))

    -- the target is among those that follow
    later : (i k : ℕ) (ks : List ℕ) → i ≢ k → has ks k ≡ true → IsLast k ks → IsLast k (i ∷ ks)
    later i k [] d h last = absurd (cc)
    later i k (j ∷ js) d h last = (d, last)

-- the leaving order of a device fits
pub leaving_fits : (rank : ℕ → ℕ) (c : Core) (k : ℕ) (m : Node) → Ascending 0 c.nodes → Ranked rank c → RootFree c → node_at k c.nodes ≡ Some m → k ≢ 0 → OrderFits k (leaving c k)
leaving_fits rank c k m g ranked free at up =
    let set = set_of c k in
    let one : has (k ∷ []) k ≡ true = grind (arith, nat_tests) in
    let distinct : Distinct set = closed_distinct c (k ∷ []) g (refl, tt) in
    record {
      distinct = order_distinct rank (length set) c set g ranked (omega arith) distinct;
      rootless =
          (let by_test : (b : Bool) → has (leaving_in (length set) c set) 0 ≡ b → b ≡ false =
          λ b. elim b as (λ b. has (leaving_in (length set) c set) 0 ≡ b → b ≡ false) [
            | true ↦ λ h. absurd (closed_rootless c (k ∷ []) g free (λ z. up (grind (arith, nat_tests))) (order_has rank (length set) c set 0 g ranked (omega arith) h))
            | false ↦ λ h. refl
          ] in by_test (has (leaving_in (length set) c set) 0) refl);
      last =
          order_last rank (length set) c k set g ranked (omega arith) distinct (closed_keeps c (k ∷ []) k m g at one)
          (λ j h d. let w = set_within c k g j h in let d2 : k ≢ j = λ z. d (sym z) in grind (arith, nat_tests));
    }
