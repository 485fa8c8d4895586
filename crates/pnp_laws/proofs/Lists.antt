-- Lists of serials: what stands first, what follows.
use Rattle.std.proofs.Common.{ℕ, suc, ◌<◌, ◌≤◌, ◌≡◌, ◌≢◌, ◌==◌, ◌⊎◌, inl, inr, Bool, true, false, cond, List, [], ◌∷◌, ◌++◌, Some, refl, sym, ap, ◌∙◌, subst, arith}
use Rattle.std.proofs.lemmas.Bool.{cases_eq}
use Rattle.std.proofs.lemmas.Bool.Decides.{nat_tests}
use Rattle.pnp_model.specs.Keyed.{those, without_first}
use Rattle.pnp_model.specs.Tests.{has}
use Rattle.pnp_model.specs.Frames.{first_node, rest}
use Rattle.pnp_model.specs.Records.{Node}
use Rattle.pnp_model.specs.Cores.{node_at, serials_of}
use Rattle.pnp_laws.specs.Kept.{Distinct, Ascending}
use Rattle.pnp_laws.proofs.Lookups.{own_serial}

abbrev pub HeadIs : ℕ → List ℕ → Type 0
HeadIs j [] = ⊥
HeadIs j (i ∷ is) = i ≡ j

pub head_found : (nodes : List Node) (todo : List ℕ) (node : Node) → first_node nodes todo ≡ Some node → HeadIs node.serial todo × (node_at node.serial nodes ≡ Some node)
head_found nodes [] node h = absurd (cc)
head_found nodes (k ∷ ks) node h =
    let e = own_serial k node nodes h in (sym e, subst (λ (i : ℕ). node_at i nodes ≡ Some node) (sym e) h)

pub head_has : (j : ℕ) (todo : List ℕ) → HeadIs j todo → has todo j ≡ true
head_has j [] h = absurd h
head_has j (i ∷ is) h = grind (arith, nat_tests)

pub rest_has : (j k : ℕ) (todo : List ℕ) → HeadIs j todo → j ≢ k → has (rest todo) k ≡ has todo k
rest_has j k [] h d = absurd h
rest_has j k (i ∷ is) h d = grind (arith, nat_tests)

pub rest_not : (j : ℕ) (todo : List ℕ) → HeadIs j todo → Distinct todo → has (rest todo) j ≡ false
rest_not j [] h d = absurd h
rest_not j (i ∷ is) h d = subst (λ (x : ℕ). has is x ≡ false) h d.0

pub rest_distinct : (todo : List ℕ) → Distinct todo → Distinct (rest todo)
rest_distinct [] d = tt
rest_distinct (i ∷ is) d = d.1

pub rest_within : (k : ℕ) (todo : List ℕ) → has (rest todo) k ≡ true → has todo k ≡ true
rest_within k [] h = h
rest_within k (i ∷ is) h = grind (arith, nat_tests)

pub has-append : (xs ys : List ℕ) (k : ℕ) → has (xs ++ ys) k ≡ cond (has xs k) true (has ys k)
has-append [] ys k = refl
has-append (x ∷ xs) ys k = grind (arith, nat_tests, has-append xs ys k)

pub has_cases : (j k : ℕ) (ks : List ℕ) → has (j ∷ ks) k ≡ true → (j ≡ k) ⊎ (has ks k ≡ true)
has_cases j k ks h = elim (cases_eq j k) [ inl e ↦ inl e | inr d ↦ inr (grind (arith, nat_tests)) ]

pub cons_here : (j : ℕ) (ks : List ℕ) → has (j ∷ ks) j ≡ true
cons_here j ks = grind (arith, nat_tests)

pub cons_there : (j : ℕ) (ks : List ℕ) (k : ℕ) → has ks k ≡ true → has (j ∷ ks) k ≡ true
cons_there j ks k h = elim (cases_eq j k) [ inl e ↦ grind (arith, nat_tests) | inr d ↦ grind (arith, nat_tests) ]

-- the members that pass a test

pub those_has : (test : ℕ → Bool) (xs : List ℕ) (k : ℕ) → has (those test xs) k ≡ true → (has xs k ≡ true) × (test k ≡ true)
those_has test [] k h = absurd (cc)
those_has test (x ∷ xs) k h =
    let by_test : (b : Bool) → test x ≡ b → has (cond b (x ∷ those test xs) (those test xs)) k ≡ true → (has (x ∷ xs) k ≡ true) × (test k ≡ true) =
    λ b. elim b as (λ b. test x ≡ b → has (cond b (x ∷ those test xs) (those test xs)) k ≡ true → (has (x ∷ xs) k ≡ true) × (test k ≡ true)) [
      | true ↦ λ e g. elim (cases_eq x k) [
        | inl q ↦ (grind (arith, nat_tests), subst (λ (i : ℕ). test i ≡ true) q e)
        | inr d ↦ let more = those_has test xs k (grind (arith, nat_tests)) in let m0 = more.0 in (grind (arith, nat_tests), more.1)
      ]
      | false ↦ λ e g. let more = those_has test xs k g in let m0 = more.0 in (grind (arith, nat_tests), more.1)
    ] in
    by_test (test x) refl h

pub those_not : (test : ℕ → Bool) (xs : List ℕ) (k : ℕ) → has xs k ≡ false → has (those test xs) k ≡ false
those_not test [] k h = refl
those_not test (x ∷ xs) k h = grind (arith, nat_tests, those_not test xs k)

pub those_keeps : (test : ℕ → Bool) (xs : List ℕ) (k : ℕ) → has xs k ≡ true → test k ≡ true → has (those test xs) k ≡ true
those_keeps test [] k h e = absurd (cc)
those_keeps test (x ∷ xs) k h e =
    elim (cases_eq x k) [
      | inl q ↦ let ex : test x ≡ true = subst (λ (i : ℕ). test i ≡ true) (sym q) e in grind (arith, nat_tests)
      | inr d ↦ grind (arith, nat_tests, those_keeps test xs k)
    ]

pub those_distinct : (test : ℕ → Bool) (xs : List ℕ) → Distinct xs → Distinct (those test xs)
those_distinct test [] d = tt
those_distinct test (x ∷ xs) d =
    let by_test : (b : Bool) → Distinct (cond b (x ∷ those test xs) (those test xs)) =
    λ b. elim b as (λ b. Distinct (cond b (x ∷ those test xs) (those test xs))) [
      | true ↦ (those_not test xs x d.0, those_distinct test xs d.1)
      | false ↦ those_distinct test xs d.1
    ] in
    by_test (test x)

-- nodes in order

pub below_serial : (lo : ℕ) (test : Node → Bool) (ns : List Node) (k : ℕ) → Ascending lo ns → has (serials_of (those test ns)) k ≡ true → lo ≤ k
below_serial lo test [] k g h = absurd (cc)
below_serial lo test (n ∷ ns) k g h = grind (arith, nat_tests, below_serial (suc n.serial) test ns k)

-- a serial of those that pass is that of a node that passes
pub those_found : (lo : ℕ) (test : Node → Bool) (ns : List Node) (k : ℕ) → Ascending lo ns → has (serials_of (those test ns)) k ≡ true → (n : Node) × (node_at k ns ≡ Some n) × (test n ≡ true)
those_found lo test [] k g h = absurd (cc)
those_found lo test (n ∷ ns) k g h =
    let by_test : (b : Bool) → test n ≡ b → has (serials_of (cond b (n ∷ those test ns) (those test ns))) k ≡ true → (m : Node) × (node_at k (n ∷ ns) ≡ Some m) × (test m ≡ true) =
    λ b. elim b as (λ b. test n ≡ b → has (serials_of (cond b (n ∷ those test ns) (those test ns))) k ≡ true → (m : Node) × (node_at k (n ∷ ns) ≡ Some m) × (test m ≡ true)) [
      | true ↦ λ e q. elim (cases_eq n.serial k) [
        | inl z ↦ (n, grind (arith, nat_tests), e)
        | inr d ↦ let more = those_found (suc n.serial) test ns k g.1 (grind (arith, nat_tests)) in let m1 = more.1 in (more.0, grind (arith, nat_tests), more.2)
      ]
      | false ↦ λ e q.
          let more = those_found (suc n.serial) test ns k g.1 q in
          let lo2 = below_serial (suc n.serial) test ns k g.1 q in
          let m1 = more.1 in
          (more.0, grind (arith, nat_tests), more.2)
    ] in
    by_test (test n) refl h

not_below : (lo : ℕ) (test : Node → Bool) (ns : List Node) (k : ℕ) → k < lo → Ascending lo ns → has (serials_of (those test ns)) k ≡ false
not_below lo test [] k h g = refl
not_below lo test (n ∷ ns) k h g = grind (arith, nat_tests, not_below (suc n.serial) test ns k)

pub serials_distinct : (lo : ℕ) (test : Node → Bool) (ns : List Node) → Ascending lo ns → Distinct (serials_of (those test ns))
serials_distinct lo test [] g = tt
serials_distinct lo test (n ∷ ns) g =
    let by_test : (b : Bool) → Distinct (serials_of (cond b (n ∷ those test ns) (those test ns))) =
    λ b. elim b as (λ b. Distinct (serials_of (cond b (n ∷ those test ns) (those test ns)))) [
      | true ↦ (not_below (suc n.serial) test ns n.serial (omega arith) g.1, serials_distinct (suc n.serial) test ns g.1)
      | false ↦ serials_distinct (suc n.serial) test ns g.1
    ] in
    by_test (test n)

-- a number is in a list or not
pub member : (ks : List ℕ) (k : ℕ) → (has ks k ≡ true) ⊎ (has ks k ≡ false)
member ks k = by_test (has ks k) refl
  where
    by_test : (b : Bool) → has ks k ≡ b → (has ks k ≡ true) ⊎ (has ks k ≡ false)
    by_test true h = inl h
    by_test false h = inr h

-- the head is not outside
pub not_head : (j k : ℕ) (ks : List ℕ) → has (j ∷ ks) k ≡ false → j ≢ k
not_head j k ks h e = let here = subst (λ (i : ℕ). has (j ∷ ks) i ≡ true) e (cons_here j ks) in cc

-- where one is left out, the others stay
pub without_has : (j k : ℕ) (ks : List ℕ) → j ≢ k → has (without_first (λ i. i == j) ks) k ≡ has ks k
without_has j k [] d = refl
without_has j k (i ∷ is) d = grind (arith, nat_tests, without_has j k is d)

-- one that is not there is not left out
pub without_none : (j : ℕ) (ks : List ℕ) → has ks j ≡ false → without_first (λ i. i == j) ks ≡ ks
without_none j [] h = refl
without_none j (i ∷ is) h =
    let other : (i == j) ≡ false = grind (arith, nat_tests) in
    let more : has is j ≡ false = grind (arith, nat_tests) in
    ap (λ (b : Bool). cond b is (i ∷ without_first (λ k. k == j) is)) other ∙ ap (λ (xs : List ℕ). i ∷ xs) (without_none j is more)
