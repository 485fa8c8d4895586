-- How often serials stand in lists.
use Rattle.std.proofs.Common.{◌≡◌, ℕ, suc, ◌+◌, ◌<◌, ◌==◌, inl, inr, Bool, true, false, not, ◌&&◌, cond, nat_lt, List, [], ◌∷◌, ◌++◌, length, map, is_some, Option, Some, refl, sym, ap, ◌∙◌, subst, arith}
use Rattle.std.specs.List.{count_by}
use Rattle.std.proofs.lemmas.Bool.{cases_eq}
use Rattle.std.proofs.lemmas.Bool.Decides.{nat_tests}
use Rattle.std.proofs.lemmas.List.Sums.{sum_by-cons, sum_by-append}
use Rattle.pnp_model.specs.Keyed.{without_first, those}
use Rattle.pnp_model.specs.Tests.{has}
use Rattle.pnp_model.specs.Cores.{node_at, serials_of}
use Rattle.pnp_model.specs.Records.{Node, Relation}
use Rattle.pnp_model.specs.Trees.{is_child}
use Rattle.pnp_laws.specs.Kept.{Ascending, Distinct}
use Rattle.devnode_tree.specs.Entries.{child_serials}
use Rattle.relations.specs.Leaving.{members_of, owners_of, is_there, parents_of, below, over}
use Rattle.relations.specs.Queues.{number}
use Rattle.relations.proofs.Sums.{any_count}

abbrev pub one_if : Bool → ℕ
one_if b = cond b 1 0

pub count-cons : (p : ℕ → Bool) (x : ℕ) (xs : List ℕ) → count_by p (x ∷ xs) ≡ one_if (p x) + count_by p xs
count-cons p x xs = sum_by-cons (λ x. cond (p x) 1 0) x xs

pub number_has : (xs : List ℕ) (k : ℕ) → has xs k ≡ nat_lt 0 (number k xs)
number_has xs k = any_count (λ j. j == k) xs

pub number_none : (xs : List ℕ) (k : ℕ) → has xs k ≡ false → number k xs ≡ 0
number_none xs k h = let e = number_has xs k in grind (arith, nat_tests)

pub number_some : (xs : List ℕ) (k : ℕ) → has xs k ≡ true → 0 < number k xs
number_some xs k h = let e = number_has xs k in grind (arith, nat_tests)

pub has_some : (xs : List ℕ) (k : ℕ) → 0 < number k xs → has xs k ≡ true
has_some xs k h = let e = number_has xs k in grind (arith, nat_tests)

pub number_one : (xs : List ℕ) (k : ℕ) → Distinct xs → number k xs ≡ one_if (has xs k)
number_one [] k d = refl
number_one (x ∷ xs) k d =
    let all = count-cons (λ j. j == k) x xs in
    let more = number_one xs k d.1 in
    elim (cases_eq x k) [
      | inl e ↦ let none = subst (λ (i : ℕ). has xs i ≡ false) e d.0 in rw all (grind (arith, nat_tests))
      | inr n ↦ rw all (grind (arith, nat_tests))
    ]

-- where all pass, their number is the length; where none passes it is 0
pub count_all : (p : ℕ → Bool) (xs : List ℕ) → ((k : ℕ) → has xs k ≡ true → p k ≡ true) → count_by p xs ≡ length xs
count_all p [] h = refl
count_all p (x ∷ xs) h =
    let here : p x ≡ true = h x (grind (arith, nat_tests)) in
    let more = count_all p xs (λ k q. h k (grind (arith, nat_tests))) in
    let one : one_if (p x) ≡ 1 = ap one_if here in
    count-cons p x xs ∙ (omega arith)

pub count_none : (p : ℕ → Bool) (xs : List ℕ) → ((k : ℕ) → has xs k ≡ true → p k ≡ false) → count_by p xs ≡ 0
count_none p [] h = refl
count_none p (x ∷ xs) h =
    let here : p x ≡ false = h x (grind (arith, nat_tests)) in
    let more = count_none p xs (λ k q. h k (grind (arith, nat_tests))) in
    let one : one_if (p x) ≡ 0 = ap one_if here in
    count-cons p x xs ∙ (omega arith)

pub none_counted : (p : ℕ → Bool) (xs : List ℕ) (k : ℕ) → count_by p xs ≡ 0 → has xs k ≡ true → p k ≡ false
none_counted p [] k e h = absurd (cc)
none_counted p (x ∷ xs) k e h =
    let all = count-cons p x xs in
    elim (cases_eq x k) [
      | inl q ↦ subst (λ (i : ℕ). p i ≡ false) q (none (p x) (omega arith))
      | inr d ↦ none_counted p xs k (omega arith) (grind (arith, nat_tests))
    ]
  where
    none : (b : Bool) → one_if b ≡ 0 → b ≡ false
    none true z = absurd (omega arith)
    none false z = refl

-- One leaves -----------------------------------------------------------------------------

pub has_without : (xs : List ℕ) (k j : ℕ) → Distinct xs → has (without_first (λ i. i == k) xs) j ≡ (has xs j && not (k == j))
has_without [] k j d = refl
has_without (x ∷ xs) k j d =
    let more = has_without xs k j d.1 in
    elim (cases_eq x k) [
      | inl e ↦
          elim (cases_eq x j) [
            | inl f ↦ let none = subst (λ (i : ℕ). has xs i ≡ false) f d.0 in grind (arith, nat_tests)
            | inr n ↦ grind (arith, nat_tests)
          ]
      | inr n ↦ elim (cases_eq x j) [ inl f ↦ grind (arith, nat_tests) | inr m ↦ grind (arith, nat_tests) ]
    ]

pub distinct_without : (xs : List ℕ) (k : ℕ) → Distinct xs → Distinct (without_first (λ i. i == k) xs)
distinct_without [] k d = tt
distinct_without (x ∷ xs) k d =
    let by_test : (b : Bool) → Distinct (cond b xs (x ∷ without_first (λ i. i == k) xs)) =
    λ b. elim b as (λ b. Distinct (cond b xs (x ∷ without_first (λ i. i == k) xs))) [
      | true ↦ d.1
      | false ↦ (let e = has_without xs k x d.1 in let f = d.0 in grind (arith), distinct_without xs k d.1)
    ] in
    by_test (x == k)

pub count_without : (left xs : List ℕ) (k : ℕ) → Distinct left → has left k ≡ true → count_by (λ j. has (without_first (λ i. i == k) left) j) xs + number k xs ≡ count_by (λ j. has left j) xs
count_without left [] k d h = refl
count_without left (x ∷ xs) k d h =
    let a = count-cons (λ j. has (without_first (λ i. i == k) left) j) x xs in
    let b = count-cons (λ j. j == k) x xs in
    let c = count-cons (λ j. has left j) x xs in
    let more = count_without left xs k d h in
    let one : one_if (has (without_first (λ i. i == k) left) x) + one_if (x == k) ≡ one_if (has left x) = point in
    omega arith
  where
    point : one_if (has (without_first (λ i. i == k) left) x) + one_if (x == k) ≡ one_if (has left x)
    point =
        let e = has_without left k x d in
        elim (cases_eq x k) [
          | inl f ↦ let own = subst (λ (i : ℕ). has left i ≡ true) (sym f) h in grind (arith, nat_tests)
          | inr n ↦ grind (arith, nat_tests)
        ]

-- Edges, from below and from above -----------------------------------------------------------

number_append : (xs ys : List ℕ) (k : ℕ) → number k (xs ++ ys) ≡ number k xs + number k ys
number_append xs ys k = sum_by-append (λ j. cond (j == k) 1 0) xs ys

number_those : (p : ℕ → Bool) (xs : List ℕ) (k : ℕ) → p k ≡ true → number k (those p xs) ≡ number k xs
number_those p [] k h = refl
number_those p (x ∷ xs) k h =
    let more = number_those p xs k h in
    let all = count-cons (λ j. j == k) x xs in
    let by_test : (b : Bool) → p x ≡ b → number k (cond b (x ∷ those p xs) (those p xs)) ≡ number k (x ∷ xs) =
    λ b. elim b as (λ b. p x ≡ b → number k (cond b (x ∷ those p xs) (those p xs)) ≡ number k (x ∷ xs)) [
      | true ↦ λ e. let kept = count-cons (λ j. j == k) x (those p xs) in omega arith
      | false ↦ λ e.
          elim (cases_eq x k) [
            | inl q ↦ absurd (let t = subst (λ (i : ℕ). p i ≡ true) (sym q) h in cc)
            | inr d ↦ let out : one_if (x == k) ≡ 0 = grind (arith, nat_tests) in omega arith
          ]
    ] in
    by_test (p x) refl

number_related : (rs : List Relation) (k j : ℕ) → number k (owners_of rs j) ≡ number j (members_of rs k)
number_related [] k j = refl
number_related (r ∷ rs) k j =
    let more = number_related rs k j in
    let a = count-cons (λ i. i == k) r.owner (owners_of rs j) in
    let b = count-cons (λ i. i == j) r.member (members_of rs k) in
    let by_two : (u v : Bool) → (r.member == j) ≡ u → (r.owner == k) ≡ v
    → number k (map (λ (r : Relation). r.owner) (cond u (r ∷ those (λ r. r.member == j) rs) (those (λ r. r.member == j) rs)))
    ≡ number j (map (λ (r : Relation). r.member) (cond v (r ∷ those (λ r. r.owner == k) rs) (those (λ r. r.owner == k) rs))) =
    λ u v. elim u as (λ u. (r.member == j) ≡ u → (r.owner == k) ≡ v
    → number k (map (λ (r : Relation). r.owner) (cond u (r ∷ those (λ r. r.member == j) rs) (those (λ r. r.member == j) rs)))
    ≡ number j (map (λ (r : Relation). r.member) (cond v (r ∷ those (λ r. r.owner == k) rs) (those (λ r. r.owner == k) rs)))) [
      | true ↦ elim v as (λ v. (r.member == j) ≡ true → (r.owner == k) ≡ v
          → number k (r.owner ∷ owners_of rs j) ≡ number j (map (λ (r : Relation). r.member) (cond v (r ∷ those (λ r. r.owner == k) rs) (those (λ r. r.owner == k) rs)))) [
            | true ↦ λ e f. let x : one_if (r.owner == k) ≡ 1 = ap one_if f in let y : one_if (r.member == j) ≡ 1 = ap one_if e in omega arith
            | false ↦ λ e f. let x : one_if (r.owner == k) ≡ 0 = ap one_if f in omega arith
          ]
      | false ↦ elim v as (λ v. (r.member == j) ≡ false → (r.owner == k) ≡ v
          → number k (owners_of rs j) ≡ number j (map (λ (r : Relation). r.member) (cond v (r ∷ those (λ r. r.owner == k) rs) (those (λ r. r.owner == k) rs)))) [
            | true ↦ λ e f. let y : one_if (r.member == j) ≡ 0 = ap one_if e in omega arith
            | false ↦ λ e f. more
          ]
    ] in
    by_two (r.member == j) (r.owner == k) refl refl

none_later : (low k : ℕ) (p : Node → Bool) (ns : List Node) → k < low → Ascending low ns → number k (serials_of (those p ns)) ≡ 0
none_later low k p [] lt g = refl
none_later low k p (n ∷ ns) lt g =
    let more = none_later (suc n.serial) k p ns (omega arith) g.1 in
    let first = g.0 in
    let out : one_if (n.serial == k) ≡ 0 = grind (arith, nat_tests) in
    let all = count-cons (λ i. i == k) n.serial (serials_of (those p ns)) in
    let by_test : (b : Bool) → number k (serials_of (cond b (n ∷ those p ns) (those p ns))) ≡ 0 =
    λ b. elim b as (λ b. number k (serials_of (cond b (n ∷ those p ns) (those p ns))) ≡ 0) [ true ↦ omega arith | false ↦ more ] in
    by_test (p n)

number_serials : (low j : ℕ) (p : Node → Bool) (ns : List Node) (m : Node) → Ascending low ns → node_at j ns ≡ Some m → number j (serials_of (those p ns)) ≡ one_if (p m)
number_serials low j p [] m g at = absurd (cc)
number_serials low j p (n ∷ ns) m g at =
    let all = count-cons (λ i. i == j) n.serial (serials_of (those p ns)) in
    elim (cases_eq n.serial j) [
      | inl e ↦
          let same : n ≡ m = grind (arith, nat_tests) in
          let none = none_later (suc n.serial) j p ns (omega arith) g.1 in
          let here : one_if (n.serial == j) ≡ 1 = grind (arith, nat_tests) in
          let by_test : (b : Bool) → number j (serials_of (cond b (n ∷ those p ns) (those p ns))) ≡ one_if b =
          λ b. elim b as (λ b. number j (serials_of (cond b (n ∷ those p ns) (those p ns))) ≡ one_if b) [ true ↦ omega arith | false ↦ none ] in
          by_test (p n) ∙ ap (λ (x : Node). one_if (p x)) same
      | inr d ↦
          let more = number_serials (suc n.serial) j p ns m g.1 (grind (arith, nat_tests)) in
          let out : one_if (n.serial == j) ≡ 0 = grind (arith, nat_tests) in
          let by_test : (b : Bool) → number j (serials_of (cond b (n ∷ those p ns) (those p ns))) ≡ one_if (p m) =
          λ b. elim b as (λ b. number j (serials_of (cond b (n ∷ those p ns) (those p ns))) ≡ one_if (p m)) [ true ↦ omega arith | false ↦ more ] in
          by_test (p n)
    ]

number_parents : (m : Node) (k : ℕ) → number k (parents_of (Some m)) ≡ one_if (is_child k m)
number_parents m k = grind (arith, nat_tests)

-- an edge between two devices is seen from both
pub number_edges : (nodes : List Node) (rs : List Relation) (g : Ascending 0 nodes) (k j : ℕ) (m : Node) → node_at j nodes ≡ Some m → number k (over nodes rs j) ≡ number j (below nodes rs k)
number_edges nodes rs g k j m at =
    let up = number_append (parents_of (node_at j nodes)) (owners_of rs j) k in
    let down = number_append (child_serials nodes k) (those (is_there nodes) (members_of rs k)) j in
    let parent : number k (parents_of (node_at j nodes)) ≡ one_if (is_child k m) = ap (λ (o : Option Node). number k (parents_of o)) at ∙ number_parents m k in
    let child = number_serials 0 j (is_child k) nodes m g at in
    let there = number_those (is_there nodes) (members_of rs k) j (ap is_some at) in
    let related = number_related rs k j in
    omega arith
