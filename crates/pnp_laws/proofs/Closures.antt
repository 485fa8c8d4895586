-- Dependents: a closed set holds all that hangs on it.
use Rattle.std.proofs.Common.{ℕ, zero, suc, ◌+◌, ◌<◌, ◌≤◌, ◌≡◌, ◌==◌, ◌⊎◌, inl, inr, Bool, true, false, not, ◌&&◌, cond, List, [], ◌∷◌, length, Some, refl, sym, ap, subst, arith, nat_le}
use Rattle.std.specs.List.{list_any}
use Rattle.std.proofs.lemmas.Bool.{cases_eq}
use Rattle.std.proofs.lemmas.Bool.Decides.{nat_tests}
use Rattle.pnp_model.specs.Keyed.{those}
use Rattle.pnp_model.specs.Tests.{has}
use Rattle.pnp_model.specs.Records.{Node, Core, Relation}
use Rattle.pnp_model.specs.Cores.{node_at, serials_of}
use Rattle.pnp_model.specs.Trees.{hangs_on, is_in_or_on, grown, closed_in, closed, direct, dependents, set_of}
use Rattle.pnp_laws.specs.Kept.{Ascending, Within, Distinct}
use Rattle.pnp_laws.proofs.Lookups.{own_serial, none_below}
use Rattle.pnp_laws.proofs.Lists.{has_cases, those_found, serials_distinct}
use Rattle.pnp_laws.proofs.Truths.{or_cases, and_both, or_right, or_left}

-- a node of the tail is found in the whole
pub tail_at : (lo : ℕ) (x : Node) (xs : List Node) (j : ℕ) (m : Node) → Ascending lo (x ∷ xs) → node_at j xs ≡ Some m → node_at j (x ∷ xs) ≡ Some m
tail_at lo x xs j m g at =
    elim (cases_eq x.serial j) [
      | inl e ↦ absurd (let none = none_below (suc x.serial) j xs (omega arith) g.1 in cc)
      | inr d ↦ grind (arith, nat_tests)
    ]

pub head_at : (x : Node) (xs : List Node) → node_at x.serial (x ∷ xs) ≡ Some x
head_at x xs = grind (arith, nat_tests)

-- of the nodes, as many pass the one test as pass the other
fewer : (lo : ℕ) (p q : Node → Bool) (nodes : List Node) → Ascending lo nodes → ((j : ℕ) (m : Node) → node_at j nodes ≡ Some m → p m ≡ true → q m ≡ true) → length (those p nodes) ≤ length (those q nodes)
fewer lo p q [] g h = omega arith
fewer lo p q (x ∷ xs) g h =
    let here = h x.serial x (head_at x xs) in
    let more = fewer (suc x.serial) p q xs g.1 (λ j m at. h j m (tail_at lo x xs j m g at)) in
    let by_two : (a b : Bool) → (a ≡ true → b ≡ true) → length (cond a (x ∷ those p xs) (those p xs)) ≤ length (cond b (x ∷ those q xs) (those q xs)) =
    λ a b. elim a as (λ a. (a ≡ true → b ≡ true) → length (cond a (x ∷ those p xs) (those p xs)) ≤ length (cond b (x ∷ those q xs) (those q xs))) [
      | true ↦ λ w. subst (λ (b : Bool). length (x ∷ those p xs) ≤ length (cond b (x ∷ those q xs) (those q xs))) (sym (w refl)) (omega arith)
      | false ↦ λ w. elim b as (λ b. length (those p xs) ≤ length (cond b (x ∷ those q xs) (those q xs))) [ true ↦ omega arith | false ↦ omega arith ]
    ] in
    by_two (p x) (q x) here

-- where no more pass, the same pass
same_pass : (lo : ℕ) (p q : Node → Bool) (nodes : List Node) → Ascending lo nodes → ((j : ℕ) (m : Node) → node_at j nodes ≡ Some m → p m ≡ true → q m ≡ true) → length (those q nodes) ≤ length (those p nodes) →
    (j : ℕ) (m : Node) → node_at j nodes ≡ Some m → q m ≡ true → p m ≡ true
same_pass lo p q [] g h le j m at e = absurd (cc)
same_pass lo p q (x ∷ xs) g h le j m at e =
    let rest : (i : ℕ) (n : Node) → node_at i xs ≡ Some n → p n ≡ true → q n ≡ true = λ i n a. h i n (tail_at lo x xs i n g a) in
    let count = fewer (suc x.serial) p q xs g.1 rest in
    let here = h x.serial x (head_at x xs) in
    let by_two : (a b : Bool) → p x ≡ a → q x ≡ b → (a ≡ true → b ≡ true) → length (cond b (x ∷ those q xs) (those q xs)) ≤ length (cond a (x ∷ those p xs) (those p xs)) → p m ≡ true =
    λ a b. elim a as (λ a. p x ≡ a → q x ≡ b → (a ≡ true → b ≡ true) → length (cond b (x ∷ those q xs) (those q xs)) ≤ length (cond a (x ∷ those p xs) (those p xs)) → p m ≡ true) [
      | true ↦ λ pa qb w l.
          elim (cases_eq x.serial j) [
            | inl z ↦ let same : x ≡ m = grind (arith, nat_tests) in subst (λ (n : Node). p n ≡ true) same pa
            | inr d ↦
                let l2 = subst (λ (b : Bool). length (cond b (x ∷ those q xs) (those q xs)) ≤ length (x ∷ those p xs)) (w refl) l in
                same_pass (suc x.serial) p q xs g.1 rest (omega arith) j m (grind (arith, nat_tests)) e
          ]
      | false ↦ elim b as (λ b. p x ≡ false → q x ≡ b → (false ≡ true → b ≡ true) → length (cond b (x ∷ those q xs) (those q xs)) ≤ length (those p xs) → p m ≡ true) [
        | true ↦ λ pa qb w l. absurd (let c = count in let k : suc (length (those q xs)) ≤ length (those p xs) = omega arith in omega arith)
        | false ↦ λ pa qb w l.
            elim (cases_eq x.serial j) [
              | inl z ↦ absurd (let same : x ≡ m = grind (arith, nat_tests) in let qm = subst (λ (n : Node). q n ≡ false) same qb in cc)
              | inr d ↦ same_pass (suc x.serial) p q xs g.1 rest l j m (grind (arith, nat_tests)) e
            ]
      ]
    ] in
    by_two (p x) (q x) refl refl here le

-- a set of serials, as a test of nodes
abbrev pub is_in : List ℕ → Node → Bool
is_in set n = has set n.serial

-- each of the set is the serial of a node, and nobody stands twice: told by the count
abbrev pub OfNodes : List Node → List ℕ → Type 0
OfNodes nodes set = length set ≡ length (those (is_in set) nodes)

pub those_serial : (lo : ℕ) (q : Node → Bool) (nodes : List Node) (j : ℕ) (m : Node) → Ascending lo nodes → node_at j nodes ≡ Some m → q m ≡ true → has (serials_of (those q nodes)) j ≡ true
those_serial lo q [] j m g at e = absurd (cc)
those_serial lo q (x ∷ xs) j m g at e =
    elim (cases_eq x.serial j) [
      | inl z ↦ let same : x ≡ m = grind (arith, nat_tests) in let qx = subst (λ (n : Node). q n ≡ true) (sym same) e in grind (arith, nat_tests)
      | inr d ↦ let more = those_serial (suc x.serial) q xs j m g.1 (grind (arith, nat_tests)) e in grind (arith, nat_tests)
    ]

pub grown_has : (c : Core) (set : List ℕ) (j : ℕ) (m : Node) → Ascending 0 c.nodes → node_at j c.nodes ≡ Some m → is_in_or_on c set m ≡ true → has (grown c set) j ≡ true
grown_has c set j m g at e = those_serial 0 (is_in_or_on c set) c.nodes j m g at e

pub length_serials : (ns : List Node) → length (serials_of ns) ≡ length ns
length_serials [] = refl
length_serials (n ∷ ns) = ap suc (length_serials ns)

pub of_nodes : (q : Node → Bool) (nodes : List Node) → Ascending 0 nodes → OfNodes nodes (serials_of (those q nodes))
of_nodes q nodes g =
    let set = serials_of (those q nodes) in
    let to : (j : ℕ) (m : Node) → node_at j nodes ≡ Some m → q m ≡ true → is_in set m ≡ true =
    λ j m at e. subst (λ (i : ℕ). has set i ≡ true) (sym (own_serial j m nodes at)) (those_serial 0 q nodes j m g at e) in
    let from : (j : ℕ) (m : Node) → node_at j nodes ≡ Some m → is_in set m ≡ true → q m ≡ true =
    λ j m at e.
    let f = those_found 0 q nodes m.serial g e in
    let at2 = subst (λ (i : ℕ). node_at i nodes ≡ Some m) (sym (own_serial j m nodes at)) at in
    let same : f.0 ≡ m = let a = f.1 in cc in
    subst (λ (n : Node). q n ≡ true) same f.2 in
    let a = fewer 0 q (is_in set) nodes g to in
    let b = fewer 0 (is_in set) q nodes g from in
    let l = length_serials (those q nodes) in
    omega arith

-- closed: what hangs on the set is in the set
abbrev pub Closed : Core → List ℕ → Type 0
Closed c set = (j : ℕ) (m : Node) → node_at j c.nodes ≡ Some m → hangs_on c set m ≡ true → has set j ≡ true

all_pass : (nodes : List Node) → length (those (λ n. true) nodes) ≡ length nodes
all_pass [] = refl
all_pass (n ∷ ns) = ap suc (all_pass ns)

le_cases : (a b : ℕ) (x : Bool) → nat_le a b ≡ x → ((x ≡ true) × (a ≤ b)) ⊎ ((x ≡ false) × (b < a))
le_cases a b true h = inl (refl, grind (arith, nat_tests))
le_cases a b false h = inr (refl, grind (arith, nat_tests))

pub closed_in_closed : (n : ℕ) (c : Core) (set : List ℕ) → Ascending 0 c.nodes → OfNodes c.nodes set → length c.nodes ≤ n + length set → Closed c (closed_in n c set)
closed_in_closed zero c set g own le =
    λ j m at h.
    let all = all_pass c.nodes in
    let in_it = same_pass 0 (is_in set) (λ x. true) c.nodes g (λ i x a e. refl) (omega arith) j m at refl in
    subst (λ (i : ℕ). has set i ≡ true) (own_serial j m c.nodes at) in_it
closed_in_closed (suc n) c set g own le =
    elim (le_cases (length (grown c set)) (length set) (nat_le (length (grown c set)) (length set)) refl) [
      | inl (e, l) ↦
          let here : Closed c set =
          λ j m at h.
          let count = length_serials (those (is_in_or_on c set) c.nodes) in
          let in_it = same_pass 0 (is_in set) (is_in_or_on c set) c.nodes g (λ i x a q. or_left (has set x.serial) (hangs_on c set x) q) (omega arith) j m at (or_right (has set m.serial) (hangs_on c set m) h) in
          subst (λ (i : ℕ). has set i ≡ true) (own_serial j m c.nodes at) in_it in
          subst (λ (b : Bool). Closed c (cond b set (closed_in n c (grown c set)))) (sym e) here
      | inr (e, l) ↦
          subst (λ (b : Bool). Closed c (cond b set (closed_in n c (grown c set)))) (sym e)
          (closed_in_closed n c (grown c set) g (of_nodes (is_in_or_on c set) c.nodes g) (omega arith))
    ]

-- what a test has of a set, it has of all that the closing adds
pub closed_in_all : (P : List ℕ → Type 0) (n : ℕ) (c : Core) (set : List ℕ) → ((s : List ℕ) → P s → P (grown c s)) → P set → P (closed_in n c set)
closed_in_all P zero c set step h = h
closed_in_all P (suc n) c set step h =
    let by_test : (b : Bool) → P (cond b set (closed_in n c (grown c set))) =
    λ b. elim b as (λ b. P (cond b set (closed_in n c (grown c set)))) [ true ↦ h | false ↦ closed_in_all P n c (grown c set) step (step set h) ] in
    by_test (nat_le (length (grown c set)) (length set))

pub closed_distinct : (c : Core) (set : List ℕ) → Ascending 0 c.nodes → Distinct set → Distinct (closed c set)
closed_distinct c set g d = closed_in_all (λ s. Distinct s) (length c.nodes) c set (λ s h. serials_distinct 0 (is_in_or_on c s) c.nodes g) d

-- what is grown is a node, in the set or on it
pub grown_from : (c : Core) (set : List ℕ) (j : ℕ) → Ascending 0 c.nodes → has (grown c set) j ≡ true → (m : Node) × (node_at j c.nodes ≡ Some m) × ((has set j ≡ true) ⊎ (hangs_on c set m ≡ true))
grown_from c set j g h =
    let f = those_found 0 (is_in_or_on c set) c.nodes j g h in (
      f.0,
      f.1,
      elim (or_cases (has set f.0.serial) (hangs_on c set f.0) f.2) [
        | inl a ↦ inl (subst (λ (i : ℕ). has set i ≡ true) (own_serial j f.0 c.nodes f.1) a)
        | inr b ↦ inr b
      ],
    )

-- it keeps what it had, of nodes
pub closed_keeps : (c : Core) (set : List ℕ) (j : ℕ) (m : Node) → Ascending 0 c.nodes → node_at j c.nodes ≡ Some m → has set j ≡ true → has (closed c set) j ≡ true
closed_keeps c set j m g at h =
    closed_in_all (λ s. has s j ≡ true) (length c.nodes) c set
    (λ s q. grown_has c s j m g at (or_left (has s m.serial) (hangs_on c s m) (subst (λ (i : ℕ). has s i ≡ true) (sym (own_serial j m c.nodes at)) q))) h

-- what hangs on a set hangs on one of it

abbrev on_relation : ℕ → List ℕ → Relation → Bool
on_relation k set r = r.member == k && has set r.owner

related_some : (rs : List Relation) (k : ℕ) (set : List ℕ) → list_any (on_relation k set) rs ≡ true → (s : ℕ) × (has set s ≡ true) × (list_any (on_relation k (s ∷ [])) rs ≡ true)
related_some [] k set h = absurd (cc)
related_some (r ∷ rs) k set h =
    elim (or_cases (on_relation k set r) (list_any (on_relation k set) rs) h) [
      | inl a ↦ let two = and_both (r.member == k) (has set r.owner) a in let t0 = two.0 in (r.owner, two.1, grind (arith, nat_tests))
      | inr b ↦ let more = related_some rs k set b in let m2 = more.2 in (more.0, more.1, or_right (on_relation k (more.0 ∷ []) r) (list_any (on_relation k (more.0 ∷ [])) rs) m2)
    ]

pub hangs_some : (c : Core) (set : List ℕ) (m : Node) → hangs_on c set m ≡ true → (s : ℕ) × (has set s ≡ true) × (hangs_on c (s ∷ []) m ≡ true)
hangs_some c set m h =
    elim (or_cases (has set m.parent && not (m.serial == 0)) (list_any (on_relation m.serial set) c.relations) h) [
      | inl a ↦
          let two = and_both (has set m.parent) (not (m.serial == 0)) a in
          let t1 = two.1 in
          (m.parent, two.0, or_left (has (m.parent ∷ []) m.parent && not (m.serial == 0)) (list_any (on_relation m.serial (m.parent ∷ [])) c.relations) (grind (arith, nat_tests)))
      | inr b ↦
          let some = related_some c.relations m.serial set b in
          (some.0, some.1, or_right (has (some.0 ∷ []) m.parent && not (m.serial == 0)) (list_any (on_relation m.serial (some.0 ∷ [])) c.relations) some.2)
    ]

-- and the other way round
related_more : (rs : List Relation) (k s : ℕ) (set : List ℕ) → has set s ≡ true → list_any (on_relation k (s ∷ [])) rs ≡ true → list_any (on_relation k set) rs ≡ true
related_more [] k s set e h = absurd (cc)
related_more (r ∷ rs) k s set e h =
    elim (or_cases (on_relation k (s ∷ []) r) (list_any (on_relation k (s ∷ [])) rs) h) [
      | inl a ↦
          let two = and_both (r.member == k) (has (s ∷ []) r.owner) a in
          let t0 = two.0 in
          let t1 = two.1 in
          let same : s ≡ r.owner = grind (arith, nat_tests) in
          let own : has set r.owner ≡ true = subst (λ (i : ℕ). has set i ≡ true) same e in
          or_left (on_relation k set r) (list_any (on_relation k set) rs) (grind (arith, nat_tests))
      | inr b ↦ or_right (on_relation k set r) (list_any (on_relation k set) rs) (related_more rs k s set e b)
    ]

pub hangs_more : (c : Core) (s : ℕ) (set : List ℕ) (m : Node) → has set s ≡ true → hangs_on c (s ∷ []) m ≡ true → hangs_on c set m ≡ true
hangs_more c s set m e h =
    elim (or_cases (has (s ∷ []) m.parent && not (m.serial == 0)) (list_any (on_relation m.serial (s ∷ [])) c.relations) h) [
      | inl a ↦
          let two = and_both (has (s ∷ []) m.parent) (not (m.serial == 0)) a in
          let t0 = two.0 in
          let t1 = two.1 in
          let same : s ≡ m.parent = grind (arith, nat_tests) in
          let own : has set m.parent ≡ true = subst (λ (i : ℕ). has set i ≡ true) same e in
          or_left (has set m.parent && not (m.serial == 0)) (list_any (on_relation m.serial set) c.relations) (grind (arith, nat_tests))
      | inr b ↦ or_right (has set m.parent && not (m.serial == 0)) (list_any (on_relation m.serial set) c.relations) (related_more c.relations m.serial s set e b)
    ]

-- the closing stays inside each closed set that has the set
pub closed_within : (c : Core) (set all : List ℕ) → Ascending 0 c.nodes → Closed c all → Within set all → Within (closed c set) all
closed_within c set all g done within =
    closed_in_all (λ s. Within s all) (length c.nodes) c set
    (λ s w j h.
    let from = grown_from c s j g h in
    elim from.2 [
      | inl a ↦ w j a
      | inr b ↦ let some = hangs_some c s from.0 b in done j from.0 from.1 (hangs_more c some.0 all from.0 (w some.0 some.1) some.2)
    ])
    within

-- the dependents of a device are closed
pub dependents_closed : (c : Core) (k : ℕ) → Ascending 0 c.nodes → Closed c (dependents c k)
dependents_closed c k g = closed_in_closed (length c.nodes) c (direct c k) g (of_nodes (hangs_on c (k ∷ [])) c.nodes g) (omega arith)

-- all of the set but the device itself are dependents of it
pub set_within : (c : Core) (k : ℕ) → Ascending 0 c.nodes → Within (set_of c k) (k ∷ dependents c k)
set_within c k g =
    closed_within c (k ∷ []) (k ∷ dependents c k) g
    (λ j m at h.
    let some = hangs_some c (k ∷ dependents c k) m h in
    elim (has_cases k some.0 (dependents c k) some.1) [
      | inl e ↦
          let on_k = subst (λ (i : ℕ). hangs_on c (i ∷ []) m ≡ true) (sym e) some.2 in
          let near = those_serial 0 (hangs_on c (k ∷ [])) c.nodes j m g at on_k in
          let there = closed_keeps c (direct c k) j m g at near in
          grind (arith, nat_tests)
      | inr q ↦
          let there = dependents_closed c k g j m at (hangs_more c some.0 (dependents c k) m q some.2) in
          grind (arith, nat_tests)
    ])
    (λ j h. grind (arith, nat_tests))
