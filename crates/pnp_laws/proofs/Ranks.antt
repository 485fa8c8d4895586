-- No cycle: children and related members have lower ranks, whatever joins, leaves or is related.
use Rattle.std.proofs.Common.{ℕ, zero, suc, ◌+◌, ◌<◌, ◌≤◌, ◌≡◌, ◌≢◌, ◌==◌, ◌⊎◌, inl, inr, Bool, true, false, not, ◌&&◌, ◌||◌, cond, List, [], ◌∷◌, ◌++◌, Some, refl, sym, ap, ◌∙◌, subst, arith}
use Rattle.std.specs.List.{list_any}
use Rattle.std.proofs.lemmas.Bool.{cases_eq}
use Rattle.std.proofs.lemmas.Bool.Decides.{nat_tests}
use Rattle.pnp_model.specs.Keyed.{those}
use Rattle.pnp_model.specs.Tests.{has}
use Rattle.pnp_model.specs.Records.{Node, Core, Relation}
use Rattle.pnp_model.specs.Cores.{node_at, add_node, change_node, drop_node, strip, bare, forget, is_apart_from}
use Rattle.pnp_model.specs.Trees.{hangs_on, dependents, direct}
use Rattle.pnp_model.specs.Events.{add_relation}
use Rattle.pnp_laws.specs.Kept.{Ascending}
use Rattle.pnp_laws.proofs.Lookups.{own_serial, node_from, joined_from, left_from}
use Rattle.pnp_laws.proofs.Closures.{dependents_closed, closed_keeps, hangs_more, those_serial}
use Rattle.pnp_laws.proofs.Orders.{Ranked, RootFree}
use Rattle.pnp_laws.proofs.Truths.{or_cases, and_both, or_left, or_right}

-- what hangs in d hung in c
abbrev pub NoNewEdge : Core → Core → Type 0
NoNewEdge c d = (k j : ℕ) (m : Node) → node_at j d.nodes ≡ Some m → hangs_on d (k ∷ []) m ≡ true → (n : Node) × (node_at j c.nodes ≡ Some n) × (hangs_on c (k ∷ []) n ≡ true)

pub Ranked_less : (rank : ℕ → ℕ) (c d : Core) → NoNewEdge c d → Ranked rank c → Ranked rank d
Ranked_less rank c d less ranked k j m at h = let old = less k j m at h in ranked k j old.0 old.1 old.2

pub RootFree_less : (c d : Core) → NoNewEdge c d → RootFree c → RootFree d
RootFree_less c d less free k m at h = let old = less k 0 m at h in free k old.0 old.1 old.2

-- an edge is seen by serial and parent alone
pub same_edge : (c : Core) (k : ℕ) (m n : Node) → m.serial ≡ n.serial → m.parent ≡ n.parent → hangs_on c (k ∷ []) m ≡ hangs_on c (k ∷ []) n
same_edge c k m n e f =
    ap (λ (i : ℕ). (has (k ∷ []) m.parent && not (i == 0)) || list_any (λ r. r.member == i && has (k ∷ []) r.owner) c.relations) e
    ∙ ap (λ (p : ℕ). (has (k ∷ []) p && not (n.serial == 0)) || list_any (λ r. r.member == n.serial && has (k ∷ []) r.owner) c.relations) f

pub edges_changed : (j : ℕ) (f : Node → Node) (c : Core) → ((x : Node) → (f x).serial ≡ x.serial) → ((x : Node) → (f x).parent ≡ x.parent) → NoNewEdge c (change_node j f c)
edges_changed j f c keeps parent k i m at h =
    elim (node_from j i f c.nodes m keeps at) [
      | inl (e, (n, q, r)) ↦ (n, q, sym (same_edge c k m n (ap (λ (z : Node). z.serial) r ∙ keeps n) (ap (λ (z : Node). z.parent) r ∙ parent n)) ∙ h)
      | inr (d, q) ↦ (m, q, h)
    ]

pub edges_left : (j : ℕ) (c : Core) → Ascending 0 c.nodes → NoNewEdge c (drop_node j c)
edges_left j c order k i m at h = (m, (left_from j i c.nodes m order at).1, h)

fewer_related : (test keep : Relation → Bool) (rs : List Relation) → list_any test (those keep rs) ≡ true → list_any test rs ≡ true
fewer_related test keep [] h = h
fewer_related test keep (r ∷ rs) h =
    let by_test : (b : Bool) → list_any test (cond b (r ∷ those keep rs) (those keep rs)) ≡ true → list_any test (r ∷ rs) ≡ true =
    λ b. elim b as (λ b. list_any test (cond b (r ∷ those keep rs) (those keep rs)) ≡ true → list_any test (r ∷ rs) ≡ true) [
      | true ↦ λ g. elim (or_cases (test r) (list_any test (those keep rs)) g) [
        | inl a ↦ or_left (test r) (list_any test rs) a
        | inr q ↦ or_right (test r) (list_any test rs) (fewer_related test keep rs q)
      ]
      | false ↦ λ g. or_right (test r) (list_any test rs) (fewer_related test keep rs g)
    ] in
    by_test (keep r) h

pub edges_stripped : (j : ℕ) (c : Core) → NoNewEdge c (strip j c)
edges_stripped j c k i m at h =
    let less : hangs_on c (k ∷ []) m ≡ true =
    elim (or_cases (has (k ∷ []) m.parent && not (m.serial == 0)) (list_any (λ r. r.member == m.serial && has (k ∷ []) r.owner) (forget j c.relations)) h) [
      | inl a ↦ or_left (has (k ∷ []) m.parent && not (m.serial == 0)) (list_any (λ r. r.member == m.serial && has (k ∷ []) r.owner) c.relations) a
      | inr q ↦
          or_right (has (k ∷ []) m.parent && not (m.serial == 0)) (list_any (λ r. r.member == m.serial && has (k ∷ []) r.owner) c.relations)
          (fewer_related (λ r. r.member == m.serial && has (k ∷ []) r.owner) (is_apart_from j) c.relations q)
    ] in
    edges_changed j bare c (λ x. refl) (λ x. refl) k i m at less

-- A device joins ---------------------------------------------------------------------------

pub one_has : (k i : ℕ) → has (k ∷ []) i ≡ true → k ≡ i
one_has k i h = grind (arith, nat_tests)

-- relations are of devices with lower serials
abbrev pub RelationsBelow : ℕ → List Relation → Type 0
RelationsBelow hi [] = Unit {0}
RelationsBelow hi (r ∷ rs) = (r.owner < hi) × (r.member < hi) × RelationsBelow hi rs

pub related_below : (hi k i : ℕ) (rs : List Relation) → RelationsBelow hi rs → list_any (λ r. r.member == i && has (k ∷ []) r.owner) rs ≡ true → (k < hi) × (i < hi)
related_below hi k i [] g h = absurd (cc)
related_below hi k i (r ∷ rs) g h =
    elim (or_cases (r.member == i && has (k ∷ []) r.owner) (list_any (λ r. r.member == i && has (k ∷ []) r.owner) rs) h) [
      | inl a ↦
          let two = and_both (r.member == i) (has (k ∷ []) r.owner) a in
          let t0 = two.0 in
          let e : r.member ≡ i = grind (arith, nat_tests) in
          let f = one_has k r.owner two.1 in
          let g0 = g.0 in
          let g1 = g.1 in
          (omega arith, omega arith)
      | inr q ↦ related_below hi k i rs g.2 q
    ]

-- an edge goes from a lower number to a lower number
pub edge_below : (hi : ℕ) (c : Core) (k j : ℕ) (m : Node) → RelationsBelow hi c.relations → j < hi → m.parent < hi → m.serial ≡ j → hangs_on c (k ∷ []) m ≡ true → k < hi
edge_below hi c k j m rs low parent own h =
    elim (or_cases (has (k ∷ []) m.parent && not (m.serial == 0)) (list_any (λ r. r.member == m.serial && has (k ∷ []) r.owner) c.relations) h) [
      | inl a ↦ let e = one_has k m.parent (and_both (has (k ∷ []) m.parent) (not (m.serial == 0)) a).0 in omega arith
      | inr q ↦ (related_below hi k m.serial c.relations rs q).0
    ]

abbrev pub raised : ℕ → (ℕ → ℕ) → ℕ → ℕ
raised hi rank j = cond (j == hi) 0 (suc (rank j))

raised_new : (hi : ℕ) (rank : ℕ → ℕ) → raised hi rank hi ≡ 0
raised_new hi rank = grind (arith, nat_tests)

raised_old : (hi j : ℕ) (rank : ℕ → ℕ) → j ≢ hi → raised hi rank j ≡ suc (rank j)
raised_old hi j rank d = grind (arith, nat_tests)

pub Ranked_joined : (rank : ℕ → ℕ) (hi : ℕ) (c : Core) (new : Node) → new.serial ≡ hi → new.parent < hi → RelationsBelow hi c.relations → ((j : ℕ) (n : Node) → node_at j c.nodes ≡ Some n → (j < hi) × (n.parent < hi)) → Ranked rank c →
    Ranked (raised hi rank) (add_node new c)
Ranked_joined rank hi c new e parent rs low ranked k j m at h =
    elim (joined_from j c.nodes new m at) [
      | inl q ↦
          let b = low j m q in
          let own = own_serial j m c.nodes q in
          let k_low = edge_below hi c k j m rs b.0 b.1 own h in
          let old = ranked k j m q h in
          let j0 = b.0 in
          let rj = raised_old hi j rank (λ z. absurd (omega arith)) in
          let rk = raised_old hi k rank (λ z. absurd (omega arith)) in
          omega arith
      | inr (q, r, u) ↦
          let ser : m.serial ≡ hi = ap (λ (z : Node). z.serial) r ∙ e in
          let par : m.parent < hi = subst (λ (z : Node). z.parent < hi) (sym r) parent in
          let j_is : j ≡ hi = sym u ∙ e in
          let k_low : k < hi = elim (or_cases (has (k ∷ []) m.parent && not (m.serial == 0)) (list_any (λ r. r.member == m.serial && has (k ∷ []) r.owner) c.relations) h) [
            | inl a ↦ let f = one_has k m.parent (and_both (has (k ∷ []) m.parent) (not (m.serial == 0)) a).0 in omega arith
            | inr q2 ↦ (related_below hi k m.serial c.relations rs q2).0
          ] in
          let rj : raised hi rank j ≡ 0 = subst (λ (i : ℕ). raised hi rank i ≡ 0) (sym j_is) (raised_new hi rank) in
          let rk = raised_old hi k rank (λ z. absurd (omega arith)) in
          omega arith
    ]

-- Two devices are related ------------------------------------------------------------------------

-- the member and its dependents keep their ranks, all others rise above the member
abbrev pub lifted : Core → ℕ → (ℕ → ℕ) → ℕ → ℕ
lifted c member rank j = cond (has (member ∷ dependents c member) j) (rank j) (rank j + suc (rank member))

lifted_in : (c : Core) (member j : ℕ) (rank : ℕ → ℕ) → has (member ∷ dependents c member) j ≡ true → lifted c member rank j ≡ rank j
lifted_in c member j rank h = ap (λ (b : Bool). cond b (rank j) (rank j + suc (rank member))) h

lifted_out : (c : Core) (member j : ℕ) (rank : ℕ → ℕ) → has (member ∷ dependents c member) j ≡ false → lifted c member rank j ≡ rank j + suc (rank member)
lifted_out c member j rank h = ap (λ (b : Bool). cond b (rank j) (rank j + suc (rank member))) h

lifted_most : (c : Core) (member j : ℕ) (rank : ℕ → ℕ) (b : Bool) → has (member ∷ dependents c member) j ≡ b → lifted c member rank j ≤ rank j + suc (rank member)
lifted_most c member j rank true h = let e = lifted_in c member j rank h in omega arith
lifted_most c member j rank false h = let e = lifted_out c member j rank h in omega arith

-- what hangs on a device is among its direct dependents
grown_direct : (c : Core) (k j : ℕ) (m : Node) → Ascending 0 c.nodes → node_at j c.nodes ≡ Some m → hangs_on c (k ∷ []) m ≡ true → has (direct c k) j ≡ true
grown_direct c k j m g at h = those_serial 0 (hangs_on c (k ∷ [])) c.nodes j m g at h

-- an edge of the new relations is old, or the new one
pub new_edge : (c : Core) (r : Relation) (k : ℕ) (m : Node) → hangs_on (add_relation r c) (k ∷ []) m ≡ true → (hangs_on c (k ∷ []) m ≡ true) ⊎ ((m.serial ≡ r.member) × (k ≡ r.owner))
new_edge c r k m h =
    elim (or_cases (has (k ∷ []) m.parent && not (m.serial == 0)) (list_any (λ r. r.member == m.serial && has (k ∷ []) r.owner) (c.relations ++ r ∷ [])) h) [
      | inl a ↦ inl (or_left (has (k ∷ []) m.parent && not (m.serial == 0)) (list_any (λ r. r.member == m.serial && has (k ∷ []) r.owner) c.relations) a)
      | inr q ↦ elim (pushed_any c.relations q) [
        | inl b ↦ inl (or_right (has (k ∷ []) m.parent && not (m.serial == 0)) (list_any (λ r. r.member == m.serial && has (k ∷ []) r.owner) c.relations) b)
        | inr b ↦
            let two = and_both (r.member == m.serial) (has (k ∷ []) r.owner) b in
            let t0 = two.0 in
            let e : r.member ≡ m.serial = grind (arith, nat_tests) in
            inr (sym e, one_has k r.owner two.1)
      ]
    ]
  where
    pushed_any : (rs : List Relation) → list_any (λ r. r.member == m.serial && has (k ∷ []) r.owner) (rs ++ r ∷ []) ≡ true → (list_any (λ r. r.member == m.serial && has (k ∷ []) r.owner) rs ≡ true) ⊎ ((r.member == m.serial && has (k ∷ []) r.owner) ≡ true)
    pushed_any [] h = elim (or_cases (r.member == m.serial && has (k ∷ []) r.owner) false h) [ inl a ↦ inr a | inr b ↦ absurd (cc) ]
    pushed_any (x ∷ xs) h = elim (or_cases (x.member == m.serial && has (k ∷ []) x.owner) (list_any (λ r. r.member == m.serial && has (k ∷ []) r.owner) (xs ++ r ∷ [])) h) [
      | inl a ↦ inl (or_left (x.member == m.serial && has (k ∷ []) x.owner) (list_any (λ r. r.member == m.serial && has (k ∷ []) r.owner) xs) a)
      | inr q ↦ elim (pushed_any xs q) [
        | inl b ↦ inl (or_right (x.member == m.serial && has (k ∷ []) x.owner) (list_any (λ r. r.member == m.serial && has (k ∷ []) r.owner) xs) b)
        | inr b ↦ inr b
      ]
    ]

-- what hangs on the member or on a dependent of it is a dependent of it
under_member : (c : Core) (member k j : ℕ) (m : Node) → Ascending 0 c.nodes → node_at j c.nodes ≡ Some m → hangs_on c (k ∷ []) m ≡ true → has (member ∷ dependents c member) k ≡ true → has (member ∷ dependents c member) j ≡ true
under_member c member k j m g at h in_it =
    let add : has (dependents c member) j ≡ true → has (member ∷ dependents c member) j ≡ true = λ z. grind (arith, nat_tests) in
    elim (cases_eq member k) [
      | inl e ↦
          let on = subst (λ (i : ℕ). hangs_on c (i ∷ []) m ≡ true) (sym e) h in
          let near = grown_direct c member j m g at on in
          add (closed_keeps c (direct c member) j m g at near)
      | inr d ↦
          let dep : has (dependents c member) k ≡ true = grind (arith, nat_tests) in
          add (dependents_closed c member g j m at (hangs_more c k (dependents c member) m dep h))
    ]

pub Ranked_related : (rank : ℕ → ℕ) (c : Core) (r : Relation) → Ascending 0 c.nodes → r.owner ≢ r.member → has (dependents c r.member) r.owner ≡ false → Ranked rank c → Ranked (lifted c r.member rank) (add_relation r c)
Ranked_related rank c r g apart free ranked k j m at h =
    let by_edge : (hangs_on c (k ∷ []) m ≡ true) ⊎ ((m.serial ≡ r.member) × (k ≡ r.owner)) = new_edge c r k m h in
    elim by_edge [
      | inl old ↦
          let under = ranked k j m at old in
          let most = lifted_most c r.member j rank (has (r.member ∷ dependents c r.member) j) refl in
          let by_test : (b : Bool) → has (r.member ∷ dependents c r.member) k ≡ b → lifted c r.member rank j < lifted c r.member rank k =
          λ b. elim b as (λ b. has (r.member ∷ dependents c r.member) k ≡ b → lifted c r.member rank j < lifted c r.member rank k) [
            | true ↦ λ q.
                let rj = lifted_in c r.member j rank (under_member c r.member k j m g at old q) in
                let rk = lifted_in c r.member k rank q in
                omega arith
            | false ↦ λ q. let rk = lifted_out c r.member k rank q in omega arith
          ] in
          by_test (has (r.member ∷ dependents c r.member) k) refl
      | inr (e, f) ↦
          let own = own_serial j m c.nodes at in
          let j_is : r.member ≡ j = sym e ∙ own in
          let in_it : has (r.member ∷ dependents c r.member) j ≡ true = grind (arith, nat_tests) in
          let out0 : has (r.member ∷ dependents c r.member) r.owner ≡ false = grind (arith, nat_tests) in
          let out = subst (λ (i : ℕ). has (r.member ∷ dependents c r.member) i ≡ false) (sym f) out0 in
          let rj = lifted_in c r.member j rank in_it in
          let rk = lifted_out c r.member k rank out in
          let same : rank j ≡ rank r.member = ap rank (sym j_is) in
          omega arith
    ]

-- The root hangs on nothing: all others are its dependents ----------------------------------------

-- each device but the root has its parent, with a lower serial
abbrev pub Rooted : Core → Type 0
Rooted c = (j : ℕ) (m : Node) → node_at j c.nodes ≡ Some m → j ≢ 0 → (m.parent < j) × ((p : Node) × (node_at m.parent c.nodes ≡ Some p))

pub under_root : (n : ℕ) (c : Core) (j : ℕ) (m : Node) → Ascending 0 c.nodes → Rooted c → j ≤ n → j ≢ 0 → node_at j c.nodes ≡ Some m → has (dependents c 0) j ≡ true
under_root zero c j m g rooted l up at = absurd (omega arith)
under_root (suc n) c j m g rooted l up at =
    let parent = rooted j m at up in
    let own = own_serial j m c.nodes at in
    let low = parent.0 in
    let not_root : (m.serial == 0) ≡ false = grind (arith, nat_tests) in
    let edge : hangs_on c (m.parent ∷ []) m ≡ true =
    or_left (has (m.parent ∷ []) m.parent && not (m.serial == 0)) (list_any (λ r. r.member == m.serial && has (m.parent ∷ []) r.owner) c.relations) (grind (arith, nat_tests)) in
    elim (cases_eq m.parent 0) [
      | inl z ↦
          let on = subst (λ (i : ℕ). hangs_on c (i ∷ []) m ≡ true) z edge in
          closed_keeps c (direct c 0) j m g at (grown_direct c 0 j m g at on)
      | inr d ↦
          let above = under_root n c m.parent parent.1.0 g rooted (omega arith) d parent.1.1 in
          dependents_closed c 0 g j m at (hangs_more c m.parent (dependents c 0) m above edge)
    ]

-- so the root is related as a member to none
pub member_not_root : (c : Core) (owner member : ℕ) (o : Node) → Ascending 0 c.nodes → Rooted c → node_at owner c.nodes ≡ Some o → owner ≢ member → has (dependents c member) owner ≡ false → member ≢ 0
member_not_root c owner member o g rooted at apart free =
    λ z.
    let all = under_root owner c owner o g rooted (omega arith) (λ w. apart (w ∙ sym z)) at in
    let there = subst (λ (i : ℕ). has (dependents c i) owner ≡ true) (sym z) all in
    cc
