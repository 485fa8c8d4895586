-- What changes of a core leave clear.
use Rattle.std.proofs.Common.{ℕ, ◌≤◌, ◌≡◌, ◌≢◌, ◌⊎◌, inl, inr, Bool, true, false, not, ◌&&◌, List, [], ◌∷◌, ◌++◌, map, length, Option, Some, refl, sym, ap, ◌∙◌, subst, arith, nat_le}
use Rattle.std.specs.Prelude.{Contains}
use Rattle.std.specs.List.{list_any, AllByRecursion}
use Rattle.std.proofs.lemmas.Bool.{cases_eq}
use Rattle.std.proofs.lemmas.Bool.Decides.{nat_tests}
use Rattle.std.proofs.lemmas.List.Elements.{All-contains, All-from_recursion, Contains-append_left, Contains-append_right, Contains-append_cases}
use Rattle.std.proofs.lemmas.Slice.Zip.{AllZip-long}
use Rattle.resource_reqs.proofs.Counts.{all_at, contains_cons}
use Rattle.resource_reqs.specs.Resources.{Res, Reqs, Clash, Free, NoClash, flat, Whole, IsAssignment}
use Rattle.resource_reqs.specs.declared.kind.Kind.{Kind}
use Rattle.pnp_model.specs.Keyed.{changed_first, those}
use Rattle.pnp_model.specs.Tests.{has}
use Rattle.pnp_model.specs.Records.{Node, Core}
use Rattle.pnp_model.specs.Cores.{is_node, node_at, with_holds}
use Rattle.pnp_model.specs.Frames.{held_by, is_beside, fixed_beside}
use Rattle.pnp_model.specs.Rebalances.{part_for, committed}
use Rattle.resource_reqs.specs.Resources.{clashes, same_kind}
use Rattle.pnp_model.specs.Sharing.{Foreign, Clear}
use Rattle.pnp_laws.proofs.Lists.{member}
use Rattle.pnp_laws.proofs.Lookups.{own_serial, node_from, map_from}
use Rattle.resource_reqs.specs.declared.kind.Kind.TheVariants as kinds

pub clash_sym : (a b : Res) → Clash a b → Clash b a
clash_sym a b (kind, number, both) =
    let n = number.0 in
    (sym kind, (n, number.3, number.4, number.1, number.2), λ h. both (h.1, h.0))

foreign_sym : (xs ys : List Res) → Foreign xs ys → Foreign ys xs
foreign_sym xs ys h a b ca cb clash = h b a cb ca (clash_sym a b clash)

-- lists without a clash

pub here : (x : Res) (xs : List Res) → Contains (x ∷ xs) x
here x xs = (0, omega arith, refl)

pub there : (x : Res) (xs : List Res) (a : Res) → Contains xs a → Contains (x ∷ xs) a
there x xs a c = Contains-append_right (x ∷ []) xs a c

by_recursion : (r : Res) (xs : List Res) → ((a : Res) → Contains xs a → Clash a r → ⊥) → AllByRecursion (λ other. Clash other r → ⊥) xs
by_recursion r [] h = tt
by_recursion r (x ∷ xs) h = (h x (here x xs), by_recursion r xs (λ a c. h a (there x xs a c)))

-- free of a list, by its members
pub free_from : (xs : List Res) (r : Res) → ((a : Res) → Contains xs a → Clash a r → ⊥) → Free xs r
free_from xs r h = All-from_recursion (λ other. Clash other r → ⊥) xs (by_recursion r xs h)

pub free_at : (xs : List Res) (r a : Res) → Free xs r → Contains xs a → Clash a r → ⊥
free_at xs r a h c = All-contains (λ other. Clash other r → ⊥) xs a h c

no_clash_front : (xs ys : List Res) → NoClash (xs ++ ys) → NoClash xs
no_clash_front [] ys h = tt
no_clash_front (x ∷ xs) ys h =
    (free_from xs x (λ a c. free_at (xs ++ ys) x a h.0 (Contains-append_left xs ys a c)), no_clash_front xs ys h.1)

no_clash_back : (xs ys : List Res) → NoClash (xs ++ ys) → NoClash ys
no_clash_back [] ys h = h
no_clash_back (x ∷ xs) ys h = no_clash_back xs ys h.1

-- what stands before does not clash with what stands behind
no_clash_across : (xs ys : List Res) → NoClash (xs ++ ys) → Foreign ys xs
no_clash_across [] ys h a b ca cb clash = absurd (let k = cb.1 in omega arith)
no_clash_across (x ∷ xs) ys h a b ca cb clash =
    elim (contains_cons x xs b cb) [
      | inl e ↦ free_at (xs ++ ys) x a h.0 (Contains-append_right xs ys a ca) (subst (λ (r : Res). Clash a r) e clash)
      | inr c ↦ no_clash_across xs ys h.1 a b ca c clash
    ]

no_clash_push : (xs : List Res) (r : Res) → NoClash xs → ((a : Res) → Contains xs a → Clash r a → ⊥) → NoClash (xs ++ r ∷ [])
no_clash_push [] r h g = (free_from [] r (λ a c. absurd (let k = c.1 in omega arith)), tt)
no_clash_push (x ∷ xs) r h g = (
  free_from (xs ++ r ∷ []) x (λ a c clash. elim (Contains-append_cases xs (r ∷ []) a c) [
    | inl q ↦ free_at xs x a h.0 q clash
    | inr q ↦ elim (contains_cons r [] a q) [
      | inl e ↦ g x (here x xs) (subst (λ (z : Res). Clash z x) e clash)
      | inr z ↦ let k = z.1 in absurd (omega arith)
    ]
  ]),
  no_clash_push xs r h.1 (λ a c. g a (there x xs a c)),
)

-- what all hold

held_at : (nodes : List Node) (k : ℕ) (n : Node) (a : Res) → node_at k nodes ≡ Some n → Contains n.holds a → Contains (held_by nodes) a
held_at [] k n a at c = absurd (cc)
held_at (x ∷ xs) k n a at c =
    elim (cases_eq x.serial k) [
      | inl e ↦
          let same : x ≡ n = grind (arith, nat_tests) in
          Contains-append_left x.holds (held_by xs) a (subst (λ (m : Node). Contains m.holds a) (sym same) c)
      | inr d ↦ Contains-append_right x.holds (held_by xs) a (held_at xs k n a (grind (arith, nat_tests)) c)
    ]

pass_at : (test : Node → Bool) (nodes : List Node) (k : ℕ) (n : Node) → node_at k nodes ≡ Some n → test n ≡ true → node_at k (those test nodes) ≡ Some n
pass_at test [] k n at e = absurd (cc)
pass_at test (x ∷ xs) k n at e =
    elim (cases_eq x.serial k) [
      | inl z ↦ let same : x ≡ n = grind (arith, nat_tests) in let ex = subst (λ (m : Node). test m ≡ true) (sym same) e in grind (arith, nat_tests)
      | inr d ↦ let more = pass_at test xs k n (grind (arith, nat_tests)) e in grind (arith, nat_tests)
    ]

-- what others hold is fixed
fixed_at : (c : Core) (movers : List ℕ) (k : ℕ) (n : Node) (a : Res) → node_at k c.nodes ≡ Some n → has movers k ≡ false → Contains n.holds a → Contains (fixed_beside c movers) a
fixed_at c movers k n a at out ca =
    let own = own_serial k n c.nodes at in
    let test : is_beside movers n ≡ true = ap not (subst (λ (i : ℕ). has movers i ≡ false) (sym own) out) in
    Contains-append_right c.reserved (held_by (those (is_beside movers) c.nodes)) a
    (held_at (those (is_beside movers) c.nodes) k n a (pass_at (is_beside movers) c.nodes k n at test) ca)

-- One device gets what was found -------------------------------------------------------------

foreign_fixed : (c : Core) (movers : List ℕ) (reqs : List Reqs) (plan : List (List Res)) (a b : Res) → IsAssignment (fixed_beside c movers) reqs plan → Contains (fixed_beside c movers) a → Contains (flat plan) b → Clash a b → ⊥
foreign_fixed c movers reqs plan a b found ca cb clash =
    free_at (fixed_beside c movers) b a (all_at (Free (fixed_beside c movers)) (flat plan) b found.beside cb) ca clash

pub Clear_assigned : (c : Core) (j : ℕ) (reqs : List Reqs) (holds : List Res) → IsAssignment (fixed_beside c (j ∷ [])) reqs (holds ∷ []) → Clear c.reserved c.nodes →
    Clear c.reserved (changed_first (is_node j) (with_holds holds) c.nodes)
Clear_assigned c j reqs holds found old =
    let in_flat : (b : Res) → Contains holds b → Contains (flat (holds ∷ [])) b = λ b h. Contains-append_left holds [] b h in
    let others : (k : ℕ) (m : Node) → j ≢ k → node_at k c.nodes ≡ Some m → Foreign m.holds holds =
    λ k m d at a b ca cb clash. foreign_fixed c (j ∷ []) reqs (holds ∷ []) a b found (fixed_at c (j ∷ []) k m a at (grind (arith, nat_tests)) ca) (in_flat b cb) clash in
    record {
      own =
          λ k m g. elim (node_from j k (with_holds holds) c.nodes m (λ x. refl) g) [
            | inl (e, (y, q, r)) ↦ subst (λ (z : Node). NoClash z.holds) (sym r) (no_clash_front holds [] found.apart)
            | inr (d, q) ↦ old.own k m q
          ];
      two =
          λ i k n m d g h. elim (node_from j i (with_holds holds) c.nodes n (λ x. refl) g) [
            | inl (e, (y, q, r)) ↦
                elim (node_from j k (with_holds holds) c.nodes m (λ x. refl) h) [
                  | inl (e2, (y2, q2, r2)) ↦ absurd (d (sym e ∙ e2))
                  | inr (d2, q2) ↦ subst (λ (z : Node). Foreign z.holds m.holds) (sym r) (foreign_sym m.holds holds (others k m d2 q2))
                ]
            | inr (d1, q1) ↦
                elim (node_from j k (with_holds holds) c.nodes m (λ x. refl) h) [
                  | inl (e2, (y2, q2, r2)) ↦ subst (λ (z : Node). Foreign n.holds z.holds) (sym r2) (others i n d1 q1)
                  | inr (d2, q2) ↦ old.two i k n m d q1 q2
                ]
          ];
      taken = old.taken;
      beside =
          λ k m g. elim (node_from j k (with_holds holds) c.nodes m (λ x. refl) g) [
            | inl (e, (y, q, r)) ↦
                subst (λ (z : Node). Foreign c.reserved z.holds) (sym r)
                (λ a b ca cb clash. foreign_fixed c (j ∷ []) reqs (holds ∷ []) a b found (Contains-append_left c.reserved (held_by (those (is_beside (j ∷ [])) c.nodes)) a ca) (in_flat b cb) clash)
            | inr (d, q) ↦ old.beside k m q
          ];
    }

-- All movers get their parts at once -----------------------------------------------------------

-- the part of k in the plan
abbrev PartAt : ℕ → List ℕ → List (List Res) → List Res → Type 0
PartAt k [] plan p = ⊥
PartAt k (j ∷ js) [] p = ⊥
PartAt k (j ∷ js) (holds ∷ plan) p = ((j ≡ k) × (p ≡ holds)) ⊎ ((j ≢ k) × PartAt k js plan p)

part_is : (k : ℕ) (js : List ℕ) (plan : List (List Res)) (held : List Res) → length plan ≡ length js → has js k ≡ true → PartAt k js plan (part_for k js plan held)
part_is k [] plan held l h = absurd (cc)
part_is k (j ∷ js) [] held l h = absurd (omega arith)
part_is k (j ∷ js) (holds ∷ plan) held l h =
    elim (cases_eq j k) [
      | inl e ↦ inl (e, grind (arith, nat_tests))
      | inr d ↦
          let more = part_is k js plan held (omega arith) (grind (arith, nat_tests)) in
          let same : part_for k (j ∷ js) (holds ∷ plan) held ≡ part_for k js plan held = grind (arith, nat_tests) in
          inr (d, subst (λ (p : List Res). PartAt k js plan p) (sym same) more)
    ]

pub part_not : (k : ℕ) (js : List ℕ) (plan : List (List Res)) (held : List Res) → has js k ≡ false → part_for k js plan held ≡ held
part_not k [] plan held h = refl
part_not k (j ∷ js) [] held h = refl
part_not k (j ∷ js) (holds ∷ plan) held h = grind (arith, nat_tests, part_not k js plan held)

part_flat : (k : ℕ) (js : List ℕ) (plan : List (List Res)) (p : List Res) (a : Res) → PartAt k js plan p → Contains p a → Contains (flat plan) a
part_flat k [] plan p a h c = absurd h
part_flat k (j ∷ js) [] p a h c = absurd h
part_flat k (j ∷ js) (holds ∷ plan) p a (inl (e, q)) c = Contains-append_left holds (flat plan) a (subst (λ (x : List Res). Contains x a) q c)
part_flat k (j ∷ js) (holds ∷ plan) p a (inr (d, h)) c = Contains-append_right holds (flat plan) a (part_flat k js plan p a h c)

part_own : (k : ℕ) (js : List ℕ) (plan : List (List Res)) (p : List Res) → PartAt k js plan p → NoClash (flat plan) → NoClash p
part_own k [] plan p h g = absurd h
part_own k (j ∷ js) [] p h g = absurd h
part_own k (j ∷ js) (holds ∷ plan) p (inl (e, q)) g = subst (λ (x : List Res). NoClash x) (sym q) (no_clash_front holds (flat plan) g)
part_own k (j ∷ js) (holds ∷ plan) p (inr (d, h)) g = part_own k js plan p h (no_clash_back holds (flat plan) g)

-- parts of two devices
part_two : (i k : ℕ) (js : List ℕ) (plan : List (List Res)) (p q : List Res) → i ≢ k → PartAt i js plan p → PartAt k js plan q → NoClash (flat plan) → Foreign p q
part_two i k [] plan p q d h g all = absurd h
part_two i k (j ∷ js) [] p q d h g all = absurd h
part_two i k (j ∷ js) (holds ∷ plan) p q d (inl (e, s)) (inl (e2, s2)) all = absurd (d (sym e ∙ e2))
part_two i k (j ∷ js) (holds ∷ plan) p q d (inl (e, s)) (inr (d2, g)) all =
    foreign_sym q p (λ a b ca cb clash. no_clash_across holds (flat plan) all a b (part_flat k js plan q a g ca) (subst (λ (x : List Res). Contains x b) s cb) clash)
part_two i k (j ∷ js) (holds ∷ plan) p q d (inr (d1, h)) (inl (e2, s2)) all =
    λ a b ca cb clash. no_clash_across holds (flat plan) all a b (part_flat i js plan p a h ca) (subst (λ (x : List Res). Contains x b) s2 cb) clash
part_two i k (j ∷ js) (holds ∷ plan) p q d (inr (d1, h)) (inr (d2, g)) all = part_two i k js plan p q d h g (no_clash_back holds (flat plan) all)

pub Clear_committed : (c : Core) (wanted : Option Reqs) (target : ℕ) (serials : List ℕ) (reqs : List Reqs) (plan : List (List Res)) → IsAssignment (fixed_beside c serials) reqs plan → length reqs ≡ length serials → Clear c.reserved c.nodes →
    Clear c.reserved (map (committed wanted target serials plan) c.nodes)
Clear_committed c wanted target serials reqs plan found l old =
    let len : length plan ≡ length serials = AllZip-long Whole reqs plan found.whole ∙ l in
    let mine : (k : ℕ) (n m : Node) → node_at k c.nodes ≡ Some n → m ≡ committed wanted target serials plan n → has serials k ≡ true → PartAt k serials plan m.holds =
    λ k n m at e h.
    let own = own_serial k n c.nodes at in
    let part = part_is k serials plan n.holds len h in
    let same : m.holds ≡ part_for k serials plan n.holds = ap (λ (z : Node). z.holds) e ∙ ap (λ (i : ℕ). part_for i serials plan n.holds) own in
    subst (λ (p : List Res). PartAt k serials plan p) (sym same) part in
    let kept : (k : ℕ) (n m : Node) → node_at k c.nodes ≡ Some n → m ≡ committed wanted target serials plan n → has serials k ≡ false → m.holds ≡ n.holds =
    λ k n m at e h.
    let own = own_serial k n c.nodes at in
    ap (λ (z : Node). z.holds) e ∙ part_not n.serial serials plan n.holds (subst (λ (i : ℕ). has serials i ≡ false) (sym own) h) in
    -- a device that stays and one that moves
    let stays_moves : (i k : ℕ) (n : Node) (p : List Res) → node_at i c.nodes ≡ Some n → has serials i ≡ false → PartAt k serials plan p → Foreign n.holds p =
    λ i k n p at out part a b ca cb clash. foreign_fixed c serials reqs plan a b found (fixed_at c serials i n a at out ca) (part_flat k serials plan p b part cb) clash in
    record {
      own =
          λ k m g.
          let f = map_from k (committed wanted target serials plan) c.nodes m (λ x. refl) g in
          elim (member serials k) [
            | inl h ↦ part_own k serials plan m.holds (mine k f.0 m f.1 f.2 h) found.apart
            | inr h ↦ subst (λ (x : List Res). NoClash x) (sym (kept k f.0 m f.1 f.2 h)) (old.own k f.0 f.1)
          ];
      two =
          λ i k n m d g h.
          let f = map_from i (committed wanted target serials plan) c.nodes n (λ x. refl) g in
          let e = map_from k (committed wanted target serials plan) c.nodes m (λ x. refl) h in
          elim (member serials i) [
            | inl a ↦
                elim (member serials k) [
                  | inl b ↦ part_two i k serials plan n.holds m.holds d (mine i f.0 n f.1 f.2 a) (mine k e.0 m e.1 e.2 b) found.apart
                  | inr b ↦
                      foreign_sym m.holds n.holds (subst (λ (x : List Res). Foreign x n.holds) (sym (kept k e.0 m e.1 e.2 b)) (stays_moves k i e.0 n.holds e.1 b (mine i f.0 n f.1 f.2 a)))
                ]
            | inr a ↦
                elim (member serials k) [
                  | inl b ↦ subst (λ (x : List Res). Foreign x m.holds) (sym (kept i f.0 n f.1 f.2 a)) (stays_moves i k f.0 m.holds f.1 a (mine k e.0 m e.1 e.2 b))
                  | inr b ↦
                      subst (λ (x : List Res). Foreign x m.holds) (sym (kept i f.0 n f.1 f.2 a))
                      (subst (λ (x : List Res). Foreign f.0.holds x) (sym (kept k e.0 m e.1 e.2 b)) (old.two i k f.0 e.0 d f.1 e.1))
                ]
          ];
      taken = old.taken;
      beside =
          λ k m g.
          let f = map_from k (committed wanted target serials plan) c.nodes m (λ x. refl) g in
          elim (member serials k) [
            | inl h ↦
                let part = mine k f.0 m f.1 f.2 h in
                λ a b ca cb clash. foreign_fixed c serials reqs plan a b found (Contains-append_left c.reserved (held_by (those (is_beside serials) c.nodes)) a ca) (part_flat k serials plan m.holds b part cb) clash
            | inr h ↦ subst (λ (x : List Res). Foreign c.reserved x) (sym (kept k f.0 m f.1 f.2 h)) (old.beside k f.0 f.1)
          ];
    }

-- A range is reserved -------------------------------------------------------------------------------

pub same_kind_self : (a b : Kind) → a ≡ b → same_kind a b ≡ true
same_kind_self a kinds.Port e = ap (λ (x : Kind). same_kind x kinds.Port) e
same_kind_self a kinds.Irq e = ap (λ (x : Kind). same_kind x kinds.Irq) e
same_kind_self a kinds.Mem e = ap (λ (x : Kind). same_kind x kinds.Mem) e
same_kind_self a kinds.Dma e = ap (λ (x : Kind). same_kind x kinds.Dma) e
same_kind_self a kinds.Bus e = ap (λ (x : Kind). same_kind x kinds.Bus) e

not_both : (a b : Bool) → ((a ≡ true) × (b ≡ true) → ⊥) → not (a && b) ≡ true
not_both true true h = absurd (h (refl, refl))
not_both true false h = refl
not_both false b h = refl

-- the test is true of each clash
clash_test : (a b : Res) → Clash a b → clashes a b ≡ true
clash_test a b (kind, number, both) =
    let unit = same_kind_self a.kind b.kind kind in
    let (n, l1, h1, l2, h2) = number in
    let shared = not_both a.shared b.shared both in
    let one : nat_le a.lo b.hi ≡ true = (let o : a.lo ≤ b.hi = omega arith in grind (arith, nat_tests)) in
    let two : nat_le b.lo a.hi ≡ true = (let o : b.lo ≤ a.hi = omega arith in grind (arith, nat_tests)) in
    grind (arith)

none_clashes : (res : Res) (xs : List Res) (a : Res) → list_any (clashes res) xs ≡ false → Contains xs a → Clash res a → ⊥
none_clashes res [] a h c clash = let k = c.1 in absurd (omega arith)
none_clashes res (x ∷ xs) a h c clash =
    elim (contains_cons x xs a c) [
      | inl e ↦ let t = clash_test res x (subst (λ (z : Res). Clash res z) e clash) in absurd (let f : clashes res x ≡ false = grind (arith) in cc)
      | inr q ↦ none_clashes res xs a (grind (arith)) q clash
    ]

pub Clear_reserved : (res : Res) (reserved : List Res) (nodes : List Node) → list_any (clashes res) (reserved ++ held_by nodes) ≡ false → Clear reserved nodes → Clear (reserved ++ res ∷ []) nodes
Clear_reserved res reserved nodes free old =
    record {
      own = old.own;
      two = old.two;
      taken = no_clash_push reserved res old.taken (λ a c clash. none_clashes res (reserved ++ held_by nodes) a free (Contains-append_left reserved (held_by nodes) a c) clash);
      beside =
          λ k n at a b ca cb clash. elim (Contains-append_cases reserved (res ∷ []) a ca) [
            | inl q ↦ old.beside k n at a b q cb clash
            | inr q ↦ elim (contains_cons res [] a q) [
              | inl e ↦
                  none_clashes res (reserved ++ held_by nodes) b free (Contains-append_right reserved (held_by nodes) b (held_at nodes k n b at cb))
                  (subst (λ (z : Res). Clash z b) e clash)
              | inr z ↦ let k0 = z.1 in absurd (omega arith)
            ]
          ];
    }

-- Nothing new is held ----------------------------------------------------------------------------------

-- each device holds what it held, or nothing
abbrev pub NoMore : List Node → List Node → Type 0
NoMore old new = (k : ℕ) (m : Node) → node_at k new ≡ Some m → (m.holds ≡ []) ⊎ ((n : Node) × (node_at k old ≡ Some n) × (m.holds ≡ n.holds))

pub nothing_foreign : (xs ys : List Res) → xs ≡ [] → Foreign xs ys
nothing_foreign xs ys e a b ca cb clash = let c = subst (λ (z : List Res). Contains z a) e ca in let k = c.1 in absurd (omega arith)

pub Clear_no_more : (reserved : List Res) (old new : List Node) → NoMore old new → Clear reserved old → Clear reserved new
Clear_no_more reserved old new less clear =
    record {
      own =
          λ k m g. elim (less k m g) [
            | inl e ↦ subst (λ (x : List Res). NoClash x) (sym e) tt
            | inr (n, at, e) ↦ subst (λ (x : List Res). NoClash x) (sym e) (clear.own k n at)
          ];
      two =
          λ i k n m d g h. elim (less i n g) [
            | inl e ↦ nothing_foreign n.holds m.holds e
            | inr (n2, at, e) ↦
                elim (less k m h) [
                  | inl e2 ↦ foreign_sym m.holds n.holds (nothing_foreign m.holds n.holds e2)
                  | inr (m2, at2, e2) ↦
                      subst (λ (x : List Res). Foreign x m.holds) (sym e) (subst (λ (x : List Res). Foreign n2.holds x) (sym e2) (clear.two i k n2 m2 d at at2))
                ]
          ];
      taken = clear.taken;
      beside =
          λ k m g. elim (less k m g) [
            | inl e ↦ foreign_sym m.holds reserved (nothing_foreign m.holds reserved e)
            | inr (n, at, e) ↦ subst (λ (x : List Res). Foreign reserved x) (sym e) (clear.beside k n at)
          ];
    }
