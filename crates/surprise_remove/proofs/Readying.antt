-- The ready device of the greatest serial is the last one that passes.
use Rattle.std.proofs.Common.{◌≡◌, ◌⊎◌, inl, inr, not, ℕ, zero, suc, ◌-◌, ◌<◌, ◌≤◌, Bool, true, false, cond, nat_lt, List, [], ◌∷◌, drop, slice_get, Some, None, refl, sym, ap, ◌∙◌, subst, arith}
use Rattle.std.specs.List.{list_any}
use Rattle.std.proofs.lemmas.Bool.Decides.{nat_tests}
use Rattle.pnp_model.specs.Keyed.{those}
use Rattle.pnp_model.specs.Cores.{node_at, serials_of}
use Rattle.pnp_model.specs.Records.{Node, Relation, Handle}
use Rattle.pnp_model.specs.Handles as handles
use Rattle.pnp_model.specs.Handles.{is_open, holds_back, is_ready_device}
use Rattle.pnp_model.specs.Tests.{has, is_surprise_removed}
use Rattle.pnp_model.specs.Trees.{greatest, greater}
use Rattle.pnp_laws.specs.Kept.{Ascending}
use Rattle.pnp_laws.proofs.Closures.{tail_at, head_at}
use Rattle.pnp_laws.proofs.Truths.{and_both, both_true, or_cases, or_left, or_right}
use Rattle.devnode_tree.specs.Bottoms.{is_full_child, is_bottom}
use Rattle.relations.specs.Leaving.{base}

-- the rest of a list, from a place on
next : {X : Type 0} (xs : List X) (i : ℕ) (x : X) → slice_get xs i ≡ Some x → drop i xs ≡ x ∷ drop (suc i) xs
next [] i x e = absurd (cc)
next (y ∷ ys) zero x e = let same : y ≡ x = grind arith in ap (λ z. z ∷ ys) same
next (y ∷ ys) (suc i) x e = next ys i x e

past : {X : Type 0} (xs : List X) (i : ℕ) → slice_get xs i ≡ None → drop i xs ≡ []
past [] zero e = refl
past [] (suc i) e = refl
past (y ∷ ys) zero e = absurd (cc)
past (y ∷ ys) (suc i) e = past ys i e

-- none from a place on passes, and the one before does not
pub none_more : {X : Type 0} (p : X → Bool) (xs : List X) (at : ℕ) (x : X) → 0 < at → slice_get xs (at - 1) ≡ Some x → p x ≡ false → those p (drop at xs) ≡ [] → those p (drop (at - 1) xs) ≡ []
none_more p xs at x some found test h =
    let same : at ≡ suc (at - 1) = omega arith in
    ap (those p) (next xs (at - 1) x found)
    ∙ (ap (λ b. cond b (x ∷ those p (drop (suc (at - 1)) xs)) (those p (drop (suc (at - 1)) xs))) test ∙ subst (λ (i : ℕ). those p (drop i xs) ≡ []) same h)

pub none_past : {X : Type 0} (p : X → Bool) (xs : List X) (i : ℕ) → slice_get xs i ≡ None → those p (drop i xs) ≡ []
none_past p xs i at = ap (those p) (past xs i at)

low_at : (lo k : ℕ) (nodes : List Node) (n : Node) → Ascending lo nodes → node_at k nodes ≡ Some n → lo ≤ k
low_at lo k [] n g at = absurd (cc)
low_at lo k (m ∷ nodes) n g at = grind (arith, nat_tests, low_at (suc m.serial) k nodes n)

-- the one at a place passes, and none behind it: it has the greatest serial, and is found by it
last_in : (lo : ℕ) (p : Node → Bool) (nodes : List Node) (i : ℕ) (n : Node) → Ascending lo nodes → slice_get nodes i ≡ Some n → p n ≡ true → those p (drop (suc i) nodes) ≡ []
    → (greatest (serials_of (those p nodes)) ≡ Some n.serial) × (node_at n.serial nodes ≡ Some n)
last_in lo p [] i n g at test h = absurd (cc)
last_in lo p (m ∷ nodes) zero n g at test h =
    let same : m ≡ n = grind arith in
    let first : p m ≡ true = subst (λ (x : Node). p x ≡ true) (sym same) test in (
      ap (λ b. greatest (serials_of (cond b (m ∷ those p nodes) (those p nodes)))) first
          ∙ (ap (λ l. Some (greater m.serial (greatest (serials_of l)))) h ∙ ap (λ (x : Node). Some x.serial) same),
      subst (λ (x : Node). node_at x.serial (m ∷ nodes) ≡ Some x) same (head_at m nodes),
    )
last_in lo p (m ∷ nodes) (suc i) n g at test h =
    let more = last_in (suc m.serial) p nodes i n g.1 at test h in
    let above = low_at (suc m.serial) n.serial nodes n g.1 more.1 in
    let less : nat_lt m.serial n.serial ≡ true = grind (arith, nat_tests) in
    let by_test : (b : Bool) → greatest (serials_of (cond b (m ∷ those p nodes) (those p nodes))) ≡ Some n.serial =
    λ b. elim b as (λ b. greatest (serials_of (cond b (m ∷ those p nodes) (those p nodes))) ≡ Some n.serial) [
      | true ↦ ap (λ o. Some (greater m.serial o)) more.0 ∙ ap (λ b. Some (cond b n.serial m.serial)) less
      | false ↦ more.0
    ] in
    (by_test (p m), tail_at lo m nodes n.serial n g more.1)

pub last_is : (p : Node → Bool) (nodes : List Node) (at : ℕ) (n : Node) → Ascending 0 nodes → 0 < at → slice_get nodes (at - 1) ≡ Some n → p n ≡ true → those p (drop at nodes) ≡ []
    → (greatest (serials_of (those p nodes)) ≡ Some n.serial) × (node_at n.serial nodes ≡ Some n)
last_is p nodes at n g some found test h =
    let same : at ≡ suc (at - 1) = omega arith in
    last_in 0 p nodes (at - 1) n g found test (subst (λ (i : ℕ). those p (drop i nodes) ≡ []) same h)

-- A walk over the open handles that comes down with the nodes --------------------------------------

-- of each node before a place it tells whether a handle is open
abbrev pub IsAbove : List Node → List Handle → List ℕ → ℕ → Type 0
IsAbove nodes hs walk at = (i : ℕ) (n : Node) → i < at → slice_get nodes i ≡ Some n → has walk n.serial ≡ is_open hs n.serial

from_low : (lo j : ℕ) (nodes : List Node) (n : Node) → Ascending lo nodes → slice_get nodes j ≡ Some n → lo ≤ n.serial
from_low lo j [] n g at = absurd (cc)
from_low lo zero (m ∷ nodes) n g at = let same : m ≡ n = grind arith in subst (λ (x : Node). lo ≤ x.serial) same g.0
from_low lo (suc j) (m ∷ nodes) n g at = let rest = from_low (suc m.serial) j nodes n g.1 at in omega (arith, rest, g.0)

-- an earlier node has a lower serial
earlier : (lo i j : ℕ) (nodes : List Node) (m n : Node) → Ascending lo nodes → slice_get nodes i ≡ Some m → slice_get nodes j ≡ Some n → i < j → m.serial < n.serial
earlier lo i j [] m n g first last less = absurd (cc)
earlier lo i zero (x ∷ nodes) m n g first last less = absurd (omega arith)
earlier lo zero (suc j) (x ∷ nodes) m n g first last less =
    let same : x ≡ m = grind arith in
    let rest = from_low (suc x.serial) j nodes n g.1 last in
    subst (λ (y : Node). y.serial < n.serial) same (omega (arith, rest))
earlier lo (suc i) (suc j) (x ∷ nodes) m n g first last less = earlier (suc x.serial) i j nodes m n g.1 first last (omega arith)

module _ (nodes : List Node) (hs : List Handle) (walk : List ℕ) (at : ℕ) (above : IsAbove nodes hs walk at) where
  -- it tells it of the last one before the place ..
  pub tells_last : (n : Node) → 0 < at → slice_get nodes (at - 1) ≡ Some n → has walk n.serial ≡ is_open hs n.serial
  tells_last n some found = above (at - 1) n (omega arith) found

  -- .. and then of those before that
  pub tells_before : (n : Node) (walk' : List ℕ) → Ascending 0 nodes → slice_get nodes (at - 1) ≡ Some n → ((k : ℕ) → k < n.serial → has walk' k ≡ has walk k)
      → IsAbove nodes hs walk' (at - 1)
  tells_before n walk' g found below i m less first =
      below m.serial (earlier 0 i (at - 1) nodes m n g first found less) ∙ above i m (omega arith) first

  pub tells_fewer : IsAbove nodes hs walk (at - 1)
  tells_fewer i m less first = above i m (omega arith) first

-- Below the lowest bottom none is ready -----------------------------------------------------------

-- a child with drivers holds its parent back
child_holds : (nodes : List Node) (rs : List Relation) (k : ℕ) (m : Node) → is_full_child k m ≡ true → holds_back (base nodes rs) k m ≡ true
child_holds nodes rs k m full = grind (arith, nat_tests)

any_more : {X : Type 0} (p q : X → Bool) → ((x : X) → p x ≡ true → q x ≡ true) → (xs : List X) → list_any p xs ≡ true → list_any q xs ≡ true
any_more p q more [] h = h
any_more p q more (x ∷ xs) h =
    elim (or_cases (p x) (list_any p xs) h) [
      | inl a ↦ or_left (q x) (list_any q xs) (more x a)
      | inr b ↦ or_right (q x) (list_any q xs) (any_more p q more xs b)
    ]

pub ready_is_bottom : (nodes : List Node) (rs : List Relation) (hs : List Handle) (n : Node) → is_ready_device (base nodes rs) hs n ≡ true → is_bottom nodes n ≡ true
ready_is_bottom nodes rs hs n ready =
    let told = and_both (is_surprise_removed n.state) _ ready in
    let full = and_both (handles.has_drivers n.stack) _ told.1 in
    let shut = and_both (not (is_open hs n.serial)) _ full.1 in
    both_true (is_surprise_removed n.state) (not (list_any (is_full_child n.serial) nodes)) told.0
    (no_child (list_any (is_full_child n.serial) nodes) (list_any (holds_back (base nodes rs) n.serial) nodes) (any_more (is_full_child n.serial) (holds_back (base nodes rs) n.serial) (child_holds nodes rs n.serial) nodes) shut.1)
  where
    no_child : (a b : Bool) → (a ≡ true → b ≡ true) → not b ≡ true → not a ≡ true
    no_child true true more h = h
    no_child true false more h = absurd (let e = more refl in cc)
    no_child false b more h = refl

found_at : (lo i : ℕ) (nodes : List Node) (m : Node) → Ascending lo nodes → slice_get nodes i ≡ Some m → node_at m.serial nodes ≡ Some m
found_at lo i [] m g at = absurd (cc)
found_at lo zero (x ∷ nodes) m g at = let same : x ≡ m = grind arith in subst (λ (y : Node). node_at y.serial (x ∷ nodes) ≡ Some y) same (head_at x nodes)
found_at lo (suc i) (x ∷ nodes) m g at = tail_at lo x nodes m.serial m g (found_at (suc x.serial) i nodes m g.1 at)

-- none before a place passes, and none from it on
those_none : {X : Type 0} (p : X → Bool) (xs : List X) (at : ℕ) → ((i : ℕ) (x : X) → i < at → slice_get xs i ≡ Some x → p x ≡ false) → those p (drop at xs) ≡ [] → those p xs ≡ []
those_none p xs zero before rest = rest
those_none p [] (suc at) before rest = refl
those_none p (x ∷ xs) (suc at) before rest =
    ap (λ b. cond b (x ∷ those p xs) (those p xs)) (before 0 x (omega arith) refl) ∙ those_none p xs at (λ i y less found. before (suc i) y (omega arith) found) rest

pub none_below : (p : Node → Bool) (nodes : List Node) (at : ℕ) (n : Node) (low : ℕ) → Ascending 0 nodes → 0 < at → slice_get nodes (at - 1) ≡ Some n → n.serial < low
    → ((k : ℕ) (m : Node) → node_at k nodes ≡ Some m → p m ≡ true → low ≤ k) → those p (drop at nodes) ≡ [] → those p nodes ≡ []
none_below p nodes at n low g some found below from rest = those_none p nodes at before rest
  where
    no_higher : (k : ℕ) → k ≤ n.serial → (b : Bool) → (b ≡ true → low ≤ k) → b ≡ false
    no_higher k le true more = absurd (let e = more refl in omega arith)
    no_higher k le false more = refl

    lt_or_eq : (i j : ℕ) → i ≤ j → (i < j) ⊎ (i ≡ j)
    lt_or_eq i j le = grind arith

    not_above : (i : ℕ) (m : Node) → i < at → slice_get nodes i ≡ Some m → m.serial ≤ n.serial
    not_above i m less first =
        elim (lt_or_eq i (at - 1) (omega arith)) [
          | inl l ↦ (let lower = earlier 0 i (at - 1) nodes m n g first found l in omega arith)
          | inr e ↦ (let same : m ≡ n = (let other = subst (λ (j : ℕ). slice_get nodes j ≡ Some m) e first in cc) in subst (λ (x : Node). m.serial ≤ x.serial) same (omega arith))
        ]

    before : (i : ℕ) (m : Node) → i < at → slice_get nodes i ≡ Some m → p m ≡ false
    before i m less first = no_higher m.serial (not_above i m less first) (p m) (from m.serial m (found_at 0 i nodes m g first))
