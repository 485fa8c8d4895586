-- The lowest bottom, as nodes change, join and leave.
use Rattle.std.proofs.Common.{◌≡◌, ◌≢◌, ℕ, zero, suc, ◌+◌, ◌<◌, ◌≤◌, ◌==◌, ◌⊎◌, inl, inr, Bool, true, false, not, ◌&&◌, ◌||◌, List, [], ◌∷◌, ◌++◌, length, get_or, set, position, Option, Some, None, option_map, refl, sym, ap, subst, ◌∙◌, arith}
use Rattle.std.specs.List.{list_any}
use Rattle.std.proofs.lemmas.Bool.{cases_eq}
use Rattle.std.proofs.lemmas.Bool.Decides.{nat_tests}
use Rattle.std.proofs.lemmas.List.Folds.{list_any-append, list_any_at}
use Rattle.std.proofs.lemmas.List.Quantifiers.{position-Some}
use Rattle.pnp_model.specs.Cores.{is_node, node_at, serials_of}
use Rattle.pnp_model.specs.Handles.{has_drivers}
use Rattle.pnp_model.specs.Keyed.{changed_first, without_first}
use Rattle.pnp_model.specs.Records.{Node}
use Rattle.pnp_model.specs.Tests.{is_surprise_removed}
use Rattle.devnode_tree.specs.Bottoms.{is_full_child, is_bottom, BottomsBut, BottomsFrom}
use Rattle.devnode_tree.specs.Trees.{Ascends}
use Rattle.devnode_tree.specs.Entries.{Entry, nodes_of, has_serial, changed_node}
use Rattle.devnode_tree.proofs.Changes.{KeepsLinks, nodes_set}
use Rattle.devnode_tree.proofs.KeyedMaps.{list_any-map}
use Rattle.devnode_tree.proofs.Lookups.{node_found}

own_serial : (k : ℕ) (nodes : List Node) (n : Node) → node_at k nodes ≡ Some n → n.serial ≡ k
own_serial k [] n at = absurd (cc)
own_serial k (m ∷ nodes) n at = grind (arith, nat_tests, own_serial k nodes n)

-- a node is a bottom as long as no child gets or loses drivers
bottom_same : (nodes nodes' : List Node) (n : Node) → list_any (is_full_child n.serial) nodes' ≡ list_any (is_full_child n.serial) nodes → is_bottom nodes' n ≡ is_bottom nodes n
bottom_same nodes nodes' n same = ap (λ b. is_surprise_removed n.state && not b) same

no_child_of : (k : ℕ) (x : Node) → x.parent ≢ k → is_full_child k x ≡ false
no_child_of k x other = grind (arith, nat_tests)

-- A node changes -----------------------------------------------------------------

module _ (f : Node → Node) (keeps : KeepsLinks f) (j : ℕ) where
  any_changed : (P : Node → Bool) (nodes : List Node) → ((x : Node) → node_at j nodes ≡ Some x → P (f x) ≡ P x)
      → list_any P (changed_first (is_node j) f nodes) ≡ list_any P nodes
  any_changed P [] same = refl
  any_changed P (n ∷ nodes) same = by_test (n.serial == j) refl (any_changed P nodes)
    where
      by_test : (b : Bool) → (n.serial == j) ≡ b
          → (((x : Node) → node_at j nodes ≡ Some x → P (f x) ≡ P x) → list_any P (changed_first (is_node j) f nodes) ≡ list_any P nodes)
          → list_any P (changed_first (is_node j) f (n ∷ nodes)) ≡ list_any P (n ∷ nodes)
      by_test true b more = rw b (ap (λ c. c || list_any P nodes) (same n (rw b refl)))
      by_test false b more = rw b (ap (λ c. P n || c) (more (λ x at. same x (rw b at))))

  at_other : (k : ℕ) → k ≢ j → (nodes : List Node) → node_at k (changed_first (is_node j) f nodes) ≡ node_at k nodes
  at_other k other [] = refl
  at_other k other (n ∷ nodes) = grind (arith, nat_tests, keeps.serial n, at_other k other nodes)

  at_changed : (nodes : List Node) → node_at j (changed_first (is_node j) f nodes) ≡ option_map f (node_at j nodes)
  at_changed [] = refl
  at_changed (n ∷ nodes) = grind (arith, nat_tests, keeps.serial n, at_changed nodes)

  still_no_child : (k : ℕ) (x : Node) → x.parent ≢ k → is_full_child k (f x) ≡ is_full_child k x
  still_no_child k x other = no_child_of k (f x) (λ same. other (sym (keeps.parent x) ∙ same)) ∙ sym (no_child_of k x other)

  module _ (nodes : List Node) (low : ℕ) (from : BottomsFrom low nodes) where
    -- but for it and its parent each node is as it was
    pub lowered_changed : (x : Node) → node_at j nodes ≡ Some x → (low' : ℕ) → low' ≤ low
        → (is_bottom (changed_first (is_node j) f nodes) (f x) ≡ true → low' ≤ j)
        → ((y : Node) → node_at x.parent (changed_first (is_node j) f nodes) ≡ Some y → is_bottom (changed_first (is_node j) f nodes) y ≡ true → low' ≤ x.parent)
        → BottomsFrom low' (changed_first (is_node j) f nodes)
    lowered_changed x there low' less own above k n at bottom =
        elim (cases_eq k j) [
          | inl e ↦
              let same : f x ≡ n = let one = at_changed nodes ∙ ap (option_map f) there in let two = subst (λ (i : ℕ). node_at i (changed_first (is_node j) f nodes) ≡ Some n) e at in cc in
              subst (λ (i : ℕ). low' ≤ i) (sym e) (own (subst (λ (m : Node). is_bottom (changed_first (is_node j) f nodes) m ≡ true) (sym same) bottom))
          | inr d ↦ elim (cases_eq k x.parent) [
            | inl e ↦ subst (λ (i : ℕ). low' ≤ i) (sym e) (above n (subst (λ (i : ℕ). node_at i (changed_first (is_node j) f nodes) ≡ Some n) e at) bottom)
            | inr o ↦
                let before = sym (at_other k d nodes) ∙ at in
                let serial = own_serial k nodes n before in
                let any = any_changed (is_full_child n.serial) nodes
                (λ y found. let same : x ≡ y = cc in still_no_child n.serial y (λ is. o (sym serial ∙ (sym is ∙ ap (λ (m : Node). m.parent) (sym same))))) in
                let least = from k n before (sym (bottom_same nodes (changed_first (is_node j) f nodes) n any) ∙ bottom) in
                omega (arith, least, less)
          ]
        ]

    -- nothing changes that says whether it is a bottom
    pub from_quiet : ((x : Node) → (f x).state ≡ x.state) → ((x : Node) → (f x).stack ≡ x.stack) → BottomsFrom low (changed_first (is_node j) f nodes)
    from_quiet state stack k n at bottom =
        elim (cases_eq k j) [
          | inl e ↦
              subst (λ (i : ℕ). low ≤ i) (sym e) (at_here (node_at j nodes) refl (subst (λ (i : ℕ). node_at i (changed_first (is_node j) f nodes) ≡ Some n) e at))
          | inr d ↦ from k n (sym (at_other k d nodes) ∙ at) (sym (bottom_same nodes (changed_first (is_node j) f nodes) n (any n.serial)) ∙ bottom)
        ]
      where
        same_child : (i : ℕ) (y : Node) → is_full_child i (f y) ≡ is_full_child i y
        same_child i y = grind (arith, keeps.serial y, keeps.parent y, stack y)

        any : (i : ℕ) → list_any (is_full_child i) (changed_first (is_node j) f nodes) ≡ list_any (is_full_child i) nodes
        any i = any_changed (is_full_child i) nodes (λ y found. same_child i y)

        same_bottom : (x : Node) → is_bottom (changed_first (is_node j) f nodes) (f x) ≡ is_bottom nodes x
        same_bottom x =
            ap (λ s. is_surprise_removed s && not (list_any (is_full_child (f x).serial) (changed_first (is_node j) f nodes))) (state x)
            ∙ (ap (λ i. is_surprise_removed x.state && not (list_any (is_full_child i) (changed_first (is_node j) f nodes))) (keeps.serial x)
            ∙ ap (λ b. is_surprise_removed x.state && not b) (any x.serial))

        at_here : (o : Option Node) → node_at j nodes ≡ o → node_at j (changed_first (is_node j) f nodes) ≡ Some n → low ≤ j
        at_here None none there = absurd (let gone = at_changed nodes ∙ ap (option_map f) none in cc)
        at_here (Some x) some there =
            let same : f x ≡ n = let one = at_changed nodes ∙ ap (option_map f) some in cc in
            from j x some (sym (same_bottom x) ∙ subst (λ (m : Node). is_bottom (changed_first (is_node j) f nodes) m ≡ true) (sym same) bottom)

-- A node joins -------------------------------------------------------------------

at_joined : (k : ℕ) (nodes : List Node) (n m : Node) → node_at k (nodes ++ n ∷ []) ≡ Some m → (node_at k nodes ≡ Some m) ⊎ (n ≡ m)
at_joined k [] n m at = grind arith
at_joined k (x ∷ nodes) n m at = grind (arith, at_joined k nodes n m)

pub from_joined : (nodes : List Node) (low : ℕ) → BottomsFrom low nodes → (n : Node) → is_surprise_removed n.state ≡ false → has_drivers n.stack ≡ false → BottomsFrom low (nodes ++ n ∷ [])
from_joined nodes low from n untold bare k m at bottom =
    elim (at_joined k nodes n m at) [
      | inl there ↦ from k m there (sym (bottom_same nodes (nodes ++ n ∷ []) m any) ∙ bottom)
      | inr same ↦ absurd (let told = subst (λ (x : Node). is_bottom (nodes ++ n ∷ []) x ≡ true) (sym same) bottom in grind arith)
    ]
  where
    or_none : (b : Bool) → (b || false) ≡ b
    or_none true = refl
    or_none false = refl

    no_child : is_full_child m.serial n ≡ false
    no_child = grind arith

    any : list_any (is_full_child m.serial) (nodes ++ n ∷ []) ≡ list_any (is_full_child m.serial) nodes
    any = list_any-append (is_full_child m.serial) nodes (n ∷ []) ∙ (ap (λ b. list_any (is_full_child m.serial) nodes || (b || false)) no_child ∙ or_none (list_any (is_full_child m.serial) nodes))

-- A node leaves ------------------------------------------------------------------

module _ (j : ℕ) where
  any_left : (P : Node → Bool) (nodes : List Node) (x : Node) → node_at j nodes ≡ Some x → P x ≡ false → list_any P (without_first (is_node j) nodes) ≡ list_any P nodes
  any_left P [] x at none = refl
  any_left P (n ∷ nodes) x at none = by_test (n.serial == j) refl (λ there. any_left P nodes x there none)
    where
      by_test : (b : Bool) → (n.serial == j) ≡ b → (node_at j nodes ≡ Some x → list_any P (without_first (is_node j) nodes) ≡ list_any P nodes)
          → list_any P (without_first (is_node j) (n ∷ nodes)) ≡ list_any P (n ∷ nodes)
      by_test true b more = let same : n ≡ x = grind arith in rw b (ap (λ c. c || list_any P nodes) (sym (ap P same ∙ none)))
      by_test false b more = rw b (ap (λ c. P n || c) (more (rw b at at)))

  other_left : (k : ℕ) → k ≢ j → (nodes : List Node) → node_at k (without_first (is_node j) nodes) ≡ node_at k nodes
  other_left k other [] = refl
  other_left k other (n ∷ nodes) = grind (arith, nat_tests, other_left k other nodes)

  above_all : (low : ℕ) (nodes : List Node) → j < low → Ascends low (serials_of nodes) → node_at j nodes ≡ None
  above_all low [] less h = refl
  above_all low (n ∷ nodes) less h = let rest = above_all (n.serial + 1) nodes (omega (arith, h.0)) h.1 in let first = h.0 in grind (arith, nat_tests)

  none_left_at : (low : ℕ) (nodes : List Node) → Ascends low (serials_of nodes) → node_at j (without_first (is_node j) nodes) ≡ None
  none_left_at low [] h = refl
  none_left_at low (n ∷ nodes) h = by_test (n.serial == j) refl (none_left_at (n.serial + 1) nodes h.1)
    where
      by_test : (b : Bool) → (n.serial == j) ≡ b → node_at j (without_first (is_node j) nodes) ≡ None → node_at j (without_first (is_node j) (n ∷ nodes)) ≡ None
      by_test true b more = let same : n.serial ≡ j = grind (arith, nat_tests) in rw b (above_all (n.serial + 1) nodes (omega arith) h.1)
      by_test false b more = rw b (rw b more)

  pub bottoms_left : (nodes : List Node) (low : ℕ) → BottomsFrom low nodes → Ascends 0 (serials_of nodes) → (x : Node) → node_at j nodes ≡ Some x → BottomsBut x.parent low (without_first (is_node j) nodes)
  bottoms_left nodes low from ascends x there k n other at bottom =
      elim (cases_eq k j) [
        | inl e ↦ absurd (let gone = none_left_at 0 nodes ascends in let found = subst (λ (i : ℕ). node_at i (without_first (is_node j) nodes) ≡ Some n) e at in cc)
        | inr d ↦
            let before = sym (other_left k d nodes) ∙ at in
            let serial = own_serial k nodes n before in
            let any = any_left (is_full_child n.serial) nodes x there (no_child_of n.serial x (λ is. other (sym serial ∙ sym is))) in
            from k n before (sym (bottom_same nodes (without_first (is_node j) nodes) n any) ∙ bottom)
      ]

-- the one that was left out is looked at
pub from_but : (nodes : List Node) (but low low' : ℕ) → low' ≤ low → ((n : Node) → node_at but nodes ≡ Some n → is_bottom nodes n ≡ true → low' ≤ but) → BottomsBut but low nodes → BottomsFrom low' nodes
from_but nodes but low low' less own others k n at bottom =
    elim (cases_eq k but) [
      | inl e ↦ subst (λ (i : ℕ). low' ≤ i) (sym e) (own n (subst (λ (i : ℕ). node_at i nodes ≡ Some n) e at) bottom)
      | inr d ↦ (let least = others k n d at bottom in omega (arith, least, less))
    ]

-- The root alone is no bottom -----------------------------------------------------

pub from_root : (n : Node) (low : ℕ) → is_surprise_removed n.state ≡ false → BottomsFrom low (n ∷ [])
from_root n low untold k m at bottom = absurd (let same : n ≡ m = grind arith in let told = subst (λ (x : Node). is_bottom (n ∷ []) x ≡ true) (sym same) bottom in grind arith)

-- As the entries have it ----------------------------------------------------------

-- a child with drivers that was looked up
pub full_there : (es : List Entry) (k j i : ℕ) → Some i ≡ position (has_serial j) es → (d : Entry) → d ≡ get_or es i d → is_full_child k d.node ≡ true → list_any (is_full_child k) (nodes_of es) ≡ true
full_there es k j i at d read full =
    sym (list_any-map (is_full_child k) (λ (e : Entry). e.node) es)
    ∙ list_any_at (λ (e : Entry). is_full_child k e.node) es i d (position-Some (has_serial j) es i d (sym at)).0 (ap (λ (e : Entry). is_full_child k e.node) (sym read) ∙ full)

module _ (f : Node → Node) (keeps : KeepsLinks f) (es seen : List Entry) (is : seen ≡ es) (next k i : ℕ) (at : Some i ≡ position (has_serial k) seen) (d e : Entry) (read : d ≡ get_or es i d) (written : e ≡ changed_node f d) (low : ℕ) (from : BottomsFrom low (nodes_of es)) where
  pub quiet_set : ((x : Node) → (f x).state ≡ x.state) → ((x : Node) → (f x).stack ≡ x.stack) → BottomsFrom low (nodes_of (set es i e))
  quiet_set state stack = subst (BottomsFrom low) (sym (nodes_set f keeps es seen is next k i at d e read written)) (from_quiet f keeps k (nodes_of es) low from state stack)

  -- it and its parent were looked at
  pub lowered_set : (parent : ℕ) (q : Entry) → q ≡ get_or es i q → parent ≡ q.node.parent → (now : List Entry) → now ≡ set es i e → (low' : ℕ) → low' ≤ low
      → ((n : Node) → node_at k (nodes_of now) ≡ Some n → is_bottom (nodes_of now) n ≡ true → low' ≤ k)
      → ((n : Node) → node_at parent (nodes_of now) ≡ Some n → is_bottom (nodes_of now) n ≡ true → low' ≤ parent)
      → BottomsFrom low' (nodes_of (set es i e))
  lowered_set parent q reads is_parent now are low' less own above =
      let is_changed = nodes_set f keeps es seen is next k i at d e read written in
      let changed = ap nodes_of are ∙ is_changed in
      let there = node_found es seen is k i at d read in
      let same : q.node ≡ d.node = let also = node_found es seen is k i at q reads in grind arith in
      let is_above = is_parent ∙ ap (λ (n : Node). n.parent) same in
      subst (BottomsFrom low') (sym is_changed)
      (lowered_changed f keeps k (nodes_of es) low from d.node there low' less
      (subst (λ (ns : List Node). is_bottom ns (f d.node) ≡ true → low' ≤ k) changed
      (own (f d.node) (subst (λ (ns : List Node). node_at k ns ≡ Some (f d.node)) (sym changed) (at_changed f keeps k (nodes_of es) ∙ ap (option_map f) there))))
      (subst (λ (ns : List Node). (y : Node) → node_at d.node.parent ns ≡ Some y → is_bottom ns y ≡ true → low' ≤ d.node.parent) changed
      (subst (λ (p : ℕ). (y : Node) → node_at p (nodes_of now) ≡ Some y → is_bottom (nodes_of now) y ≡ true → low' ≤ p) is_above above)))

-- of those that are there still, all but the parent are bottoms only where they were
pub bottoms_removed : (es : List Entry) (k : ℕ) (d : Node) → node_at k (nodes_of es) ≡ Some d → (low : ℕ) → BottomsFrom low (nodes_of es) → Ascends 0 (serials_of (nodes_of es))
    → (removed : List Entry) → nodes_of removed ≡ without_first (is_node k) (nodes_of es) → (parent : ℕ) → parent ≡ d.parent → (now : List Entry) → now ≡ removed → BottomsBut parent low (nodes_of now)
bottoms_removed es k d there low from ascends removed left parent is_parent now are =
    subst (λ (p : ℕ). BottomsBut p low (nodes_of now)) (sym is_parent)
    (subst (BottomsBut d.parent low) (sym (ap nodes_of are ∙ left)) (bottoms_left k (nodes_of es) low from ascends d there))

-- a bottom was told, and no child has drivers
pub bottom_says : (nodes : List Node) (k : ℕ) (n : Node) → node_at k nodes ≡ Some n → is_bottom nodes n ≡ true → (is_surprise_removed n.state ≡ true) × (list_any (is_full_child k) nodes ≡ false)
bottom_says nodes k n at bottom = two (is_surprise_removed n.state) (list_any (is_full_child k) nodes) (subst (λ (i : ℕ). (is_surprise_removed n.state && not (list_any (is_full_child i) nodes)) ≡ true) (own_serial k nodes n at) bottom)
  where
    two : (a b : Bool) → (a && not b) ≡ true → (a ≡ true) × (b ≡ false)
    two true false h = (refl, refl)
    two true true h = absurd (cc)
    two false b h = absurd (cc)

pub untold_says : (nodes : List Node) (k : ℕ) (d n : Node) → node_at k nodes ≡ Some d → is_surprise_removed d.state ≡ false → node_at k nodes ≡ Some n → is_bottom nodes n ≡ true → ⊥
untold_says nodes k d n there untold at bottom =
    let told = (bottom_says nodes k n at bottom).0 in
    let same : d ≡ n = grind arith in
    let here = subst (λ (m : Node). is_surprise_removed m.state ≡ false) same untold in
    cc

pub full_says : (nodes : List Node) (k : ℕ) (n : Node) → list_any (is_full_child k) nodes ≡ true → node_at k nodes ≡ Some n → is_bottom nodes n ≡ true → ⊥
full_says nodes k n full at bottom = let none = (bottom_says nodes k n at bottom).1 in cc

-- the first that was told is the lowest
bottom_at : (nodes : List Node) (k : ℕ) (n : Node) → is_bottom nodes n ≡ true → is_surprise_removed n.state ≡ true
bottom_at nodes k n bottom = one (is_surprise_removed n.state) (not (list_any (is_full_child n.serial) nodes)) bottom
  where
    one : (a b : Bool) → (a && b) ≡ true → a ≡ true
    one true b h = refl
    one false b h = absurd (cc)

at_least : (low k : ℕ) (nodes : List Node) (n : Node) → Ascends low (serials_of nodes) → node_at k nodes ≡ Some n → low ≤ k
at_least low k [] n h at = absurd (cc)
at_least low k (m ∷ nodes) n h at = let first = h.0 in let rest = at_least (m.serial + 1) k nodes n h.1 in grind (arith, nat_tests)

told_least : (low i : ℕ) (es : List Entry) (d : Entry) → Ascends low (serials_of (nodes_of es)) → i < length es → d ≡ get_or es i d
    → ((j : ℕ) (x : Entry) → j < i → is_surprise_removed (get_or es j x).node.state ≡ false)
    → (k : ℕ) (n : Node) → node_at k (nodes_of es) ≡ Some n → is_surprise_removed n.state ≡ true → d.node.serial ≤ k
told_least low i [] d h within read untold k n at told = absurd (omega arith)
told_least low zero (e ∷ es) d h within read untold k n at told =
    subst (λ (x : Entry). x.node.serial ≤ k) (sym read) (at_least e.node.serial k (nodes_of (e ∷ es)) n (omega arith, h.1) at)
told_least low (suc i) (e ∷ es) d h within read untold k n at told =
    let first = untold 0 e (omega arith) in
    let rest = told_least (e.node.serial + 1) i es d h.1 (omega arith) read (λ j x less. untold (suc j) x (omega arith)) k n in
    by_test (e.node.serial == k) refl first rest
  where
    by_test : (b : Bool) → (e.node.serial == k) ≡ b → is_surprise_removed e.node.state ≡ false → (node_at k (nodes_of es) ≡ Some n → is_surprise_removed n.state ≡ true → d.node.serial ≤ k) → d.node.serial ≤ k
    by_test true b first rest = absurd (let same : e.node ≡ n = grind arith in let here = subst (λ (m : Node). is_surprise_removed m.state ≡ false) same first in cc)
    by_test false b first rest = rest (rw b at at) told

none_told : (es : List Entry) → ((j : ℕ) (x : Entry) → j < length es → is_surprise_removed (get_or es j x).node.state ≡ false)
    → (k : ℕ) (n : Node) → node_at k (nodes_of es) ≡ Some n → is_surprise_removed n.state ≡ true → ⊥
none_told [] untold k n at told = cc
none_told (e ∷ es) untold k n at told = by_test (e.node.serial == k) refl (untold 0 e (omega arith)) (none_told es (λ j x less. untold (suc j) x (omega arith)) k n)
  where
    by_test : (b : Bool) → (e.node.serial == k) ≡ b → is_surprise_removed e.node.state ≡ false → (node_at k (nodes_of es) ≡ Some n → is_surprise_removed n.state ≡ true → ⊥) → ⊥
    by_test true b first rest = let same : e.node ≡ n = grind arith in let here = subst (λ (m : Node). is_surprise_removed m.state ≡ false) same first in cc
    by_test false b first rest = rest (rw b at at) told

pub from_first : (es : List Entry) (i : ℕ) (d : Entry) → Ascends 0 (serials_of (nodes_of es)) → i < length es → d ≡ get_or es i d
    → ((j : ℕ) (x : Entry) → j < i → is_surprise_removed (get_or es j x).node.state ≡ false) → BottomsFrom d.node.serial (nodes_of es)
from_first es i d ascends within read untold k n at bottom = told_least 0 i es d ascends within read untold k n at (bottom_at (nodes_of es) k n bottom)

pub from_none : (es : List Entry) (low : ℕ) → ((j : ℕ) (x : Entry) → j < length es → is_surprise_removed (get_or es j x).node.state ≡ false) → BottomsFrom low (nodes_of es)
from_none es low untold k n at bottom = absurd (none_told es untold k n at (bottom_at (nodes_of es) k n bottom))
