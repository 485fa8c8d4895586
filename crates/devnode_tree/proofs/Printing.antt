-- The rows that a walk with a stack prints are those of the definition.
use Rattle.std.proofs.Common.{◌≡◌, ℕ, zero, suc, ◌+◌, ◌<◌, ◌≤◌, ◌^◌, Bool, true, false, cond, nat_le, List, [], ◌∷◌, ◌++◌, length, map, reverse, Option, Some, None, refl, sym, ap, ap₂, subst, ◌∙◌, arith, IsSome, is_some, option_map, Result, Ok, Err, OnOk, append_assoc}
use Rattle.std.specs.List.{AllByRecursion}
use Rattle.std.proofs.lemmas.Bool.Decides.{nat_tests}
use Rattle.std.proofs.lemmas.List.{append-nil, map-append, reverse-append}
use Rattle.pnp_model.specs.Cores.{node_at, serials_of}
use Rattle.pnp_model.specs.Endings.{placed, root_of, print_order}
use Rattle.pnp_model.specs.Records.{Node}
use Rattle.pnp_model.specs.Trees.{children, is_child}
use Rattle.devnode_tree.specs.Entries.{child_serials}
use Rattle.devnode_tree.specs.Rows.{row_at, row_of}
use Rattle.devnode_tree.specs.Trees.{Tree, Ascends, HasParent, IsTree}
use Rattle.devnode_tree.specs.declared.print.PrintRow.{PrintRow}
use Rattle.resource_reqs.proofs.Counts.{all_push}
use Rattle.devnode_tree.proofs.Ascending.{ascends_lower}
use Rattle.devnode_tree.proofs.Joins.{has_below}
use Rattle.devnode_tree.proofs.Lookups.{has_some}

-- the rows of a node and of all below it
abbrev pub rows_below : List Node → PrintRow → List PrintRow
rows_below nodes row = map row_of (placed (length nodes) row.depth nodes (root_of (node_at row.serial nodes)))

-- the rows of what is still to be printed, of which the last comes first
abbrev pub due : List Node → List PrintRow → List PrintRow
due nodes [] = []
due nodes (row ∷ rows) = due nodes rows ++ rows_below nodes row

abbrev pub each_below : List Node → ℕ → List ℕ → List PrintRow
each_below nodes depth [] = []
each_below nodes depth (k ∷ ks) = rows_below nodes (row_at depth k) ++ each_below nodes depth ks

-- a row that may stand on the stack
pub record IsDue (nodes : List Node) (row : PrintRow) : Type 0 where
  pub deep : row.depth ≤ row.serial
  pub there : IsSome (node_at row.serial nodes)

-- How many levels are enough --------------------------------------------------------

-- how many nodes have this serial or a greater one
rank : ℕ → List Node → ℕ
rank k [] = 0
rank k (n ∷ nodes) = cond (nat_le k n.serial) 1 0 + rank k nodes

rank_most : (k : ℕ) (nodes : List Node) → rank k nodes ≤ length nodes
unfolding rank
rank_most k [] = omega arith
rank_most k (n ∷ nodes) = grind (arith, nat_tests, rank_most k nodes)

rank_lower : (k j : ℕ) (nodes : List Node) → k ≤ j → rank j nodes ≤ rank k nodes
unfolding rank
rank_lower k j [] le = omega arith
rank_lower k j (n ∷ nodes) le = grind (arith, nat_tests, rank_lower k j nodes le)

rank_falls : (k j : ℕ) (x : Node) (nodes : List Node) → node_at k nodes ≡ Some x → k < j → rank j nodes < rank k nodes
unfolding rank
rank_falls k j x [] at lt = absurd (cc)
rank_falls k j x (n ∷ nodes) at lt = grind (arith, nat_tests, rank_falls k j x nodes, rank_lower k j nodes)

rank_some : (k : ℕ) (x : Node) (nodes : List Node) → node_at k nodes ≡ Some x → 0 < rank k nodes
rank_some k x nodes at = let falls = rank_falls k (k + 1) x nodes at (omega arith) in omega arith

found_serial : (k : ℕ) (x : Node) (nodes : List Node) → node_at k nodes ≡ Some x → x.serial ≡ k
found_serial k x [] at = absurd (cc)
found_serial k x (n ∷ nodes) at = grind (arith, nat_tests, found_serial k x nodes)

-- a node below another, found by its serial
pub record IsBelow (k : ℕ) (nodes : List Node) (n : Node) : Type 0 where
  pub greater : k < n.serial
  pub found : node_at n.serial nodes ≡ Some n

found_behind : (m : Node) (full tail : List Node) → Ascends (m.serial + 1) (serials_of tail) → AllByRecursion (λ n. node_at n.serial full ≡ Some n) tail
    → AllByRecursion (λ n. node_at n.serial (m ∷ full) ≡ Some n) tail
found_behind m full [] asc h = tt
found_behind m full (n ∷ tail) asc h =
    let low = asc.0 in
    let same = h.0 in
    (grind (arith, nat_tests), found_behind m full tail (ascends_lower (m.serial + 1) (n.serial + 1) (serials_of tail) (omega arith) asc.1) h.1)

found_self : (low : ℕ) (nodes : List Node) → Ascends low (serials_of nodes) → AllByRecursion (λ n. node_at n.serial nodes ≡ Some n) nodes
found_self low [] asc = tt
found_self low (n ∷ nodes) asc = (grind (arith, nat_tests), found_behind n nodes nodes asc.1 (found_self (n.serial + 1) nodes asc.1))

kids_below_in : (k : ℕ) (serials : List ℕ) (full nodes : List Node) → AllByRecursion (HasParent serials) nodes → AllByRecursion (λ n. node_at n.serial full ≡ Some n) nodes
    → AllByRecursion (IsBelow k full) (children k nodes)
kids_below_in k serials full [] parents found = tt
kids_below_in k serials full (n ∷ nodes) parents found = by_test (is_child k n) refl (kids_below_in k serials full nodes parents.1 found.1)
  where
    by_test : (b : Bool) → is_child k n ≡ b → AllByRecursion (IsBelow k full) (children k nodes) → AllByRecursion (IsBelow k full) (cond b (n ∷ children k nodes) (children k nodes))
    by_test true b rest = (record { greater = let p = parents.0 in grind (arith, nat_tests); found = found.0 }, rest)
    by_test false b rest = rest

pub kids_below : (t : Tree) → IsTree t → (k : ℕ) → AllByRecursion (IsBelow k t.nodes) (children k t.nodes)
kids_below t h k = kids_below_in k (serials_of t.nodes) t.nodes t.nodes h.parents (found_self 0 t.nodes h.ascends)

-- Enough levels, whatever their number ---------------------------------------------

record Fuelled (n m : ℕ) (nodes : List Node) (x : Node) : Type 0 where
  first : rank x.serial nodes ≤ n
  second : rank x.serial nodes ≤ m
  found : node_at x.serial nodes ≡ Some x

module _ (t : Tree) (h : IsTree t) where
  kids_fuelled : (n m : ℕ) (x : Node) → Fuelled (suc n) (suc m) t.nodes x → (cs : List Node) → AllByRecursion (IsBelow x.serial t.nodes) cs → AllByRecursion (Fuelled n m t.nodes) cs
  kids_fuelled n m x f [] below = tt
  kids_fuelled n m x f (c ∷ cs) below =
      let falls = rank_falls x.serial c.serial x t.nodes f.found below.0.greater in
      (record { first = omega (arith, falls, f.first); second = omega (arith, falls, f.second); found = below.0.found }, kids_fuelled n m x f cs below.1)

  same_fuel : (n m depth : ℕ) (here : List Node) → AllByRecursion (Fuelled n m t.nodes) here → placed n depth t.nodes here ≡ placed m depth t.nodes here
  same_fuel zero zero depth here f = refl
  same_fuel zero (suc m) depth [] f = refl
  same_fuel zero (suc m) depth (x ∷ more) f = absurd (omega (arith, f.0.first, rank_some x.serial x t.nodes f.0.found))
  same_fuel (suc n) zero depth [] f = refl
  same_fuel (suc n) zero depth (x ∷ more) f = absurd (omega (arith, f.0.second, rank_some x.serial x t.nodes f.0.found))
  same_fuel (suc n) (suc m) depth [] f = refl
  same_fuel (suc n) (suc m) depth (x ∷ more) f =
      let kids = same_fuel n m (depth + 1) (children x.serial t.nodes) (kids_fuelled n m x f.0 (children x.serial t.nodes) (kids_below t h x.serial)) in
      let rest = same_fuel (suc n) (suc m) depth more f.1 in
      cc

  -- each of the nodes, by itself
  by_each : (n depth : ℕ) → length t.nodes ≡ suc n → (k : ℕ) (here : List Node) → AllByRecursion (IsBelow k t.nodes) here
      → map row_of (placed (suc n) depth t.nodes here) ≡ each_below t.nodes depth (serials_of here)
  by_each n depth len k [] below = refl
  by_each n depth len k (x ∷ more) below =
      let alone : placed (length t.nodes) depth t.nodes (root_of (node_at x.serial t.nodes)) ≡ placed (suc n) depth t.nodes (x ∷ []) =
      λ i. placed (len i) depth t.nodes (root_of (below.0.found i)) in
      let kids = placed n (depth + 1) t.nodes (children x.serial t.nodes) in
      let split : placed (suc n) depth t.nodes (x ∷ more) ≡ placed (suc n) depth t.nodes (x ∷ []) ++ placed (suc n) depth t.nodes more =
      ap (λ l. record { depth = depth; node = x } ∷ (l ++ placed (suc n) depth t.nodes more)) (sym (append-nil kids)) in
      ap (map row_of) split
      ∙ (map-append row_of (placed (suc n) depth t.nodes (x ∷ [])) (placed (suc n) depth t.nodes more)
      ∙ ap₂ ◌++◌ (sym (ap (map row_of) alone)) (by_each n depth len k more below.1))

  -- a node, and then its children and all below them
  pub row_and_kids : (k depth : ℕ) (x : Node) → node_at k t.nodes ≡ Some x → rows_below t.nodes (row_at depth k) ≡ row_at depth k ∷ each_below t.nodes (depth + 1) (child_serials t.nodes k)
  row_and_kids k depth x at = by (length t.nodes) refl
    where
      nodes : List Node
      nodes = t.nodes

      by : (len : ℕ) → length t.nodes ≡ len → rows_below t.nodes (row_at depth k) ≡ row_at depth k ∷ each_below t.nodes (depth + 1) (child_serials t.nodes k)
      by zero e = absurd (omega (arith, rank_some k x t.nodes at, rank_most k t.nodes))
      by (suc n) e =
          let same : x.serial ≡ k = found_serial k x t.nodes at in
          let found : node_at x.serial t.nodes ≡ Some x = ap (λ j. node_at j t.nodes) same ∙ at in
          let fuelled : Fuelled (suc n) (suc (suc n)) t.nodes x =
          record { first = omega (arith, rank_most x.serial t.nodes); second = omega (arith, rank_most x.serial t.nodes); found = found } in
          let below = kids_below t h x.serial in
          let cs = children x.serial t.nodes in
          let kids : placed n (depth + 1) t.nodes (children x.serial t.nodes) ≡ placed (suc n) (depth + 1) t.nodes (children x.serial t.nodes) =
          same_fuel n (suc n) (depth + 1) (children x.serial t.nodes) (kids_fuelled n (suc n) x fuelled (children x.serial t.nodes) below) in
          let alone : rows_below t.nodes (row_at depth k) ≡ map row_of (placed (suc n) depth t.nodes (x ∷ [])) =
          λ i. map row_of (placed (e i) depth t.nodes (root_of (at i))) in
          let rest : map row_of (placed n (depth + 1) t.nodes (children x.serial t.nodes) ++ []) ≡ each_below t.nodes (depth + 1) (child_serials t.nodes x.serial) =
          ap (map row_of) (append-nil (placed n (depth + 1) t.nodes (children x.serial t.nodes)) ∙ kids) ∙ by_each n (depth + 1) e x.serial (children x.serial t.nodes) below in
          alone ∙ (ap (λ l. row_at depth x.serial ∷ l) rest ∙ ap (λ j. row_at depth j ∷ each_below t.nodes (depth + 1) (child_serials t.nodes j)) same)

-- The stack -------------------------------------------------------------------------

due_push : (nodes : List Node) (rows : List PrintRow) (r : PrintRow) → due nodes (rows ++ r ∷ []) ≡ rows_below nodes r ++ due nodes rows
due_push nodes [] r = sym (append-nil (rows_below nodes r))
due_push nodes (q ∷ rows) r = ap (λ l. l ++ rows_below nodes q) (due_push nodes rows r) ∙ append_assoc (rows_below nodes r) (due nodes rows) (rows_below nodes q)

turned : (depth k : ℕ) (ks : List ℕ) → map (row_at depth) (reverse (k ∷ ks)) ≡ map (row_at depth) (reverse ks) ++ row_at depth k ∷ []
turned depth k ks = ap (map (row_at depth)) (reverse-append (k ∷ []) ks) ∙ map-append (row_at depth) (reverse ks) (k ∷ [])

due_kids : (nodes : List Node) (depth : ℕ) (ks : List ℕ) (rows : List PrintRow)
    → due nodes (rows ++ map (row_at depth) (reverse ks)) ≡ each_below nodes depth ks ++ due nodes rows
due_kids nodes depth [] rows = ap (due nodes) (append-nil rows)
due_kids nodes depth (k ∷ ks) rows =
    let front = map (row_at depth) (reverse ks) in
    ap (λ l. due nodes (rows ++ l)) (turned depth k ks)
    ∙ (ap (due nodes) (sym (append_assoc rows (map (row_at depth) (reverse ks)) (row_at depth k ∷ [])))
    ∙ (due_push nodes (rows ++ map (row_at depth) (reverse ks)) (row_at depth k)
    ∙ (ap (λ l. rows_below nodes (row_at depth k) ++ l) (due_kids nodes depth ks rows)
    ∙ sym (append_assoc (rows_below nodes (row_at depth k)) (each_below nodes depth ks) (due nodes rows)))))

all_turned : (P : PrintRow → Type 0) (depth : ℕ) (ks : List ℕ) → AllByRecursion (λ k. P (row_at depth k)) ks → AllByRecursion P (map (row_at depth) (reverse ks))
all_turned P depth [] h = tt
all_turned P depth (k ∷ ks) h = subst (AllByRecursion P) (sym (turned depth k ks)) (all_push P (map (row_at depth) (reverse ks)) (row_at depth k) (all_turned P depth ks h.1) h.0)

all_both : (P : PrintRow → Type 0) (xs ys : List PrintRow) → AllByRecursion P xs → AllByRecursion P ys → AllByRecursion P (xs ++ ys)
all_both P [] ys h k = k
all_both P (x ∷ xs) ys h k = (h.0, all_both P xs ys h.1 k)

all_front : (P : PrintRow → Type 0) (xs ys : List PrintRow) → AllByRecursion P (xs ++ ys) → AllByRecursion P xs × AllByRecursion P ys
all_front P [] ys h = (tt, h)
all_front P (x ∷ xs) ys h = let rest = all_front P xs ys h.1 in ((h.0, rest.0), rest.1)

-- The loop --------------------------------------------------------------------------

-- what was printed, with what is still to be printed, is all
pub record IsPrinting (nodes : List Node) (rows pending : List PrintRow) : Type 0 where
  pub so_far : rows ++ due nodes pending ≡ map row_of (print_order nodes)
  pub good : AllByRecursion (IsDue nodes) pending

is_there : (k : ℕ) (nodes : List Node) → IsSome (node_at k nodes) → (x : Node) × (node_at k nodes ≡ Some x)
is_there k nodes some = by (node_at k nodes) refl some
  where
    by : (o : Option Node) → node_at k nodes ≡ o → IsSome o → (x : Node) × (node_at k nodes ≡ Some x)
    by None e s = absurd (let no : false ≡ true = s in cc)
    by (Some x) e s = (x, e)

module _ (t : Tree) (h : IsTree t) where
  pub print_start : IsPrinting t.nodes [] (row_at 0 0 ∷ [])
  print_start = record { so_far = refl; good = (record { deep = omega arith; there = root_there (node_at 0 t.nodes) h.root }, tt) }
    where
      root_there : (o : Option Node) → option_map (λ (n : Node). n.parent) o ≡ Some 0 → IsSome o
      root_there None e = absurd (cc)
      root_there (Some x) e = refl

  kids_due : (row : PrintRow) → row.depth ≤ row.serial → (cs : List Node) → AllByRecursion (IsBelow row.serial t.nodes) cs
      → AllByRecursion (λ k. IsDue t.nodes (row_at (row.depth + 1) k)) (serials_of cs)
  kids_due row deep [] below = tt
  kids_due row deep (c ∷ cs) below = (record { deep = omega (arith, below.0.greater); there = ap is_some below.0.found }, kids_due row deep cs below.1)

  module _ (rows pending : List PrintRow) (row : PrintRow) (p : IsPrinting t.nodes rows (pending ++ row ∷ [])) where
    top : IsDue t.nodes row
    top = (all_front (IsDue t.nodes) pending (row ∷ []) p.good).1.0

    top_rows : rows_below t.nodes row ≡ row ∷ each_below t.nodes (row.depth + 1) (child_serials t.nodes row.serial)
    top_rows = let x = is_there row.serial t.nodes top.there in row_and_kids t h row.serial row.depth x.0 x.1

    due_before : due t.nodes (pending ++ row ∷ []) ≡ row ∷ (each_below t.nodes (row.depth + 1) (child_serials t.nodes row.serial) ++ due t.nodes pending)
    due_before = due_push t.nodes pending row ∙ ap (λ l. l ++ due t.nodes pending) top_rows

    due_after : due t.nodes (pending ++ map (row_at (row.depth + 1)) (reverse (child_serials t.nodes row.serial))) ≡ each_below t.nodes (row.depth + 1) (child_serials t.nodes row.serial) ++ due t.nodes pending
    due_after = due_kids t.nodes (row.depth + 1) (child_serials t.nodes row.serial) pending

    -- the top is printed, and its children take its place
    pub print_step : IsPrinting t.nodes (rows ++ row ∷ []) (pending ++ map (row_at (row.depth + 1)) (reverse (child_serials t.nodes row.serial)))
    print_step = record {
      so_far =
          ap (λ l. (rows ++ row ∷ []) ++ l) due_after
          ∙ (append_assoc rows (row ∷ []) (each_below t.nodes (row.depth + 1) (child_serials t.nodes row.serial) ++ due t.nodes pending)
          ∙ (ap (λ l. rows ++ l) (sym due_before) ∙ p.so_far));
      good = all_both (IsDue t.nodes) pending (map (row_at (row.depth + 1)) (reverse (child_serials t.nodes row.serial)))
          (all_front (IsDue t.nodes) pending (row ∷ []) p.good).0
          (all_turned (IsDue t.nodes) (row.depth + 1) (child_serials t.nodes row.serial) (kids_due row top.deep (children row.serial t.nodes) (kids_below t h row.serial)));
    }

    pub print_less : length (due t.nodes (pending ++ map (row_at (row.depth + 1)) (reverse (child_serials t.nodes row.serial)))) < length (due t.nodes (pending ++ row ∷ []))
    print_less = rw (due_after, due_before) (omega arith)

    -- no row is deeper than its serial
    pub print_deep : row.depth < 2 ^ 63
    print_deep =
        let low = has_below t.next row.serial (serials_of t.nodes) h.below (has_some row.serial t.nodes top.there) in
        let few = h.few in
        let deep = top.deep in
        omega arith

pub print_end : (nodes : List Node) (rows : List PrintRow) → IsPrinting nodes rows [] → rows ≡ map row_of (print_order nodes)
print_end nodes rows p = sym (append-nil rows) ∙ p.so_far

pub at_ok : {T E : Type 0} {P : Type 0} (r : Result T E) {x : T} → r ≡ Ok x → OnOk r P → P
at_ok (Ok y) e h = h
at_ok (Err y) e h = absurd (cc)
