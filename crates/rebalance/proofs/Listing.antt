-- All nodes are printed: so the devices that are asked are found among those.
use Rattle.std.proofs.Common.{◌≡◌, ◌≢◌, ℕ, zero, suc, ◌==◌, ◌+◌, ◌<◌, ◌≤◌, ◌⊎◌, inl, inr, Bool, true, false, ◌&&◌, ◌||◌, cond, List, [], ◌∷◌, ◌++◌, map, Option, Some, None, nat_lt, refl, sym, ap, ◌∙◌, subst, arith}
use Rattle.std.specs.BTreeSet.{insert_key}
use Rattle.std.specs.Ordering.{nat_cmp, match_ordering}
use Rattle.std.specs.declared.cmp.Ordering.{Ordering}
use Rattle.std.proofs.lemmas.Bool.{cases_eq}
use Rattle.std.proofs.lemmas.Bool.Decides.{nat_tests}
use Rattle.pnp_model.specs.Cores.{node_at, serials_of}
use Rattle.pnp_model.specs.Keyed.{those}
use Rattle.pnp_model.specs.Records.{Node}
use Rattle.pnp_model.specs.Tests.{has}
use Rattle.pnp_model.specs.Trees.{is_child}
use Rattle.pnp_model.specs.Endings.{Placed, print_order}
use Rattle.pnp_model.specs.Rebalances.{is_asked}
use Rattle.pnp_laws.specs.Kept.{Ascending}
use Rattle.pnp_laws.proofs.Closures.{those_serial}
use Rattle.pnp_laws.proofs.Lists.{those_found}
use Rattle.pnp_laws.proofs.Lookups.{own_serial}
use Rattle.relations.proofs.Directs.{ascending}
use Rattle.devnode_tree.specs.Entries.{child_serials}
use Rattle.devnode_tree.specs.Rows.{row_at, row_of}
use Rattle.devnode_tree.specs.Trees.{Tree, IsTree, Ascends}
use Rattle.devnode_tree.specs.declared.print.PrintRow.{PrintRow}
use Rattle.devnode_tree.proofs.Ascending.{ascends_lower}
use Rattle.devnode_tree.proofs.Printing.{rows_below, each_below, row_and_kids}
use Rattle.rebalance.specs.Frames.{is_asked_in}
use Rattle.devnode_tree.proofs.Climbs.{parent_at}

abbrev serial_rows : List PrintRow → List ℕ
serial_rows rows = map (λ (r : PrintRow). r.serial) rows

has_front : (j : ℕ) (xs ys : List PrintRow) → has (serial_rows xs) j ≡ true → has (serial_rows (xs ++ ys)) j ≡ true
has_front j [] ys h = absurd (cc)
has_front j (x ∷ xs) ys h = elim (cases_eq x.serial j) [
  | inl e ↦ grind (arith, nat_tests)
  | inr d ↦ (let more = has_front j xs ys (grind (arith, nat_tests)) in grind (arith, nat_tests))
]

has_back : (j : ℕ) (xs ys : List PrintRow) → has (serial_rows ys) j ≡ true → has (serial_rows (xs ++ ys)) j ≡ true
has_back j [] ys h = h
has_back j (x ∷ xs) ys h = let more = has_back j xs ys h in grind (arith, nat_tests)

-- the rows of one of these are among the rows of all
each_has : (nodes : List Node) (depth i k : ℕ) (ks : List ℕ) → has ks k ≡ true → has (serial_rows (rows_below nodes (row_at depth k))) i ≡ true → has (serial_rows (each_below nodes depth ks)) i ≡ true
each_has nodes depth i k [] own h = absurd (cc)
each_has nodes depth i k (j ∷ js) own h = elim (cases_eq j k) [
  | inl e ↦ has_front i (rows_below nodes (row_at depth j)) (each_below nodes depth js) (subst (λ x. has (serial_rows (rows_below nodes (row_at depth x))) i ≡ true) (sym e) h)
  | inr d ↦ has_back i (rows_below nodes (row_at depth j)) (each_below nodes depth js) (each_has nodes depth i k js (grind (arith, nat_tests)) h)
]

-- all rows of a node are among those of the root
abbrev IsBelowRoot : List Node → ℕ → Type 0
IsBelowRoot nodes k = (depth : ℕ) × ((i : ℕ) → has (serial_rows (rows_below nodes (row_at depth k))) i ≡ true → has (serial_rows (rows_below nodes (row_at 0 0))) i ≡ true)

module _ (t : Tree) (tree : IsTree t) where
  order : Ascending 0 t.nodes
  order = ascending 0 t.nodes tree.ascends

  is_child_of : (k : ℕ) (n : Node) → node_at k t.nodes ≡ Some n → k ≢ 0 → has (child_serials t.nodes n.parent) k ≡ true
  is_child_of k n at up =
      let own = own_serial k n t.nodes at in
      those_serial 0 (is_child n.parent) t.nodes k n order at (grind (arith, nat_tests))

  own_first : (k depth : ℕ) (n : Node) → node_at k t.nodes ≡ Some n → (i : ℕ) → has (k ∷ serial_rows (each_below t.nodes (depth + 1) (child_serials t.nodes k))) i ≡ true → has (serial_rows (rows_below t.nodes (row_at depth k))) i ≡ true
  own_first k depth n at i h = subst (λ rows. has (serial_rows rows) i ≡ true) (sym (row_and_kids t tree k depth n at)) h

  below_root : (limit k : ℕ) (n : Node) → k ≤ limit → node_at k t.nodes ≡ Some n → IsBelowRoot t.nodes k
  below_root limit zero n le at = (0, λ i h. h)
  below_root zero (suc k) n le at = absurd (omega arith)
  below_root (suc limit) (suc k) n le at =
      let up = parent_at t tree (suc k) n at (λ z. absurd (omega arith)) in
      let low = up.0 in
      let more = below_root limit n.parent up.1.0 (omega arith) up.1.1 in
      let depth = more.0 in (
        depth + 1,
        (λ i h. more.1 i (own_first n.parent depth up.1.0 up.1.1 i
            (let kids = each_has t.nodes (depth + 1) i (suc k) (child_serials t.nodes n.parent) (is_child_of (suc k) n at (λ z. absurd (omega arith))) h in grind (arith, nat_tests)))),
      )

  printed_rows : (k : ℕ) (n : Node) → node_at k t.nodes ≡ Some n → has (serial_rows (rows_below t.nodes (row_at 0 0))) k ≡ true
  printed_rows k n at =
      let below = below_root k k n (omega arith) at in
      below.1 k (own_first k below.0 n at k (grind (arith, nat_tests)))

  serials_printed : (ps : List Placed) → serial_rows (map row_of ps) ≡ map (λ (p : Placed). p.node.serial) ps
  serials_printed [] = refl
  serials_printed (p ∷ ps) = ap (λ l. p.node.serial ∷ l) (serials_printed ps)

  -- each node is printed
  pub is_printed : (k : ℕ) (n : Node) → node_at k t.nodes ≡ Some n → has (map (λ (p : Placed). p.node.serial) (print_order t.nodes)) k ≡ true
  is_printed k n at = subst (λ ks. has ks k ≡ true) (serials_printed (print_order t.nodes)) (printed_rows k n at)

  -- those that are asked, by their serials
  asked_are : (k : ℕ) → has (serials_of (those is_asked t.nodes)) k ≡ is_asked_in (node_at k t.nodes)
  asked_are k = both (has (serials_of (those is_asked t.nodes)) k) (is_asked_in (node_at k t.nodes)) into out
    where
      both : (a b : Bool) → (a ≡ true → b ≡ true) → (b ≡ true → a ≡ true) → a ≡ b
      both true true f g = refl
      both false false f g = refl
      both true false f g = let no = f refl in cc
      both false true f g = let no = g refl in cc

      into : has (serials_of (those is_asked t.nodes)) k ≡ true → is_asked_in (node_at k t.nodes) ≡ true
      into h = let found = those_found 0 is_asked t.nodes k order h in ap is_asked_in found.1 ∙ found.2

      out : is_asked_in (node_at k t.nodes) ≡ true → has (serials_of (those is_asked t.nodes)) k ≡ true
      out h = by (node_at k t.nodes) refl h
        where
          by : (o : Option Node) → node_at k t.nodes ≡ o → is_asked_in o ≡ true → has (serials_of (those is_asked t.nodes)) k ≡ true
          by None at h = absurd (cc)
          by (Some n) at h = those_serial 0 is_asked t.nodes k n order at h

  order_those : (low : ℕ) (nodes : List Node) → Ascends low (serials_of nodes) → Ascends low (serials_of (those is_asked nodes))
  order_those low [] up = tt
  order_those low (n ∷ ns) up = by (is_asked n) refl (order_those (n.serial + 1) ns up.1)
    where
      by : (b : Bool) → is_asked n ≡ b → Ascends (n.serial + 1) (serials_of (those is_asked ns)) → Ascends low (serials_of (cond b (n ∷ those is_asked ns) (those is_asked ns)))
      by true e more = (up.0, more)
      by false e more = ascends_lower low (n.serial + 1) (serials_of (those is_asked ns)) (let first = up.0 in omega arith) more

  asked_order : Ascends 0 (serials_of (those is_asked t.nodes))
  asked_order = order_those 0 t.nodes tree.ascends

-- Serials in order ------------------------------------------------------------------------

has_lower : (low k : ℕ) (ks : List ℕ) → Ascends low ks → has ks k ≡ true → low ≤ k
has_lower low k [] up h = absurd (cc)
has_lower low k (j ∷ js) up h = elim (cases_eq j k) [
  | inl e ↦ (let first = up.0 in omega arith)
  | inr d ↦ (let more = has_lower (j + 1) k js up.1 (grind (arith, nat_tests)) in let first = up.0 in omega arith)
]

-- two lists in order with the same members are the same
pub same_order : (low : ℕ) (xs ys : List ℕ) → Ascends low xs → Ascends low ys → ((k : ℕ) → has xs k ≡ has ys k) → xs ≡ ys
same_order low [] [] up over same = refl
same_order low [] (y ∷ ys) up over same = absurd (let h = same y in let own : has (y ∷ ys) y ≡ true = grind (arith, nat_tests) in cc)
same_order low (x ∷ xs) [] up over same = absurd (let h = same x in let own : has (x ∷ xs) x ≡ true = grind (arith, nat_tests) in cc)
same_order low (x ∷ xs) (y ∷ ys) up over same =
    let x_in : has (y ∷ ys) x ≡ true = sym (same x) ∙ grind (arith, nat_tests) in
    let y_in : has (x ∷ xs) y ≡ true = same y ∙ grind (arith, nat_tests) in
    let y_low = has_lower y x (y ∷ ys) (omega arith, over.1) x_in in
    let x_low = has_lower x y (x ∷ xs) (omega arith, up.1) y_in in
    let first : x ≡ y = omega arith in
    let over_x : Ascends (x + 1) ys = subst (λ i. Ascends (i + 1) ys) (sym first) over.1 in
    let rest : (k : ℕ) → has xs k ≡ has ys k = λ k. elim (cases_eq x k) [
      | inl e ↦ none_at x k xs ys up.1 over_x e
      | inr d ↦ (let h = same k in grind (arith, nat_tests))
    ] in
    ap (λ i. i ∷ xs) first ∙ ap (λ l. y ∷ l) (same_order (x + 1) xs ys up.1 over_x rest)
  where
    none_of : (x k : ℕ) (ks : List ℕ) → Ascends (x + 1) ks → x ≡ k → has ks k ≡ false
    none_of x k ks up e = by (has ks k) refl
      where
        by : (b : Bool) → has ks k ≡ b → b ≡ false
        by true h = absurd (let low = has_lower (x + 1) k ks up h in omega arith)
        by false h = refl

    none_at : (x k : ℕ) (xs ys : List ℕ) → Ascends (x + 1) xs → Ascends (x + 1) ys → x ≡ k → has xs k ≡ has ys k
    none_at x k xs ys up over e = none_of x k xs up e ∙ sym (none_of x k ys over e)

-- A serial is put in -----------------------------------------------------------------------

compared : (k x : ℕ) → ((k < x) × (nat_cmp k x ≡ Ordering.Less)) ⊎ (((k ≡ x) × (nat_cmp k x ≡ Ordering.Equal)) ⊎ ((x < k) × (nat_cmp k x ≡ Ordering.Greater)))
compared k x = by (nat_lt k x) refl (k == x) refl
  where
    by : (b : Bool) → nat_lt k x ≡ b → (c : Bool) → (k == x) ≡ c
        → ((k < x) × (cond (nat_lt k x) Ordering.Less (cond (k == x) Ordering.Equal Ordering.Greater) ≡ Ordering.Less))
        ⊎ (((k ≡ x) × (cond (nat_lt k x) Ordering.Less (cond (k == x) Ordering.Equal Ordering.Greater) ≡ Ordering.Equal))
        ⊎ ((x < k) × (cond (nat_lt k x) Ordering.Less (cond (k == x) Ordering.Equal Ordering.Greater) ≡ Ordering.Greater)))
    by true l c e = inl (grind (arith, nat_tests), ap (λ b. cond b Ordering.Less (cond (k == x) Ordering.Equal Ordering.Greater)) l)
    by false l true e = inr (inl (grind (arith, nat_tests), ap (λ b. cond b Ordering.Less (cond (k == x) Ordering.Equal Ordering.Greater)) l ∙ ap (λ b. cond b Ordering.Equal Ordering.Greater) e))
    by false l false e = inr (inr (grind (arith, nat_tests), ap (λ b. cond b Ordering.Less (cond (k == x) Ordering.Equal Ordering.Greater)) l ∙ ap (λ b. cond b Ordering.Equal Ordering.Greater) e))

insert_at : (k x : ℕ) (xs : List ℕ) (r : Ordering) → nat_cmp k x ≡ r → insert_key nat_cmp (x ∷ xs) k ≡ match_ordering r (k ∷ x ∷ xs) (x ∷ xs) (x ∷ insert_key nat_cmp xs k)
insert_at k x xs r e = ap (λ r. match_ordering r (k ∷ x ∷ xs) (x ∷ xs) (x ∷ insert_key nat_cmp xs k)) e

pub inserted_has : (k j : ℕ) (ks : List ℕ) → has (insert_key nat_cmp ks k) j ≡ ((k == j) || has ks j)
inserted_has k j [] = refl
inserted_has k j (x ∷ xs) = elim (compared k x) [
  | inl (l, e) ↦ ap (λ ks. has ks j) (insert_at k x xs Ordering.Less e)
  | inr (inl (s, e)) ↦ ap (λ ks. has ks j) (insert_at k x xs Ordering.Equal e) ∙ grind (arith, nat_tests)
  | inr (inr (g, e)) ↦ ap (λ ks. has ks j) (insert_at k x xs Ordering.Greater e) ∙ (let more = inserted_has k j xs in grind (arith, nat_tests))
]

pub inserted_order : (low k : ℕ) (ks : List ℕ) → Ascends low ks → low ≤ k → Ascends low (insert_key nat_cmp ks k)
inserted_order low k [] up le = (le, tt)
inserted_order low k (x ∷ xs) up le = elim (compared k x) [
  | inl (l, e) ↦ subst (Ascends low) (sym (insert_at k x xs Ordering.Less e)) (le, (omega arith, up.1))
  | inr (inl (s, e)) ↦ subst (Ascends low) (sym (insert_at k x xs Ordering.Equal e)) up
  | inr (inr (g, e)) ↦ subst (Ascends low) (sym (insert_at k x xs Ordering.Greater e)) (up.0, inserted_order (x + 1) k xs up.1 (omega arith))
]

-- The set so far -----------------------------------------------------------------------------

-- it has those of these that are asked
pub record IsCollected (nodes : List Node) (seen keys : List ℕ) : Type 0 where
  pub order : Ascends 0 keys
  pub members : (k : ℕ) → has keys k ≡ (has seen k && is_asked_in (node_at k nodes))

has_last : (xs : List ℕ) (k j : ℕ) → has (xs ++ k ∷ []) j ≡ (has xs j || (k == j))
has_last [] k j = or_false (k == j)
  where
    or_false : (b : Bool) → (b || false) ≡ b
    or_false true = refl
    or_false false = refl
has_last (x ∷ xs) k j = let more = has_last xs k j in grind (arith)

module _ (nodes : List Node) (seen keys : List ℕ) (k : ℕ) (so_far : IsCollected nodes seen keys) where
  pub collected_more : (new : List ℕ) → new ≡ insert_key nat_cmp keys k → is_asked_in (node_at k nodes) ≡ true → IsCollected nodes (seen ++ k ∷ []) new
  collected_more new is asks = record {
    order = subst (Ascends 0) (sym is) (inserted_order 0 k keys so_far.order (omega arith));
    members = λ j.
        ap (λ ks. has ks j) is ∙ (inserted_has k j keys ∙ (ap (λ b. (k == j) || b) (so_far.members j) ∙ (here j ∙ ap (λ b. b && is_asked_in (node_at j nodes)) (sym (has_last seen k j)))));
  }
    where
      here : (j : ℕ) → ((k == j) || (has seen j && is_asked_in (node_at j nodes))) ≡ ((has seen j || (k == j)) && is_asked_in (node_at j nodes))
      here j = elim (cases_eq k j) [
        | inl e ↦ (let asks_j : is_asked_in (node_at j nodes) ≡ true = subst (λ i. is_asked_in (node_at i nodes) ≡ true) e asks in let same : (k == j) ≡ true = grind (arith, nat_tests) in by_same (k == j) (has seen j) (is_asked_in (node_at j nodes)) same asks_j)
        | inr d ↦ (let other : (k == j) ≡ false = grind (arith, nat_tests) in by_other (k == j) (has seen j) (is_asked_in (node_at j nodes)) other)
      ]
        where
          by_same : (a b c : Bool) → a ≡ true → c ≡ true → (a || (b && c)) ≡ ((b || a) && c)
          by_same true true true e f = refl
          by_same true false true e f = refl
          by_same true b false e f = absurd (cc)
          by_same false b c e f = absurd (cc)

          by_other : (a b c : Bool) → a ≡ false → (a || (b && c)) ≡ ((b || a) && c)
          by_other false true c e = refl
          by_other false false c e = refl
          by_other true b c e = absurd (cc)

  pub collected_same : is_asked_in (node_at k nodes) ≡ false → IsCollected nodes (seen ++ k ∷ []) keys
  collected_same not_asked = record {
    order = so_far.order;
    members = λ j. so_far.members j ∙ (here j ∙ ap (λ b. b && is_asked_in (node_at j nodes)) (sym (has_last seen k j)));
  }
    where
      here : (j : ℕ) → (has seen j && is_asked_in (node_at j nodes)) ≡ ((has seen j || (k == j)) && is_asked_in (node_at j nodes))
      here j = elim (cases_eq k j) [
        | inl e ↦ (let no : is_asked_in (node_at j nodes) ≡ false = subst (λ i. is_asked_in (node_at i nodes) ≡ false) e not_asked in by_no (k == j) (has seen j) (is_asked_in (node_at j nodes)) no)
        | inr d ↦ (let other : (k == j) ≡ false = grind (arith, nat_tests) in by_other (k == j) (has seen j) (is_asked_in (node_at j nodes)) other)
      ]
        where
          by_no : (a b c : Bool) → c ≡ false → (b && c) ≡ ((b || a) && c)
          by_no a true false e = refl
          by_no true false false e = refl
          by_no false false false e = refl
          by_no a b true e = absurd (cc)

          by_other : (a b c : Bool) → a ≡ false → (b && c) ≡ ((b || a) && c)
          by_other false true c e = refl
          by_other false false c e = refl
          by_other true b c e = absurd (cc)

-- where all nodes were seen it has all that are asked
pub all_collected : (t : Tree) → IsTree t → (seen keys : List ℕ) → seen ≡ map (λ (p : Placed). p.node.serial) (print_order t.nodes) → IsCollected t.nodes seen keys → keys ≡ serials_of (those is_asked t.nodes)
all_collected t tree seen keys all so_far =
    same_order 0 keys (serials_of (those is_asked t.nodes)) so_far.order (asked_order t tree)
    (λ k. so_far.members k ∙ (by k (node_at k t.nodes) refl ∙ sym (asked_are t tree k)))
  where
    by : (k : ℕ) (o : Option Node) → node_at k t.nodes ≡ o → (has seen k && is_asked_in (node_at k t.nodes)) ≡ is_asked_in (node_at k t.nodes)
    by k None at = ap (λ o. has seen k && is_asked_in o) at ∙ (and_false (has seen k) ∙ ap is_asked_in (sym at))
      where
        and_false : (b : Bool) → (b && false) ≡ false
        and_false true = refl
        and_false false = refl
    by k (Some n) at = ap (λ b. b && is_asked_in (node_at k t.nodes)) (ap (λ ks. has ks k) all ∙ is_printed t tree k n at)
