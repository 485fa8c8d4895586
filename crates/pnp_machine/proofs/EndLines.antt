-- The lines of the end of the output: the tree, what is held, what is outstanding, and the handles that are open.
use Rattle.std.proofs.Common.{◌≡◌, ℕ, zero, suc, ◌+◌, ◌<◌, ◌≤◌, ◌==◌, Bool, true, false, cond, List, [], ◌∷◌, ◌++◌, Option, Some, None, map, length, refl, sym, ◌∙◌, ap, subst, arith, append_assoc, append-nil, length-append, nat_lt}
use Rattle.std.proofs.lemmas.List.{drop_all, length-map}
use Rattle.std.specs.List.{AllByRecursion}
use Rattle.std.specs.Prelude.{codes, slice_get, drop}
use Rattle.std.proofs.lemmas.Bool.Decides.{nat_tests}
use Rattle.range_arbiter.specs.Pairs.{Pair}
use Rattle.device_holdings.specs.MapRows.{row_of as row_of_pair}
use Rattle.pnp_labels.specs.Texts.{Text}
use Rattle.pnp_model.specs.Cores.{node_at, serials_of, core_of}
use Rattle.pnp_model.specs.Endings.{Placed, placed, print_order, root_of, map_rows, joined, tree_line, map_line, ending, outstanding_line, outstanding_text, outstanding, operation_rows, at_row, activity_rows, walk_row, waiting_row, serial_before, Outstanding, handles_part}
use Rattle.pnp_model.specs.Keyed.{in_order, put_before, those}
use Rattle.pnp_model.specs.Machine.{phase_walk}
use Rattle.pnp_model.specs.Records.{Node, Core, Driver, Handle, Activity, Job, State, Walk}
use Rattle.pnp_model.specs.Trees.{children, is_child}
use Rattle.pnp_laws.specs.Kept.{InOrder}
use Rattle.devnode_tree.specs.Rows.{row_of}
use Rattle.devnode_tree.specs.Trees.{Ascends, Tree}
use Rattle.devnode_tree.specs.declared.print.PrintRow.{PrintRow}
use Rattle.pnp_machine.specs.Endings.{RowAdded, below_tree, ending_from, works_lines, operation_lines, handles_lines}
use Rattle.pnp_machine.proofs.Texts.{joined_append}

all_those : {A : Type 0} (P : A → Type 0) (test : A → Bool) (xs : List A) → AllByRecursion P xs → AllByRecursion P (those test xs)
all_those P test [] all = tt
all_those P test (x ∷ xs) all =
    elim (test x) as (λ b. AllByRecursion P (cond b (x ∷ those test xs) (those test xs))) [
      | true ↦ (all.0, all_those P test xs all.1)
      | false ↦ all_those P test xs all.1
    ]

found_later : (n : Node) (nodes xs : List Node) (low : ℕ) → n.serial < low → Ascends low (serials_of xs)
    → AllByRecursion (λ x. node_at x.serial nodes ≡ Some x) xs → AllByRecursion (λ x. node_at x.serial (n ∷ nodes) ≡ Some x) xs
found_later n nodes [] low less ascends all = tt
found_later n nodes (x ∷ xs) low less ascends all =
    let least : low ≤ x.serial = ascends.0 in
    let apart : (n.serial == x.serial) ≡ false = grind (arith, nat_tests) in
    (rw apart all.0, found_later n nodes xs (x.serial + 1) (omega arith) ascends.1 all.1)

found_all : (nodes : List Node) (low : ℕ) → Ascends low (serials_of nodes) → AllByRecursion (λ x. node_at x.serial nodes ≡ Some x) nodes
found_all [] low ascends = tt
found_all (n ∷ nodes) low ascends =
    let here : (n.serial == n.serial) ≡ true = grind (arith, nat_tests) in
    (rw here refl, found_later n nodes nodes (n.serial + 1) (omega arith) ascends.1 (found_all nodes (n.serial + 1) ascends.1))

-- what is found at a number has that number
found_number : (k : ℕ) (nodes : List Node) (n : Node) → node_at k nodes ≡ Some n → n.serial ≡ k
found_number k [] n h = cc
found_number k (x ∷ xs) n h = grind (arith, nat_tests, found_number k xs n)

found_by : (k : ℕ) (nodes : List Node) (n : Node) → node_at k nodes ≡ Some n → node_at n.serial nodes ≡ Some n
found_by k nodes n h = let P : ℕ → Type 0 = λ j. node_at j nodes ≡ Some n in subst P (sym (found_number k nodes n h)) h

all_appended : {A : Type 0} (P : A → Type 0) (xs ys : List A) → AllByRecursion P xs → AllByRecursion P ys → AllByRecursion P (xs ++ ys)
all_appended P [] ys h g = g
all_appended P (x ∷ xs) ys h g = (h.0, all_appended P xs ys h.1 g)

found_placed : (nodes : List Node) → AllByRecursion (λ x. node_at x.serial nodes ≡ Some x) nodes → (n depth : ℕ) (here : List Node)
    → AllByRecursion (λ x. node_at x.serial nodes ≡ Some x) here → AllByRecursion (λ p. node_at p.node.serial nodes ≡ Some p.node) (placed n depth nodes here)
found_placed nodes all zero depth here h = tt
found_placed nodes all (suc n) depth [] h = tt
found_placed nodes all (suc n) depth (x ∷ xs) h = (
  h.0,
  all_appended (λ p. node_at p.node.serial nodes ≡ Some p.node) (placed n (depth + 1) nodes (children x.serial nodes)) (placed (suc n) depth nodes xs)
      (found_placed nodes all n (depth + 1) (children x.serial nodes) (all_those (λ y. node_at y.serial nodes ≡ Some y) (is_child x.serial) nodes all))
      (found_placed nodes all (suc n) depth xs h.1),
)

-- each row of the tree is a node that is found by its serial
pub rows_found : (nodes : List Node) → Ascends 0 (serials_of nodes) → AllByRecursion (λ p. node_at p.node.serial nodes ≡ Some p.node) (print_order nodes)
rows_found nodes ascends = found_placed nodes (found_all nodes 0 ascends) (length nodes) 0 (root_of (node_at 0 nodes)) root
  where
    root_found : (o : Option Node) → node_at 0 nodes ≡ o → AllByRecursion (λ x. node_at x.serial nodes ≡ Some x) (root_of o)
    root_found None is = tt
    root_found (Some r) is = (found_by 0 nodes r is, tt)

    root : AllByRecursion (λ x. node_at x.serial nodes ≡ Some x) (root_of (node_at 0 nodes))
    root = root_found (node_at 0 nodes) refl

-- a row, and the rows from it on
pub record IsRow (nodes : List Node) (order : List Placed) (i : ℕ) (row : PrintRow) : Type 0 where
  pub placed_at : Placed
  pub is : row ≡ row_of placed_at
  pub rest : drop i order ≡ placed_at ∷ drop (i + 1) order
  pub found : node_at placed_at.node.serial nodes ≡ Some placed_at.node

one_more : (i : ℕ) → suc (i + 1) ≡ suc i + 1
one_more i = omega arith

row_later : (nodes : List Node) (p : Placed) (order : List Placed) (i : ℕ) (row : PrintRow) → IsRow nodes order i row → IsRow nodes (p ∷ order) (suc i) row
row_later nodes p order i row h =
    record {
      placed_at = h.placed_at;
      is = h.is;
      rest = h.rest ∙ ap (λ n. h.placed_at ∷ drop n (p ∷ order)) (one_more i);
      found = h.found;
    }

row_there : (nodes : List Node) (order : List Placed) (i : ℕ) (row : PrintRow) → AllByRecursion (λ p. node_at p.node.serial nodes ≡ Some p.node) order
    → slice_get (map row_of order) i ≡ Some row → IsRow nodes order i row
row_there nodes [] i row all h = cc
row_there nodes (p ∷ order) zero row all h = record { placed_at = p; is = cc; rest = refl; found = all.0 }
row_there nodes (p ∷ order) (suc i) row all h = row_later nodes p order i row (row_there nodes order i row all.1 h)

-- one row more
pub tree_next : (t : Tree) (rows : List PrintRow) (i : ℕ) (row : PrintRow) (out out' whole : Text) → rows ≡ map row_of (print_order t.nodes)
    → slice_get rows i ≡ Some row → RowAdded t row out out'
    → out ++ joined (map tree_line (drop i (print_order t.nodes))) ≡ whole → out' ++ joined (map tree_line (drop (i + 1) (print_order t.nodes))) ≡ whole
tree_next t rows i row out out' whole are read added so_far =
    let order : List Placed = print_order t.nodes in
    let P : List PrintRow → Type 0 = λ rs. slice_get rs i ≡ Some row in
    let here : IsRow t.nodes order i row = row_there t.nodes order i row (rows_found t.nodes added.tree.ascends) (subst P are read) in
    let p : Placed = here.placed_at in
    let Q : PrintRow → Type 0 = λ r. RowAdded t r out out' in
    let line : RowAdded t (row_of p) out out' = subst Q here.is added in
    ap (λ x. x ++ joined (map tree_line (drop (i + 1) order))) (line.line p.node here.found)
    ∙ append_assoc out (joined (tree_line p ∷ [])) (joined (map tree_line (drop (i + 1) order)))
    ∙ ap (λ x. out ++ x) (sym (joined_append (tree_line p ∷ []) (map tree_line (drop (i + 1) order))))
    ∙ ap (λ ps. out ++ joined (map tree_line ps)) (sym here.rest)
    ∙ so_far

-- What is held --------------------------------------------------------------------------------

-- The requests that wait, in order of serial ----------------------------------------------------

map_append : {A B : Type 0} (f : A → B) (xs ys : List A) → map f (xs ++ ys) ≡ map f xs ++ map f ys
map_append f [] ys = refl
map_append f (x ∷ xs) ys = ap (λ l. f x ∷ l) (map_append f xs ys)

-- a line says nothing of what is related or reserved
line_same : (c : Core) (row : Outstanding) → outstanding_line c row ≡ outstanding_line (core_of c.nodes [] c.rack []) row
line_same c row = by_node (node_at row.serial c.nodes)
  where
    by_node : (o : Option Node) → outstanding_text c row o ≡ outstanding_text (core_of c.nodes [] c.rack []) row o
    by_node None = refl
    by_node (Some n) = refl

lines_same : (c : Core) (rows : List Outstanding) → map (outstanding_line c) rows ≡ map (outstanding_line (core_of c.nodes [] c.rack [])) rows
lines_same c [] = refl
lines_same c (row ∷ rows) =
    ap (λ l. l ∷ map (outstanding_line c) rows) (line_same c row) ∙ ap (λ rest. outstanding_line (core_of c.nodes [] c.rack []) row ∷ rest) (lines_same c rows)

-- the rows stand in order from lo on
abbrev RowsFrom : ℕ → List Outstanding → Type 0
RowsFrom lo [] = Unit {0}
RowsFrom lo (r ∷ rows) = (lo ≤ r.serial) × RowsFrom (suc r.serial) rows

rows_weaker : (lo hi : ℕ) (rows : List Outstanding) → lo ≤ hi → RowsFrom hi rows → RowsFrom lo rows
rows_weaker lo hi [] le h = tt
rows_weaker lo hi (r ∷ rows) le h = let up : hi ≤ r.serial = h.0 in (omega arith, h.1)

rows_in : (lo : ℕ) (works : List Activity) → InOrder lo works → RowsFrom lo (activity_rows works)
rows_in lo [] h = tt
rows_in lo (a ∷ works) h = by_walk (phase_walk a.phase) (rows_in (suc a.serial) works h.1)
  where
    by_walk : (w : Option Walk) → RowsFrom (suc a.serial) (activity_rows works) → RowsFrom lo (walk_row a.serial w ++ activity_rows works)
    by_walk None more = let up : lo ≤ a.serial = h.0 in rows_weaker lo (suc a.serial) (activity_rows works) (omega arith) more
    by_walk (Some w) more =
        let up : lo ≤ a.serial = h.0 in
        elim w.waits as (λ b. RowsFrom lo (waiting_row a.serial w b ++ activity_rows works)) [
          | true ↦ (up, more)
          | false ↦ rows_weaker lo (suc a.serial) (activity_rows works) (omega arith) more
        ]

in_order_same : (lo : ℕ) (rows : List Outstanding) → RowsFrom lo rows → in_order serial_before rows ≡ rows
in_order_same lo [] h = refl
in_order_same lo (r ∷ rows) h = ap (put_before (serial_before r) r) (in_order_same (suc r.serial) rows h.1) ∙ first rows h.1
  where
    first : (rows : List Outstanding) → RowsFrom (suc r.serial) rows → put_before (serial_before r) r rows ≡ r ∷ rows
    first [] h = refl
    first (q ∷ rows) h =
        let up : suc r.serial ≤ q.serial = h.0 in
        let less : nat_lt r.serial q.serial ≡ true = grind (arith, nat_tests) in
        ap (λ b. cond b (r ∷ q ∷ rows) (q ∷ put_before (serial_before r) r rows)) less

-- a row of one request stands in order
one_row : (k : Option ℕ) (w : Option Walk) → in_order serial_before (at_row w k ++ []) ≡ at_row w k
one_row None w = refl
one_row (Some k) None = refl
one_row (Some k) (Some w) = by_wait w.waits
  where
    by_wait : (b : Bool) → in_order serial_before (waiting_row k w b ++ []) ≡ waiting_row k w b
    by_wait true = refl
    by_wait false = refl

append_nothing : {A : Type 0} (xs : List A) → xs ++ [] ≡ xs
append_nothing [] = refl
append_nothing (x ∷ xs) = ap (λ rest. x ∷ rest) (append_nothing xs)

-- while an operation runs no device starts, so the rows stand in order
rows_are : (operation : Option Job) (works : List Activity) → InOrder 0 works → ((o : Job) → operation ≡ Some o → works ≡ [])
    → in_order serial_before (operation_rows operation ++ activity_rows works) ≡ operation_rows operation ++ activity_rows works
rows_are None works order alone = in_order_same 0 (activity_rows works) (rows_in 0 works order)
rows_are (Some o) works order alone =
    let none : activity_rows works ≡ [] = ap activity_rows (alone o refl) in
    ap (λ rows. in_order serial_before (at_row o.walk (slice_get o.todo 0) ++ rows)) none ∙ one_row (slice_get o.todo 0) o.walk
    ∙ sym (append_nothing (at_row o.walk (slice_get o.todo 0))) ∙ ap (λ rows. at_row o.walk (slice_get o.todo 0) ++ rows) (sym none)

-- a line of handles says nothing of what is related, asked or reserved
handles_same : (c : Core) (handles : List Handle) → joined (handles_part c handles) ≡ handles_lines c.nodes handles
handles_same c [] = refl
handles_same c (h ∷ hs) = refl

-- The whole ---------------------------------------------------------------------------------------

module _ (s : State) (order : InOrder 0 s.activities) (alone : (o : Job) → s.operation ≡ Some o → s.activities ≡ []) where
  abbrev nodes : List Node
  nodes = s.core.nodes

  abbrev rack : List Driver
  rack = s.core.rack

  abbrev held : Text
  held = joined (map map_line (map_rows s.core))

  abbrev trees : Text
  trees = joined (map tree_line (print_order nodes))

  outstanding_is : joined (map (outstanding_line s.core) (outstanding s)) ≡ operation_lines nodes rack s.operation ++ works_lines nodes rack s.activities
  outstanding_is =
      let line = outstanding_line (core_of nodes [] rack []) in
      ap (λ rows. joined (map (outstanding_line s.core) rows)) (rows_are s.operation s.activities order alone)
      ∙ ap joined (lines_same s.core (operation_rows s.operation ++ activity_rows s.activities))
      ∙ ap joined (map_append line (operation_rows s.operation) (activity_rows s.activities))
      ∙ joined_append (map line (operation_rows s.operation)) (map line (activity_rows s.activities))

  below_text : joined (below_tree s) ≡ codes "map\n" ++ (held ++ (codes "outstanding\n" ++ ((operation_lines nodes rack s.operation ++ works_lines nodes rack s.activities) ++ handles_lines nodes s.handles)))
  below_text =
      let part : List Text = handles_part s.core s.handles in
      let waiting : List Text = map (outstanding_line s.core) (outstanding s) in
      let rows : List Text = waiting ++ part in
      let maps : List Text = map map_line (map_rows s.core) in
      ap (λ x. codes "map\n" ++ x) (joined_append maps (codes "outstanding" ∷ rows))
      ∙ ap (λ x. codes "map\n" ++ (held ++ (codes "outstanding\n" ++ x))) (joined_append waiting part ∙ ap (λ x. x ++ joined part) outstanding_is)
      ∙ ap (λ x. codes "map\n" ++ (held ++ (codes "outstanding\n" ++ ((operation_lines nodes rack s.operation ++ works_lines nodes rack s.activities) ++ x)))) (handles_same s.core s.handles)

  pub below_is : (rows : List Pair) (o1 o2 o3 o4 o5 o6 o7 : Text) → map (row_of_pair nodes) rows ≡ map_rows s.core → o2 ≡ o1 ++ codes "map\n"
      → o3 ≡ o2 ++ joined (map map_line (map (row_of_pair nodes) rows)) → o4 ≡ o3 ++ codes "outstanding\n" → o5 ≡ o4 ++ operation_lines nodes rack s.operation
      → o6 ≡ o5 ++ works_lines nodes rack s.activities → o7 ≡ o6 ++ handles_lines nodes s.handles → o7 ≡ o1 ++ joined (below_tree s)
  below_is rows o1 o2 o3 o4 o5 o6 o7 rows_is two three four five six seven =
      let ops : Text = operation_lines nodes rack s.operation in
      let works : Text = works_lines nodes rack s.activities in
      let held_open : Text = handles_lines nodes s.handles in
      let tail : Text = (ops ++ works) ++ held_open in
      let three_is : o3 ≡ o2 ++ held = three ∙ ap (λ r. o2 ++ joined (map map_line r)) rows_is in
      seven ∙ ap (λ x. x ++ held_open) (six ∙ ap (λ x. x ++ works) five ∙ append_assoc o4 ops works) ∙ append_assoc o4 (ops ++ works) held_open
      ∙ ap (λ x. x ++ tail) four ∙ append_assoc o3 (codes "outstanding\n") tail
      ∙ ap (λ x. x ++ (codes "outstanding\n" ++ tail)) three_is ∙ append_assoc o2 held (codes "outstanding\n" ++ tail)
      ∙ ap (λ x. x ++ (held ++ (codes "outstanding\n" ++ tail))) two ∙ append_assoc o1 (codes "map\n") (held ++ (codes "outstanding\n" ++ tail))
      ∙ ap (λ x. o1 ++ x) (sym below_text)

-- In parts ------------------------------------------------------------------------------------

abbrev tree_from : List Node → ℕ → Text
tree_from nodes next = joined (map tree_line (drop next (print_order nodes)))

from_is : (s : State) (next : ℕ) → ending_from s next ≡ tree_from s.core.nodes next ++ joined (below_tree s)
from_is s next = joined_append (map tree_line (drop next (print_order s.core.nodes))) (below_tree s)

-- behind the first line
pub parts_begin : (s : State) (out out' : Text) → out' ≡ out ++ codes "tree\n" → out' ++ ending_from s 0 ≡ out ++ joined (ending s)
parts_begin s out out' first = ap (λ x. x ++ ending_from s 0) first ∙ append_assoc out (codes "tree\n") (ending_from s 0)

-- rows of the tree came behind
pub parts_more : (s : State) (found : List Node) (next next' : ℕ) (out out' : Text) → found ≡ s.core.nodes
    → out' ++ tree_from found next' ≡ out ++ tree_from found next → out' ++ ending_from s next' ≡ out ++ ending_from s next
parts_more s found next next' out out' same more =
    let below : Text = joined (below_tree s) in
    let P : List Node → Type 0 = λ ns. out' ++ tree_from ns next' ≡ out ++ tree_from ns next in
    ap (λ x. out' ++ x) (from_is s next') ∙ sym (append_assoc out' (tree_from s.core.nodes next') below) ∙ ap (λ x. x ++ below) (subst P same more)
    ∙ append_assoc out (tree_from s.core.nodes next) below ∙ ap (λ x. out ++ x) (sym (from_is s next))

-- and then what is below the tree
pub parts_end : (s : State) (found : List Node) (rows : List PrintRow) (next next' : ℕ) (out out' last : Text) → found ≡ s.core.nodes
    → rows ≡ map row_of (print_order s.core.nodes) → length rows ≤ next' → out' ++ tree_from found next' ≡ out ++ tree_from found next
    → last ≡ out' ++ joined (below_tree s) → last ++ [] ≡ out ++ ending_from s next
parts_end s found rows next next' out out' last same printed all more below =
    let order : List Placed = print_order s.core.nodes in
    let long : length rows ≡ length order = ap length printed ∙ length-map order row_of in
    let none : drop next' order ≡ [] = drop_all next' order (omega arith) in
    append-nil last ∙ below ∙ ap (λ x. out' ++ joined x) (sym (ap (λ ps. map tree_line ps ++ below_tree s) none)) ∙ parts_more s found next next' out out' same more

-- where a part came, less is left
pub parts_less : (out out' rest rest' : Text) → out' ++ rest' ≡ out ++ rest → length out < length out' → length rest' < length rest
parts_less out out' rest rest' same grown = omega (arith, ap length same, length-append out' rest', length-append out rest)
