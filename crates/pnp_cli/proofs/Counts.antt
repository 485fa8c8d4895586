-- Of the lines of the printed tree as many pass a test as of the nodes.
use Rattle.std.proofs.Common.{ℕ, suc, ◌+◌, ◌≡◌, ◌≢◌, ◌==◌, Bool, true, false, cond, List, [], ◌∷◌, map, take, length, ◌≤◌, Option, Some, refl, sym, ◌∙◌, ap, ap₂, subst, arith}
use Rattle.std.specs.Prelude.{count_by}
use Rattle.std.specs.List.{AllByRecursion}
use Rattle.std.proofs.lemmas.Bool.Decides.{nat_tests}
use Rattle.std.proofs.lemmas.List.{take_all}
use Rattle.std.proofs.lemmas.List.Sums.{sum_by-cons}
use Rattle.std.proofs.lemmas.List.Elements.{recursion_from_All}
use Rattle.devnode_tree.specs.Rows.{row_of}
use Rattle.devnode_tree.specs.declared.print.PrintRow.{PrintRow}
use Rattle.pnp_model.specs.Cores.{node_at}
use Rattle.pnp_model.specs.Endings.{Placed, print_order}
use Rattle.pnp_model.specs.Records.{Node, State}
use Rattle.pnp_laws.specs.Kept.{Ascending}
use Rattle.pnp_laws.specs.Printed.{TreeIsPrinted, lines_of}
use Rattle.pnp_laws.proofs.Closures.{head_at, tail_at}
use Rattle.pnp_laws.proofs.Lookups.{none_below, some_same}
use Rattle.pnp_laws.proofs.RunsStacks.{keyed}
use Rattle.pnp_laws.proofs.TreePrints.{each_node_is_printed_once}
use Rattle.pnp_machine.specs.Managers.{IsOfRun}
use Rattle.pnp_machine.proofs.ButBooks.{shadow}

abbrev one : Bool → ℕ
one b = cond b 1 0

count_first : {X : Type 0} (test : X → Bool) (x : X) (xs : List X) → count_by test (x ∷ xs) ≡ one (test x) + count_by test xs
count_first test x xs = sum_by-cons (λ y. one (test y)) x xs

-- each line is of a node
abbrev AllFound : List Node → List Placed → Type 0
AllFound nodes ps = AllByRecursion (λ p. node_at p.node.serial nodes ≡ Some p.node) ps

-- the lines of all nodes but one
abbrev others : ℕ → List Placed → List Placed
others k [] = []
others k (p ∷ ps) = cond (p.node.serial == k) (others k ps) (p ∷ others k ps)

others_none : (k : ℕ) (ps : List Placed) → lines_of k ps ≡ 0 → others k ps ≡ ps
others_none k [] e = refl
others_none k (p ∷ ps) e = by_test (p.node.serial == k) e (λ h. others_none k ps h)
  where
    by_test : (b : Bool) → cond b (1 + lines_of k ps) (lines_of k ps) ≡ 0 → (lines_of k ps ≡ 0 → others k ps ≡ ps) → cond b (others k ps) (p ∷ others k ps) ≡ p ∷ ps
    by_test true e more = absurd (omega (arith, e))
    by_test false e more = ap (λ (qs : List Placed). p ∷ qs) (more e)

lines_others : (j k : ℕ) → j ≢ k → (ps : List Placed) → lines_of j (others k ps) ≡ lines_of j ps
lines_others j k d [] = refl
lines_others j k d (p ∷ ps) = by_tests (p.node.serial == k) (p.node.serial == j) refl refl (lines_others j k d ps)
  where
    by_tests : (a b : Bool) → (p.node.serial == k) ≡ a → (p.node.serial == j) ≡ b → lines_of j (others k ps) ≡ lines_of j ps
        → lines_of j (cond a (others k ps) (p ∷ others k ps)) ≡ cond b (1 + lines_of j ps) (lines_of j ps)
    by_tests true true h g more = absurd (grind (arith, nat_tests))
    by_tests true false h g more = more
    by_tests false b h g more =
        ap (λ (i : ℕ). cond (p.node.serial == j) (1 + i) i) more ∙ ap (λ (c : Bool). cond c (1 + lines_of j ps) (lines_of j ps)) g

-- the one line of a node
count_one : (test : Node → Bool) (nodes : List Node) (k : ℕ) (n : Node) (ps : List Placed) → node_at k nodes ≡ Some n → AllFound nodes ps → lines_of k ps ≡ 1
    → count_by (λ p. test p.node) ps ≡ one (test n) + count_by (λ p. test p.node) (others k ps)
count_one test nodes k n [] at found e = absurd (omega (arith, e))
count_one test nodes k n (p ∷ ps) at found e = count_first (λ p. test p.node) p ps ∙ by_test (p.node.serial == k) refl e (λ h. count_one test nodes k n ps at found.1 h)
  where
    by_test : (b : Bool) → (p.node.serial == k) ≡ b → cond b (1 + lines_of k ps) (lines_of k ps) ≡ 1
        → (lines_of k ps ≡ 1 → count_by (λ p. test p.node) ps ≡ one (test n) + count_by (λ p. test p.node) (others k ps))
        → one (test p.node) + count_by (λ p. test p.node) ps ≡ one (test n) + count_by (λ p. test p.node) (cond b (others k ps) (p ∷ others k ps))
    by_test true h e more =
        let same : p.node.serial ≡ k = grind (arith, nat_tests) in
        let is : p.node ≡ n = some_same (node_at k nodes) p.node n (subst (λ (i : ℕ). node_at i nodes ≡ Some p.node) same found.0) at in
        let rest : others k ps ≡ ps = others_none k ps (omega (arith, e)) in
        ap₂ (λ (m : Node) (qs : List Placed). one (test m) + count_by (λ p. test p.node) qs) is (sym rest)
    by_test false h e more = omega (arith, more e, count_first (λ p. test p.node) p (others k ps))

-- behind the first node
below_first : (k : ℕ) (m n : Node) (ns : List Node) → (n.serial == k) ≡ false → node_at k (n ∷ ns) ≡ Some m → node_at k ns ≡ Some m
below_first k m n ns e at = subst (λ (b : Bool). cond b (Some n) (node_at k ns) ≡ Some m) e at

found_others : (n : Node) (ns : List Node) (ps : List Placed) → AllFound (n ∷ ns) ps → AllFound ns (others n.serial ps)
found_others n ns [] found = tt
found_others n ns (p ∷ ps) found = by_test (p.node.serial == n.serial) refl found.0 (found_others n ns ps found.1)
  where
    by_test : (b : Bool) → (p.node.serial == n.serial) ≡ b → node_at p.node.serial (n ∷ ns) ≡ Some p.node → AllFound ns (others n.serial ps)
        → AllFound ns (cond b (others n.serial ps) (p ∷ others n.serial ps))
    by_test true h at more = more
    by_test false h at more =
        let apart : (n.serial == p.node.serial) ≡ false = grind (arith, nat_tests) in
        (below_first p.node.serial p.node n ns apart at, more)

count_all : (test : Node → Bool) (lo : ℕ) (ns : List Node) (ps : List Placed) → Ascending lo ns → ((k : ℕ) (m : Node) → node_at k ns ≡ Some m → lines_of k ps ≡ 1) → AllFound ns ps
    → count_by (λ p. test p.node) ps ≡ count_by test ns
count_all test lo [] [] order once found = refl
count_all test lo [] (p ∷ ps) order once found = absurd (let none = found.0 in cc)
count_all test lo (n ∷ ns) ps order once found =
    let apart : (k : ℕ) (m : Node) → node_at k ns ≡ Some m → k ≢ n.serial =
    λ k m at e. let none = none_below (suc n.serial) k ns (omega (arith, e)) order.1 in cc in
    let more = count_all test (suc n.serial) ns (others n.serial ps) order.1
    (λ k m at. lines_others k n.serial (apart k m at) ps ∙ once k m (tail_at lo n ns k m order at)) (found_others n ns ps found) in
    count_one test (n ∷ ns) n.serial n ps (head_at n ns) found (once n.serial n (head_at n ns)) ∙ ap (λ (i : ℕ). one (test n) + i) more ∙ sym (count_first test n ns)

count_rows : (test : ℕ → Option Node → Bool) (nodes : List Node) (ps : List Placed) → AllFound nodes ps
    → count_by (λ row. test row.serial (node_at row.serial nodes)) (map row_of ps) ≡ count_by (λ p. test p.node.serial (Some p.node)) ps
count_rows test nodes [] found = refl
count_rows test nodes (p ∷ ps) found =
    count_first (λ row. test row.serial (node_at row.serial nodes)) (row_of p) (map row_of ps)
    ∙ ap₂ (λ (o : Option Node) (i : ℕ). one (test p.node.serial o) + i) found.0 (count_rows test nodes ps found.1) ∙ sym (count_first (λ p. test p.node.serial (Some p.node)) p ps)

count_listed : (test : ℕ → Option Node → Bool) (nodes : List Node) → Ascending 0 nodes → TreeIsPrinted nodes
    → count_by (λ row. test row.serial (node_at row.serial nodes)) (map row_of (print_order nodes)) ≡ count_by (λ n. test n.serial (Some n)) nodes
count_listed test nodes order printed =
    let found : AllFound nodes (print_order nodes) = recursion_from_All (λ p. node_at p.node.serial nodes ≡ Some p.node) (print_order nodes) printed.only in
    count_rows test nodes (print_order nodes) found ∙ count_all (λ n. test n.serial (Some n)) 0 nodes (print_order nodes) order printed.once found

-- so in each state of a run
count_printed : (test : ℕ → Option Node → Bool) (s : State) → IsOfRun s
    → count_by (λ row. test row.serial (node_at row.serial s.core.nodes)) (map row_of (print_order s.core.nodes)) ≡ count_by (λ n. test n.serial (Some n)) s.core.nodes
count_printed test s h =
    let own = shadow h.told h.rack h.entries s h.reaches in
    count_listed test s.core.nodes (keyed h.told own.rack _ _ own.reaches).serials.ascending (each_node_is_printed_once h.told own.rack _ _ own.reaches)

-- and what was counted over all rows is the count over the nodes
pub count_up : (test : ℕ → Option Node → Bool) (s : State) → IsOfRun s → (nodes : List Node) (rows : List PrintRow) (i count : ℕ) → nodes ≡ s.core.nodes → rows ≡ map row_of (print_order s.core.nodes)
    → length rows ≤ i → count ≡ count_by (λ row. test row.serial (node_at row.serial nodes)) (take i rows) → count ≡ count_by (λ n. test n.serial (Some n)) s.core.nodes
count_up test s h nodes rows i count same_nodes same_rows long is =
    is ∙ ap (λ (xs : List PrintRow). count_by (λ row. test row.serial (node_at row.serial nodes)) xs) (take_all i rows long)
    ∙ ap₂ (λ (ns : List Node) (xs : List PrintRow). count_by (λ row. test row.serial (node_at row.serial ns)) xs) same_nodes same_rows
    ∙ count_printed test s h
