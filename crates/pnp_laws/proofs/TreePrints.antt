-- In each state of a run each node is printed once under `tree`, and nothing else is.
use Rattle.std.proofs.Common.{ℕ, zero, suc, ◌+◌, ◌<◌, ◌≤◌, ◌≡◌, ◌≢◌, ◌==◌, ◌&&◌, not, nat_lt, Bool, true, false, cond, List, [], ◌∷◌, ◌++◌, length, Option, Some, None, refl, sym, ap, ◌∙◌, subst, arith}
use Rattle.std.specs.List.{AllByRecursion}
use Rattle.std.proofs.lemmas.Bool.Decides.{nat_tests}
use Rattle.std.proofs.lemmas.List.Elements.{All-from_recursion}
use Rattle.resource_reqs.proofs.Points.{all_weaker}
use Rattle.pnp_model.specs.Cores.{node_at}
use Rattle.pnp_model.specs.Endings.{Placed, placed, print_order, root_of}
use Rattle.pnp_model.specs.Records.{Core, Node}
use Rattle.pnp_model.specs.Trees.{children, is_child}
use Rattle.pnp_laws.specs.Kept.{Ascending}
use Rattle.pnp_laws.specs.Printed.{EachNodeIsPrintedOnceLaw, lines_of}
use Rattle.pnp_laws.proofs.Closures.{head_at, tail_at}
use Rattle.pnp_laws.proofs.Lookups.{found_self, own_serial}
use Rattle.pnp_laws.proofs.Ranks.{Rooted}
use Rattle.pnp_laws.proofs.RunsStand.{reaches_kept}
use Rattle.pnp_laws.proofs.Truths.{and_both}

-- Counting ------------------------------------------------------------------------------------

abbrev one : Bool → ℕ
one true = 1
one false = 0

one_same : (a k : ℕ) → a ≡ k → one (a == k) ≡ 1
one_same a k e = by_test (a == k) refl
  where
    by_test : (b : Bool) → (a == k) ≡ b → one b ≡ 1
    by_test true h = refl
    by_test false h = absurd (grind (arith, nat_tests))

one_other : (a k : ℕ) → a ≢ k → one (a == k) ≡ 0
one_other a k d = by_test (a == k) refl
  where
    by_test : (b : Bool) → (a == k) ≡ b → one b ≡ 0
    by_test true h = absurd (d (grind (arith, nat_tests)))
    by_test false h = refl

one_turned : (a b : ℕ) → one (a == b) ≡ one (b == a)
one_turned a b = by_test (a == b) (b == a) refl refl
  where
    by_test : (x y : Bool) → (a == b) ≡ x → (b == a) ≡ y → one x ≡ one y
    by_test true true h g = refl
    by_test false false h g = refl
    by_test true false h g = absurd (grind (arith, nat_tests))
    by_test false true h g = absurd (grind (arith, nat_tests))

abbrev count : ℕ → List Node → ℕ
count k [] = 0
count k (n ∷ ns) = one (n.serial == k) + count k ns

lines_first : (k : ℕ) (p : Placed) (ps : List Placed) → lines_of k (p ∷ ps) ≡ one (p.node.serial == k) + lines_of k ps
lines_first k p ps = by_test (p.node.serial == k)
  where
    by_test : (b : Bool) → cond b (1 + lines_of k ps) (lines_of k ps) ≡ one b + lines_of k ps
    by_test true = refl
    by_test false = omega arith

lines_both : (k : ℕ) (xs ys : List Placed) → lines_of k (xs ++ ys) ≡ lines_of k xs + lines_of k ys
lines_both k [] ys = omega arith
lines_both k (x ∷ xs) ys = omega (arith, lines_first k x (xs ++ ys), lines_first k x xs, lines_both k xs ys)

-- Children ---------------------------------------------------------------------------------------

-- the root is nobody's child
no_root_child : (j : ℕ) (ns : List Node) → count 0 (children j ns) ≡ 0
no_root_child j [] = refl
no_root_child j (x ∷ xs) = by_test (is_child j x) refl (no_root_child j xs)
  where
    not_root : (c : Bool) → not c ≡ true → one c ≡ 0
    not_root true h = absurd (cc)
    not_root false h = refl

    by_test : (b : Bool) → is_child j x ≡ b → count 0 (children j xs) ≡ 0 → count 0 (cond b (x ∷ children j xs) (children j xs)) ≡ 0
    by_test true e more = omega (arith, more, not_root (x.serial == 0) (and_both (x.parent == j) (not (x.serial == 0)) e).1)
    by_test false e more = more

low_count : (lo k j : ℕ) (ns : List Node) → k < lo → Ascending lo ns → count k (children j ns) ≡ 0
low_count lo k j [] low order = refl
low_count lo k j (x ∷ xs) low order = by_test (is_child j x) (low_count (suc x.serial) k j xs (let l = order.0 in omega arith) order.1)
  where
    by_test : (b : Bool) → count k (children j xs) ≡ 0 → count k (cond b (x ∷ children j xs) (children j xs)) ≡ 0
    by_test true more = omega (arith, more, one_other x.serial k (λ e. let l = order.0 in omega arith))
    by_test false more = more

-- a node is a child of its parent alone
child_count : (lo k j : ℕ) (ns : List Node) (x : Node) → Ascending lo ns → node_at k ns ≡ Some x → k ≢ 0 → count k (children j ns) ≡ one (x.parent == j)
child_count lo k j [] x order at up = absurd (cc)
child_count lo k j (y ∷ ys) x order at up = by_serial (y.serial == k) refl at (λ e. child_count (suc y.serial) k j ys x order.1 e up)
  where
    own : (b c : Bool) → c ≡ true → y.serial ≡ k → count k (cond (b && c) (y ∷ children j ys) (children j ys)) ≡ one b
    own true true e same = omega (arith, one_same y.serial k same, low_count (suc y.serial) k j ys (omega arith) order.1)
    own true false e same = absurd (cc)
    own false c e same = low_count (suc y.serial) k j ys (omega arith) order.1

    other : (b : Bool) → y.serial ≢ k → count k (children j ys) ≡ one (x.parent == j) → count k (cond b (y ∷ children j ys) (children j ys)) ≡ one (x.parent == j)
    other true d more = omega (arith, more, one_other y.serial k d)
    other false d more = more

    not_zero : (b : Bool) → (y.serial == 0) ≡ b → y.serial ≢ 0 → not b ≡ true
    not_zero true h d = absurd (d (grind (arith, nat_tests)))
    not_zero false h d = refl

    by_serial : (b : Bool) → (y.serial == k) ≡ b → cond b (Some y) (node_at k ys) ≡ Some x → (node_at k ys ≡ Some x → count k (children j ys) ≡ one (x.parent == j))
        → count k (children j (y ∷ ys)) ≡ one (x.parent == j)
    by_serial true h e more =
        let is : y ≡ x = cc in
        let same : y.serial ≡ k = grind (arith, nat_tests) in
        subst (λ (z : Node). count k (children j (y ∷ ys)) ≡ one (z.parent == j)) is
        (own (y.parent == j) (not (y.serial == 0)) (not_zero (y.serial == 0) refl (λ z. up (sym same ∙ z))) same)
    by_serial false h e more = other (is_child j y) (λ s. let t : (y.serial == k) ≡ false = h in absurd (grind (arith, nat_tests))) (more e)

-- Lines ---------------------------------------------------------------------------------------------

module _ (nodes : List Node) where
  lines_placed : (k n d : ℕ) (m : Node) (more : List Node) → lines_of k (placed (suc n) d nodes (m ∷ more))
      ≡ one (m.serial == k) + (lines_of k (placed n (d + 1) nodes (children m.serial nodes)) + lines_of k (placed (suc n) d nodes more))
  lines_placed k n d m more =
      lines_first k (record { depth = d; node = m }) (placed n (d + 1) nodes (children m.serial nodes) ++ placed (suc n) d nodes more)
      ∙ ap (λ (i : ℕ). one (m.serial == k) + i) (lines_both k (placed n (d + 1) nodes (children m.serial nodes)) (placed (suc n) d nodes more))

  -- below others the root is not printed
  no_root_line : (n d : ℕ) (here : List Node) → count 0 here ≡ 0 → lines_of 0 (placed n d nodes here) ≡ 0
  no_root_line zero d here e = refl
  no_root_line (suc n) d [] e = refl
  no_root_line (suc n) d (m ∷ more) e =
      omega (arith, e, lines_placed 0 n d m more, no_root_line n (d + 1) (children m.serial nodes) (no_root_child m.serial nodes), no_root_line (suc n) d more (omega (arith, e)))

  -- a node has a line for each of its parent's, one level below
  lines_more : (k : ℕ) (x : Node) → Ascending 0 nodes → node_at k nodes ≡ Some x → k ≢ 0 → (n d e : ℕ) (here : List Node)
      → lines_of k (placed (suc n) d nodes here) ≡ count k here + lines_of x.parent (placed n e nodes here)
  lines_more k x order at up zero d e [] = refl
  lines_more k x order at up zero d e (m ∷ more) = omega (arith, lines_placed k 0 d m more, lines_more k x order at up zero d e more)
  lines_more k x order at up (suc n) d e [] = refl
  lines_more k x order at up (suc n) d e (m ∷ more) =
      omega (
        arith,
        lines_placed k (suc n) d m more,
        lines_more k x order at up n (d + 1) (e + 1) (children m.serial nodes),
        child_count 0 k m.serial nodes x order at up,
        one_turned x.parent m.serial,
        lines_placed x.parent n e m more,
        lines_more k x order at up (suc n) d e more,
      )

-- How deep a node stands --------------------------------------------------------------------------

-- how many have a lower serial
abbrev rank : ℕ → List Node → ℕ
rank k [] = 0
rank k (n ∷ ns) = one (nat_lt n.serial k) + rank k ns

one_less : (a j k : ℕ) → j ≤ k → one (nat_lt a j) ≤ one (nat_lt a k)
one_less a j k low = by_test (nat_lt a j) (nat_lt a k) refl refl
  where
    by_test : (x y : Bool) → nat_lt a j ≡ x → nat_lt a k ≡ y → one x ≤ one y
    by_test true true h g = omega arith
    by_test true false h g = absurd (grind (arith, nat_tests))
    by_test false y h g = omega arith

one_below : (a k : ℕ) → a < k → one (nat_lt a k) ≡ 1
one_below a k low = by_test (nat_lt a k) refl
  where
    by_test : (b : Bool) → nat_lt a k ≡ b → one b ≡ 1
    by_test true h = refl
    by_test false h = absurd (grind (arith, nat_tests))

one_not_below : (a k : ℕ) → k ≤ a → one (nat_lt a k) ≡ 0
one_not_below a k high = by_test (nat_lt a k) refl
  where
    by_test : (b : Bool) → nat_lt a k ≡ b → one b ≡ 0
    by_test true h = absurd (grind (arith, nat_tests))
    by_test false h = refl

one_most : (b : Bool) → one b ≤ 1
one_most true = omega arith
one_most false = omega arith

rank_more : (j k : ℕ) (ns : List Node) → j ≤ k → rank j ns ≤ rank k ns
rank_more j k [] low = omega arith
rank_more j k (n ∷ ns) low = omega (arith, one_less n.serial j k low, rank_more j k ns low)

rank_most : (k : ℕ) (ns : List Node) → rank k ns ≤ length ns
rank_most k [] = omega arith
rank_most k (n ∷ ns) = omega (arith, one_most (nat_lt n.serial k), rank_most k ns)

rank_less : (j k : ℕ) (ns : List Node) (x : Node) → j < k → node_at j ns ≡ Some x → rank j ns < rank k ns
rank_less j k [] x low at = absurd (cc)
rank_less j k (n ∷ ns) x low at = by_test (n.serial == j) refl at (λ e. rank_less j k ns x low e)
  where
    by_test : (b : Bool) → (n.serial == j) ≡ b → cond b (Some n) (node_at j ns) ≡ Some x → (node_at j ns ≡ Some x → rank j ns < rank k ns) → one (nat_lt n.serial j) + rank j ns < one (nat_lt n.serial k) + rank k ns
    by_test true h e more =
        let same : n.serial ≡ j = grind (arith, nat_tests) in
        omega (arith, one_not_below n.serial j (omega arith), one_below n.serial k (omega arith), rank_more j k ns (omega arith))
    by_test false h e more = omega (arith, one_less n.serial j k (omega arith), more e)

rank_length : (k : ℕ) (ns : List Node) (x : Node) → node_at k ns ≡ Some x → rank k ns < length ns
rank_length k [] x at = absurd (cc)
rank_length k (n ∷ ns) x at = by_test (n.serial == k) refl at (λ e. rank_length k ns x e)
  where
    by_test : (b : Bool) → (n.serial == k) ≡ b → cond b (Some n) (node_at k ns) ≡ Some x → (node_at k ns ≡ Some x → rank k ns < length ns) → one (nat_lt n.serial k) + rank k ns < suc (length ns)
    by_test true h e more =
        let same : n.serial ≡ k = grind (arith, nat_tests) in
        omega (arith, one_not_below n.serial k (omega arith), rank_most k ns)
    by_test false h e more = omega (arith, one_most (nat_lt n.serial k), more e)

-- Each node has one line -----------------------------------------------------------------------------

root_count : (k : ℕ) (nodes : List Node) (o : Option Node) → node_at 0 nodes ≡ o → k ≢ 0 → count k (root_of o) ≡ 0
root_count k nodes None e up = refl
root_count k nodes (Some r) e up = omega (arith, one_other r.serial k (λ h. up (sym h ∙ own_serial 0 r nodes e)))

root_line : (n : ℕ) (nodes : List Node) (r : Node) → r.serial ≡ 0 → lines_of 0 (placed (suc n) 0 nodes (r ∷ [])) ≡ 1
root_line n nodes r own = omega (arith, lines_placed nodes 0 n 0 r [], one_same r.serial 0 own, no_root_line nodes n 1 (children r.serial nodes) (no_root_child r.serial nodes))

one_line : (c : Core) → Ascending 0 c.nodes → Rooted c → (n k : ℕ) (x : Node) → node_at k c.nodes ≡ Some x → rank k c.nodes < n → lines_of k (placed n 0 c.nodes (root_of (node_at 0 c.nodes))) ≡ 1
one_line c order rooted zero k x at low = absurd (omega arith)
one_line c order rooted (suc n) zero x at low =
    ap (λ (o : Option Node). lines_of 0 (placed (suc n) 0 c.nodes (root_of o))) at ∙ root_line n c.nodes x (own_serial 0 x c.nodes at)
one_line c order rooted (suc n) (suc k) x at low =
    let up : suc k ≢ 0 = λ e. omega (arith, e) in
    let over = rooted (suc k) x at up in
    omega (
      arith,
      lines_more c.nodes (suc k) x order at up n 0 0 (root_of (node_at 0 c.nodes)),
      root_count (suc k) c.nodes (node_at 0 c.nodes) refl up,
      one_line c order rooted n x.parent over.1.0 over.1.1 (omega (arith, low, rank_less x.parent (suc k) c.nodes over.1.0 over.0 over.1.1)),
    )

-- Each line is of a node -------------------------------------------------------------------------------

abbrev Found : List Node → Node → Type 0
Found nodes m = node_at m.serial nodes ≡ Some m

all_children : (lo j : ℕ) (ns : List Node) → Ascending lo ns → AllByRecursion (Found ns) (children j ns)
all_children lo j [] order = tt
all_children lo j (x ∷ xs) order =
    by_test (is_child j x) (all_weaker (Found xs) (Found (x ∷ xs)) (λ m e. tail_at lo x xs m.serial m order e) (children j xs) (all_children (suc x.serial) j xs order.1))
  where
    by_test : (b : Bool) → AllByRecursion (Found (x ∷ xs)) (children j xs) → AllByRecursion (Found (x ∷ xs)) (cond b (x ∷ children j xs) (children j xs))
    by_test true more = (head_at x xs, more)
    by_test false more = more

abbrev AllFound : List Node → List Placed → Type 0
AllFound nodes ps = AllByRecursion (λ p. Found nodes p.node) ps

all_both : (nodes : List Node) (xs ys : List Placed) → AllFound nodes xs → AllFound nodes ys → AllFound nodes (xs ++ ys)
all_both nodes [] ys a b = b
all_both nodes (x ∷ xs) ys a b = (a.0, all_both nodes xs ys a.1 b)

all_placed : (nodes : List Node) → Ascending 0 nodes → (n d : ℕ) (here : List Node) → AllByRecursion (Found nodes) here → AllFound nodes (placed n d nodes here)
all_placed nodes order zero d here h = tt
all_placed nodes order (suc n) d [] h = tt
all_placed nodes order (suc n) d (m ∷ more) h = (
  h.0,
  all_both nodes (placed n (d + 1) nodes (children m.serial nodes)) (placed (suc n) d nodes more)
      (all_placed nodes order n (d + 1) (children m.serial nodes) (all_children 0 m.serial nodes order)) (all_placed nodes order (suc n) d more h.1),
)

root_found : (nodes : List Node) (o : Option Node) → node_at 0 nodes ≡ o → AllByRecursion (Found nodes) (root_of o)
root_found nodes None e = tt
root_found nodes (Some r) e = (found_self 0 nodes r e, tt)

pub each_node_is_printed_once : EachNodeIsPrintedOnceLaw
each_node_is_printed_once settings rack entries s run =
    let all = reaches_kept settings rack entries s run in
    let order = all.good.serials in
    record {
      once = λ k n at. one_line s.core order all.stands.tree.rooted (length s.core.nodes) k n at (rank_length k s.core.nodes n at);
      only = All-from_recursion (λ p. Found s.core.nodes p.node) (print_order s.core.nodes)
          (all_placed s.core.nodes order (length s.core.nodes) 0 (root_of (node_at 0 s.core.nodes)) (root_found s.core.nodes (node_at 0 s.core.nodes) refl));
    }
