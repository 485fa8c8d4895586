-- Of resources that do not clash no two tie, but for a shared one that is held twice by one device.
use Rattle.std.proofs.Common.{◌≡◌, ◌≢◌, ℕ, ◌+◌, ◌<◌, ◌≤◌, ◌⊎◌, inl, inr, true, false, List, [], ◌∷◌, ◌++◌, map, Some, IsTrue, refl, sym, ap, ◌∙◌, subst, arith}
use Rattle.std.specs.List.{AllByRecursion}
use Rattle.std.proofs.lemmas.Bool.{cases_Bool, cases_eq}
use Rattle.std.proofs.lemmas.Bool.Decides.{nat_tests}
use Rattle.std.proofs.lemmas.List.Elements.{recursion_from_All}
use Rattle.resource_reqs.specs.declared.owner.Owner.{Owner}
use Rattle.resource_reqs.specs.declared.owner.Owner.TheVariants.{Reserved, Device}
use Rattle.resource_reqs.specs.Resources.{Res, Clash, NoClash}
use Rattle.range_arbiter.specs.Pairs.{Pair}
use Rattle.pnp_model.specs.Cores.{node_at, serials_of, path_of}
use Rattle.pnp_model.specs.Endings.{reserved_rows, node_rows}
use Rattle.pnp_model.specs.Records.{Node}
use Rattle.devnode_tree.specs.Trees.{Ascends}
use Rattle.device_holdings.specs.Mirrors.{pairs_of, node_pairs, held_pairs}
use Rattle.device_holdings.specs.MapRows.{owner_at, row_of}
use Rattle.device_holdings.proofs.RowOrder.{Ties, TieFree}

res_same : (r s : Res) → r.kind ≡ s.kind → r.lo ≡ s.lo → r.hi ≡ s.hi → r.shared ≡ s.shared → r ≡ s
res_same r s k l h b = λ t. record { kind = k t; lo = l t; hi = h t; shared = b t }

-- of two that do not clash and have the same numbers both are shared
both_shared : (r s : Res) → r.lo ≤ r.hi → r.kind ≡ s.kind → r.lo ≡ s.lo → r.hi ≡ s.hi → (Clash s r → ⊥) → r.shared ≡ s.shared
both_shared r s ends kind lo hi apart = go (cases_Bool r.shared) (cases_Bool s.shared)
  where
    clash : ((IsTrue s.shared × IsTrue r.shared) → ⊥) → ⊥
    clash not_both = apart (sym kind, (r.lo, omega arith, omega arith, omega arith, ends), not_both)

    go : (r.shared ≡ true) ⊎ (r.shared ≡ false) → (s.shared ≡ true) ⊎ (s.shared ≡ false) → r.shared ≡ s.shared
    go (inl t) (inl u) = t ∙ sym u
    go (inr f) (inr g) = f ∙ sym g
    go (inl t) (inr g) = absurd (clash (λ b. let no : IsTrue false = subst IsTrue g b.0 in cc))
    go (inr f) (inl u) = absurd (clash (λ b. let no : IsTrue false = subst IsTrue f b.1 in cc))

abbrev EndsUp : List Res → Type 0
EndsUp held = AllByRecursion (λ (r : Res). r.lo ≤ r.hi) held

-- nobody of these is the owner
abbrev NoOwner : ℕ → List Pair → Type 0
NoOwner k ps = AllByRecursion (λ (q : Pair). owner_at q.0 ≢ k) ps

module _ (o : Owner) where
  ties_own : (r : Res) (held : List Res) (rest : List Pair) → r.lo ≤ r.hi → AllByRecursion (λ other. Clash other r → ⊥) held → NoOwner (owner_at o) rest
      → AllByRecursion (λ q. Ties (o, r) q → (o, r) ≡ q) (pairs_of o held ++ rest)
  ties_own r [] [] ends free none = tt
  ties_own r [] (q ∷ rest) ends free none = (λ tie. absurd (none.0 (sym tie.owner)), ties_own r [] rest ends tt none.1)
  ties_own r (s ∷ held) rest ends free none =
      (λ tie. ap (λ (x : Res). (o, x)) (res_same r s tie.kind tie.lo tie.hi (both_shared r s ends tie.kind tie.lo tie.hi free.0)), ties_own r held rest ends free.1 none)

  ties_block : (held : List Res) (rest : List Pair) → NoClash held → EndsUp held → NoOwner (owner_at o) rest → TieFree rest → TieFree (pairs_of o held ++ rest)
  ties_block [] rest apart ends none ties = ties
  ties_block (r ∷ held) rest apart ends none ties =
      (ties_own r held rest ends.0 (recursion_from_All (λ other. Clash other r → ⊥) held apart.0) none, ties_block held rest apart.1 ends.1 none ties)

-- the owners ascend
owners_own : (k j : ℕ) (held : List Res) (rest : List Pair) → k ≢ j → NoOwner k rest → NoOwner k (pairs_of (Device j) held ++ rest)
owners_own k j [] rest other none = none
owners_own k j (r ∷ held) rest other none = (λ e. other (sym e), owners_own k j held rest other none)

owners_above : (k lo : ℕ) (nodes : List Node) → k < lo → Ascends lo (serials_of nodes) → NoOwner k (node_pairs nodes)
owners_above k lo [] less up = tt
owners_above k lo (n ∷ ns) less up =
    owners_own k n.serial n.holds (node_pairs ns) (λ e. let first = up.0 in omega arith) (owners_above k (n.serial + 1) ns (let first = up.0 in omega arith) up.1)

none_here : (k lo : ℕ) (nodes : List Node) (m : Node) → node_at k nodes ≡ Some m → Ascends lo (serials_of nodes) → lo ≤ k
none_here k lo [] m at up = absurd (cc)
none_here k lo (n ∷ ns) m at up = elim (cases_eq n.serial k) [
  | inl e ↦ (let first = up.0 in omega arith)
  | inr d ↦ (let more = none_here k (n.serial + 1) ns m (grind (arith, nat_tests)) up.1 in let first = up.0 in omega arith)
]

-- what is found behind the first is found among all
pub found_behind : (k lo : ℕ) (n : Node) (ns : List Node) (m : Node) → Ascends lo (serials_of (n ∷ ns)) → node_at k ns ≡ Some m → node_at k (n ∷ ns) ≡ Some m
found_behind k lo n ns m up at = let more = none_here k (n.serial + 1) ns m at up.1 in grind (arith, nat_tests)

first_found : (n : Node) (ns : List Node) → node_at n.serial (n ∷ ns) ≡ Some n
first_found n ns = grind (arith, nat_tests)

split_ends : (xs ys : List Pair) → AllByRecursion (λ (p : Pair). p.1.lo ≤ p.1.hi) (xs ++ ys) → AllByRecursion (λ (p : Pair). p.1.lo ≤ p.1.hi) xs × AllByRecursion (λ (p : Pair). p.1.lo ≤ p.1.hi) ys
split_ends [] ys h = (tt, h)
split_ends (x ∷ xs) ys h = let rest = split_ends xs ys h.1 in ((h.0, rest.0), rest.1)

ends_of : (o : Owner) (held : List Res) → AllByRecursion (λ (p : Pair). p.1.lo ≤ p.1.hi) (pairs_of o held) → EndsUp held
ends_of o [] h = tt
ends_of o (r ∷ held) h = (h.0, ends_of o held h.1)

ties_nodes : (lo : ℕ) (nodes : List Node) → Ascends lo (serials_of nodes) → ((k : ℕ) (n : Node) → node_at k nodes ≡ Some n → NoClash n.holds)
    → AllByRecursion (λ (p : Pair). p.1.lo ≤ p.1.hi) (node_pairs nodes) → TieFree (node_pairs nodes)
ties_nodes lo [] up own ends = tt
ties_nodes lo (n ∷ ns) up own ends =
    let parts = split_ends (pairs_of (Device n.serial) n.holds) (node_pairs ns) ends in
    ties_block (Device n.serial) n.holds (node_pairs ns) (own n.serial n (first_found n ns)) (ends_of (Device n.serial) n.holds parts.0)
    (owners_above n.serial (n.serial + 1) ns (omega arith) up.1)
    (ties_nodes (n.serial + 1) ns up.1 (λ k m at. own k m (found_behind k lo n ns m up at)) parts.1)

-- the root holds nothing, so no device ties with what is reserved
no_root : (nodes : List Node) → Ascends 0 (serials_of nodes) → ((n : Node) → node_at 0 nodes ≡ Some n → n.holds ≡ []) → NoOwner 0 (node_pairs nodes)
no_root [] up bare = tt
no_root (n ∷ ns) up bare = elim (cases_eq n.serial 0) [
  | inl e ↦ rw (bare n (grind (arith, nat_tests))) (owners_above 0 (n.serial + 1) ns (omega arith) up.1)
  | inr d ↦ owners_own 0 n.serial n.holds (node_pairs ns) (λ e. d (sym e)) (owners_above 0 (n.serial + 1) ns (omega arith) up.1)
]

pub ties_held : (reserved : List Res) (nodes : List Node) → Ascends 0 (serials_of nodes) → NoClash reserved → ((k : ℕ) (n : Node) → node_at k nodes ≡ Some n → NoClash n.holds)
    → ((n : Node) → node_at 0 nodes ≡ Some n → n.holds ≡ []) → AllByRecursion (λ (p : Pair). p.1.lo ≤ p.1.hi) (held_pairs reserved nodes) → TieFree (held_pairs reserved nodes)
ties_held reserved nodes up taken own bare ends =
    let parts = split_ends (pairs_of Reserved reserved) (node_pairs nodes) ends in
    ties_block Reserved reserved (node_pairs nodes) taken (ends_of Reserved reserved parts.0) (no_root nodes up bare) (ties_nodes 0 nodes up own parts.1)

-- The rows of pairs -------------------------------------------------------------------

rows_append : (nodes : List Node) (xs ys : List Pair) → map (row_of nodes) (xs ++ ys) ≡ map (row_of nodes) xs ++ map (row_of nodes) ys
rows_append nodes [] ys = refl
rows_append nodes (x ∷ xs) ys = ap (λ l. row_of nodes x ∷ l) (rows_append nodes xs ys)

rows_reserved : (nodes : List Node) (held : List Res) → map (row_of nodes) (pairs_of Reserved held) ≡ reserved_rows held
rows_reserved nodes [] = refl
rows_reserved nodes (r ∷ held) = ap (λ l. row_of nodes (Reserved, r) ∷ l) (rows_reserved nodes held)

rows_own : (nodes : List Node) (n : Node) (held : List Res) → node_at n.serial nodes ≡ Some n
    → map (row_of nodes) (pairs_of (Device n.serial) held) ≡ map (λ res. record { res = res; owner = n.serial; words = n.path }) held
rows_own nodes n [] at = refl
rows_own nodes n (r ∷ held) at =
    let first : row_of nodes (Device n.serial, r) ≡ record { res = r; owner = n.serial; words = n.path } = ap (λ o. record { res = r; owner = n.serial; words = path_of o }) at in
    λ t. first t ∷ rows_own nodes n held at t

rows_nodes : (all : List Node) (lo : ℕ) (nodes : List Node) → Ascends lo (serials_of nodes) → ((k : ℕ) (n : Node) → node_at k nodes ≡ Some n → node_at k all ≡ Some n)
    → map (row_of all) (node_pairs nodes) ≡ node_rows nodes
rows_nodes all lo [] up among = refl
rows_nodes all lo (n ∷ ns) up among =
    rows_append all (pairs_of (Device n.serial) n.holds) (node_pairs ns)
    ∙ (λ t. rows_own all n n.holds (among n.serial n (first_found n ns)) t ++ rows_nodes all (n.serial + 1) ns up.1 (λ k m at. among k m (found_behind k lo n ns m up at)) t)

pub rows_held : (reserved : List Res) (nodes : List Node) → Ascends 0 (serials_of nodes)
    → map (row_of nodes) (held_pairs reserved nodes) ≡ reserved_rows reserved ++ node_rows nodes
rows_held reserved nodes up =
    rows_append nodes (pairs_of Reserved reserved) (node_pairs nodes)
    ∙ (λ t. rows_reserved nodes reserved t ++ rows_nodes nodes 0 nodes up (λ k n at. at) t)
