-- Whether something that hangs on a device has drivers is told by its children and the edges to its members.
use Rattle.std.proofs.Common.{◌≡◌, ℕ, suc, ◌==◌, inl, inr, Bool, true, false, not, ◌&&◌, ◌||◌, List, [], ◌∷◌, map, Some, None, is_some, refl, sym, ap, ◌∙◌, subst, arith}
use Rattle.std.specs.List.{list_any, filter}
use Rattle.std.specs.Cmp.{both_ways}
use Rattle.std.proofs.lemmas.Bool.{cases_eq}
use Rattle.std.proofs.lemmas.Bool.Decides.{nat_tests}
use Rattle.std.proofs.lemmas.List.Folds.{list_any-append}
use Rattle.pnp_model.specs.Keyed.{those}
use Rattle.pnp_model.specs.Tests.{has, is_surprise_removed}
use Rattle.pnp_model.specs.Cores.{node_at}
use Rattle.pnp_model.specs.Records.{Node, Relation, Handle}
use Rattle.pnp_model.specs.Trees.{hangs_on}
use Rattle.pnp_model.specs.Handles as handles
use Rattle.pnp_model.specs.Handles.{holds_back, is_open, is_ready_device}
use Rattle.pnp_laws.specs.Kept.{Ascending}
use Rattle.pnp_laws.proofs.Closures.{tail_at, head_at}
use Rattle.pnp_laws.proofs.Lists.{cons_here, cons_there, has_cases}
use Rattle.pnp_laws.proofs.Truths.{and_both, both_true, or_cases, or_left, or_right}
use Rattle.devnode_tree.specs.Entries.{child_serials}
use Rattle.devnode_tree.specs.Trees.{Tree, IsTree}
use Rattle.relations.specs.Edges.{SameSums, to_member}
use Rattle.relations.specs.Leaving.{base, below, members_of, is_there}
use Rattle.relations.specs.declared.edges.Edge.{Edge}
use Rattle.relations.proofs.Directs.{ascending, hangs_listed, listed_hangs}
use Rattle.relations.proofs.Sums.{any_agree}
use Rattle.operation_frame.specs.Nodes.{is_full, has_drivers}
use Rattle.surprise_remove.specs.Ready.{is_let_go}
use Rattle.surprise_remove.proofs.Direct.{any_below}

-- A test of a list is passed by one of it --------------------------------------------------------

-- a node that passes is there
any_node : (lo : ℕ) (p : Node → Bool) (nodes : List Node) → Ascending lo nodes → list_any p nodes ≡ true → (j : ℕ) × (m : Node) × (node_at j nodes ≡ Some m) × (p m ≡ true)
any_node lo p [] g h = absurd (cc)
any_node lo p (n ∷ nodes) g h =
    elim (or_cases (p n) (list_any p nodes) h) [
      | inl a ↦ (n.serial, n, head_at n nodes, a)
      | inr b ↦ let more = any_node (suc n.serial) p nodes g.1 b in (more.0, more.1, tail_at lo n nodes more.0 more.1 g more.2, more.3)
    ]

node_any : (p : Node → Bool) (nodes : List Node) (j : ℕ) (m : Node) → node_at j nodes ≡ Some m → p m ≡ true → list_any p nodes ≡ true
node_any p [] j m at h = absurd (cc)
node_any p (n ∷ nodes) j m at h =
    elim (cases_eq n.serial j) [
      | inl e ↦ let same : n ≡ m = grind (arith, nat_tests) in or_left (p n) (list_any p nodes) (subst (λ (x : Node). p x ≡ true) (sym same) h)
      | inr d ↦ or_right (p n) (list_any p nodes) (node_any p nodes j m (grind (arith, nat_tests)) h)
    ]

any_serial : (p : ℕ → Bool) (ks : List ℕ) → list_any p ks ≡ true → (j : ℕ) × (has ks j ≡ true) × (p j ≡ true)
any_serial p [] h = absurd (cc)
any_serial p (k ∷ ks) h =
    elim (or_cases (p k) (list_any p ks) h) [
      | inl a ↦ (k, cons_here k ks, a)
      | inr b ↦ let more = any_serial p ks b in (more.0, cons_there k ks more.0 more.1, more.2)
    ]

serial_any : (p : ℕ → Bool) (ks : List ℕ) (j : ℕ) → has ks j ≡ true → p j ≡ true → list_any p ks ≡ true
serial_any p [] j at h = absurd (cc)
serial_any p (k ∷ ks) j at h =
    elim (has_cases k j ks at) [
      | inl e ↦ or_left (p k) (list_any p ks) (subst (λ (i : ℕ). p i ≡ true) (sym e) h)
      | inr b ↦ or_right (p k) (list_any p ks) (serial_any p ks j b h)
    ]

-- What hangs on a device ---------------------------------------------------------------------------

-- the machine's word for a stack
full_is : (stack : List ℕ) → handles.has_drivers stack ≡ is_full stack
full_is [] = refl
full_is (d ∷ ds) = refl

abbrev pub full_at : List Node → ℕ → Bool
full_at nodes j = has_drivers (node_at j nodes)

full_there : (nodes : List Node) (j : ℕ) → full_at nodes j ≡ (full_at nodes j && is_there nodes j)
full_there nodes j = elim (node_at j nodes) as (λ o. has_drivers o ≡ (has_drivers o && is_some o)) [ None ↦ refl | Some m ↦ by_stack m.stack ]
  where
    by_stack : (stack : List ℕ) → is_full stack ≡ (is_full stack && true)
    by_stack [] = refl
    by_stack (d ∷ ds) = refl

module _ (nodes : List Node) (rs : List Relation) (k : ℕ) where
  -- it has drivers: of all that is listed below the device ..
  hangs_full : Ascending 0 nodes → list_any (full_at nodes) (below nodes rs k) ≡ list_any (holds_back (base nodes rs) k) nodes
  hangs_full g =
      both_ways (list_any (full_at nodes) (below nodes rs k)) (list_any (holds_back (base nodes rs) k) nodes)
      (λ h.
      let some = any_serial (full_at nodes) (below nodes rs k) h in
      let node = listed_hangs nodes rs g k some.0 some.1 in
      node_any (holds_back (base nodes rs) k) nodes some.0 node.0 node.1
      (both_true (hangs_on (base nodes rs) (k ∷ []) node.0) (handles.has_drivers node.0.stack) node.2 (full_is node.0.stack ∙ (sym (ap has_drivers node.1) ∙ some.2))))
      (λ h.
      let some = any_node 0 (holds_back (base nodes rs) k) nodes g h in
      let two = and_both (hangs_on (base nodes rs) (k ∷ []) some.1) (handles.has_drivers some.1.stack) some.3 in
      serial_any (full_at nodes) (below nodes rs k) some.0 (hangs_listed nodes rs g k some.0 some.1 some.2 two.0)
      (ap has_drivers some.2 ∙ (sym (full_is some.1.stack) ∙ two.1)))

  -- .. of a child ..
  pub child_says : list_any (full_at nodes) (child_serials nodes k) ≡ true → list_any (full_at nodes) (below nodes rs k) ≡ true
  child_says h =
      list_any-append (full_at nodes) (child_serials nodes k) (those (is_there nodes) (members_of rs k))
      ∙ or_left (list_any (full_at nodes) (child_serials nodes k)) (list_any (full_at nodes) (those (is_there nodes) (members_of rs k))) h

  -- .. or, where no child has, of what the edges lead to
  pub edges_say : (edges : List Edge) → SameSums edges (filter (λ e. e.from == k) (map to_member rs)) → list_any (full_at nodes) (child_serials nodes k) ≡ false
      → list_any (λ e. full_at nodes e.to) edges ≡ list_any (full_at nodes) (below nodes rs k)
  edges_say edges same none =
      any_agree (λ e. full_at nodes e.to) (λ e. full_at nodes e.to && is_there nodes e.to) edges (λ e. full_there nodes e.to)
      ∙ (sym (ap (λ b. b || list_any (λ e. full_at nodes e.to && is_there nodes e.to) edges) none) ∙ any_below nodes rs (full_at nodes) k edges same)

-- so the device is ready
and_more : (a b c d : Bool) → ((a && (b && c)) && d) ≡ (a && (b && (c && d)))
and_more true true c d = refl
and_more true false c d = refl
and_more false b c d = refl

pub ready_is : (t : Tree) (rs : List Relation) (hs : List Handle) (n : Node) (go back : Bool) → IsTree t → go ≡ is_let_go hs n → back ≡ list_any (full_at t.nodes) (below t.nodes rs n.serial)
    → (go && not back) ≡ is_ready_device (base t.nodes rs) hs n
ready_is t rs hs n go back tree g b =
    ap (λ x. x && not back) g
    ∙ (ap (λ x. is_let_go hs n && not x) (b ∙ hangs_full t.nodes rs n.serial (ascending 0 t.nodes tree.ascends))
    ∙ and_more (is_surprise_removed n.state) (handles.has_drivers n.stack) (not (is_open hs n.serial)) (not (list_any (holds_back (base t.nodes rs) n.serial) t.nodes)))
