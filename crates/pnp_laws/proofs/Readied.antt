-- A device that is ready to be finished, told by states alone; and whence it is ready after a change of nodes and relations.
use Rattle.std.proofs.Common.{ℕ, suc, ◌≡◌, ◌≢◌, ◌==◌, ◌∙◌, inl, inr, Bool, true, false, cond, not, ◌&&◌, ◌||◌, List, [], ◌∷◌, ◌++◌, map, Some, refl, sym, ap, subst, arith}
use Rattle.std.specs.List.{list_any}
use Rattle.std.specs.Option.{option_map}
use Rattle.std.proofs.lemmas.Bool.{cases_eq}
use Rattle.std.proofs.lemmas.Bool.Decides.{nat_tests}
use Rattle.pnp_labels.specs.declared.states.DevState.TheVariants.{NoStack, SurpriseRemoved}
use Rattle.pnp_model.specs.Cores.{add_node, change_node, drop_node, forget, is_apart_from, node_at, strip}
use Rattle.pnp_model.specs.Handles.{has_drivers, holds_back, is_open, is_ready_device}
use Rattle.pnp_model.specs.Records.{Core, Handle, Node, Relation}
use Rattle.pnp_model.specs.Tests.{has, is_surprise_removed}
use Rattle.pnp_model.specs.Trees.{hangs_on}
use Rattle.pnp_laws.specs.Kept.{Ascending}
use Rattle.pnp_laws.proofs.Closures.{head_at, tail_at}
use Rattle.pnp_laws.proofs.Finishing.{StacksFit}
use Rattle.pnp_laws.proofs.Lookups.{joined_keeps, left_other, node_at-map, node_changed_other, node_changed_same, own_serial, some_same}
use Rattle.pnp_laws.proofs.OpSteps.{is_SurpriseRemoved}
use Rattle.pnp_laws.proofs.Standing.{Tree}
use Rattle.pnp_laws.proofs.TreeChanges.{edge_back}
use Rattle.pnp_laws.proofs.Truths.{and_both, both_true, by_test, or_cases, or_left, or_right, untrue}
use Rattle.pnp_laws.proofs.TurnsKept.{ready_bare, ready_parts}

-- what hangs on the device has no drivers
abbrev pub AllBare : Core → ℕ → Type 0
AllBare c k = (i : ℕ) (m : Node) → node_at i c.nodes ≡ Some m → hangs_on c (k ∷ []) m ≡ true → m.state ≡ NoStack

pub record Readied (c : Core) (handles : List Handle) (k : ℕ) (n : Node) : Type 0 where
  pub state : n.state ≡ SurpriseRemoved
  pub shut : is_open handles k ≡ false
  pub bare : AllBare c k

-- The test of the machine ------------------------------------------------------------------------------

pub ready_readied : (next : ℕ) (c : Core) (handles : List Handle) (k : ℕ) (n : Node) → StacksFit c.nodes → Tree next c → node_at k c.nodes ≡ Some n → is_ready_device c handles n ≡ true → Readied c handles k n
ready_readied next c handles k n stacks tree at ready =
    let own = own_serial k n c.nodes at in
    let parts = ready_parts c handles n ready in
    record {
      state = is_SurpriseRemoved n.state (and_both (is_surprise_removed n.state) _ ready).0;
      shut = subst (λ (i : ℕ). is_open handles i ≡ false) own parts.shut;
      bare = subst (λ (i : ℕ). AllBare c i) own (ready_bare next c handles n stacks tree parts);
    }

-- a node that passes
any_node : (test : Node → Bool) (lo : ℕ) (nodes : List Node) → Ascending lo nodes → list_any test nodes ≡ true → (i : ℕ) × (m : Node) × (node_at i nodes ≡ Some m) × (test m ≡ true)
any_node test lo [] order h = absurd (cc)
any_node test lo (n ∷ ns) order h =
    elim (or_cases (test n) (list_any test ns) h) [
      | inl e ↦ (n.serial, n, head_at n ns, e)
      | inr q ↦ let more = any_node test (suc n.serial) ns order.1 q in (more.0, more.1, tail_at lo n ns more.0 more.1 order more.2, more.3)
    ]

full : (stack : List ℕ) → stack ≢ [] → has_drivers stack ≡ true
full [] some = absurd (some refl)
full (d ∷ ds) some = refl

empty : (stack : List ℕ) → stack ≡ [] → has_drivers stack ≡ false
empty [] e = refl
empty (d ∷ ds) e = cc

untrue_not : (b : Bool) → b ≡ false → not b ≡ true
untrue_not true e = cc
untrue_not false e = refl

pub readied_ready : (c : Core) (handles : List Handle) (k : ℕ) (n : Node) → Ascending 0 c.nodes → StacksFit c.nodes → node_at k c.nodes ≡ Some n → Readied c handles k n → is_ready_device c handles n ≡ true
readied_ready c handles k n order stacks at h =
    let own = own_serial k n c.nodes at in
    let stack = stacks k n at in
    let state = h.state in
    let up : k ≢ 0 = λ z. let root = stack.root z in cc in
    let drivers = full n.stack (λ e. let none = stack.some up e in cc) in
    let shut = subst (λ (i : ℕ). is_open handles i ≡ false) (sym own) h.shut in
    let lone : list_any (holds_back c n.serial) c.nodes ≡ false = untrue (list_any (holds_back c n.serial) c.nodes) (λ e.
    let some = any_node (holds_back c n.serial) 0 c.nodes order e in
    let parts = and_both (hangs_on c (n.serial ∷ []) some.1) (has_drivers some.1.stack) some.3 in
    let bare = h.bare some.0 some.1 some.2 (subst (λ (i : ℕ). hangs_on c (i ∷ []) some.1 ≡ true) own parts.0) in
    let none = empty some.1.stack ((stacks some.0 some.1 some.2).none bare) in
    let some_drivers = parts.1 in
    cc) in
    both_true (is_surprise_removed n.state) (has_drivers n.stack && (not (is_open handles n.serial) && not (list_any (holds_back c n.serial) c.nodes))) (ap is_surprise_removed state)
    (both_true (has_drivers n.stack) (not (is_open handles n.serial) && not (list_any (holds_back c n.serial) c.nodes)) drivers
    (both_true (not (is_open handles n.serial)) (not (list_any (holds_back c n.serial) c.nodes)) (untrue_not (is_open handles n.serial) shut) (untrue_not (list_any (holds_back c n.serial) c.nodes) lone)))

-- Edges stay -------------------------------------------------------------------------------------------

abbrev is_edge : ℕ → ℕ → Relation → Bool
is_edge k i r = r.member == i && has (k ∷ []) r.owner

-- relations of two others are not forgotten
kept_related : (rs : List Relation) (k i j : ℕ) → j ≢ k → j ≢ i → list_any (is_edge k i) rs ≡ true → list_any (is_edge k i) (forget j rs) ≡ true
kept_related [] k i j a b h = absurd (cc)
kept_related (r ∷ rs) k i j a b h =
    elim (or_cases (is_edge k i r) (list_any (is_edge k i) rs) h) [
      | inl e ↦
          let both = and_both (r.member == i) (has (k ∷ []) r.owner) e in
          let one = both.0 in
          let two = both.1 in
          let apart : is_apart_from j r ≡ true = grind (arith, nat_tests) in
          subst (λ (b : Bool). list_any (is_edge k i) (cond b (r ∷ forget j rs) (forget j rs)) ≡ true) (sym apart) (or_left (is_edge k i r) (list_any (is_edge k i) (forget j rs)) e)
      | inr q ↦
          let more = kept_related rs k i j a b q in
          by_test (λ b. list_any (is_edge k i) (cond b (r ∷ forget j rs) (forget j rs)) ≡ true) (is_apart_from j r) (λ e. or_right (is_edge k i r) (list_any (is_edge k i) (forget j rs)) more) (λ e. more)
    ]

pub edge_stripped : (j : ℕ) (c : Core) (k i : ℕ) (m : Node) → m.serial ≡ i → j ≢ k → j ≢ i → hangs_on c (k ∷ []) m ≡ true → hangs_on (strip j c) (k ∷ []) m ≡ true
edge_stripped j c k i m own a b h =
    let other : j ≢ m.serial = λ e. b (e ∙ own) in
    elim (or_cases (has (k ∷ []) m.parent && not (m.serial == 0)) (list_any (is_edge k m.serial) c.relations) h) [
      | inl e ↦ or_left (has (k ∷ []) m.parent && not (m.serial == 0)) (list_any (is_edge k m.serial) (forget j c.relations)) e
      | inr q ↦ or_right (has (k ∷ []) m.parent && not (m.serial == 0)) (list_any (is_edge k m.serial) (forget j c.relations)) (kept_related c.relations k m.serial j a other q)
    ]

more_related : (rs : List Relation) (r : Relation) (k i : ℕ) → list_any (is_edge k i) rs ≡ true → list_any (is_edge k i) (rs ++ r ∷ []) ≡ true
more_related [] r k i h = absurd (cc)
more_related (x ∷ xs) r k i h =
    elim (or_cases (is_edge k i x) (list_any (is_edge k i) xs) h) [
      | inl e ↦ or_left (is_edge k i x) (list_any (is_edge k i) (xs ++ r ∷ [])) e
      | inr q ↦ or_right (is_edge k i x) (list_any (is_edge k i) (xs ++ r ∷ [])) (more_related xs r k i q)
    ]

-- What hung on the device had no drivers, if what hangs on it now has none ------------------------------

pub bare_still : (c d : Core) (k : ℕ) → d.nodes ≡ c.nodes → d.relations ≡ c.relations → AllBare d k → AllBare c k
bare_still c d k nodes relations bare i m at on = bare i m (subst (λ (x : List Node). node_at i x ≡ Some m) (sym nodes) at) (edge_back d c k m m (sym relations) refl refl on)

pub bare_related : (c d : Core) (k : ℕ) (r : Relation) → d.nodes ≡ c.nodes → d.relations ≡ c.relations ++ r ∷ [] → AllBare d k → AllBare c k
bare_related c d k r nodes relations bare i m at on =
    bare i m (subst (λ (x : List Node). node_at i x ≡ Some m) (sym nodes) at)
    (subst (λ (rs : List Relation). ((has (k ∷ []) m.parent && not (m.serial == 0)) || list_any (is_edge k m.serial) rs) ≡ true) (sym relations)
    (elim (or_cases (has (k ∷ []) m.parent && not (m.serial == 0)) (list_any (is_edge k m.serial) c.relations) on) [
      | inl e ↦ or_left (has (k ∷ []) m.parent && not (m.serial == 0)) (list_any (is_edge k m.serial) (c.relations ++ r ∷ [])) e
      | inr q ↦ or_right (has (k ∷ []) m.parent && not (m.serial == 0)) (list_any (is_edge k m.serial) (c.relations ++ r ∷ [])) (more_related c.relations r k m.serial q)
    ]))

-- a device changes, which has drivers then if it had some
pub bare_changed : (c : Core) (k j : ℕ) (f : Node → Node) → ((x : Node) → (f x).serial ≡ x.serial) → ((x : Node) → (f x).parent ≡ x.parent) → ((x : Node) → node_at j c.nodes ≡ Some x → (f x).state ≡ NoStack → x.state ≡ NoStack) → AllBare (change_node j f c) k → AllBare c k
bare_changed c k j f serial parent stays bare i m at on =
    elim (cases_eq j i) [
      | inl e ↦
          let at_j = subst (λ (x : ℕ). node_at x c.nodes ≡ Some m) (sym e) at in
          stays m at_j (bare j (f m) (node_changed_same j f c.nodes serial ∙ ap (option_map f) at_j) (edge_back (change_node j f c) c k (f m) m refl (sym (serial m)) (sym (parent m)) on))
      | inr d ↦ bare i m (node_changed_other j i f c.nodes serial d ∙ at) on
    ]

pub bare_mapped : (c d : Core) (k : ℕ) (f : Node → Node) → d.nodes ≡ map f c.nodes → d.relations ≡ c.relations → ((x : Node) → (f x).serial ≡ x.serial) → ((x : Node) → (f x).parent ≡ x.parent) → ((x : Node) → (f x).state ≡ x.state) → AllBare d k → AllBare c k
bare_mapped c d k f nodes relations serial parent state bare i m at on =
    let now = node_at-map i f c.nodes serial ∙ ap (option_map f) at in
    sym (state m) ∙ bare i (f m) (subst (λ (x : List Node). node_at i x ≡ Some (f m)) (sym nodes) now) (edge_back d c k (f m) m (sym relations) (sym (serial m)) (sym (parent m)) on)

pub bare_joined : (c : Core) (k : ℕ) (new : Node) → AllBare (add_node new c) k → AllBare c k
bare_joined c k new bare i m at on = bare i m (joined_keeps i c.nodes new m at) on

-- a device loses its drivers: it alone may have had some
pub bare_stripped : (c : Core) (k j : ℕ) → j ≢ k → AllBare (strip j c) k → (i : ℕ) (m : Node) → node_at i c.nodes ≡ Some m → j ≢ i → hangs_on c (k ∷ []) m ≡ true → m.state ≡ NoStack
bare_stripped c k j other bare i m at d on = bare i m (node_changed_other j i _ c.nodes (λ x. refl) d ∙ at) (edge_stripped j c k i m (own_serial i m c.nodes at) other d on)

-- a device leaves that has none
pub bare_left : (c : Core) (k j : ℕ) (node : Node) → node_at j c.nodes ≡ Some node → node.state ≡ NoStack → AllBare (drop_node j c) k → AllBare c k
bare_left c k j node there none bare i m at on =
    elim (cases_eq j i) [
      | inl e ↦ subst (λ (x : Node). x.state ≡ NoStack) (some_same (node_at i c.nodes) node m (subst (λ (x : ℕ). node_at x c.nodes ≡ Some node) e there) at) none
      | inr d ↦ bare i m (left_other j i c.nodes d ∙ at) on
    ]
