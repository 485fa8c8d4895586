-- Which state each device has after a change, and that staying is no change.
use Rattle.std.proofs.Common.{ℕ, ◌≡◌, ◌≢◌, inl, inr, Bool, true, List, [], ◌∷◌, ◌++◌, map, Some, refl, sym, ap, ◌∙◌, subst}
use Rattle.pnp_model.specs.Keyed.{changed_first, without_first}
use Rattle.pnp_model.specs.Records.{Node}
use Rattle.pnp_model.specs.Cores.{is_node, node_at}
use Rattle.pnp_model.specs.Diagram.{Change}
use Rattle.pnp_laws.specs.Kept.{Ascending, Each}
use Rattle.pnp_labels.specs.declared.states.DevState.{DevState}
use Rattle.pnp_labels.specs.declared.label.Label.{Label}
use Rattle.pnp_laws.proofs.Lookups.{node_from, joined_from, map_from, left_from}

pub Change-same : (label : Label) (a : DevState) → Change label a a
Change-same (Label.Add p d true) a = inl refl
Change-same (Label.State p x) a = inl refl
Change-same _ a = refl

-- Which state each device has

pub Each_changed : (test new : ℕ → DevState → Bool) (j : ℕ) (f : Node → Node) (nodes : List Node) (n : Node) → ((x : Node) → (f x).serial ≡ x.serial) →
    node_at j nodes ≡ Some n → new j (f n).state ≡ true → ((k : ℕ) (x : DevState) → j ≢ k → test k x ≡ true → new k x ≡ true) →
    Each test nodes → Each new (changed_first (is_node j) f nodes)
Each_changed test new j f nodes n keeps at here there old k m g =
    elim (node_from j k f nodes m keeps g) [
      | inl (e, (y, q, r)) ↦
          let at_k = subst (λ (i : ℕ). node_at i nodes ≡ Some n) e at in
          let same_m : f n ≡ m = let yn : n ≡ y = cc in cc in
          subst (λ (z : Node). new k z.state ≡ true) same_m (subst (λ (i : ℕ). new i (f n).state ≡ true) e here)
      | inr (d, q) ↦ there k m.state d (old k m q)
    ]

pub Each_same : (test new : ℕ → DevState → Bool) (nodes : List Node) → ((k : ℕ) (x : DevState) → test k x ≡ true → new k x ≡ true) → Each test nodes → Each new nodes
Each_same test new nodes there old k m g = there k m.state (old k m g)

pub Each_left : (test new : ℕ → DevState → Bool) (j : ℕ) (nodes : List Node) → Ascending 0 nodes → ((k : ℕ) (x : DevState) → j ≢ k → test k x ≡ true → new k x ≡ true) →
    Each test nodes → Each new (without_first (is_node j) nodes)
Each_left test new j nodes order there old k m g =
    let from = left_from j k nodes m order g in
    there k m.state from.0 (old k m from.1)

pub Each_mapped : (test new : ℕ → DevState → Bool) (f : Node → Node) (nodes : List Node) → ((n : Node) → (f n).serial ≡ n.serial) → ((n : Node) → (f n).state ≡ n.state) →
    ((k : ℕ) (x : DevState) → test k x ≡ true → new k x ≡ true) → Each test nodes → Each new (map f nodes)
Each_mapped test new f nodes keeps stays there old k m g =
    let from = map_from k f nodes m keeps g in
    let e : m.state ≡ from.0.state = ap (λ (z : Node). z.state) from.2 ∙ stays from.0 in
    subst (λ (x : DevState). new k x ≡ true) (sym e) (there k from.0.state (old k from.0 from.1))

pub Each_joined : (test : ℕ → DevState → Bool) (new : Node) (nodes : List Node) → test new.serial new.state ≡ true → Each test nodes → Each test (nodes ++ new ∷ [])
Each_joined test new nodes here old k m g =
    elim (joined_from k nodes new m g) [
      | inl q ↦ old k m q
      | inr (q, r, u) ↦ subst (λ (z : Node). test k z.state ≡ true) (sym r) (subst (λ (i : ℕ). test i new.state ≡ true) u here)
    ]
