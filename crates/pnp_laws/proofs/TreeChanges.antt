-- What the changes of nodes and relations keep of the tree.
use Rattle.std.proofs.Common.{ℕ, ◌<◌, ◌≡◌, ◌==◌, inl, inr, true, not, ◌&&◌, ◌||◌, List, [], ◌∷◌, map, zero, suc, Option, Some, None, refl, sym, ap, ◌∙◌, subst}
use Rattle.std.specs.List.{list_any}
use Rattle.std.specs.Option.{option_map}
use Rattle.std.proofs.lemmas.Bool.{cases_eq}
use Rattle.pnp_model.specs.Keyed.{changed_first}
use Rattle.pnp_model.specs.Tests.{has}
use Rattle.pnp_model.specs.Records.{Node, Core, Relation}
use Rattle.pnp_model.specs.Cores.{is_node, node_at}
use Rattle.pnp_model.specs.Trees.{hangs_on, above, above_in}
use Rattle.pnp_labels.specs.declared.states.DevState.TheVariants.{NoStack}
use Rattle.pnp_laws.specs.Kept.{is_idle}
use Rattle.pnp_laws.proofs.Lookups.{some_same, node_from, node_changed_same, node_changed_other, map_from, node_at-map}
use Rattle.pnp_laws.proofs.Ranks.{NoNewEdge, Ranked_less, RootFree_less, RelationsBelow, same_edge}
use Rattle.pnp_laws.proofs.Standing.{Tree}

-- Nodes change, but neither parents nor paths, and nobody becomes idle -------------------------

pub record Alike (n m : Node) : Type 0 where
  pub serial : m.serial ≡ n.serial
  pub parent : m.parent ≡ n.parent
  pub path : m.path ≡ n.path
  pub born : m.born ≡ n.born
  pub idle : is_idle m.state ≡ true → is_idle n.state ≡ true
  pub bare : m.state ≡ NoStack → n.state ≡ NoStack

pub alike_self : (n : Node) → Alike n n
alike_self n = record { serial = refl; parent = refl; path = refl; born = refl; idle = λ h. h; bare = λ h. h }

pub record SameTree (c d : Core) : Type 0 where
  pub from : (k : ℕ) (m : Node) → node_at k d.nodes ≡ Some m → (n : Node) × (node_at k c.nodes ≡ Some n) × Alike n m
  pub to : (k : ℕ) (n : Node) → node_at k c.nodes ≡ Some n → (m : Node) × (node_at k d.nodes ≡ Some m) × Alike n m
  pub relations : d.relations ≡ c.relations

pub same_still : (c d : Core) → d.nodes ≡ c.nodes → d.relations ≡ c.relations → SameTree c d
same_still c d a b =
    record {
      from = λ k m h. (m, subst (λ (x : List Node). node_at k x ≡ Some m) a h, alike_self m);
      to = λ k n h. (n, subst (λ (x : List Node). node_at k x ≡ Some n) (sym a) h, alike_self n);
      relations = b;
    }

pub same_changed : (c d : Core) (j : ℕ) (f : Node → Node) (node : Node) → d.nodes ≡ changed_first (is_node j) f c.nodes → d.relations ≡ c.relations → ((x : Node) → (f x).serial ≡ x.serial) →
    node_at j c.nodes ≡ Some node → Alike node (f node) → SameTree c d
same_changed c d j f node a b keeps at alike =
    record {
      from = λ k m h.
          elim (node_from j k f c.nodes m keeps (subst (λ (x : List Node). node_at k x ≡ Some m) a h)) [
            | inl (e, (y, q, r)) ↦
                let at_k = subst (λ (i : ℕ). node_at i c.nodes ≡ Some node) e at in
                let same : node ≡ y = some_same (node_at k c.nodes) node y at_k q in
                (y, q, subst (λ (z : Node). Alike y z) (sym r) (subst (λ (z : Node). Alike z (f z)) same alike))
            | inr (d, q) ↦ (m, q, alike_self m)
          ];
      to = λ k n h.
          elim (cases_eq j k) [
            | inl e ↦
                let at_k = subst (λ (i : ℕ). node_at i c.nodes ≡ Some node) e at in
                let same : node ≡ n = some_same (node_at k c.nodes) node n at_k h in
                let there : node_at j (changed_first (is_node j) f c.nodes) ≡ Some (f node) = node_changed_same j f c.nodes keeps ∙ ap (option_map f) at in (
                  f node,
                  subst (λ (x : List Node). node_at k x ≡ Some (f node)) (sym a) (subst (λ (i : ℕ). node_at i (changed_first (is_node j) f c.nodes) ≡ Some (f node)) e there),
                  subst (λ (z : Node). Alike z (f node)) same alike,
                )
            | inr q ↦ (n, subst (λ (x : List Node). node_at k x ≡ Some n) (sym a) (node_changed_other j k f c.nodes keeps q ∙ h), alike_self n)
          ];
      relations = b;
    }

pub same_mapped : (c d : Core) (f : Node → Node) → d.nodes ≡ map f c.nodes → d.relations ≡ c.relations → ((x : Node) → Alike x (f x)) → SameTree c d
same_mapped c d f a b alike =
    record {
      from = λ k m h.
          let old = map_from k f c.nodes m (λ x. (alike x).serial) (subst (λ (x : List Node). node_at k x ≡ Some m) a h) in
          (old.0, old.1, subst (λ (z : Node). Alike old.0 z) (sym old.2) (alike old.0));
      to = λ k n h. (f n, subst (λ (x : List Node). node_at k x ≡ Some (f n)) (sym a) (node_at-map k f c.nodes (λ x. (alike x).serial) ∙ ap (option_map f) h), alike n);
      relations = b;
    }

pub edge_back : (c d : Core) (k : ℕ) (n m : Node) → d.relations ≡ c.relations → m.serial ≡ n.serial → m.parent ≡ n.parent → hangs_on d (k ∷ []) m ≡ true → hangs_on c (k ∷ []) n ≡ true
edge_back c d k n m r e f h =
    let same : hangs_on d (k ∷ []) m ≡ hangs_on c (k ∷ []) m = ap (λ (rs : List Relation). (has (k ∷ []) m.parent && not (m.serial == 0)) || list_any (λ r. r.member == m.serial && has (k ∷ []) r.owner) rs) r in
    sym (same_edge c k m n e f) ∙ sym same ∙ h

pub edges_same : (c d : Core) → SameTree c d → NoNewEdge c d
edges_same c d same k j m at h =
    let old = same.from j m at in
    (old.0, old.1, edge_back c d k old.0 m same.relations old.2.serial old.2.parent h)

pub tree_same : (next : ℕ) (c d : Core) → SameTree c d → Tree next c → Tree next d
tree_same next c d same tree =
    let less = edges_same c d same in
    record {
      rooted = λ j m at up.
          let old = same.from j m at in
          let parent = tree.rooted j old.0 old.1 up in
          let now = same.to old.0.parent parent.1.0 parent.1.1 in
          let e = old.2.parent in
          (subst (λ (i : ℕ). i < j) (sym e) parent.0, subst (λ (i : ℕ). (p : Node) × (node_at i d.nodes ≡ Some p)) (sym e) (now.0, now.1));
      root = λ m at. let old = same.from 0 m at in old.2.parent ∙ tree.root old.0 old.1;
      related = subst (λ (rs : List Relation). RelationsBelow next rs) (sym same.relations) tree.related;
      rank = tree.rank;
      ranked = Ranked_less tree.rank c d less tree.ranked;
      free = RootFree_less c d less tree.free;
      idle = λ k n at idle j m there h.
          let own = same.from k n at in
          let old = less k j m there h in
          tree.idle k own.0 own.1 (own.2.idle idle) j old.0 old.1 old.2;
      only = λ k j m there bare h.
          let own = same.from j m there in
          let old = edge_back c d k own.0 m same.relations own.2.serial own.2.parent h in
          let before = tree.only k j own.0 own.1 (own.2.bare bare) old in
          (own.2.parent ∙ before.0, before.1);
      paths = λ j k n m at there e.
          let a = same.from j n at in
          let b = same.from k m there in
          tree.paths j k a.0 b.0 a.1 b.1 (sym a.2.path ∙ e ∙ b.2.path);
    }

-- The same devices with the same parents

pub record SameNodes (old new : List Node) : Type 0 where
  pub from : (k : ℕ) (m : Node) → node_at k new ≡ Some m → (n : Node) × (node_at k old ≡ Some n) × (m.parent ≡ n.parent)
  pub to : (k : ℕ) (n : Node) → node_at k old ≡ Some n → (m : Node) × (node_at k new ≡ Some m)

pub nodes_same : (c d : Core) → SameTree c d → SameNodes c.nodes d.nodes
nodes_same c d same =
    record {
      from = λ k m at. let old = same.from k m at in (old.0, old.1, old.2.parent);
      to = λ k n at. let now = same.to k n at in (now.0, now.1);
    }

pub nodes_kept : (old new : List Node) (j : ℕ) (f : Node → Node) → new ≡ changed_first (is_node j) f old → ((x : Node) → (f x).serial ≡ x.serial) → ((x : Node) → (f x).parent ≡ x.parent) → SameNodes old new
nodes_kept old new j f is serial parent =
    record {
      from = λ k m at. elim (node_from j k f old m serial (subst (λ (x : List Node). node_at k x ≡ Some m) is at)) [
        | inl (e, (n, q, r)) ↦ (n, q, ap (λ (z : Node). z.parent) r ∙ parent n)
        | inr (d, q) ↦ (m, q, refl)
      ];
      to = λ k n at. elim (cases_eq j k) [
        | inl e ↦ (
          f n,
          subst (λ (x : List Node). node_at k x ≡ Some (f n)) (sym is)
              (subst (λ (i : ℕ). node_at k (changed_first (is_node i) f old) ≡ Some (f n)) (sym e) (node_changed_same k f old serial ∙ ap (option_map f) at)),
        )
        | inr d ↦ (n, subst (λ (x : List Node). node_at k x ≡ Some n) (sym is) (node_changed_other j k f old serial d ∙ at))
      ];
    }

-- what stands above is the same
above_alike : (n : ℕ) (old new : List Node) → SameNodes old new → (k : ℕ) → above_in n new k ≡ above_in n old k
above_alike n old new same k = by_fuel n k (node_at k new) refl
  where
    none_back : (k : ℕ) (o : Option Node) → node_at k old ≡ o → node_at k new ≡ None → o ≡ None
    none_back k None e h = refl
    none_back k (Some n) e h = absurd (let now = same.to k n e in let q = now.1 in cc)

    by_fuel : (n k : ℕ) (o : Option Node) → node_at k new ≡ o → above_in n new k ≡ above_in n old k
    by_fuel zero k o e = refl
    by_fuel (suc n) k None e =
        let gone = none_back k (node_at k old) refl e in
        ap (λ (o : Option Node). elim o as (λ _. List ℕ) [ None ↦ [] | Some node ↦ node.parent ∷ above_in n new node.parent ]) e
        ∙ sym (ap (λ (o : Option Node). elim o as (λ _. List ℕ) [ None ↦ [] | Some node ↦ node.parent ∷ above_in n old node.parent ]) gone)
    by_fuel (suc n) k (Some m) e =
        let was = same.from k m e in
        let p = was.2 in
        let more = by_fuel n m.parent (node_at m.parent new) refl in
        ap (λ (o : Option Node). elim o as (λ _. List ℕ) [ None ↦ [] | Some node ↦ node.parent ∷ above_in n new node.parent ]) e
        ∙ ap (λ (ks : List ℕ). m.parent ∷ ks) more
        ∙ ap (λ (i : ℕ). i ∷ above_in n old i) p
        ∙ sym (ap (λ (o : Option Node). elim o as (λ _. List ℕ) [ None ↦ [] | Some node ↦ node.parent ∷ above_in n old node.parent ]) was.1)

pub above_same : (old new : List Node) → SameNodes old new → (k : ℕ) → above new k ≡ above old k
above_same old new same k = above_alike k old new same k
