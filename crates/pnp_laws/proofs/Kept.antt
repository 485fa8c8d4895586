-- What the changes of a state keep.
use Rattle.std.proofs.Common.{ℕ, ◌+◌, ◌≡◌, ◌≢◌, inl, inr, List, [], ◌∷◌, ◌++◌, map, Option, Some, sym, ap, ◌∙◌, subst, arith}
use Rattle.std.proofs.lemmas.Bool.{cases_eq}
use Rattle.std.specs.Option.{option_map}
use Rattle.pnp_model.specs.Keyed.{changed_first, without_first}
use Rattle.pnp_model.specs.Records.{Node, Activity, State, Job}
use Rattle.pnp_model.specs.Cores.{is_node, node_at}
use Rattle.pnp_model.specs.States.{activity_at}
use Rattle.pnp_laws.specs.Kept.{Good, Lawful, HasStackOf, Fits, InOrder, Alone, OperationFits, IsGood}
use Rattle.pnp_laws.proofs.Lookups.{node_from, node_changed_same, node_changed_other, Ascending-changed, Ascending-map, Ascending-joined, Ascending-without, joined_from, joined_keeps, left_from, map_from}

-- a step, by its parts
pub lawful_by : (t : State) (next : ℕ) (nodes : List Node) (activities : List Activity) (operation : Option Job) →
    t.next_serial ≡ next → t.core.nodes ≡ nodes → t.activities ≡ activities → t.operation ≡ operation →
    Good next nodes activities operation → Lawful t
lawful_by t next nodes activities operation a b c d good =
    record {
      good =
          subst (λ (x : ℕ). Good x t.core.nodes t.activities t.operation) (sym a)
          (subst (λ (x : List Node). Good next x t.activities t.operation) (sym b)
          (subst (λ (x : List Activity). Good next nodes x t.operation) (sym c)
          (subst (λ (x : Option Job). Good next nodes activities x) (sym d) good)));
    }

-- one node is changed, with its activity, and the operation goes on
pub Good_changed : (next j : ℕ) (f : Node → Node) (n : Node) (nodes : List Node) (acts new : List Activity) (o p : Option Job) → ((x : Node) → (f x).serial ≡ x.serial) →
    node_at j nodes ≡ Some n → HasStackOf j (f n).state (f n).stack → InOrder 0 new → ((k : ℕ) → j ≢ k → activity_at k new ≡ activity_at k acts) →
    ((a : Activity) → activity_at j new ≡ Some a → (j ≢ 0) × Fits a.phase (f n).state) → Alone p new → OperationFits p (changed_first (is_node j) f nodes) →
    Good next nodes acts o → Good next (changed_first (is_node j) f nodes) new p
Good_changed next j f n nodes acts new o p keeps at stack order other here alone fits good =
    let same = node_changed_same j f nodes keeps in
    let now : node_at j (changed_first (is_node j) f nodes) ≡ Some (f n) = same ∙ ap (option_map f) at in
    record {
      begun = good.begun;
      serials = Ascending-changed 0 j f nodes keeps good.serials;
      below =
          λ k m g. elim (node_from j k f nodes m keeps g) [
            | inl (e, (y, q, r)) ↦ good.below k y q
            | inr (d, q) ↦ good.below k m q
          ];
      stacks =
          λ k m g. elim (node_from j k f nodes m keeps g) [
            | inl (e, (y, q, r)) ↦
                let at_k = subst (λ (i : ℕ). node_at i nodes ≡ Some n) e at in
                let same_m : f n ≡ m = let yn : n ≡ y = cc in cc in
                subst (λ (z : Node). HasStackOf k z.state z.stack) same_m (subst (λ (i : ℕ). HasStackOf i (f n).state (f n).stack) e stack)
            | inr (d, q) ↦ good.stacks k m q
          ];
      order = order;
      phases =
          λ k a g. elim (cases_eq j k) [
            | inl e ↦
                let fit = here a (subst (λ (i : ℕ). activity_at i new ≡ Some a) (sym e) g) in
                (f n, subst (λ (i : ℕ). node_at i (changed_first (is_node j) f nodes) ≡ Some (f n)) e now, subst (λ (i : ℕ). i ≢ 0) e fit.0, fit.1)
            | inr d ↦
                let old = good.phases k a (sym (other k d) ∙ g) in
                (old.0, node_changed_other j k f nodes keeps d ∙ old.1, old.2, old.3)
          ];
      alone = alone;
      fits = fits;
    }

-- no node is changed
pub Good_nodes : (next : ℕ) (nodes : List Node) (acts new : List Activity) (o p : Option Job) → InOrder 0 new →
    ((k : ℕ) (a : Activity) → activity_at k new ≡ Some a → (n : Node) × (node_at k nodes ≡ Some n) × (k ≢ 0) × Fits a.phase n.state) → Alone p new → OperationFits p nodes →
    Good next nodes acts o → Good next nodes new p
Good_nodes next nodes acts new o p order phases alone fits good =
    record { begun = good.begun; serials = good.serials; below = good.below; stacks = good.stacks; order = order; phases = phases; alone = alone; fits = fits }

-- a node joins
pub Good_joined : (hi : ℕ) (new : Node) (nodes : List Node) (acts : List Activity) (o : Option Job) → new.serial ≡ hi → new.stack ≡ [] → HasStackOf hi new.state new.stack →
    OperationFits o (nodes ++ new ∷ []) → Good hi nodes acts o → Good (hi + 1) (nodes ++ new ∷ []) acts o
Good_joined hi new nodes acts o e bare stack fits good =
    record {
      begun = omega arith;
      serials = Ascending-joined 0 hi nodes new good.serials good.below (omega arith) e;
      below =
          λ k m g. elim (joined_from k nodes new m g) [
            | inl q ↦ let b = good.below k m q in omega arith
            | inr (q, r, u) ↦ omega arith
          ];
      stacks =
          λ k m g. elim (joined_from k nodes new m g) [
            | inl q ↦ good.stacks k m q
            | inr (q, r, u) ↦ subst (λ (z : Node). HasStackOf k z.state z.stack) (sym r) (subst (λ (i : ℕ). HasStackOf i new.state new.stack) (sym e ∙ u) stack)
          ];
      order = good.order;
      phases = λ k a g. let old = good.phases k a g in (old.0, joined_keeps k nodes new old.0 old.1, old.2, old.3);
      alone = good.alone;
      fits = fits;
    }

-- a node leaves, in an operation
pub Good_left : (next j : ℕ) (nodes : List Node) (o p : Option Job) → OperationFits p (without_first (is_node j) nodes) → Alone p [] →
    Good next nodes [] o → Good next (without_first (is_node j) nodes) [] p
Good_left next j nodes o p fits alone good =
    record {
      begun = good.begun;
      serials = Ascending-without 0 j nodes good.serials;
      below = λ k m g. good.below k m (left_from j k nodes m good.serials g).1;
      stacks = λ k m g. good.stacks k m (left_from j k nodes m good.serials g).1;
      order = tt;
      phases = λ k a g. absurd (cc);
      alone = alone;
      fits = fits;
    }

-- all nodes are changed, in an operation, but for states and stacks
pub Good_mapped : (next : ℕ) (f : Node → Node) (nodes : List Node) (o p : Option Job) → ((x : Node) → (f x).serial ≡ x.serial) → ((x : Node) → (f x).state ≡ x.state) → ((x : Node) → (f x).stack ≡ x.stack) →
    OperationFits p (map f nodes) → Alone p [] → Good next nodes [] o → Good next (map f nodes) [] p
Good_mapped next f nodes o p keeps state stack fits alone good =
    record {
      begun = good.begun;
      serials = Ascending-map 0 f nodes keeps good.serials;
      below = λ k m g. let from = map_from k f nodes m keeps g in good.below k from.0 from.1;
      stacks =
          λ k m g.
          let from = map_from k f nodes m keeps g in
          let e : m.state ≡ from.0.state = ap (λ (z : Node). z.state) from.2 ∙ state from.0 in
          let h : m.stack ≡ from.0.stack = ap (λ (z : Node). z.stack) from.2 ∙ stack from.0 in
          let old = good.stacks k from.0 from.1 in
          record { none = λ q. h ∙ old.none (sym e ∙ q); some = λ d q. e ∙ old.some d (sym h ∙ q); root = λ z. e ∙ old.root z };
      order = tt;
      phases = λ k a g. absurd (cc);
      alone = alone;
      fits = fits;
    }

-- while an operation runs, nobody is being started
pub alone : (s : State) (o : Job) → IsGood s → s.operation ≡ Some o → s.activities ≡ []
alone s o good runs = subst (λ (x : Option Job). Alone x s.activities) runs good.alone

pub none_acts : (s : State) (o : Job) (k : ℕ) (a : Activity) → IsGood s → s.operation ≡ Some o → activity_at k s.activities ≡ Some a → ⊥
none_acts s o k a good runs at = let none = subst (λ (x : List Activity). activity_at k x ≡ Some a) (alone s o good runs) at in cc
