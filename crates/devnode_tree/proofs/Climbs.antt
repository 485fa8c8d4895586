-- The nodes above a node, met one level at a time.
use Rattle.std.proofs.Common.{◌≡◌, ◌≢◌, ℕ, zero, suc, ◌<◌, ◌≤◌, inl, inr, false, List, [], ◌∷◌, Option, Some, None, IsTrue, refl, sym, ap, ◌∙◌, subst, arith}
use Rattle.std.specs.List.{AllByRecursion}
use Rattle.std.specs.Option.{option_map}
use Rattle.std.proofs.lemmas.Bool.{cases_eq}
use Rattle.std.proofs.lemmas.Bool.Decides.{nat_tests}
use Rattle.pnp_model.specs.Cores.{node_at, serials_of}
use Rattle.pnp_model.specs.Records.{Node}
use Rattle.pnp_model.specs.Tests.{has}
use Rattle.pnp_model.specs.Trees.{above_in, above}
use Rattle.devnode_tree.specs.Trees.{Tree, IsTree, HasParent}

-- what holds of all nodes holds of a node that is found, which has the serial that was looked for
all_at : (P : Node → Type 0) (k : ℕ) (nodes : List Node) (n : Node) → AllByRecursion P nodes → node_at k nodes ≡ Some n → P n × (n.serial ≡ k)
all_at P k [] n all at = absurd (cc)
all_at P k (x ∷ xs) n all at = elim (cases_eq x.serial k) [
  | inl e ↦ (let same : x ≡ n = grind (arith, nat_tests) in (subst P same all.0, sym (ap (λ (m : Node). m.serial) same) ∙ e))
  | inr d ↦ all_at P k xs n all.1 (grind (arith, nat_tests))
]

there_at : (k : ℕ) (nodes : List Node) → IsTrue (has (serials_of nodes) k) → (n : Node) × (node_at k nodes ≡ Some n)
there_at k [] h = absurd (let no : IsTrue false = h in cc)
there_at k (x ∷ xs) h = elim (cases_eq x.serial k) [
  | inl e ↦ (x, grind (arith, nat_tests))
  | inr d ↦ (let more = there_at k xs (grind (arith, nat_tests)) in (more.0, grind (arith, nat_tests)))
]

-- one level up
step_up : (n : ℕ) (nodes : List Node) (k : ℕ) (m : Node) → node_at k nodes ≡ Some m → above_in (suc n) nodes k ≡ m.parent ∷ above_in n nodes m.parent
step_up n nodes k m at = ap (λ (o : Option Node). elim o as (λ _. List ℕ) [ None ↦ [] | Some node ↦ node.parent ∷ above_in n nodes node.parent ]) at

no_step : (n : ℕ) (nodes : List Node) (k : ℕ) → node_at k nodes ≡ None → above_in n nodes k ≡ []
no_step zero nodes k at = refl
no_step (suc n) nodes k at = ap (λ (o : Option Node). elim o as (λ _. List ℕ) [ None ↦ [] | Some node ↦ node.parent ∷ above_in n nodes node.parent ]) at

-- nothing stands above what is not there
pub nothing_above : (nodes : List Node) (k : ℕ) → node_at k nodes ≡ None → above nodes k ≡ []
nothing_above nodes k at = no_step k nodes k at

module _ (t : Tree) (tree : IsTree t) where
  -- the parent is there, with a lower serial
  pub parent_at : (k : ℕ) (n : Node) → node_at k t.nodes ≡ Some n → k ≢ 0 → (n.parent < k) × ((p : Node) × (node_at n.parent t.nodes ≡ Some p))
  parent_at k n at up = by found.0
    where
      found : HasParent (serials_of t.nodes) n × (n.serial ≡ k)
      found = all_at (HasParent (serials_of t.nodes)) k t.nodes n tree.parents at

      by : HasParent (serials_of t.nodes) n → (n.parent < k) × ((p : Node) × (node_at n.parent t.nodes ≡ Some p))
      by (inl z) = absurd (up (sym found.1 ∙ z))
      by (inr (low, there)) = (subst (λ i. n.parent < i) found.1 low, there_at n.parent t.nodes there)

  root_own : (n : Node) → node_at 0 t.nodes ≡ Some n → n.parent ≡ 0
  root_own n at = let e = ap (option_map (λ (m : Node). m.parent)) (sym at) ∙ tree.root in cc

  -- a fold over lists that takes the root once or more often as once
  module _ (A : Type 0) (op : ℕ → A → A) (fold : List ℕ → A) (takes : (k : ℕ) (ks : List ℕ) → fold (k ∷ ks) ≡ op k (fold ks)) (once : (a : A) → op 0 (op 0 a) ≡ op 0 a) where
    root_only : (n : ℕ) → op 0 (fold (above_in n t.nodes 0)) ≡ op 0 (fold [])
    root_only zero = refl
    root_only (suc n) = by (node_at 0 t.nodes) refl (root_only n)
      where
        by : (o : Option Node) → node_at 0 t.nodes ≡ o → op 0 (fold (above_in n t.nodes 0)) ≡ op 0 (fold []) → op 0 (fold (above_in (suc n) t.nodes 0)) ≡ op 0 (fold [])
        by None at more = ap (λ ks. op 0 (fold ks)) (no_step (suc n) t.nodes 0 at)
        by (Some r) at more =
            let up : above_in (suc n) t.nodes 0 ≡ 0 ∷ above_in n t.nodes 0 = step_up n t.nodes 0 r at ∙ ap (λ p. p ∷ above_in n t.nodes p) (root_own r at) in
            ap (λ ks. op 0 (fold ks)) up ∙ (ap (op 0) (takes 0 (above_in n t.nodes 0)) ∙ (once (fold (above_in n t.nodes 0)) ∙ more))

    -- any number of levels that is enough
    same_levels : (n m k : ℕ) → k ≤ n → k ≤ m → k ≢ 0 → fold (above_in n t.nodes k) ≡ fold (above_in m t.nodes k)
    same_levels zero m k le lt up = absurd (up (omega arith))
    same_levels (suc n) zero k le lt up = absurd (up (omega arith))
    same_levels (suc n) (suc m) k le lt up = by (node_at k t.nodes) refl (λ p l g d. same_levels n m p l g d)
      where
        by : (o : Option Node) → node_at k t.nodes ≡ o → ((p : ℕ) → p ≤ n → p ≤ m → p ≢ 0 → fold (above_in n t.nodes p) ≡ fold (above_in m t.nodes p))
            → fold (above_in (suc n) t.nodes k) ≡ fold (above_in (suc m) t.nodes k)
        by None at more = ap fold (no_step (suc n) t.nodes k at ∙ sym (no_step (suc m) t.nodes k at))
        by (Some x) at more =
            let low = (parent_at k x at up).0 in
            let level : op x.parent (fold (above_in n t.nodes x.parent)) ≡ op x.parent (fold (above_in m t.nodes x.parent)) =
            elim (cases_eq x.parent 0) [
              | inl z ↦ (ap (λ p. op p (fold (above_in n t.nodes p))) z ∙ (root_only n ∙ (sym (root_only m) ∙ sym (ap (λ p. op p (fold (above_in m t.nodes p))) z))))
              | inr d ↦ ap (op x.parent) (more x.parent (omega arith) (omega arith) d)
            ] in
            ap fold (step_up n t.nodes k x at) ∙ (takes x.parent (above_in n t.nodes x.parent)
            ∙ (level ∙ (sym (takes x.parent (above_in m t.nodes x.parent)) ∙ sym (ap fold (step_up m t.nodes k x at)))))

    -- the fold over what stands above a node is that over what stands above its parent, with the parent
    pub climbs : (k : ℕ) (x : Node) → node_at k t.nodes ≡ Some x → k ≢ 0 → fold (above t.nodes k) ≡ op x.parent (fold (above t.nodes x.parent))
    climbs zero x at up = absurd (up refl)
    climbs (suc n) x at up =
        let low = (parent_at (suc n) x at up).0 in
        let level : op x.parent (fold (above_in n t.nodes x.parent)) ≡ op x.parent (fold (above t.nodes x.parent)) =
        elim (cases_eq x.parent 0) [
          | inl z ↦ (ap (λ p. op p (fold (above_in n t.nodes p))) z ∙ (root_only n ∙ sym (ap (λ p. op p (fold (above t.nodes p))) z)))
          | inr d ↦ ap (op x.parent) (same_levels n x.parent x.parent (omega arith) (omega arith) d)
        ] in
        ap fold (step_up n t.nodes (suc n) x at) ∙ (takes x.parent (above_in n t.nodes x.parent) ∙ level)
