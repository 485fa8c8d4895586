-- Who stands above a device, and whether all of them are Started, one level at a time.
use Rattle.std.proofs.Common.{◌≡◌, ◌≢◌, ℕ, ◌==◌, Bool, true, false, ◌&&◌, ◌||◌, List, [], ◌∷◌, ◌++◌, Some, refl}
use Rattle.std.specs.List.{list_all}
use Rattle.pnp_model.specs.Cores.{node_at}
use Rattle.pnp_model.specs.Records.{Node}
use Rattle.pnp_model.specs.Tests.{has}
use Rattle.pnp_model.specs.Trees.{above, is_up, stands_up}
use Rattle.devnode_tree.specs.Trees.{Tree, IsTree}
use Rattle.devnode_tree.proofs.Climbs.{climbs}

module _ (t : Tree) (tree : IsTree t) where
  and_once : (a b : Bool) → (a && (a && b)) ≡ (a && b)
  and_once true b = refl
  and_once false b = refl

  or_once : (a b : Bool) → (a || (a || b)) ≡ (a || b)
  or_once true b = refl
  or_once false b = refl

  pub up_from : (k : ℕ) (x : Node) → node_at k t.nodes ≡ Some x → k ≢ 0 → stands_up t.nodes k ≡ (is_up (node_at x.parent t.nodes) && stands_up t.nodes x.parent)
  up_from k x at up = climbs t tree Bool (λ j b. is_up (node_at j t.nodes) && b) (list_all (λ j. is_up (node_at j t.nodes))) (λ j js. refl) (λ b. and_once (is_up (node_at 0 t.nodes)) b) k x at up

  pub has_from : (j k : ℕ) (x : Node) → node_at k t.nodes ≡ Some x → k ≢ 0 → has (above t.nodes k) j ≡ has (x.parent ∷ above t.nodes x.parent) j
  has_from j k x at up = climbs t tree Bool (λ i b. (i == j) || b) (λ is. has is j) (λ i is. refl) (λ b. or_once (0 == j) b) k x at up

pub or_false : (b : Bool) → (b || false) ≡ b
or_false true = refl
or_false false = refl

-- one more at the end, or before the others
pub has_one_more : (xs ys : List ℕ) (p k : ℕ) → (has (xs ++ p ∷ []) k || has ys k) ≡ (has xs k || has (p ∷ ys) k)
has_one_more [] ys p k = by (p == k) (has ys k)
  where
    by : (a b : Bool) → ((a || false) || b) ≡ (a || b)
    by true b = refl
    by false b = refl
has_one_more (x ∷ xs) ys p k = by (x == k) (has (xs ++ p ∷ []) k) (has ys k) (has xs k) (has (p ∷ ys) k) (has_one_more xs ys p k)
  where
    by : (a b c d e : Bool) → (b || c) ≡ (d || e) → ((a || b) || c) ≡ ((a || d) || e)
    by true b c d e h = refl
    by false b c d e h = h
