-- The target of a change requires something else, beside the new holdings of all movers.
use Rattle.std.proofs.Common.{◌≡◌, ℕ, ◌+◌, ◌<◌, ◌==◌, Bool, true, false, cond, List, [], ◌∷◌, map, Option, Some, None, refl, sym, ap, arith}
use Rattle.std.proofs.lemmas.Bool.Decides.{nat_tests}
use Rattle.resource_reqs.specs.Resources.{Res, Reqs}
use Rattle.pnp_model.specs.Keyed.{changed_first}
use Rattle.pnp_model.specs.Cores.{is_node, serials_of}
use Rattle.pnp_model.specs.Records.{Node}
use Rattle.pnp_model.specs.Rebalances.{committed}
use Rattle.devnode_tree.specs.Trees.{Ascends, Tree, IsTree, changed, with_reqs}
use Rattle.device_holdings.specs.Giving.{with_part}
use Rattle.rebalance.specs.Parts.{required}

pub none_required : (k : ℕ) (nodes : List Node) → map (required None k) nodes ≡ nodes
none_required k [] = refl
none_required k (n ∷ ns) = ap (λ l. n ∷ l) (none_required k ns)

module _ (wanted : Reqs) (k : ℕ) where
  head_is : (n : Node) (b : Bool) → (n.serial == k) ≡ b → required (Some wanted) k n ≡ record n { reqs = cond b wanted n.reqs }
  head_is n b e = ap (λ b. record n { reqs = cond b wanted n.reqs }) e

  others : (low : ℕ) (nodes : List Node) → k < low → Ascends low (serials_of nodes) → map (required (Some wanted) k) nodes ≡ nodes
  others low [] less up = refl
  others low (n ∷ ns) less up =
      let from = up.0 in
      let here : (n.serial == k) ≡ false = grind (arith, nat_tests) in
      let more = others (n.serial + 1) ns (omega arith) up.1 in
      λ t. head_is n false here t ∷ more t

  first_is : (low : ℕ) (nodes : List Node) → Ascends low (serials_of nodes) → changed_first (is_node k) (with_reqs wanted) nodes ≡ map (required (Some wanted) k) nodes
  first_is low [] up = refl
  first_is low (n ∷ ns) up = by_test (n.serial == k) refl (first_is (n.serial + 1) ns up.1)
    where
      by_test : (b : Bool) → (n.serial == k) ≡ b → changed_first (is_node k) (with_reqs wanted) ns ≡ map (required (Some wanted) k) ns
          → cond b (with_reqs wanted n ∷ ns) (n ∷ changed_first (is_node k) (with_reqs wanted) ns) ≡ map (required (Some wanted) k) (n ∷ ns)
      by_test true e more =
          let rest = others (n.serial + 1) ns (grind (arith, nat_tests)) up.1 in
          λ t. sym (head_is n true e) t ∷ sym rest t
      by_test false e more = λ t. sym (head_is n false e) t ∷ more t

  -- a device has one place in the tree
  pub one_required : (t : Tree) → IsTree t → changed k (with_reqs wanted) t ≡ record t { nodes = map (required (Some wanted) k) t.nodes }
  one_required t tree = ap (λ (ns : List Node). record t { nodes = ns }) (first_is 0 t.nodes tree.ascends)

-- both at once
pub both_given : (wanted : Option Reqs) (target : ℕ) (serials : List ℕ) (plan : List (List Res)) (nodes : List Node)
    → map (required wanted target) (map (with_part serials plan) nodes) ≡ map (committed wanted target serials plan) nodes
both_given wanted target serials plan [] = refl
both_given None target serials plan (n ∷ ns) = ap (λ l. committed None target serials plan n ∷ l) (both_given None target serials plan ns)
both_given (Some wanted) target serials plan (n ∷ ns) = ap (λ l. committed (Some wanted) target serials plan n ∷ l) (both_given (Some wanted) target serials plan ns)
