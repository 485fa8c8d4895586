-- Nodes and relations alone say who depends on whom.
use Rattle.std.proofs.Common.{◌≡◌, ℕ, zero, suc, ◌==◌, not, cond, List, [], ◌∷◌, length, Option, Some, None, refl, ap, ◌∙◌, nat_le}
use Rattle.std.specs.List.{list_any}
use Rattle.pnp_model.specs.Keyed.{those, without_first}
use Rattle.pnp_model.specs.Tests.{has}
use Rattle.pnp_model.specs.Records.{Node, Core, Relation}
use Rattle.pnp_model.specs.Trees.{grown, closed_in, direct, dependents, set_of, is_free, greatest, leaving_in, leaving}
use Rattle.devnode_tree.specs.Cores.{at_related}
use Rattle.relations.specs.Leaving.{base}

module _ (nodes : List Node) (relations : List Relation) (around : Core) where
  closed_same : (n : ℕ) (set : List ℕ) → closed_in n (at_related nodes relations around) set ≡ closed_in n (base nodes relations) set
  closed_same zero set = refl
  closed_same (suc n) set =
      ap (λ more. cond (nat_le (length (grown (base nodes relations) set)) (length set)) set more) (closed_same n (grown (base nodes relations) set))

  pub dependents_same : (k : ℕ) → dependents (at_related nodes relations around) k ≡ dependents (base nodes relations) k
  dependents_same k = closed_same (length nodes) (direct (base nodes relations) k)

  set_same : (k : ℕ) → set_of (at_related nodes relations around) k ≡ set_of (base nodes relations) k
  set_same k = closed_same (length nodes) (k ∷ [])

  free_same : (left : List ℕ) → is_free (at_related nodes relations around) left ≡ is_free (base nodes relations) left
  free_same left = λ i k. not (list_any (λ j. has left j) (dependents_same k i))

  leaving_in_same : (n : ℕ) (left : List ℕ) → leaving_in n (at_related nodes relations around) left ≡ leaving_in n (base nodes relations) left
  leaving_in_same zero left = refl
  leaving_in_same (suc n) left =
      ap
      (λ test. elim (greatest (those test left)) as (λ _. List ℕ) [
        | None ↦ []
        | Some k ↦ k ∷ leaving_in n (at_related nodes relations around) (without_first (λ j. j == k) left)
      ])
      (free_same left)
      ∙ by (λ k. leaving_in_same n (without_first (λ j. j == k) left)) (greatest (those (is_free (base nodes relations) left) left))
    where
      by : ((k : ℕ) → leaving_in n (at_related nodes relations around) (without_first (λ j. j == k) left) ≡ leaving_in n (base nodes relations) (without_first (λ j. j == k) left)) → (o : Option ℕ) → elim o as (λ _. List ℕ) [ None ↦ [] | Some k ↦ k ∷ leaving_in n (at_related nodes relations around) (without_first (λ j. j == k) left) ]
          ≡ elim o as (λ _. List ℕ) [ None ↦ [] | Some k ↦ k ∷ leaving_in n (base nodes relations) (without_first (λ j. j == k) left) ]
      by more None = refl
      by more (Some k) = ap (λ l. k ∷ l) (more k)

  pub leaving_same : (k : ℕ) → leaving (at_related nodes relations around) k ≡ leaving (base nodes relations) k
  leaving_same k =
      ap (λ set. leaving_in (length set) (at_related nodes relations around) set) (set_same k)
      ∙ leaving_in_same (length (set_of (base nodes relations) k)) (set_of (base nodes relations) k)
