-- Where the movers hold nothing, no pair that the arbiters hold is of a mover.
use Rattle.std.proofs.Common.{◌≡◌, ℕ, ◌+◌, ◌<◌, ◌⊎◌, inl, inr, false, List, [], ◌∷◌, ◌++◌, get_or, length, Some, refl, sym, ap, ◌∙◌, subst, arith}
use Rattle.std.proofs.lemmas.Bool.{cases_Bool, cases_eq}
use Rattle.std.proofs.lemmas.Bool.Decides.{nat_tests}
use Rattle.std.proofs.lemmas.List.{get_or_default}
use Rattle.std.proofs.lemmas.List.Sorted.{list_any-IsPermutation}
use Rattle.resource_reqs.specs.declared.owner.Owner.{Owner}
use Rattle.resource_reqs.specs.declared.owner.Owner.TheVariants.{Reserved, Device}
use Rattle.resource_reqs.specs.Resources.{Res}
use Rattle.range_arbiter.specs.Pairs.{Pair}
use Rattle.trial_journal.specs.ByKind.{Arbiters, all_kinds, all_pairs}
use Rattle.assign_search.specs.Fixed.{is_mover, has_moving}
use Rattle.assign_search.proofs.Fixing.{any_means}
use Rattle.pnp_model.specs.Cores.{node_at, serials_of}
use Rattle.pnp_model.specs.Records.{Node}
use Rattle.devnode_tree.specs.Trees.{Ascends}
use Rattle.device_holdings.specs.Mirrors.{pairs_of, node_pairs, held_pairs, lists_with, Mirrors}
use Rattle.device_holdings.specs.Idle.{IsIdle, AreIdle}
use Rattle.device_holdings.proofs.Apart.{holds_of}
use Rattle.device_holdings.proofs.Putting.{permuted}

-- the nodes above a serial are others
idle_above : (k low : ℕ) (nodes : List Node) → k < low → Ascends low (serials_of nodes) → IsIdle k nodes
idle_above k low [] less up = tt
idle_above k low (n ∷ ns) less up =
    let first = up.0 in ((λ e. absurd (omega arith)), idle_above k (n.serial + 1) ns (omega arith) up.1)

-- what the first node of a serial holds is what any node of it holds
pub idle_of : (k low : ℕ) (nodes : List Node) → Ascends low (serials_of nodes) → holds_of (node_at k nodes) ≡ [] → IsIdle k nodes
idle_of k low [] up none = tt
idle_of k low (n ∷ ns) up none = elim (cases_eq n.serial k) [
  | inl e ↦
      let found : node_at k (n ∷ ns) ≡ Some n = grind (arith, nat_tests) in
      ((λ same. ap holds_of (sym found) ∙ none), idle_above k (n.serial + 1) ns (omega arith) up.1)
  | inr other ↦
      let found : node_at k (n ∷ ns) ≡ node_at k ns = grind (arith, nat_tests) in
      ((λ same. absurd (other same)), idle_of k (n.serial + 1) ns up.1 (ap holds_of (sym found) ∙ none))
]

-- each of the first serials
abbrev pub IdleBelow : List ℕ → List Node → ℕ → Type 0
IdleBelow serials nodes i = (j : ℕ) → j < i → IsIdle (get_or serials j 0) nodes

pub all_idle : (serials : List ℕ) (nodes : List Node) → IdleBelow serials nodes (length serials) → AreIdle serials nodes
all_idle serials nodes idle k (j, within, is) =
    subst (λ x. IsIdle x nodes) (get_or_default serials j 0 k within ∙ is) (idle j within)

module _ (movers : List ℕ) where
  moving_own : (o : Owner) (held : List Res) (rest : List Pair) → (held ≡ []) ⊎ (is_mover movers o ≡ false) → has_moving movers rest ≡ false
      → has_moving movers (pairs_of o held ++ rest) ≡ false
  moving_own o [] rest none more = more
  moving_own o (r ∷ held) rest (inl e) more = absurd (cc)
  moving_own o (r ∷ held) rest (inr e) more = rw e (moving_own o held rest (inr e) more)

  moving_nodes : (nodes : List Node) → AreIdle movers nodes → has_moving movers (node_pairs nodes) ≡ false
  moving_nodes [] idle = refl
  moving_nodes (n ∷ ns) idle =
      moving_own (Device n.serial) n.holds (node_pairs ns)
      (elim (cases_Bool (is_mover movers (Device n.serial))) [
        | inl moves ↦ inl ((idle n.serial (any_means movers n.serial moves)).0 refl)
        | inr stays ↦ inr stays
      ])
      (moving_nodes ns (λ k inside. (idle k inside).1))

  pub none_moving : (reserved : List Res) (nodes : List Node) (a : Arbiters) → Mirrors reserved nodes a → AreIdle movers nodes → has_moving movers (all_pairs a) ≡ false
  none_moving reserved nodes a m idle =
      ap (λ l. has_moving movers (all_kinds l)) m.lists
      ∙ sym (list_any-IsPermutation (λ (p : Pair). is_mover movers p.0) (held_pairs reserved nodes) (all_kinds (lists_with (held_pairs reserved nodes))) (permuted (held_pairs reserved nodes)))
      ∙ moving_own Reserved reserved (node_pairs nodes) (inr refl) (moving_nodes nodes idle)
