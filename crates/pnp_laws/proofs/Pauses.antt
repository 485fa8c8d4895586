-- Devices that agree to stop and are taken back, and what stays the same meanwhile.
use Rattle.std.proofs.Common.{ℕ, ◌<◌, ◌≡◌, inl, inr, true, List, [], ◌∷◌, ◌++◌, map, Some, refl, sym, ap, ◌∙◌, subst}
use Rattle.std.proofs.lemmas.Bool.{cases_eq}
use Rattle.resource_reqs.specs.Resources.{Res, Reqs, Fits}
use Rattle.pnp_model.specs.Keyed.{those}
use Rattle.pnp_model.specs.Records.{Node, Core}
use Rattle.pnp_model.specs.Cores.{node_at, with_state}
use Rattle.pnp_model.specs.Tests.{has}
use Rattle.pnp_model.specs.Trees.{above}
use Rattle.pnp_model.specs.Frames.{held_by, is_beside, fixed_beside}
use Rattle.pnp_model.specs.Rebalances.{reqs_of}
use Rattle.pnp_model.specs.Laws.{NothingFits}
use Rattle.pnp_labels.specs.declared.states.DevState.TheVariants.{StopPending}
use Rattle.pnp_laws.specs.Vetoes.{marked, turned}
use Rattle.pnp_laws.specs.Rebalanced.{Paused}
use Rattle.pnp_laws.proofs.Aboves.{is_above_in}
use Rattle.pnp_laws.proofs.Standing.{Tree}
use Rattle.pnp_laws.proofs.TreeChanges.{above_same, nodes_kept}
use Rattle.pnp_laws.proofs.PlansKept.{all_reqs_changed, beside_changed, keeps_state}

-- Devices above ----------------------------------------------------------------------------

pub above_paused : (ks : List ℕ) (nodes : List Node) (k : ℕ) → above (marked StopPending ks nodes) k ≡ above nodes k
above_paused [] nodes k = refl
above_paused (j ∷ ks) nodes k = above_same (marked StopPending ks nodes) (turned StopPending j (marked StopPending ks nodes)) (nodes_kept (marked StopPending ks nodes) (turned StopPending j (marked StopPending ks nodes)) j (with_state StopPending) refl (λ n. refl) (λ n. refl)) k ∙ above_paused ks nodes k

-- a device above has a lower serial
pub above_low : (next : ℕ) (c : Core) (k j : ℕ) (m : Node) → Tree next c → node_at k c.nodes ≡ Some m → has (above c.nodes k) j ≡ true → j < k
above_low next c k j m tree at h =
    elim (cases_eq k 0) [
      | inl z ↦ absurd (let g = subst (λ (i : ℕ). has (above c.nodes i) j ≡ true) z h in cc)
      | inr up ↦ (is_above_in k c k j m tree.root tree.rooted at up h).lower
    ]

-- What fits ----------------------------------------------------------------------------------

fixed_paused : (movers ks : List ℕ) (nodes : List Node) → held_by (those (is_beside movers) (marked StopPending ks nodes)) ≡ held_by (those (is_beside movers) nodes)
fixed_paused movers [] nodes = refl
fixed_paused movers (k ∷ ks) nodes = beside_changed k (with_state StopPending) movers (marked StopPending ks nodes) (λ x. refl) (λ x. refl) ∙ fixed_paused movers ks nodes

reqs_paused : (movers ks : List ℕ) (nodes : List Node) → map (λ k. reqs_of (node_at k (marked StopPending ks nodes))) movers ≡ map (λ k. reqs_of (node_at k nodes)) movers
reqs_paused movers [] nodes = refl
reqs_paused movers (k ∷ ks) nodes = all_reqs_changed k (with_state StopPending) (marked StopPending ks nodes) movers (keeps_state StopPending) ∙ reqs_paused movers ks nodes

-- where nothing fits now, nothing did before
pub hopeless_before : (before now : Core) (ks movers : List ℕ) → Paused before now ks → NothingFits now movers → NothingFits before movers
hopeless_before before now ks movers h none fits =
    let fixed : fixed_beside now movers ≡ fixed_beside before movers =
    ap (λ (x : List Node). now.reserved ++ held_by (those (is_beside movers) x)) h.nodes
    ∙ ap (λ (x : List Res). now.reserved ++ x) (fixed_paused movers ks before.nodes)
    ∙ ap (λ (x : List Res). x ++ held_by (those (is_beside movers) before.nodes)) h.reserved in
    let reqs : map (λ k. reqs_of (node_at k now.nodes)) movers ≡ map (λ k. reqs_of (node_at k before.nodes)) movers =
    ap (λ (x : List Node). map (λ k. reqs_of (node_at k x)) movers) h.nodes ∙ reqs_paused movers ks before.nodes in
    none (subst (λ (x : List Res). Fits x (map (λ k. reqs_of (node_at k now.nodes)) movers)) (sym fixed) (subst (λ (x : List Reqs). Fits (fixed_beside before movers) x) (sym reqs) fits))
