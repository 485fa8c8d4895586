-- Each step and each event follows the diagram: by where its devices come from.
use Rattle.std.proofs.Common.{ℕ, ◌≡◌, ◌⊎◌, inl, inr, Bool, false, ◌∷◌, Some, None, refl, sym, subst}
use Rattle.pnp_labels.specs.declared.label.Label.{Label}
use Rattle.pnp_labels.specs.declared.states.DevState.TheVariants.{NoStack}
use Rattle.pnp_labels.specs.declared.words.Minor.{Minor}
use Rattle.pnp_model.specs.Cores.{node_at, stacked}
use Rattle.pnp_model.specs.Diagram.{Change, FollowsDiagram, Row}
use Rattle.pnp_model.specs.Records.{Node, Phase, State, Walk}
use Rattle.pnp_model.specs.Walks.{is_bad, state_after}
use Rattle.pnp_laws.specs.Effects.{NodeEffect, Request, ends_bad}
use Rattle.pnp_laws.specs.Kept.{IsGood}
use Rattle.pnp_laws.proofs.Asked.{left_bare, request_rows}
use Rattle.pnp_laws.proofs.Diagrams.{Change-same}
use Rattle.pnp_laws.proofs.EffectViews.{Origin, acting_fits, gone_left, origin}
use Rattle.pnp_laws.proofs.Lookups.{found_self, some_same}
use Rattle.pnp_laws.proofs.StartSteps.{add_changes}
use Rattle.pnp_laws.proofs.Turns.{running_good}

module _ (s : State) (label : Label) (t : State) (good : IsGood s) where
  -- a request of a device has ended
  ended : (k : ℕ) (n : Node) (minor : Minor) (w : Walk) (bad : Bool) → node_at k s.core.nodes ≡ Some n → Request s n minor w → ends_bad minor w ≡ bad → label ≡ Label.State n.path (state_after minor bad n.state) → Change label n.state (state_after minor bad n.state)
  ended k n minor w bad at request verdict prints =
      let rows = request_rows s good n (found_self k s.core.nodes n at) minor w request in
      let row = subst (λ (b : Bool). Row n.state minor b (state_after minor b n.state)) verdict (rows (is_bad w)) in
      subst (λ (l : Label). Change l n.state (state_after minor bad n.state)) (sym prints) (inr (refl, (minor, bad, row)))

  -- it joined without drivers, or was there and changed by the diagram
  changes : (k : ℕ) (m : Node) → Origin s label t k m → ((node_at k s.core.nodes ≡ None) × (m.state ≡ NoStack)) ⊎ ((n : Node) × (node_at k s.core.nodes ≡ Some n) × Change label n.state m.state)
  changes k _ (Origin.was n at) = inr (n, at, Change-same label n.state)
  changes k _ (Origin.walked n minor w bad at request other over verdict prints) = inr (n, at, ended k n minor w bad at request verdict prints)
  changes k _ (Origin.troubled n problem at) = inr (n, at, Change-same label n.state)
  changes k _ (Origin.stacks n d ds name at acts prints) = inr (n, at, subst (λ (l : Label). Change l n.state (stacked n.state)) (sym prints) (add_changes n.state (acting_fits s k n (Phase.Adding (d ∷ ds)) at acts good).1))
  changes k _ (Origin.assigned n phase plan at acts search part now) = inr (n, at, Change-same label n.state)
  changes k _ (Origin.stripped n w at request prints) = inr (n, at, ended k n Minor.Remove w false at request refl prints)
  changes k _ (Origin.commits r n runs course is at) = inr (n, at, Change-same label n.state)
  changes k _ (Origin.joins node d below gone own) = inl (gone, refl)

  pub follows_effect : NodeEffect s label t → FollowsDiagram label s.core.nodes t.core.nodes
  follows_effect effect =
      record {
        stays =
            λ k n m at now. elim (changes k m (origin s label t good.serials k m effect now)) [
              | inl (gone, bare) ↦ absurd (cc)
              | inr (old, there, change) ↦ subst (λ (x : Node). Change label x.state m.state) (some_same (node_at k s.core.nodes) old n there at) change
            ];
        joins =
            λ k m gone now. elim (changes k m (origin s label t good.serials k m effect now)) [
              | inl (none, bare) ↦ bare
              | inr (old, there, change) ↦ absurd (cc)
            ];
        leaves =
            λ k n at gone.
            let left = gone_left s label t effect k n at gone in
            left_bare left.0 s.core.nodes n (running_good s left.0 left.1 good).fits left.2;
      }
