-- No step and no event lets resources clash: by what they do to nodes and ranges.
use Rattle.std.proofs.Common.{ℕ, ◌≡◌, inl, inr, List, [], ◌∷◌, ◌++◌, refl, sym, ap, ◌∙◌, subst, arith}
use Rattle.std.proofs.lemmas.List.{length-map}
use Rattle.std.proofs.lemmas.Slice.Zip.{AllZip-long}
use Rattle.resource_reqs.specs.Resources.{Res, Reqs, IsAssignment, Whole}
use Rattle.resource_reqs.proofs.Answering.{plan_is}
use Rattle.pnp_labels.specs.declared.label.Label.{Label}
use Rattle.pnp_model.specs.Cores.{bare, is_node, node_at}
use Rattle.pnp_model.specs.Frames.{fixed_beside}
use Rattle.pnp_model.specs.Keyed.{changed_first}
use Rattle.pnp_model.specs.Rebalances.{movers, others, plan_of, reqs_of}
use Rattle.pnp_model.specs.Records.{Node, State, Step, Stage}
use Rattle.pnp_model.specs.Runs.{Entry}
use Rattle.pnp_model.specs.Sharing.{Clear}
use Rattle.pnp_model.specs.Starts.{own_part}
use Rattle.pnp_model.specs.States.{new_child}
use Rattle.pnp_laws.specs.Effects.{Alters, NodeEffect, RangeEffect}
use Rattle.pnp_laws.specs.Kept.{Ascending}
use Rattle.pnp_laws.specs.Plans.{IsPlanned, StagePlan, moving_reqs}
use Rattle.pnp_laws.proofs.Lookups.{joined_from, left_from, node_from}
use Rattle.pnp_laws.proofs.Sharing.{Clear_assigned, Clear_committed, Clear_no_more, Clear_reserved, NoMore}
use Rattle.pnp_laws.proofs.FitsBy.{plan_by}

-- one mover has one part
one_part : (fixed : List Res) (reqs : Reqs) (plan : List (List Res)) → IsAssignment fixed (reqs ∷ []) plan → plan ≡ own_part plan ∷ []
one_part fixed reqs [] a = absurd (let l = AllZip-long Whole (reqs ∷ []) [] a.whole in omega arith)
one_part fixed reqs (holds ∷ []) a = refl
one_part fixed reqs (holds ∷ more ∷ plan) a = absurd (let l = AllZip-long Whole (reqs ∷ []) (holds ∷ more ∷ plan) a.whole in omega arith)

no_more_changed : (j : ℕ) (f : Node → Node) (old : List Node) → ((x : Node) → (f x).serial ≡ x.serial) → ((x : Node) → (f x).holds ≡ x.holds) → NoMore old (changed_first (is_node j) f old)
no_more_changed j f old keeps holds k m at =
    elim (node_from j k f old m keeps at) [
      | inl (e, (n, q, r)) ↦ inr (n, q, ap (λ (z : Node). z.holds) r ∙ holds n)
      | inr (d, q) ↦ inr (m, q, refl)
    ]

no_more_bare : (j : ℕ) (old : List Node) → NoMore old (changed_first (is_node j) bare old)
no_more_bare j old k m at =
    elim (node_from j k bare old m (λ x. refl) at) [
      | inl (e, (n, q, r)) ↦ inl (ap (λ (z : Node). z.holds) r)
      | inr (d, q) ↦ inr (m, q, refl)
    ]

no_more_joined : (old : List Node) (new : Node) → new.holds ≡ [] → NoMore old (old ++ new ∷ [])
no_more_joined old new e k m at =
    elim (joined_from k old new m at) [
      | inl q ↦ inr (m, q, refl)
      | inr (q, r, u) ↦ inl (ap (λ (z : Node). z.holds) r ∙ e)
    ]

module _ (s : State) (label : Label) (order : Ascending 0 s.core.nodes) (planned : IsPlanned s) (clear : Clear s.core.reserved s.core.nodes) where
  less : (nodes : List Node) → NoMore s.core.nodes nodes → Clear s.core.reserved nodes
  less nodes none = Clear_no_more s.core.reserved s.core.nodes nodes none clear

  clear_altered : (t : State) (j : ℕ) (f : Node → Node) → Alters s label t j f → Clear s.core.reserved (changed_first (is_node j) f s.core.nodes)
  clear_altered t j f (Alters.walked node minor w bad at request other ends verdict prints) = less _ (no_more_changed node.serial f s.core.nodes (λ x. refl) (λ x. refl))
  clear_altered t j f (Alters.troubled k problem) = less _ (no_more_changed k f s.core.nodes (λ x. refl) (λ x. refl))
  clear_altered t j f (Alters.stacks node d ds name at acts prints) = less _ (no_more_changed node.serial f s.core.nodes (λ x. refl) (λ x. refl))
  clear_altered t j f (Alters.assigned node phase plan acts search part now) =
      let fixed = fixed_beside s.core (node.serial ∷ []) in
      let is = plan_is fixed (node.reqs ∷ []) part.budget plan part.answer in
      let own = subst (λ (x : List (List Res)). IsAssignment fixed (node.reqs ∷ []) x) (one_part fixed node.reqs plan is) is in
      Clear_assigned s.core node.serial (node.reqs ∷ []) (own_part plan) own clear

  clear_nodes : (t : State) → NodeEffect s label t → Clear s.core.reserved t.core.nodes
  clear_nodes t (NodeEffect.same e relations) = subst (λ (x : List Node). Clear s.core.reserved x) (sym e) clear
  clear_nodes t (NodeEffect.changed j f alters e relations) = subst (λ (x : List Node). Clear s.core.reserved x) (sym e) (clear_altered t j f alters)
  clear_nodes t (NodeEffect.stripped node w at request ends prints e relations) = subst (λ (x : List Node). Clear s.core.reserved x) (sym e) (less _ (no_more_bare node.serial s.core.nodes))
  clear_nodes t (NodeEffect.commits r runs course is e relations) =
      let plan = subst (λ (x : Stage). StagePlan r x s.core.reserved s.core.nodes) is (plan_by s r planned runs course) in
      let more = length-map (others r) (λ k. reqs_of (node_at k s.core.nodes)) in
      subst (λ (x : List Node). Clear s.core.reserved x) (sym e)
      (Clear_committed s.core r.wanted r.target (movers r) (moving_reqs r s.core.nodes) (plan_of r.found) plan (omega arith) clear)
  clear_nodes t (NodeEffect.joins node d none at up there is) =
      let new = new_child node.serial d s in
      subst (λ (x : Step). Clear s.core.reserved x.state.core.nodes) (sym is) (less (s.core.nodes ++ new ∷ []) (no_more_joined s.core.nodes new refl))
  clear_nodes t (NodeEffect.left node o runs first e relations) =
      subst (λ (x : List Node). Clear s.core.reserved x) (sym e) (less _ (λ k m at. inr (m, (left_from node.serial k s.core.nodes m order at).1, refl)))
  clear_nodes t (NodeEffect.related r related e relations) = subst (λ (x : List Node). Clear s.core.reserved x) (sym e) clear

  pub clear_ranges : (t : State) {entry : Entry} → RangeEffect s entry t → NodeEffect s label t → Clear t.core.reserved t.core.nodes
  clear_ranges t (RangeEffect.same e) nodes = subst (λ (x : List Res). Clear x t.core.nodes) (sym e) (clear_nodes t nodes)
  clear_ranges t (RangeEffect.reserves res none free same e event own is) nodes =
      subst (λ (x : List Res). Clear x t.core.nodes) (sym e) (subst (λ (x : List Node). Clear (s.core.reserved ++ res ∷ []) x) (sym same) (Clear_reserved res s.core.reserved s.core.nodes free clear))
