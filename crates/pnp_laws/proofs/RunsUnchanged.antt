-- In each run a change that found nothing, or whose device would not stop, restores everything.
use Rattle.std.proofs.Common.{◌≡◌, ◌≢◌, inl, inr, Bool, true, false, Option, Some, None, refl, ap, ◌∙◌, subst}
use Rattle.resource_reqs.specs.Resources.{Reqs}
use Rattle.resource_reqs.specs.Spelling.Answer.{assignment, no_fit, spent}
use Rattle.pnp_model.specs.Records.{Core, State, Step, Found, Stage}
use Rattle.pnp_model.specs.States.{device_born}
use Rattle.pnp_model.specs.Laws.{Restores}
use Rattle.pnp_labels.specs.Texts.{Text}
use Rattle.pnp_labels.specs.declared.label.Label.{Label}
use Rattle.pnp_labels.specs.declared.label.OpKind.{OpKind}
use Rattle.pnp_labels.specs.declared.label.OpEnd.{OpEnd}
use Rattle.pnp_laws.specs.Begun.{UnchangedRestoresLaw}
use Rattle.pnp_laws.specs.Effects.{required}
use Rattle.pnp_laws.specs.Kept.{kind_by}
use Rattle.pnp_laws.specs.Holdings.{has_plan}
use Rattle.pnp_laws.specs.Rebalanced.{EndsUndone, Undone, Underway}
use Rattle.pnp_laws.proofs.RebalanceRuns.{IsOver, after_core}
use Rattle.pnp_laws.proofs.RunsFutile.{end_found, end_is_over, kind_since, since_begin}
use Rattle.pnp_model.specs.Rebalances as re

moved_end : (found : Found) (refused : Bool) → has_plan found ≡ true → refused ≡ false → re.result found refused ≡ OpEnd.Moved
moved_end (assignment plan) false plans agrees = refl
moved_end no_fit false plans agrees = absurd (cc)
moved_end spent false plans agrees = absurd (cc)
moved_end found true plans agrees = absurd (cc)

-- at its end nothing has changed but where it moved
restored : (path : Text) (before : Core) (last after : State) (u : Underway path before last) (label : Label) → IsOver last u.frame (record { label = label; state = after }) → kind_by u.frame.wanted ≡ OpKind.Change
    → re.result u.frame.found (re.has_refused u.frame) ≢ OpEnd.Moved → Restores before after.core
restored path before last after u label over kind other = by_wanted u.frame.wanted refl kind
  where
    core : after.core ≡ last.core
    core = ap (λ (x : Step). x.state.core) over.is ∙ after_core u.frame (re.over last.core u.frame u.frame.found u.frame.wanted) last.core last

    by_wanted : (wanted : Option Reqs) → u.frame.wanted ≡ wanted → kind_by wanted ≡ OpKind.Change → Restores before after.core
    by_wanted None is kind = absurd (cc)
    by_wanted (Some wanted) is kind =
        elim (subst (λ (x : Option Reqs). EndsUndone before last.core u.frame x) is (subst (λ (x : Stage). Undone before last.core u.frame x) over.ending u.undone)) [
          | inl moves ↦ absurd (other (moved_end u.frame.found (re.has_refused u.frame) moves.0 moves.1))
          | inr same ↦
              record {
                nodes = ap (λ (c : Core). c.nodes) core ∙ same.nodes;
                relations = ap (λ (c : Core). c.relations) core ∙ same.relations;
                reserved = ap (λ (c : Core). c.reserved) core ∙ same.reserved;
              }
        ]

-- a change that was not made restores everything
pub unchanged_restores : UnchangedRestoresLaw
unchanged_restores settings rack earlier entries before begun last after path end_path end_result reaches goes run within ends other =
    let since = since_begin OpKind.Change (λ node. Some (required before node (device_born node.born before.world))) settings rack earlier entries before begun last path (λ node. refl) (λ node. refl) refl reaches goes run within in
    let u = since.lasts.under in
    let over = end_is_over OpKind.Change settings rack path before begun entries last after OpKind.Change end_path end_result (earlier, reaches) since run u ends in
    let found = end_found last u.frame OpKind.Change end_path end_result after over in
    restored path before.core last after u (Label.End OpKind.Change end_path end_result) over (kind_since OpKind.Change settings rack path before begun entries last since) (λ e. other (found ∙ e))
