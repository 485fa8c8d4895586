use Rattle.std.proofs.Common.{◌≡◌, ◌↔◌, ◌∙◌, sym, subst, All}
use Rattle.std.proofs.lemmas.Result.{IfOk-weaker}
use Rattle.resource_reqs.specs.Resources.{Reqs, Whole}
use Rattle.pnp_model.specs.Clips.{IsInRoom}
use Rattle.pnp_model.specs.Windows.{clip, clip_by, room}
use Rattle.pnp_model.proofs.Clips.{clip_is_whole}
use Rattle.bridge_windows.specs.Rooms.{room_in}
use Rattle.bridge_windows.proofs.clipping.clip.Goals as goal

pub returns : goal.returns
returns c =
    let windows = c.args.bridges.now in
    let nodes = c.args.tree.now.nodes in
    let reqs = c.args.reqs.now in
    let is : clip_by (room_in c.below-rooms.result) reqs ≡ clip windows nodes c.args.parent reqs = (λ i. clip_by (λ kind. c.below-rooms.ensures kind i) reqs) in
    record {
      clipped = IfOk-weaker c.clipped_reqs.result _ _ (λ clipped so. so ∙ is) c.clipped_reqs.ensures;
      whole = IfOk-weaker c.clipped_reqs.result _ _
          (λ clipped so holds.
          subst (λ (r : Reqs). Whole r holds ↔ (Whole reqs holds × All (IsInRoom (room windows nodes c.args.parent)) holds)) (sym (so ∙ is))
          (clip_is_whole (room windows nodes c.args.parent) reqs holds)) c.clipped_reqs.ensures;
    }
