use Rattle.std.proofs.Common.{◌≡◌, ◌∙◌, ◌++◌, ◌∷◌, [], ap, drop, map, List, ◌+◌, ◌<◌, length, arith}
use Rattle.resource_reqs.specs.Resources.{Want}
use Rattle.bridge_windows.specs.Clips.{want_in}
use Rattle.bridge_windows.specs.Rooms.{room_in}
use Rattle.pnp_model.specs.Windows.{clipped_want}
use Rattle.bridge_windows.proofs.Stepping.{mapped_next, as_many}
use Rattle.bridge_windows.proofs.clipping.clipped_group.Goals as goal

pub push_want-requires : goal.push_want-requires
push_want-requires c =
    let all = c.len-at-end.ensures.len in
    let few = c.len-at-end.ensures.within in
    let before = c.loop-at-test.true in
    let less : c.loop-at.at < length c.args.group.now = omega arith in
    let done = as_many (want_in c.args.rooms.now) c.args.group.now c.loop-at.at c.loop-at.clipped less c.loop-at.invariant in
    omega arith

pub loop-at-preserved : goal.loop-at-preserved
loop-at-preserved c =
    let rooms = c.args.rooms.now in
    let rest = map (want_in rooms) (drop (c.loop-at.at + 1) c.args.group.now) in
    let cut : c.clipped_want.result ≡ want_in rooms c.get-want.result.now =
    c.clipped_want.ensures ∙ (ap (λ r. clipped_want r c.get-want.result.now) c.of.ensures ∙ ap (λ (w : Want). clipped_want (room_in rooms w.kind) c.get-want.result.now) c.want.view_is) in
    ap (λ (l : List Want). l ++ rest) (c.in_ok-push_want.ensures ∙ ap (λ (w : Want). c.loop-at.clipped ++ w ∷ []) cut)
    ∙ mapped_next (want_in rooms) c.args.group.now c.loop-at.at c.get-want.result.now c.loop-at.clipped c.get-want.ensures c.loop-at.invariant
