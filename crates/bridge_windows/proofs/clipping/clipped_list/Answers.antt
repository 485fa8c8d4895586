use Rattle.std.proofs.Common.{◌∙◌, ◌++◌, ◌∷◌, [], ap, drop, map, List, ◌+◌, ◌<◌, length, arith}
use Rattle.resource_reqs.specs.Resources.{Group}
use Rattle.bridge_windows.specs.Clips.{want_in, group_in}
use Rattle.bridge_windows.proofs.Stepping.{mapped_next, as_many, some_mapped}
use Rattle.bridge_windows.proofs.clipping.clipped_list.Goals as goal

pub push_group-requires-clause-room : goal.push_group-requires-clause-room
push_group-requires-clause-room c =
    let all = c.len-at-end.ensures.len in
    let few = c.len-at-end.ensures.within in
    let before = c.loop-at-test.true in
    let less : c.loop-at.at < length c.args.list.now = omega arith in
    let done = as_many (group_in c.args.rooms.now) c.args.list.now c.loop-at.at c.loop-at.clipped less c.loop-at.invariant in
    omega arith

pub push_group-requires-clause-some : goal.push_group-requires-clause-some
push_group-requires-clause-some c = some_mapped (want_in c.args.rooms.now) c.get.result.now c.in_ok-group.group c.get.ensures.not_empty c.in_ok-group.ensures

pub loop-at-preserved : goal.loop-at-preserved
loop-at-preserved c =
    let rooms = c.args.rooms.now in
    let rest = map (group_in rooms) (drop (c.loop-at.at + 1) c.args.list.now) in
    ap (λ (l : List Group). l ++ rest) (c.in_ok-push_group.ensures ∙ ap (λ (g : Group). c.loop-at.clipped ++ g ∷ []) c.in_ok-group.ensures)
    ∙ mapped_next (group_in rooms) c.args.list.now c.loop-at.at c.get.result.now c.loop-at.clipped c.get.ensures.part c.loop-at.invariant
