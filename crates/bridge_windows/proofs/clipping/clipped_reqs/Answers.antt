use Rattle.std.proofs.Common.{◌∙◌, ◌++◌, ◌∷◌, [], ap, drop, map, List, ◌+◌, ◌<◌, length, arith}
use Rattle.resource_reqs.specs.Resources.{AltList}
use Rattle.bridge_windows.specs.Clips.{group_in, list_in}
use Rattle.bridge_windows.proofs.Stepping.{mapped_next, as_many, some_mapped}
use Rattle.bridge_windows.proofs.clipping.clipped_reqs.Goals as goal

pub push_list-requires-clause-room : goal.push_list-requires-clause-room
push_list-requires-clause-room c =
    let all = c.len-at-end.ensures.len in
    let few = c.len-at-end.ensures.within in
    let before = c.loop-at-test.true in
    let less : c.loop-at.at < length c.args.reqs.now = omega arith in
    let done = as_many (list_in c.args.rooms.now) c.args.reqs.now c.loop-at.at c.loop-at.clipped less c.loop-at.invariant in
    omega arith

pub push_list-requires-clause-some : goal.push_list-requires-clause-some
push_list-requires-clause-some c = some_mapped (group_in c.args.rooms.now) c.get.result.now c.in_ok-list.list c.get.ensures.not_empty c.in_ok-list.ensures

pub loop-at-preserved : goal.loop-at-preserved
loop-at-preserved c =
    let rooms = c.args.rooms.now in
    let rest = map (list_in rooms) (drop (c.loop-at.at + 1) c.args.reqs.now) in
    ap (λ (l : List AltList). l ++ rest) (c.in_ok-push_list.ensures ∙ ap (λ (x : AltList). c.loop-at.clipped ++ x ∷ []) c.in_ok-list.ensures)
    ∙ mapped_next (list_in rooms) c.args.reqs.now c.loop-at.at c.get.result.now c.loop-at.clipped c.get.ensures.part c.loop-at.invariant
