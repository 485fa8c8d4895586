use Rattle.std.proofs.Common.{◌<◌, ◌≤◌, length, arith}
use Rattle.relations.proofs.Directs.{ascending, there_found}
use Rattle.relations.proofs.Descents.{descends_none, descends_next, descends_most, descends_all}
use Rattle.relations.proofs.unrelated.all_below.Goals as goal

pub loop-at-init : goal.loop-at-init
loop-at-init c =
    let nodes = c.args.tree.now.nodes in
    let g = ascending 0 nodes c.len.ensures.tree.ascends in
    let m = there_found nodes c.args.target c.requires in
    rw (c.in_ok-push.ensures.items, c.in_ok-found.ensures.items) (descends_none nodes _ c.len.ensures.tree.parents c.args.target g m.0 m.1)

pub loop-at-smaller : goal.loop-at-smaller
loop-at-smaller c =
    let nodes = c.args.tree.now.nodes in
    let g = ascending 0 nodes c.len.ensures.tree.ascends in
    let m = there_found nodes c.args.target c.requires in
    let most = descends_most nodes _ c.len.ensures.tree.parents c.args.target g m.0 m.1 c.loop-at.found.items c.loop-at.at c.loop-at.invariant in
    let lt : c.loop-at.at < length c.loop-at.found.items = omega arith in
    omega arith

pub loop-at-preserved : goal.loop-at-preserved
loop-at-preserved c =
    let nodes = c.args.tree.now.nodes in
    let g = ascending 0 nodes c.len.ensures.tree.ascends in
    let m = there_found nodes c.args.target c.requires in
    let lt : c.loop-at.at < length c.loop-at.found.items = omega arith in
    rw (c.in_ok-extend_from_slice.ensures.items, c.children.ensures)
    (descends_next nodes _ c.len.ensures.tree.parents c.args.target g m.0 m.1 c.loop-at.found.items c.loop-at.at c.index-serial.result.now c.loop-at.invariant lt c.index-serial.ensures)

pub returns : goal.returns
returns c =
    let nodes = c.args.tree.now.nodes in
    let g = ascending 0 nodes c.len.ensures.tree.ascends in
    let m = there_found nodes c.args.target c.requires in
    let le : length c.loop-at.found.items ≤ c.loop-at.at = omega arith in
    record {
      distinct = c.loop-at.invariant.distinct;
      all = descends_all nodes _ c.len.ensures.tree.parents c.args.target g m.0 m.1 c.loop-at.found.items c.loop-at.at c.loop-at.invariant le;
      tree = c.len.ensures.tree;
    }
