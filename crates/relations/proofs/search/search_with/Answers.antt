use Rattle.std.proofs.Common.{◌≡◌, ◌<◌, ◌≤◌, length, arith}
use Rattle.relations.proofs.Directs.{ascending, there_found}
use Rattle.relations.proofs.Notings.{kept_counted}
use Rattle.relations.proofs.Searching.{at_has, searched_none, searched_next, searched_most, searched_all}
use Rattle.relations.proofs.search.search_with.Goals as goal

pub loop-at-init : goal.loop-at-init
loop-at-init c =
    let nodes = c.args.tree.now.nodes in
    let g = ascending 0 nodes c.requires.tree.ascends in
    let m = there_found nodes c.args.target c.requires.there in
    searched_none nodes c.args.relations.now c.args.target g m.0 m.1 c.note.new.self.order.items c.args.found.now.counts c.note.new.self.counts
    c.requires.counts (rw c.requires.order at c.in_ok-note.ensures)

pub note_all-requires : goal.note_all-requires
note_all-requires c =
    let order = c.loop-at.found.order.items in
    let lt : c.loop-at.at < length order = omega arith in
    rw c.in_ok-count.ensures.order
    (kept_counted order c.loop-at.found.counts c.count.new.self.counts c.index-serial.result.now _ c.loop-at.invariant.kept
    (at_has order c.loop-at.at c.index-serial.result.now lt c.index-serial.ensures) c.in_ok-count.ensures.counted)

pub loop-at-smaller : goal.loop-at-smaller
loop-at-smaller c =
    let nodes = c.args.tree.now.nodes in
    let g = ascending 0 nodes c.requires.tree.ascends in
    let m = there_found nodes c.args.target c.requires.there in
    let most = searched_most nodes c.args.relations.now c.args.target g m.0 m.1 c.loop-at.found.order.items c.loop-at.found.counts c.loop-at.at c.loop-at.invariant in
    let lt : c.loop-at.at < length c.loop-at.found.order.items = omega arith in
    omega arith

pub loop-at-preserved : goal.loop-at-preserved
loop-at-preserved c =
    let nodes = c.args.tree.now.nodes in
    let g = ascending 0 nodes c.requires.tree.ascends in
    let m = there_found nodes c.args.target c.requires.there in
    let order = c.loop-at.found.order.items in
    let lt : c.loop-at.at < length order = omega arith in
    let bs = c.in_ok-below.below.items in
    let counted : c.len-in-loop-at.result ≡ length bs = omega arith in
    searched_next nodes c.args.relations.now c.args.target g m.0 m.1 order c.note_all.new.self.order.items c.loop-at.found.counts c.count.new.self.counts c.note_all.new.self.counts
    c.loop-at.at c.index-serial.result.now bs c.loop-at.invariant lt c.index-serial.ensures c.in_ok-below.ensures
    (rw counted at c.in_ok-count.ensures.counted)
    (rw (c.in_ok-count.ensures.order, c.deref.ensures.value) at c.in_ok-note_all.ensures)

pub returns : goal.returns
returns c =
    let nodes = c.args.tree.now.nodes in
    let g = ascending 0 nodes c.requires.tree.ascends in
    let m = there_found nodes c.args.target c.requires.there in
    let le : length c.loop-at.found.order.items ≤ c.loop-at.at = omega arith in
    searched_all nodes c.args.relations.now c.args.target g m.0 m.1 c.loop-at.found.order.items c.loop-at.found.counts c.loop-at.at c.loop-at.invariant le
