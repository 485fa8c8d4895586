use Rattle.std.proofs.Common.{arith}
use Rattle.devnode_tree.proofs.Printing.{print_step, print_less, print_deep}
use Rattle.devnode_tree.proofs.tree.Tree.print_rows.Goals as goal

pub overflow_add-row : goal.overflow_add-row
overflow_add-row c =
    let before = rw c.in-Some.ensures.items at c.loop-row.invariant in
    let deep = print_deep c.args.self.now c.len.ensures.tree c.loop-row.rows.items c.pop.new.self.items c.in-Some.row before in
    omega arith

pub loop-row-smaller : goal.loop-row-smaller
loop-row-smaller c =
    let before = rw c.in-Some.ensures.items at c.loop-row.invariant in
    rw (c.in-Some.ensures.items, c.in_ok-put_children.ensures, c.children.ensures)
    (print_less c.args.self.now c.len.ensures.tree c.loop-row.rows.items c.pop.new.self.items c.in-Some.row before)

pub loop-row-preserved : goal.loop-row-preserved
loop-row-preserved c =
    let before = rw c.in-Some.ensures.items at c.loop-row.invariant in
    rw (c.in_ok-push-2.ensures.items, c.in_ok-put_children.ensures, c.children.ensures)
    (print_step c.args.self.now c.len.ensures.tree c.loop-row.rows.items c.pop.new.self.items c.in-Some.row before)
