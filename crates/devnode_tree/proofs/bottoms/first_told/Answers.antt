use Rattle.std.proofs.Common.{sym, subst, ℕ, arith}
use Rattle.devnode_tree.specs.Bottoms.{BottomsFrom}
use Rattle.devnode_tree.specs.Entries.{nodes_of}
use Rattle.devnode_tree.proofs.Lowering.{from_first, from_none}
use Rattle.devnode_tree.proofs.bottoms.first_told.Goals as goal

pub returns-then-was_told : goal.returns-then-was_told
returns-then-was_told c =
    subst (λ (i : ℕ). BottomsFrom i (nodes_of c.args.entries.now)) (sym c.serial.ensures)
    (from_first c.args.entries.now c.loop-entry.entry-index c.entry-item.result c.requires c.loop-entry-test.true c.entry-item.is c.loop-entry.invariant)

pub returns : goal.returns
returns c = from_none c.args.entries.now _ (λ j x less. c.loop-entry.invariant j x (omega arith))
