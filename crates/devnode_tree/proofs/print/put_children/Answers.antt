use Rattle.std.proofs.Common.{rules}
use Rattle.std.proofs.lemmas.Iterator.{YieldsList-from_map}
use Rattle.std.proofs.lemmas.Iterator.Adapters.{items_from_extend, YieldsList-from_rev_slice}
use Rattle.devnode_tree.specs.Rows.{row_at}
use Rattle.devnode_tree.proofs.Printing.{at_ok}
use Rattle.devnode_tree.proofs.print.put_children.Goals as goal

pub returns : goal.returns
returns c =
    let all = items_from_extend c.extend.result c.extend.ensures.ran
    (YieldsList-from_map {s = c.map.result} _ (row_at c.args.depth) (YieldsList-from_rev_slice c.args.children.now (cc)) c.map.ensures.closure (λ x r q k. search rules)) in
    (at_ok c.extend.result c.in_ok-extend.was all).0
