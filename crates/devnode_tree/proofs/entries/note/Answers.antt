use Rattle.std.proofs.Common.{◌∙◌, ap, arith}
use Rattle.device_ids.specs.Folding.{folded}
use Rattle.pnp_model.specs.Records.{Node}
use Rattle.devnode_tree.proofs.Joins.{from_ok, path_added}
use Rattle.devnode_tree.proofs.entries.note.Goals as goal

pub returns-clause-path : goal.returns-clause-path
returns-clause-path c =
    let text_is = ap folded (c.in_ok-key.ensures ∙ ap (λ (n : Node). n.path) c.node.view_is) in
    let added = from_ok _ c.insert.result (c.insert.ensures.succeeds (omega (arith, c.in_ok-reserve.ensures.ok))) c.insert.ensures.keys in
    rw (← c.in_ok-reserve.ensures.keys)
    (path_added folded c.reserve.new.self.keys c.insert.new.self.keys c.in_ok-key.key (folded c.args.node.now.path) text_is (rw c.in_ok-reserve.ensures.keys c.requires.new) added)
