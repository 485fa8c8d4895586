use Rattle.std.proofs.Common.{◌≡◌, ◌∙◌, ap, map, arith}
use Rattle.std.proofs.lemmas.Grind.{common_steps}
use Rattle.pnp_model.specs.Endings.{print_order}
use Rattle.devnode_tree.specs.Rows.{row_of}
use Rattle.devnode_tree.specs.declared.print.PrintRow.{PrintRow}
use Rattle.devnode_tree.proofs.KeyedMaps.{map-twice}
use Rattle.devnode_tree.proofs.tree.Tree.print_order.Goals as goal

pub returns : goal.returns
returns c =
    let all : c.loop-row.serials ≡ map (λ (row : PrintRow). row.serial) c.in_ok-rows.rows.items = grind (arith, common_steps) in
    all ∙ (ap (map (λ (row : PrintRow). row.serial)) c.in_ok-rows.ensures ∙ map-twice (λ (row : PrintRow). row.serial) row_of (print_order c.args.self.now.nodes))
