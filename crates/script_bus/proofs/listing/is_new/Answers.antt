use Rattle.std.proofs.Common.{◌∙◌, sym}
use Rattle.pnp_model.specs.Tasks.{has_born, has_path}
use Rattle.script_bus.proofs.Joining.{path_known, born_known, known_by_path, known_by_born}
use Rattle.script_bus.proofs.listing.is_new.Goals as goal

pub returns-then-is_some : goal.returns-then-is_some
returns-then-is_some c =
    let nodes = c.args.tree.now.nodes in
    known_by_path (has_born c.args.born nodes) (has_path c.args.path.now nodes) (sym c.if-is_some.true ∙ (c.is_some.ensures ∙ path_known c.args.path.now nodes c.find.result c.find.ensures))

pub returns : goal.returns
returns c =
    let nodes = c.args.tree.now.nodes in
    known_by_born (has_born c.args.born nodes) (has_path c.args.path.now nodes) c.is_none.result
    (sym (path_known c.args.path.now nodes c.find.result c.find.ensures) ∙ (sym c.is_some.ensures ∙ c.if-is_some.false))
    (sym (born_known c.args.born nodes c.find_born.result c.find_born.ensures) ∙ c.is_none.ensures)
