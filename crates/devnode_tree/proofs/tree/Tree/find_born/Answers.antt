use Rattle.std.proofs.Common.{◌∙◌, ap, sym, option_map, Some}
use Rattle.pnp_model.specs.Records.{Node}
use Rattle.devnode_tree.proofs.Lookups.{born_found, born_missing}
use Rattle.devnode_tree.proofs.tree.Tree.find_born.Goals as goal

pub returns-in_err-place : goal.returns-in_err-place
returns-in_err-place c =
    rw (c.from_residual.ensures, ← c.self.view_is)
    (sym (ap (option_map (λ (n : Node). n.serial)) (born_missing c.self.inside.entries.items c.self.inside.births c.self.invariant.births_are c.args.born c.in_err-place.ensures)))

pub returns : goal.returns
returns c =
    rw (← c.self.view_is)
    (ap Some c.serial.ensures
    ∙ sym (born_found c.self.inside.entries.items c.self.inside.births c.self.invariant.births_are c.args.born c.in_ok-place.place c.in_ok-place.ensures c.index.result.now c.index.ensures))
