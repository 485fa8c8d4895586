use Rattle.std.proofs.Common.{◌∙◌, ap, sym, Some, option_map}
use Rattle.device_ids.specs.Folding.{folded}
use Rattle.pnp_model.specs.Records.{Node}
use Rattle.devnode_tree.proofs.Lookups.{path_found, path_missing}
use Rattle.devnode_tree.proofs.tree.Tree.find.Goals as goal

pub returns-in_err-place : goal.returns-in_err-place
returns-in_err-place c =
    rw (c.from_residual.ensures, ← c.self.view_is) (sym (ap (option_map (λ (n : Node). n.serial)) (path_missing folded c.self.inside.paths.keys c.self.inside.entries.items c.self.inside.next c.self.invariant.kept c.args.path.now c.in_err-place.ensures.index)))

pub returns : goal.returns
returns c =
    rw (← c.self.view_is)
    (ap Some c.serial.ensures
    ∙ sym (path_found folded c.self.inside.paths.keys c.self.inside.entries.items c.self.inside.next c.self.invariant.kept c.args.path.now c.in_ok-place.place c.in_ok-place.ensures.index c.index.result.now c.index.ensures))
