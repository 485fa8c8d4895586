use Rattle.std.proofs.Common.{◌∙◌, ap, map}
use Rattle.lint_cli.specs.Warnings.{knows}
use Rattle.lint_cli.proofs.Indexes.{index_has}
use Rattle.lint_cli.proofs.names.Names.has.Goals as goal

pub returns : goal.returns
returns c =
    index_has c.self.inside.index (map (λ name. name.now) c.self.inside.names.items) c.args.name.now c.as_slice.result.now c.contains_key.result c.self.invariant
    (c.as_slice.ensures.value ∙ c.in_ok-key.ensures) c.contains_key.ensures
    ∙ ap (λ l. knows l c.args.name.now) c.self.view_is
