use Rattle.std.proofs.Common.{rules}
use Rattle.std.proofs.lemmas.Fn.{filter_same}
use Rattle.relations.specs.Edges.{is_apart}
use Rattle.relations.proofs.edges.forget.Goals as goal

pub returns : goal.returns
returns c = filter_same _ (is_apart c.args.serial) _ (λ x b f' k. search rules) _ _ c.retain.ensures.filtered
