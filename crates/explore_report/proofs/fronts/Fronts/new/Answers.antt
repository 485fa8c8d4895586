use Rattle.std.proofs.Common.{◌∙◌, ◌++◌, ◌∷◌, [], sym, ap, subst}
use Rattle.explore_report.specs.Fronts.{HasFronts, edges_of}
use Rattle.explore_report.proofs.Keys.{no_edges}
use Rattle.explore_report.proofs.Tries.{no_fronts}
use Rattle.explore_report.proofs.fronts.Fronts.new.Goals as goal

pub returns : goal.returns
returns c =
    subst (λ first. HasFronts (edges_of c.new.result) first []) (sym (c.in_ok-push.ensures.items ∙ ap (λ xs. xs ++ 0 ∷ []) c.new-first.ensures.items))
    (no_fronts (edges_of c.new.result) (no_edges c.new.result c.new.ensures.empty))
