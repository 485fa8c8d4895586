use Rattle.std.proofs.Common.{List, subst}
use Rattle.resource_reqs.specs.Resources.{Reqs}
use Rattle.device_holdings.specs.Answers.{AnswersTo}
use Rattle.device_holdings.proofs.Asking.{all_need}
use Rattle.device_holdings.proofs.Beside.{then_ok}
use Rattle.device_holdings.proofs.finding.search.Goals as goal

pub returns-clause-answers : goal.returns-clause-answers
returns-clause-answers c =
    let nodes = c.args.tree.now.nodes in
    let ks = c.args.serials.now in
    then_ok c.search_for.result (λ found is. subst (λ (needs : List Reqs). AnswersTo needs nodes c.args.arbiters.now ks c.args.budget found) (all_need nodes ks) is) c.search_for.ensures.answers
