use Rattle.std.proofs.Common.{◌∙◌, ap, option_copied}
use Rattle.assign_search.specs.Fixed.{answer_of}
use Rattle.pnp_model.specs.Records.{Job}
use Rattle.rebalance.specs.Parts.{Takes}
use Rattle.operation_frame.proofs.Requests.{ok_then}
use Rattle.rebalance.proofs.Acting.{found_is}
use Rattle.rebalance.proofs.frame.Rebalance.look.Goals as goal

pub returns-clause-searched : goal.returns-clause-searched
returns-clause-searched c =
    let r = c.args.self.now in
    let found = c.in_ok-found.found in
    ok_then (λ label. Takes r (answer_of found) label c.take_found.new.self) _
    (λ label takes. found_is c.args.tree.now.nodes c.args.arbiters.now r c.args.budget (option_copied c.as_ref-wanted.result) c.deref.result.now found label c.take_found.new.self
    (c.as_ref-wanted.ensures.value ∙ ap (λ (r : Job). r.wanted) c.self.view_is) (c.deref.ensures.value ∙ c.in_ok-movers.ensures) c.in_ok-found.ensures.answers takes)
    c.take_found.result c.take_found.ensures.takes
