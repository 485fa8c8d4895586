use Rattle.std.proofs.Common.{drop, sym, ap, ◌∙◌}
use Rattle.pnp_model.specs.Rebalances.{startable}
use Rattle.rebalance.proofs.Taking.{first_cut, none_first, stands_first}
use Rattle.rebalance.proofs.above.pass_over.Goals as goal

pub returns-then-stands_up : goal.returns-then-stands_up
returns-then-stands_up c =
    sym (stands_first c.args.tree.now.nodes c.front.todo (drop 1 c.front.todo) c.in-Some.serial (first_cut c.front.todo c.in-Some.serial (sym c.in-Some.ensures)) (sym c.stands_up.ensures ∙ c.if-stands_up.true))
    ∙ c.front.invariant

pub returns : goal.returns
returns c = let none = none_first c.front.todo (sym c.get.ensures ∙ c.in_default.is) in none ∙ (sym (ap (startable c.args.tree.now.nodes) none) ∙ c.front.invariant)
