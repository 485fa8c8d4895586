use Rattle.std.proofs.Common.{map, sym, ◌∙◌, subst}
use Rattle.resource_reqs.specs.Spelling.{IsPlan}
use Rattle.assign_search.specs.Fixed.{reqs_of}
use Rattle.assign_search.specs.Walking.{held_in}
use Rattle.assign_search.proofs.Rest.{false_true}
use Rattle.assign_search.proofs.Searching.{begins_dead}
use Rattle.assign_search.proofs.Planning.{plan_at_once}
use Rattle.assign_search.proofs.search.search_paths.Goals as goal

pub returns-then-is_complete-clause-answer : goal.returns-then-is_complete-clause-answer
returns-then-is_complete-clause-answer c =
    subst (IsPlan (held_in c.args.board.now) (map reqs_of c.args.movers.now) c.args.budget)
    (sym c.in_ok-plan_of.ensures)
    (plan_at_once (held_in c.args.board.now) (map reqs_of c.args.movers.now) c.args.budget (c.is_complete.ensures.0 c.if-is_complete.true).1)

pub returns-then-not-all_lists-clause-answer : goal.returns-then-not-all_lists-clause-answer
returns-then-not-all_lists-clause-answer c =
    begins_dead (held_in c.args.board.now) (map reqs_of c.args.movers.now) c.args.budget
    (λ lists. false_true (sym c.if-not-all_lists.true ∙ c.all_lists.ensures.1 lists))
