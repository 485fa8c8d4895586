use Rattle.std.proofs.Common.{◌+◌, ◌++◌, map, drop, ap, ◌∙◌}
use Rattle.assign_search.specs.Fixed.{reqs_of}
use Rattle.assign_search.specs.Walking.{plan_in}
use Rattle.assign_search.proofs.Planning.{plan_more}
use Rattle.assign_search.proofs.spelled.plan_of.Goals as goal

pub movers-preserved : goal.movers-preserved
movers-preserved c =
    let ms = map reqs_of c.args.movers.now in
    record {
      within = c.in_ok-part.ensures.within;
      planned = ap (λ p. p ++ plan_in (drop (c.movers.mover + 1) (map reqs_of c.args.movers.now)) (drop c.in_ok-part.part.at c.args.path.now)) c.in_ok-push.ensures.pushed
          ∙ plan_more (map reqs_of c.args.movers.now) c.args.path.now c.movers.mover c.reqs_at.result.now c.movers.plan c.in_ok-part.part.holds
          (drop c.movers.at c.args.path.now) (drop c.in_ok-part.part.at c.args.path.now) c.reqs_at.ensures
          (c.in_ok-part.ensures.part (drop (c.movers.mover + 1) (map reqs_of c.args.movers.now))) c.movers.invariant.planned;
    }
