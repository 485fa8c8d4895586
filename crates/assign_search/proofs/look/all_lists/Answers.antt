use Rattle.std.proofs.Common.{map, sym, ◌∙◌}
use Rattle.assign_search.specs.Fixed.{reqs_of}
use Rattle.assign_search.specs.Walking.{HasOpenList, held_in}
use Rattle.assign_search.proofs.Rest.{all_no, all_yes, false_true}
use Rattle.assign_search.proofs.look.all_lists.Goals as goal

pub returns-then-not-has_open_list : goal.returns-then-not-has_open_list
returns-then-not-has_open_list c = (
  λ h. false_true h,
  λ h. absurd (all_no (HasOpenList (held_in c.args.board.now)) (map reqs_of c.args.movers.now) c.args.from c.movers.at c.reqs_at.result.now c.reqs_at.ensures c.movers.invariant
      (λ open_. false_true (sym c.if-not-has_open_list.true ∙ c.has_open_list.ensures.1 open_)) h),
)

pub movers-preserved : goal.movers-preserved
movers-preserved c =
    all_yes (HasOpenList (held_in c.args.board.now)) (map reqs_of c.args.movers.now) c.args.from c.movers.at c.reqs_at.result.now c.reqs_at.ensures c.movers.invariant
    (c.has_open_list.ensures.0 c.if-not-has_open_list.false)
