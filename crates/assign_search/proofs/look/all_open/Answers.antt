use Rattle.std.proofs.Common.{sym, ◌∙◌}
use Rattle.assign_search.specs.Walking.{HasOpen, held_in}
use Rattle.assign_search.proofs.Rest.{all_no, all_yes, false_true}
use Rattle.assign_search.proofs.look.all_open.Goals as goal

pub groups-preserved : goal.groups-preserved
groups-preserved c =
    all_yes (HasOpen (held_in c.args.board.now)) c.args.list.now c.args.from c.groups.at c.get.result.now c.get.ensures.part c.groups.invariant (c.has_open.ensures.0 c.if-not-has_open.false)

pub returns-then-not-has_open : goal.returns-then-not-has_open
returns-then-not-has_open c = (
  λ h. false_true h,
  λ h. absurd (all_no (HasOpen (held_in c.args.board.now)) c.args.list.now c.args.from c.groups.at c.get.result.now c.get.ensures.part c.groups.invariant
      (λ open_. false_true (sym c.if-not-has_open.true ∙ c.has_open.ensures.1 open_)) h),
)
