use Rattle.std.proofs.Common.{sym, ◌∙◌, arith, rules}
use Rattle.assign_search.specs.Walking.{HasOpen, held_in}
use Rattle.assign_search.proofs.Rest.{all_no, all_yes, all_end, all_here, all_rest, false_true}
use Rattle.assign_search.proofs.Touching.{untouched_group}
use Rattle.assign_search.proofs.look.groups_beside.Goals as goal
use Rattle.assign_search.proofs.look.groups_beside.Goals.{else-touches_group-via-then-touches_group+else-not-has_open, else-touches_group-via-else-touches_group}

pub returns-then-not-has_open : goal.returns-then-not-has_open
returns-then-not-has_open c before adds was = (
  λ h. false_true h,
  λ h. absurd (all_no (HasOpen (held_in c.args.board.now)) c.args.list.now c.args.from c.groups.at c.get-group.result.now c.get-group.ensures.part (c.groups.invariant before adds was).1
      (λ open_. false_true (sym c.if-not-has_open.true ∙ c.has_open.ensures.1 open_)) h),
)

pub groups-preserved : goal.groups-preserved
groups-preserved c before adds was =
    let so_far = c.groups.invariant before adds was in
    let first = all_here (HasOpen before) c.args.list.now c.groups.at c.get-group.result.now c.get-group.ensures.part so_far.0 in
    let here : HasOpen (held_in c.args.board.now) c.get-group.result.now = elim c.else-touches_group.branch [
      | else-touches_group-via-then-touches_group+else-not-has_open w ↦ w.has_open.ensures.0 w.if-not-has_open.false
      | else-touches_group-via-else-touches_group w ↦
          untouched_group before (held_in c.args.board.now) c.args.res.now c.get-group.result.now adds
          (λ t. false_true (sym w.if-touches_group.false ∙ c.touches_group.ensures.1 t)) first
    ] in (
      all_rest (HasOpen before) c.args.list.now c.groups.at c.get-group.result.now c.get-group.ensures.part so_far.0,
      all_yes (HasOpen (held_in c.args.board.now)) c.args.list.now c.args.from c.groups.at c.get-group.result.now c.get-group.ensures.part so_far.1 here,
    )

pub returns : goal.returns
returns c before adds was =
    (λ h. (c.groups.invariant before adds was).1.1 (all_end (HasOpen (held_in c.args.board.now)) c.args.list.now c.groups.at (omega arith)), λ h. search rules)
