use Rattle.assign_search.specs.Walking.{held_in}
use Rattle.assign_search.proofs.Picking.{none_after}
use Rattle.assign_search.proofs.look.late_place.Goals as goal

pub returns-in-None-clause-none : goal.returns-in-None-clause-none
returns-in-None-clause-none c open_ =
    none_after (held_in c.args.board.now) c.args.group.now c.get-need.result.now c.get-need.ensures c.in_default.ensures.none c.in-None.ensures.none open_
