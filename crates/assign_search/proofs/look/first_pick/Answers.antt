use Rattle.std.proofs.Common.{◌<◌, inl, inr, length, arith}
use Rattle.std.proofs.lemmas.Option.{slice_get_within}
use Rattle.resource_reqs.specs.Spelling.{place}
use Rattle.assign_search.specs.Walking.{held_in, coord_of}
use Rattle.assign_search.proofs.Picking.{pick_more, pick_past, pick_none, next_pick}
use Rattle.assign_search.proofs.look.first_pick.Goals as goal

pub returns-in-Some-clause-next : goal.returns-in-Some-clause-next
returns-in-Some-clause-next c =
    next_pick c.args.group.now c.wants.at c.in-Some.found c.get-need.result.now (coord_of c.after_place.result) c.get-need.ensures c.after_place.ensures.later c.after_place.ensures.at_once

pub returns-in-Some-clause-least : goal.returns-in-Some-clause-least
returns-in-Some-clause-least c =
    pick_more (held_in c.args.board.now) c.args.group.now (place c.args.want c.args.from) c.wants.at c.wants.start c.in-Some.found c.get-need.result.now
    c.get-need.ensures c.wants.invariant.none c.in-Some.ensures.least

pub wants-preserved : goal.wants-preserved
wants-preserved c = record {
  after = λ h. elim h [
    | inl l ↦ c.wants.invariant.after (inl (omega arith))
    | inr (e, l) ↦ c.wants.invariant.after (inl (omega arith))
  ];
  none = pick_past (held_in c.args.board.now) c.args.group.now (place c.args.want c.args.from) c.wants.at c.wants.start c.get-need.result.now
      c.get-need.ensures c.wants.invariant.none c.in_default.ensures.none;
}

pub returns-clause-none : goal.returns-clause-none
returns-clause-none c =
    pick_none (held_in c.args.board.now) c.args.group.now (place c.args.want c.args.from) c.wants.at c.wants.start
    (λ v want read. let within : v < length c.args.group.now = slice_get_within c.args.group.now v want read in omega arith) c.wants.invariant.none
