use Rattle.assign_search.specs.Walking.{coord_of, held_in}
use Rattle.assign_search.proofs.Extensions.{pick_found, pick_none_left}
use Rattle.assign_search.proofs.children.pick_child.Goals as goal

pub returns-in_default-clause-none : goal.returns-in_default-clause-none
returns-in_default-clause-none c =
    pick_none_left (held_in c.args.board.now) c.args.group c.args.groups.now c.get.result.now (coord_of c.args.from) c.start_of-first.result.want c.start_of-first.result.start
    c.get.ensures.part c.start_of-first.ensures.up c.in_default.ensures.none

pub returns-clause-found : goal.returns-clause-found
returns-clause-found c ms inside within is =
    let (want, read, made) = c.in-Some.ensures.made in
    pick_found (held_in c.args.board.now) ms c.args.mover c.args.list c.args.group c.args.groups.now c.get.result.now (coord_of c.args.from)
    c.start_of-first.result.want c.start_of-first.result.start c.in-Some.pick.want c.in-Some.pick.start c.in-Some.pick.next want c.in-Some.pick.res
    c.get.ensures.part is inside within c.in-Some.ensures.found read made c.in-Some.ensures.next
    c.start_of-first.ensures.up c.start_of-first.ensures.down c.in-Some.ensures.after c.in-Some.ensures.least
