use Rattle.std.proofs.Common.{◌≡◌, ◌+◌, [], map, drop, IfSome, IfNone, sym, ◌∙◌, subst, arith, ap}
use Rattle.assign_search.specs.declared.spots.Spot.TheVariants.{Inside}
use Rattle.assign_search.specs.Fixed.{reqs_of}
use Rattle.assign_search.specs.Walking.{coord_of, groups_at, movers_at, IsChild, NoChild, held_in}
use Rattle.assign_search.proofs.Extensions.{child_at, no_child_at, no_groups}
use Rattle.assign_search.proofs.children.next_child.Goals as goal

pub returns-in-Between-clause-found : goal.returns-in-Between-clause-found
returns-in-Between-clause-found c =
    subst (λ s. IfSome c.list_child.result (λ child. IsChild (held_in c.args.board.now) (map reqs_of c.args.movers.now) (groups_at (map reqs_of c.args.movers.now) s) (movers_at (map reqs_of c.args.movers.now) s) (coord_of c.args.from) child))
    (sym c.in-Between.is)
    (child_at (held_in c.args.board.now) (map reqs_of c.args.movers.now) [] (drop c.in-Between.mover (map reqs_of c.args.movers.now)) (coord_of c.args.from) c.list_child.result c.list_child.ensures.found)

pub returns-in-Between-clause-none : goal.returns-in-Between-clause-none
returns-in-Between-clause-none c =
    subst (λ s. IfNone c.list_child.result (NoChild (held_in c.args.board.now) (groups_at (map reqs_of c.args.movers.now) s) (movers_at (map reqs_of c.args.movers.now) s) (coord_of c.args.from)))
    (sym c.in-Between.is)
    (no_child_at (held_in c.args.board.now) [] (drop c.in-Between.mover (map reqs_of c.args.movers.now)) (coord_of c.args.from) c.list_child.result c.list_child.ensures.none)

pub returns-else-group-len-clause-found : goal.returns-else-group-len-clause-found
returns-else-group-len-clause-found c =
    let none : groups_at (map reqs_of c.args.movers.now) (Inside c.in-Inside.mover c.in-Inside.list c.in-Inside.group) ≡ [] =
    sym (ap (drop c.in-Inside.group) c.groups_of-groups.ensures) ∙ no_groups c.groups_of-groups.result.now c.in-Inside.group (omega arith) in
    subst (λ s. IfSome c.list_child-else-group-len.result (λ child. IsChild (held_in c.args.board.now) (map reqs_of c.args.movers.now) (groups_at (map reqs_of c.args.movers.now) s) (movers_at (map reqs_of c.args.movers.now) s) (coord_of c.args.from) child))
    (sym c.in-Inside.is)
    (subst (λ g. IfSome c.list_child-else-group-len.result (λ child. IsChild (held_in c.args.board.now) (map reqs_of c.args.movers.now) g (drop (c.in-Inside.mover + 1) (map reqs_of c.args.movers.now)) (coord_of c.args.from) child)) (sym none)
    (child_at (held_in c.args.board.now) (map reqs_of c.args.movers.now) [] (drop (c.in-Inside.mover + 1) (map reqs_of c.args.movers.now)) (coord_of c.args.from) c.list_child-else-group-len.result c.list_child-else-group-len.ensures.found))

pub returns-else-group-len-clause-none : goal.returns-else-group-len-clause-none
returns-else-group-len-clause-none c =
    let none : groups_at (map reqs_of c.args.movers.now) (Inside c.in-Inside.mover c.in-Inside.list c.in-Inside.group) ≡ [] =
    sym (ap (drop c.in-Inside.group) c.groups_of-groups.ensures) ∙ no_groups c.groups_of-groups.result.now c.in-Inside.group (omega arith) in
    subst (λ s. IfNone c.list_child-else-group-len.result (NoChild (held_in c.args.board.now) (groups_at (map reqs_of c.args.movers.now) s) (movers_at (map reqs_of c.args.movers.now) s) (coord_of c.args.from)))
    (sym c.in-Inside.is)
    (subst (λ g. IfNone c.list_child-else-group-len.result (NoChild (held_in c.args.board.now) g (drop (c.in-Inside.mover + 1) (map reqs_of c.args.movers.now)) (coord_of c.args.from))) (sym none)
    (no_child_at (held_in c.args.board.now) [] (drop (c.in-Inside.mover + 1) (map reqs_of c.args.movers.now)) (coord_of c.args.from) c.list_child-else-group-len.result c.list_child-else-group-len.ensures.none))
