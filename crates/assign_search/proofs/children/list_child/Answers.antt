use Rattle.std.proofs.Common.{◌+◌, [], List, map, drop, None, sym, subst, arith}
use Rattle.resource_reqs.specs.Resources.{Res}
use Rattle.assign_search.specs.declared.spots.Step.TheVariants.{Alt}
use Rattle.assign_search.specs.declared.spots.Spot.TheVariants.{Inside}
use Rattle.assign_search.specs.Fixed.{reqs_of}
use Rattle.assign_search.specs.Walking.{IsChild, NoChild, coord_of}
use Rattle.assign_search.proofs.Extensions.{list_found, list_none, some_length}
use Rattle.assign_search.proofs.children.list_child.Goals as goal

pub returns-then-len-first-clause-none : goal.returns-then-len-first-clause-none
returns-then-len-first-clause-none c =
    subst (λ f. (held : List Res) → NoChild held [] (drop c.args.mover (map reqs_of c.args.movers.now)) (coord_of f)) (sym c.in-Alt.is)
    (list_none (map reqs_of c.args.movers.now) c.args.mover c.first_listed-listed.result c.in-Alt.first c.reqs_at.result.now c.reqs_at.ensures
    (some_length c.reqs_at.result.now (c.first_listed-listed.ensures.listed c.reqs_at.result.now c.reqs_at.ensures)) (omega arith) c.first_listed-listed.ensures.same)

pub returns-clause-found : goal.returns-clause-found
returns-clause-found c =
    subst (λ f. (held : List Res) → IsChild held (map reqs_of c.args.movers.now) [] (drop c.args.mover (map reqs_of c.args.movers.now)) (coord_of f)
    (record { step = Alt c.in-Alt.first; next = Alt (c.in-Alt.first + 1); spot = Inside c.first_listed-listed.result c.in-Alt.first 0; res = None })) (sym c.in-Alt.is)
    (list_found (map reqs_of c.args.movers.now) c.args.mover c.first_listed-listed.result c.in-Alt.first c.reqs_at.result.now c.reqs_at.ensures (omega arith) c.first_listed-listed.ensures.same)
