use Rattle.std.proofs.Common.{◌<◌, List, length, sym, subst}
use Rattle.resource_reqs.specs.Resources.{Res}
use Rattle.assign_search.proofs.Covering.{covered_wider, covered_set}
use Rattle.assign_search.proofs.places.Places.set.Goals as goal

pub invariant_of-self : goal.invariant_of-self
invariant_of-self c = covered_wider c.self.inside.over.items c.cover_all.new.over.items c.self.inside.of.items c.in_err-cover_all.ensures.wider c.self.invariant

pub invariant_of-self-2 : goal.invariant_of-self-2
invariant_of-self-2 c =
    covered_set c.cover_all.new.over.items c.self.inside.of.items c.args.at c.args.places (subst (λ (w : List (List Res)). c.args.at < length w) (sym c.self.view_is) c.requires)
    c.in_ok-cover_all.ensures.covered
    (covered_wider c.self.inside.over.items c.cover_all.new.over.items c.self.inside.of.items c.in_ok-cover_all.ensures.wider c.self.invariant)
