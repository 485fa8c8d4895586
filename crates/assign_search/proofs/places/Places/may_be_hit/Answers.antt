use Rattle.std.proofs.Common.{List, [], get_or, sym, ◌∙◌, subst}
use Rattle.resource_reqs.specs.Resources.{Res}
use Rattle.assign_search.specs.Watching.{IsHit}
use Rattle.assign_search.proofs.Rest.{false_true}
use Rattle.assign_search.proofs.places.Places.may_be_hit.Goals as goal

pub returns : goal.returns
returns c clear at hit =
    let covers : IsHit c.self.inside.over.items c.args.res.now = c.self.invariant at c.args.res.now (subst (λ (w : List (List Res)). IsHit (get_or w at []) c.args.res.now) (sym c.self.view_is) hit) in
    false_true (sym clear ∙ c.is_any_hit.ensures.1 (subst (λ (l : List Res). IsHit l c.args.res.now) (sym c.deref.ensures.value) covers))
