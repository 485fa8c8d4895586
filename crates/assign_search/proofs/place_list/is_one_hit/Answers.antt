use Rattle.std.proofs.Common.{◌≡◌, true, false, sym, ◌∙◌, arith}
use Rattle.resource_reqs.specs.Resources.{Res, Clash}
use Rattle.resource_reqs.proofs.Loops.{none_next, none_any}
use Rattle.assign_search.proofs.place_list.is_one_hit.Goals as goal

pub places-preserved : goal.places-preserved
places-preserved c =
    none_next (λ (place : Res). Clash place c.args.res.now) c.args.places.now c.places.at c.get.result.now c.get.ensures
    (λ hits. let yes : c.clash.result ≡ true = c.clash.ensures.clash.1 hits in let both : false ≡ true = sym c.if-clash.false ∙ yes in cc) c.places.invariant

pub returns : goal.returns
returns c = (
  λ h. let f : false ≡ true = h in cc,
  λ (place, among, hits). absurd (none_any (λ (x : Res). Clash x c.args.res.now) c.args.places.now c.places.at (omega arith) c.places.invariant place among hits),
)
