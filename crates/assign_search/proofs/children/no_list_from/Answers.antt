use Rattle.std.proofs.Common.{◌≡◌, [], map, drop, length, sym, ◌∙◌, subst, arith}
use native.Mathlib.Decide.{ℕ_discrete}
use Rattle.std.specs.List.{AllByRecursion}
use Rattle.std.proofs.Math.ListN.{length-map}
use Rattle.std.proofs.lemmas.Bool.{eqb-true, eq-eqb}
use Rattle.resource_reqs.specs.Resources.{Reqs}
use Rattle.assign_search.specs.Fixed.{reqs_of}
use Rattle.assign_search.proofs.Extensions.{nothing_past, something_at}
use Rattle.assign_search.proofs.children.no_list_from.Goals as goal

pub returns : goal.returns
returns c =
    let at = c.first_listed.result in
    let long : length (map reqs_of c.args.movers.now) ≡ length c.args.movers.now = length-map c.args.movers.now reqs_of in (
      λ h. c.first_listed.ensures.same.nothing (subst (λ n. AllByRecursion (λ (reqs : Reqs). reqs ≡ []) (drop n (map reqs_of c.args.movers.now)))
          (long ∙ sym (eqb-true at (length c.args.movers.now) h)) (nothing_past (map reqs_of c.args.movers.now))),
      λ none. elim (ℕ_discrete at (length c.args.movers.now)) [
        | yes e ↦ eq-eqb at (length c.args.movers.now) e
        | no g ↦ absurd (something_at (map reqs_of c.args.movers.now) at (omega (arith, c.first_listed.ensures.within)) c.first_listed.ensures.listed (c.first_listed.ensures.same.no_more none))
      ],
    )
