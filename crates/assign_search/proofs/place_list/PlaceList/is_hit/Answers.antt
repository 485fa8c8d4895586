use Rattle.std.proofs.Common.{◌≡◌, ◌++◌, ◌∷◌, List, Option, inl, inr, option_to_list, sym, ◌∙◌, ap, subst}
use Rattle.resource_reqs.specs.Resources.{Res}
use Rattle.assign_search.specs.Watching.{IsHit}
use Rattle.assign_search.proofs.Covering.{hit_rest, hit_either}
use Rattle.assign_search.proofs.Rest.{false_true}
use Rattle.assign_search.proofs.place_list.PlaceList.is_hit.Goals as goal

pub returns-else-clash : goal.returns-else-clash
returns-else-clash c =
    let w : c.in-Some.place ∷ c.self.inside.rest ≡ c.args.self.now = ap (λ (o : Option Res). option_to_list o ++ c.self.inside.rest) (sym c.in-Some.is) ∙ c.self.view_is in (
      λ h. subst (λ (l : List Res). IsHit l c.args.res.now) w (hit_rest c.in-Some.place c.self.inside.rest c.args.res.now (c.is_one_hit.ensures.0 h)),
      λ hit. elim (hit_either c.in-Some.place c.self.inside.rest c.args.res.now (subst (λ (l : List Res). IsHit l c.args.res.now) (sym w) hit)) [
        | inl clash ↦ false_true (sym c.if-clash.false ∙ c.clash.ensures.clash.1 clash)
        | inr there ↦ c.is_one_hit.ensures.1 there
      ],
    )
