-- In each run devices that are up hold one whole alternative, and devices without drivers hold nothing.
use Rattle.std.proofs.Common.{◌≡◌, inl, List, [], ◌∷◌, refl, subst}
use Rattle.resource_reqs.specs.Resources.{Whole}
use Rattle.pnp_model.specs.Records.{Node, Driver, State, Settings}
use Rattle.pnp_model.specs.Runs.{Entry, Goes, opening, printed, root_node}
use Rattle.pnp_model.specs.Laws.{AllHoldWholeLaw, HoldsWhole}
use Rattle.pnp_laws.specs.Reached.{IsReached}
use Rattle.pnp_laws.specs.Holdings.{IsWhole}
use Rattle.pnp_laws.proofs.Runs.{root_is}
use Rattle.pnp_laws.proofs.Reaching.{kept}
use Rattle.pnp_laws.proofs.Reached.{reached_is_good}
use Rattle.pnp_laws.proofs.EffectsOf.{effect_goes}
use Rattle.pnp_laws.proofs.HoldingsKept.{whole_effect}
use Rattle.pnp_laws.proofs.PlansKept.{reached_is_planned}

whole_goes : (settings : Settings) (rack : List Driver) (old : State) (entry : Entry) (new : State) → IsReached settings rack old → IsWhole old → Goes settings old entry new → IsWhole new
whole_goes settings rack old entry new reached h goes =
    let effect = effect_goes settings old entry new goes in
    whole_effect old (printed entry) (reached_is_good settings rack old reached) (reached_is_planned settings rack old reached) h new effect.nodes effect.activities

root_whole : HoldsWhole (root_node ∷ [])
root_whole =
    record {
      up = λ k n at e. subst (λ (x : Node). Whole x.reqs x.holds) (root_is k n at).0 (inl (refl, refl));
      bare = λ k n at e. subst (λ (x : Node). x.holds ≡ []) (root_is k n at).0 refl;
    }

opening_is_whole : (rack : List Driver) → IsWhole (opening rack)
opening_is_whole rack = record { holds = root_whole; starts = λ k a at. absurd (cc) }

pub reached_is_whole : (settings : Settings) (rack : List Driver) (s : State) → IsReached settings rack s → IsWhole s
reached_is_whole settings rack s reached =
    kept (λ (x : State). IsWhole x) settings rack (whole_goes settings rack) (opening_is_whole rack) s reached

-- in each state of each run devices that are up hold one whole alternative, and devices without drivers nothing
pub all_hold_whole : AllHoldWholeLaw
all_hold_whole settings rack entries s reaches = (reached_is_whole settings rack s (entries, reaches)).holds
