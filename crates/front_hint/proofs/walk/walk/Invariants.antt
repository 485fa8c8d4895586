use Rattle.pnp_model.specs.Records.{Settings}
use Rattle.front_check.specs.FrontChecks.{Place}
use Rattle.front_hint.specs.Spots.{IsOf, IsReady, place}
use Rattle.front_hint.specs.Hints.{Arrives}
use Rattle.front_hint.proofs.walk.walk.Given as goal

abbrev pub invariant-lines : goal.invariant-lines
invariant-lines l = record {
  ready : IsReady l.spot;
  leads : (told : Settings) → IsOf told l.fn.spot
      → IsOf told l.spot × ((there : Place) → Arrives told (place l.spot) l.rest l.left there → Arrives told (place l.fn.spot) l.trace l.count there);
}

abbrev pub decreases-lines : goal.decreases-lines
decreases-lines l = l.left
