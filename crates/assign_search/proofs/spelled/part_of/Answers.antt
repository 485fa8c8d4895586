use Rattle.std.proofs.Common.{◌∷◌, Result, Ok, Err, IfOk, drop, sym, ap, ◌∙◌, arith}
use Rattle.assign_search.specs.Walking.{plan_in}
use Rattle.assign_search.proofs.Planning.{part_next}
use Rattle.assign_search.proofs.spelled.part_of.Goals as goal

both : {A E : Type 0} (r : Result A E) {P Q R : A → Type 0} → IfOk r P → IfOk r Q → ((x : A) → P x → Q x → R x) → IfOk r R
both (Ok x) p q f = f x p q
both (Err e) p q f = tt

pub returns-clause-part : goal.returns-clause-part
returns-clause-part c =
    both c.places_from.result c.places_from.ensures.holds c.places_from.ensures.rest (λ part holds rest ms.
    part_next c.args.reqs.now ms c.args.path.now c.args.at part.at (omega arith) (omega arith) rest
    ∙ ap (λ h. h ∷ plan_in ms (drop part.at c.args.path.now)) (sym holds))
