use Rattle.std.proofs.Common.{List, [], ◌∷◌, ◌++◌, sym, ◌∙◌, ap, subst}
use Rattle.resource_reqs.specs.Resources.{Res}
use Rattle.assign_search.specs.Watching.{AreCovered}
use Rattle.assign_search.proofs.Covering.{covered_more}
use Rattle.assign_search.proofs.places.Places.add.Goals as goal

pub invariant_of-self : goal.invariant_of-self
invariant_of-self c = subst (AreCovered c.self.inside.over.items) (sym c.in_err-push.ensures.items) c.self.invariant

pub invariant_of-self-2 : goal.invariant_of-self-2
invariant_of-self-2 c =
    subst (AreCovered c.self.inside.over.items) (sym (c.in_ok-push.ensures.items ∙ ap (λ (l : List Res). c.self.inside.of.items ++ l ∷ []) c.new.ensures))
    (covered_more c.self.inside.over.items c.self.inside.of.items c.self.invariant)
