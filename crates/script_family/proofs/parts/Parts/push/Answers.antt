use Rattle.std.proofs.Common.{◌∙◌, sym, ap, subst, [], ◌∷◌, ◌++◌, length}
use Rattle.script_family.specs.declared.part.Part.{Part}
use Rattle.script_family.specs.Parts.{family_of, families, IsPart, IsParts}
use Rattle.script_family.specs.Steps.{Shapes}
use Rattle.script_family.proofs.Growing.{parts_push, families_push}
use Rattle.script_family.proofs.parts.Parts.push.Goals as goal

pub invariant_of-self-2 : goal.invariant_of-self-2
invariant_of-self-2 c =
    let part : Part = record { node = c.args.node; least = c.args.least; row = c.args.row } in
    subst (λ ps. IsParts (families ps) c.self.inside.ways ps) (sym c.in_ok-push.ensures.items)
    (parts_push c.self.inside.list.items part c.self.inside.ways c.self.invariant
    (subst (λ (s : Shapes). IsPart (s.families ++ family_of s.families c.args.node ∷ []) s.rows (length s.families) part) (sym c.self.view_is) c.requires))

pub returns : goal.returns
returns c =
    let part : Part = record { node = c.args.node; least = c.args.least; row = c.args.row } in
    ap families c.in_ok-push.ensures.items ∙ families_push c.self.inside.list.items part
    ∙ ap (λ (s : Shapes). s.families ++ family_of s.families c.args.node ∷ []) c.self.view_is
