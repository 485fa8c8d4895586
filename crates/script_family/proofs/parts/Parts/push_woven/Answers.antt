use Rattle.std.proofs.Common.{◌≡◌, ◌∙◌, ◌<◌, ◌≤◌, ◌+◌, sym, ap, subst, refl, true, length, arith}
use Rattle.script_family.specs.declared.part.Node.TheVariants as nodes
use Rattle.script_family.specs.Families.{Woven, most}
use Rattle.script_family.specs.Parts.{families}
use Rattle.script_family.specs.Steps.{Shapes, shape}
use Rattle.script_family.proofs.Growing.{part_in, new_part, parts_rows}
use Rattle.script_family.proofs.Rows.{paired_row}
use Rattle.script_family.proofs.parts.Parts.push_woven.Goals as goal

pub invariant_of-self : goal.invariant_of-self
invariant_of-self c = parts_rows (families c.self.inside.list.items) c.self.inside.ways c.grow.new.self c.self.inside.list.items c.grow.ensures.kept c.self.invariant

pub invariant_of-self-in_err-row : goal.invariant_of-self-in_err-row
invariant_of-self-in_err-row c = parts_rows (families c.self.inside.list.items) c.self.inside.ways c.grow.new.self c.self.inside.list.items c.grow.ensures.kept c.self.invariant

pub invariant_of-self-2 : goal.invariant_of-self-2
invariant_of-self-2 c = parts_rows (families c.self.inside.list.items) c.self.inside.ways c.grow.new.self c.self.inside.list.items c.grow.ensures.kept c.self.invariant

pub push-requires : goal.push-requires
push-requires c =
    let old : Shapes = record { families = families c.self.inside.list.items; rows = c.self.inside.ways } in
    let s : Shapes = record { families = families c.self.inside.list.items; rows = c.grow.new.self } in
    let a = c.index.result.now in
    let b = c.index-2.result.now in
    let first_in : c.args.first < length (families c.self.inside.list.items) = subst (λ (t : Shapes). c.args.first < length t.families) (sym c.self.view_is) c.requires.first in
    let second_in : c.args.second < length (families c.self.inside.list.items) = subst (λ (t : Shapes). c.args.second < length t.families) (sym c.self.view_is) c.requires.second in
    let first = part_in c.self.inside.list.items c.self.inside.ways old c.args.first a c.self.invariant refl first_in c.index.ensures in
    let second = part_in c.self.inside.list.items c.self.inside.ways old c.args.second b c.self.invariant refl second_in c.index-2.ensures in
    let most_a : most (shape s c.args.first) ≡ c.most.result = ap (λ (t : Shapes). most (shape t c.args.first)) c.self.view_is ∙ sym c.most.ensures.value in
    let most_b : most (shape s c.args.second) ≡ c.most-2.result = ap (λ (t : Shapes). most (shape t c.args.second)) c.self.view_is ∙ sym c.most-2.ensures.value in
    let few : most (shape s c.args.first) + most (shape s c.args.second) ≤ 1024 =
    subst (λ (t : Shapes). most (shape t c.args.first) + most (shape t c.args.second) ≤ 1024) (sym c.self.view_is) c.requires.few in
    new_part s (record { node = nodes.Woven c.args.first c.args.second; least = a.least + b.least; row = c.in_ok-row.row })
    (Woven (shape s c.args.first) (shape s c.args.second)) refl (first_in, second_in)
    (paired_row (shape s c.args.first) (shape s c.args.second) a.least b.least a.row.items b.row.items c.in_ok-row.row.items true first.row second.row
    c.in_ok-row.ensures.width c.in_ok-row.ensures.counts)
    (omega (arith, few)) (omega (arith, c.grow.ensures.kept, c.in_ok-grow.ensures.more, most_a, most_b))
