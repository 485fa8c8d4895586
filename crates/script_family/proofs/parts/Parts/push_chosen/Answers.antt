use Rattle.std.proofs.Common.{◌∙◌, sym, ap, subst, refl, ◌+◌, ◌-◌, ◌^◌, min, arith}
use Rattle.script_family.specs.declared.part.Node.TheVariants as nodes
use Rattle.script_family.specs.Families.{Chosen}
use Rattle.script_family.specs.Parts.{row_at, IsRow}
use Rattle.script_family.specs.Steps.{shape}
use Rattle.script_family.proofs.Growing.{part_in, new_part}
use Rattle.script_family.proofs.Rows.{chosen_row}
use Rattle.script_family.proofs.parts.Parts.push_chosen.Goals as goal

pub push-requires : goal.push-requires
push-requires c =
    let one = c.index-one.result.now in
    let other = c.index-other.result.now in
    let first = part_in c.self.inside.list.items c.self.inside.ways c.args.self.now c.args.first one c.self.invariant c.self.view_is c.requires.first c.index-one.ensures in
    let second = part_in c.self.inside.list.items c.self.inside.ways c.args.self.now c.args.second other c.self.invariant c.self.view_is c.requires.second c.index-other.ensures in
    let row = chosen_row (shape c.args.self.now c.args.first) (shape c.args.self.now c.args.second) one.least other.least one.row.items other.row.items c.in_ok-row.row.items
    first.row second.row
    (omega (arith, c.in_ok-row.ensures.width, c.min-least.ensures, c.max-end.ensures, one.row.ok.0, other.row.ok.0, first.row.some, second.row.some))
    (λ at lt. c.in_ok-row.ensures.counts at lt
    ∙ ap (λ l. min (row_at one.least one.row.items (l + at) + row_at other.least other.row.items (l + at)) (2 ^ 64 - 1)) c.min-least.ensures) in
    new_part c.args.self.now (record { node = nodes.Chosen c.args.first c.args.second; least = c.min-least.result; row = c.in_ok-row.row })
    (Chosen (shape c.args.self.now c.args.first) (shape c.args.self.now c.args.second)) refl (c.requires.first, c.requires.second)
    (subst (λ l. IsRow (Chosen (shape c.args.self.now c.args.first) (shape c.args.self.now c.args.second)) l c.in_ok-row.row.items) (sym c.min-least.ensures) row)
    (omega (arith, first.few, second.few)) tt
