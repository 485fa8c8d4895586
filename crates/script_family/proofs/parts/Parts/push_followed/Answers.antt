use Rattle.std.proofs.Common.{refl, false, ◌+◌}
use Rattle.script_family.specs.declared.part.Node.TheVariants as nodes
use Rattle.script_family.specs.Families.{Followed}
use Rattle.script_family.specs.Steps.{shape}
use Rattle.script_family.proofs.Growing.{part_in, new_part}
use Rattle.script_family.proofs.Rows.{paired_row}
use Rattle.script_family.proofs.parts.Parts.push_followed.Goals as goal

pub push-requires : goal.push-requires
push-requires c =
    let first = part_in c.self.inside.list.items c.self.inside.ways c.args.self.now c.args.first c.index.result.now c.self.invariant c.self.view_is c.requires.first c.index.ensures in
    let second = part_in c.self.inside.list.items c.self.inside.ways c.args.self.now c.args.second c.index-2.result.now c.self.invariant c.self.view_is c.requires.second c.index-2.ensures in
    new_part c.args.self.now
    (record { node = nodes.Followed c.args.first c.args.second; least = c.index.result.now.least + c.index-2.result.now.least; row = c.in_ok-row.row })
    (Followed (shape c.args.self.now c.args.first) (shape c.args.self.now c.args.second)) refl (c.requires.first, c.requires.second)
    (paired_row (shape c.args.self.now c.args.first) (shape c.args.self.now c.args.second) c.index.result.now.least c.index-2.result.now.least
    c.index.result.now.row.items c.index-2.result.now.row.items c.in_ok-row.row.items false first.row second.row c.in_ok-row.ensures.width c.in_ok-row.ensures.counts)
    c.requires.few tt
