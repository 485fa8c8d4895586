use Rattle.script_family.specs.Parts.{IsPart}
use Rattle.script_family.specs.Steps.{shape}
use Rattle.script_family.proofs.Growing.{part_in}
use Rattle.script_family.proofs.Rows.{there, numbered}
use Rattle.script_family.proofs.parts.Parts.place.Goals as goal
use Rattle.script_family.proofs.parts.Parts.place.Goals.{After-index-2}

first_part : (c : After-index-2) → IsPart c.args.self.now.families c.args.self.now.rows c.args.first c.index.result.now
first_part c =
    part_in c.self.inside.list.items c.self.inside.ways c.args.self.now c.args.first c.index.result.now c.self.invariant c.self.view_is c.requires.first c.index.ensures

second_part : (c : After-index-2) → IsPart c.args.self.now.families c.args.self.now.rows c.args.second c.index-2.result.now
second_part c =
    part_in c.self.inside.list.items c.self.inside.ways c.args.self.now c.args.second c.index-2.result.now c.self.invariant c.self.view_is c.requires.second c.index-2.ensures

pub place_of-requires-clause-there : goal.place_of-requires-clause-there
place_of-requires-clause-there c =
    let d = (goal.at.place_of-requires-clause-there c).After-index-2 in
    there (shape c.args.self.now c.args.first) (shape c.args.self.now c.args.second) c.index.result.now.least c.index-2.result.now.least
    c.index.result.now.row.items c.index-2.result.now.row.items c.args.woven (first_part d).row (second_part d).row c.args.lines c.args.number c.requires.there c.requires.exact

pub returns : goal.returns
returns c =
    let d = (goal.at.returns c).After-index-2 in
    numbered (shape c.args.self.now c.args.first) (shape c.args.self.now c.args.second) c.index.result.now.least c.index-2.result.now.least
    c.index.result.now.row.items c.index-2.result.now.row.items c.args.woven (first_part d).row (second_part d).row c.args.lines c.args.number
    c.place_of.result.lines c.place_of.result.first c.place_of.result.second c.place_of.result.way c.requires.exact
    c.place_of.ensures.inside c.place_of.ensures.first c.place_of.ensures.second c.place_of.ensures.way c.place_of.ensures.sum
