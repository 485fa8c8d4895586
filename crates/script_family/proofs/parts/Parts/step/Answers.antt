use Rattle.std.proofs.Common.{arith}
use Rattle.script_family.specs.Parts.{IsPart}
use Rattle.script_family.proofs.Growing.{part_in, is_followed, is_chosen, is_woven, few_lines}
use Rattle.script_family.proofs.Stepping.{begins_both, begins_woven, begins_first, begins_second}
use Rattle.script_family.proofs.parts.Parts.step.Goals as goal
use Rattle.script_family.proofs.parts.Parts.step.Goals.{After-index}

the_part : (c : After-index) → IsPart c.args.self.now.families c.args.self.now.rows c.args.part c.index.result.now
the_part c = part_in c.self.inside.list.items c.self.inside.ways c.args.self.now c.args.part c.index.result.now c.self.invariant c.self.view_is c.requires.there c.index.ensures

pub place-requires-clause-few : goal.place-requires-clause-few
place-requires-clause-few c =
    omega (arith, (few_lines c.args.self.now c.args.part c.args.lines c.args.number c.index.result.now (the_part (goal.at.place-requires-clause-few c).After-index) c.requires.below).1)

pub place-requires-in-Woven-clause-few : goal.place-requires-in-Woven-clause-few
place-requires-in-Woven-clause-few c =
    omega (arith, (few_lines c.args.self.now c.args.part c.args.lines c.args.number c.index.result.now (the_part (goal.at.place-requires-in-Woven-clause-few c).After-index) c.requires.below).1)

pub place-requires-in-Woven-clause-table : goal.place-requires-in-Woven-clause-table
place-requires-in-Woven-clause-table c =
    let part = the_part (goal.at.place-requires-in-Woven-clause-table c).After-index in
    let woven = is_woven c.args.self.now c.args.part c.in-Woven.first c.in-Woven.second c.index.result.now part c.in-Woven.is in
    λ e. omega (arith, (few_lines c.args.self.now c.args.part c.args.lines c.args.number c.index.result.now part c.requires.below).0, woven.3)

pub returns-in-Followed : goal.returns-in-Followed
returns-in-Followed c =
    let part = the_part (goal.at.returns-in-Followed c).After-index in
    let two = is_followed c.args.self.now c.args.part c.in-Followed.first c.in-Followed.second c.index.result.now part c.in-Followed.is in
    begins_both c.args.self.now c.args.part c.args.lines c.args.number c.in-Followed.first c.in-Followed.second c.place.result two.0 two.1 two.2 c.requires c.place.ensures

pub returns-in-Woven : goal.returns-in-Woven
returns-in-Woven c =
    let part = the_part (goal.at.returns-in-Woven c).After-index in
    let two = is_woven c.args.self.now c.args.part c.in-Woven.first c.in-Woven.second c.index.result.now part c.in-Woven.is in
    let few = few_lines c.args.self.now c.args.part c.args.lines c.args.number c.index.result.now part c.requires.below in
    begins_woven c.args.self.now c.args.part c.args.lines c.args.number c.in-Woven.first c.in-Woven.second c.place-in-Woven.result two.0 two.1 two.2 c.requires
    (omega (arith, few.0, two.3)) c.place-in-Woven.ensures

pub returns-then-number-of_first : goal.returns-then-number-of_first
returns-then-number-of_first c =
    let part = the_part (goal.at.returns-then-number-of_first c).After-index in
    let two = is_chosen c.args.self.now c.args.part c.in-Chosen.first c.in-Chosen.second c.index.result.now part c.in-Chosen.is in
    begins_first c.args.self.now c.args.part c.args.lines c.args.number c.in-Chosen.first c.in-Chosen.second two.0 two.1 c.requires
    (omega (arith, c.count-of_first.ensures, c.if-number-of_first.true))

pub returns-else-number-of_first : goal.returns-else-number-of_first
returns-else-number-of_first c =
    let part = the_part (goal.at.returns-else-number-of_first c).After-index in
    let two = is_chosen c.args.self.now c.args.part c.in-Chosen.first c.in-Chosen.second c.index.result.now part c.in-Chosen.is in
    begins_second c.args.self.now c.args.part c.args.lines c.args.number c.in-Chosen.first c.in-Chosen.second c.count-of_first.result two.0 two.2 c.requires
    c.count-of_first.ensures c.if-number-of_first.false
