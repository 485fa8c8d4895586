use Rattle.std.proofs.Common.{rules, arith, take, length, ◌+◌}
use Rattle.script_family.specs.Loops.{RefusesLines}
use Rattle.script_family.proofs.Readings.{line_alone, line_fed, line_more, line_refused}
use Rattle.script_family.proofs.family.read_lines.Goals as goal

pub sort_of-requires : goal.sort_of-requires
sort_of-requires c =
    line_alone c.in-Some.line.now (take (length c.in-Some.line.now + 1) c.loop-line.rest.now) c.in-Some.after.now c.loop-line.rest.now c.in-Some.ensures.front
    c.in-Some.ensures.cut.1 (line_fed c.in-Some.line.now c.in-Some.after.now c.loop-line.rest.now c.in-Some.ensures.cut.1)

pub returns-in_err-take : goal.returns-in_err-take
returns-in_err-take c =
    let refuses : RefusesLines c.in_err-take.field-0.0 c.args.text.now =
    line_refused c.args.text.now c.loop-line.rest.now c.in-Some.line.now c.in-Some.after.now c.loop-line.passed c.loop-line.draft c.in_ok-sort.sort
    c.in_err-take.field-0.0 c.loop-line.invariant c.in-Some.ensures.cut.0 c.in_ok-sort.ensures c.in_err-take.ensures in
    first_of (search (rules, refuses), grind (arith, refuses))

pub loop-line-preserved : goal.loop-line-preserved
loop-line-preserved c =
    line_more c.args.text.now c.loop-line.rest.now c.in-Some.line.now c.in-Some.after.now c.loop-line.passed c.loop-line.draft c.take.new.self c.in_ok-sort.sort
    c.loop-line.invariant c.in-Some.ensures.cut.0 c.in-Some.ensures.cut.1 c.in_ok-sort.ensures c.in_ok-take.ensures
