use Rattle.std.proofs.Common.{arith, length, length-drop, ◌<◌}
use Rattle.script_family.proofs.Interleaving.{left_first, left_second, some_second}
use Rattle.script_family.proofs.weaving.weave_both.Goals as goal

pub lines-preserved-then-way-begin : goal.lines-preserved-then-way-begin
lines-preserved-then-way-begin c =
    left_first c.args.parts.now.rows c.lines.firsts.now c.lines.seconds.now c.lines.out.items c.push.new.self.items c.lines.way c.begin-begin.result _
    c.lines.invariant c.begin-begin.ensures c.if-way-begin.true c.in_ok-push.ensures.items

pub bounds-seconds-0 : goal.bounds-seconds-0
bounds-seconds-0 c =
    let some : 0 < length c.lines.seconds.now = some_second c.args.parts.now.rows c.lines.firsts.now c.lines.seconds.now c.lines.out.items c.lines.way c.begin-begin.result _
    c.lines.invariant c.begin-begin.ensures c.if-way-begin.false (omega arith) in
    omega arith

pub slice_bounds-seconds-count : goal.slice_bounds-seconds-count
slice_bounds-seconds-count c =
    let some : 0 < length c.lines.seconds.now = some_second c.args.parts.now.rows c.lines.firsts.now c.lines.seconds.now c.lines.out.items c.lines.way c.begin-begin.result _
    c.lines.invariant c.begin-begin.ensures c.if-way-begin.false (omega arith) in
    omega arith

pub slice_bounds-seconds-start : goal.slice_bounds-seconds-start
slice_bounds-seconds-start c =
    let some : 0 < length c.lines.seconds.now = some_second c.args.parts.now.rows c.lines.firsts.now c.lines.seconds.now c.lines.out.items c.lines.way c.begin-begin.result _
    c.lines.invariant c.begin-begin.ensures c.if-way-begin.false (omega arith) in
    omega arith

pub lines-smaller : goal.lines-smaller
lines-smaller c =
    let some : 0 < length c.lines.seconds.now = some_second c.args.parts.now.rows c.lines.firsts.now c.lines.seconds.now c.lines.out.items c.lines.way c.begin-begin.result _
    c.lines.invariant c.begin-begin.ensures c.if-way-begin.false (omega arith) in
    omega (arith, length-drop 1 c.lines.seconds.now)

pub lines-preserved : goal.lines-preserved
lines-preserved c =
    let some : 0 < length c.lines.seconds.now = some_second c.args.parts.now.rows c.lines.firsts.now c.lines.seconds.now c.lines.out.items c.lines.way c.begin-begin.result _
    c.lines.invariant c.begin-begin.ensures c.if-way-begin.false (omega arith) in
    left_second c.args.parts.now.rows c.lines.firsts.now c.lines.seconds.now c.lines.out.items _ c.lines.way c.begin-begin.result _
    c.lines.invariant c.begin-begin.ensures c.if-way-begin.false some c.in_ok-push-2.ensures.items
