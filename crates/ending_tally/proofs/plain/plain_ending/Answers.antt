use Rattle.std.proofs.Common.{◌+◌, ◌-◌, ◌∙◌, ap, take, drop, length, arith}
use Rattle.std.proofs.lemmas.List.{take_rest}
use Rattle.ending_tally.proofs.Lines.{parts_more}
use Rattle.ending_tally.proofs.plain.plain_ending.Goals as goal

pub loop-at-preserved : goal.loop-at-preserved
loop-at-preserved c =
    let kept = c.deref-in-loop-at.result.now in
    let next = c.loop-at.at + 1 in
    parts_more c.loop-at.out.items c.push_heading.new.out.items c.in_ok-lines.lines.items (take (length kept - next) (drop next kept)) c.loop-at.at c.index.result.now _ (omega (arith, c.len-at-end.ensures, c.loop-at-test.true)) c.index.ensures
    (take_rest kept next ∙ ap (drop next) c.deref-in-loop-at.ensures.value) c.in_ok-push_heading.ensures c.loop-at.invariant
