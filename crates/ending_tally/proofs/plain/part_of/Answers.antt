use Rattle.std.proofs.Common.{sym, ◌∙◌}
use Rattle.std.proofs.lemmas.List.{get_or_default}
use Rattle.ending_tally.proofs.Lines.{part_stops, part_more}
use Rattle.ending_tally.proofs.plain.part_of.Goals as goal

pub returns-then-begins_part : goal.returns-then-begins_part
returns-then-begins_part c =
    part_stops c.loop-line.part.items c.args.lines.now c.loop-line.line-index _ _ c.loop-line-test.true
    (get_or_default c.args.lines.now c.loop-line.line-index _ _ c.loop-line-test.true) (sym c.begins_part.ensures ∙ c.if-begins_part.true) c.loop-line.invariant

pub loop-line-preserved : goal.loop-line-preserved
loop-line-preserved c =
    part_more c.loop-line.part.items c.take_line.new.part.items c.args.lines.now c.loop-line.line-index _ _ c.loop-line-test.true
    (get_or_default c.args.lines.now c.loop-line.line-index _ _ c.loop-line-test.true) (sym c.begins_part.ensures ∙ c.if-begins_part.false) c.in_ok-take_line.ensures c.loop-line.invariant
