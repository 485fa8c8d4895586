use Rattle.std.proofs.Common.{◌+◌, ◌++◌, ◌∙◌, ap, map, drop}
use Rattle.std.proofs.lemmas.List.{get_or_default}
use Rattle.ending_tally.specs.Plain.{tree_forms}
use Rattle.ending_tally.specs.Nodes.{above_of}
use Rattle.ending_tally.proofs.Lines.{bytes, tree_more}
use Rattle.ending_tally.proofs.plain.tree_forms.Goals as goal

pub loop-line-preserved : goal.loop-line-preserved
loop-line-preserved c =
    let above = above_of c.line_form.new.above.items in
    ap (λ l. map (λ form. form.items) l ++ tree_forms above (bytes (drop (c.loop-line.line-index + 1) c.args.lines.now))) c.in_ok-push.ensures.items
    ∙ tree_more c.loop-line.forms.items c.in_ok-form.form (above_of c.loop-line.above.items) above c.args.lines.now c.loop-line.line-index _ _ c.loop-line-test.true
    (get_or_default c.args.lines.now c.loop-line.line-index _ _ c.loop-line-test.true) c.in_ok-form.ensures.form c.in_ok-form.ensures.above c.loop-line.invariant
