use Rattle.std.proofs.Common.{◌++◌, ◌∷◌, [], ◌∙◌, ap, map, drop, ◌+◌}
use Rattle.ending_tally.specs.Plain.{joined}
use Rattle.ending_tally.proofs.Lines.{form_more}
use Rattle.ending_tally.proofs.plain.push_part.Goals as goal

pub loop-form-preserved : goal.loop-form-preserved
loop-form-preserved c =
    let forms = c.deref-form-items.result.now in
    ap (λ l. l ++ joined (map (λ form. form.items) (drop (c.loop-form.form-index + 1) forms)))
    (c.in_ok-push.ensures.items ∙ ap (λ l. l ++ 0x0A ∷ []) (c.in_ok-extend_from_slice.ensures.items ∙ ap (λ l. c.loop-form.out.items ++ l) c.deref.ensures.value))
    ∙ form_more c.loop-form.out.items forms c.loop-form.form-index c.form-item.result _ c.loop-form-test.true c.form-item.is c.loop-form.invariant
