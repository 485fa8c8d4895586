use Rattle.std.proofs.Common.{rules, arith, ap, length, ◌∙◌}
use Rattle.script_reader.specs.Wants.{id_in}
use Rattle.script_reader.proofs.Errors.{pass_gives}
use Rattle.script_reader.proofs.Gathering.{now_of, bad_part, next_part}
use Rattle.script_reader.proofs.wants.ids_of.Goals as goal

pub returns-in_err-id_in : goal.returns-in_err-id_in
returns-in_err-id_in c =
    pass_gives c.from_residual-in_err-id_in.result c.in_err-id_in.field-0.0 _ _ c.from_residual-in_err-id_in.ensures.1 c.in_err-id_in.ensures
    (λ f is. bad_part 64 _ (id_in c.args.text.now) c.deref-part-items.result.now _ c.loop-part.part-index c.loop-part.ids f
    (ap now_of c.deref-part-items.ensures.value ∙ c.in_ok-parts.ensures) (omega (arith, ap length c.deref-part-items.ensures.value)) c.loop-part-test.true is c.loop-part.invariant)

pub loop-part-preserved : goal.loop-part-preserved
loop-part-preserved c =
    next_part (id_in c.args.text.now) c.deref-part-items.result.now c.loop-part.part-index c.loop-part.ids _ c.in_ok-id_in.field-0 c.loop-part-test.true c.in_ok-id_in.ensures (search rules) c.loop-part.invariant
