use Rattle.std.proofs.Common.{◌≡◌, ◌≤◌, false, sym, ◌∙◌, arith}
use Rattle.std.specs.Prelude.{nat_lt}
use Rattle.std.proofs.lemmas.Bool.{ltb-true}
use Rattle.std.proofs.lemmas.Bool.Decides.{nat_tests}
use Rattle.range_arbiter.proofs.Spanning.{covers_back, covers_front, covers_both}
use Rattle.range_arbiter.proofs.span.joined.Goals as goal

pub returns-then-is_nothing : goal.returns-then-is_nothing
returns-then-is_nothing c = λ shared xs ys front back.
    covers_back shared xs ys c.args.one c.args.other (ltb-true c.args.one.reach c.args.one.lo (sym c.is_nothing.ensures ∙ c.if-is_nothing.true)) front back

pub returns-then-is_nothing-2 : goal.returns-then-is_nothing-2
returns-then-is_nothing-2 c = λ shared xs ys front back.
    covers_front shared xs ys c.args.one c.args.other (ltb-true c.args.other.reach c.args.other.lo (sym c.is_nothing-2.ensures ∙ c.if-is_nothing-2.true)) front back

pub returns : goal.returns
returns c = λ shared xs ys front back.
    let one : nat_lt c.args.one.reach c.args.one.lo ≡ false = sym c.is_nothing.ensures ∙ c.if-is_nothing.false in
    let other : nat_lt c.args.other.reach c.args.other.lo ≡ false = sym c.is_nothing-2.ensures ∙ c.if-is_nothing-2.false in
    let some_one : c.args.one.lo ≤ c.args.one.reach = grind (arith, nat_tests) in
    let some_other : c.args.other.lo ≤ c.args.other.reach = grind (arith, nat_tests) in
    covers_both shared xs ys c.args.one c.args.other (record { lo = c.min.result; reach = c.max.result; gap = c.max-3.result }) c.between.result some_one some_other
    c.min.ensures c.max.ensures (omega (arith, c.max-2.ensures, c.max-3.ensures)) (omega (arith, c.max-2.ensures, c.max-3.ensures)) (omega (arith, c.max-3.ensures))
    c.between.ensures front back
