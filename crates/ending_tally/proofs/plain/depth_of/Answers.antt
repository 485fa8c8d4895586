use Rattle.std.proofs.Common.{◌≡◌, ◌+◌, ◌==◌, true, false, cond, suc, drop, get_or, ap, ◌∙◌, arith}
use Rattle.std.proofs.lemmas.Bool.Decides.{nat_tests}
use Rattle.ending_tally.specs.Plain.{depth_of}
use Rattle.ending_tally.proofs.Lines.{depth_at}
use Rattle.ending_tally.proofs.plain.depth_of.Goals as goal

pub returns-then-line-at-ne32 : goal.returns-then-line-at-ne32
returns-then-line-at-ne32 c =
    let line = c.args.line.now in
    let at = c.loop-at.at in
    let test : (get_or line at 0 == 0x20) ≡ false = grind (arith, nat_tests, c.if-line-at-ne32.true) in
    let here : depth_of (drop at line) ≡ 0 = depth_at line at 0 c.loop-at-test.true ∙ ap (λ b. cond b (suc (depth_of (drop (at + 1) line))) 0) test in
    omega (arith, here, c.loop-at.invariant)

pub loop-at-preserved : goal.loop-at-preserved
loop-at-preserved c =
    let line = c.args.line.now in
    let at = c.loop-at.at in
    let test : (get_or line at 0 == 0x20) ≡ true = grind (arith, nat_tests, c.if-line-at-ne32.false) in
    let here : depth_of (drop at line) ≡ suc (depth_of (drop (at + 1) line)) = depth_at line at 0 c.loop-at-test.true ∙ ap (λ b. cond b (suc (depth_of (drop (at + 1) line))) 0) test in
    omega (arith, here, c.loop-at.invariant)
