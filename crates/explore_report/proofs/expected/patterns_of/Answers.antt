use Rattle.std.proofs.Common.{◌≡◌, ◌<◌, ◌++◌, ◌∷◌, [], ◌∙◌, length, sym, ap, arith, rules}
use Rattle.ending_tally.specs.Patterns.{words_of}
use Rattle.explore_report.proofs.Looking.{each_more}
use Rattle.explore_report.proofs.expected.patterns_of.Goals as goal

pub loop-at-preserved : goal.loop-at-preserved
loop-at-preserved c =
    let within : c.loop-at.at < length c.args.texts.now = omega (arith, c.len-at-end.ensures, c.loop-at-test.true) in
    let read : c.in-Some.pattern ≡ words_of c.bytes.result.now = search rules in
    each_more words_of c.args.texts.now c.loop-at.at c.bytes.result.now c.loop-at.patterns.items c.push.new.self.items within (c.get.ensures.item [] ∙ sym c.bytes.ensures)
    (c.in_ok-push-in-Some.ensures.items ∙ ap (λ p. c.loop-at.patterns.items ++ p ∷ []) read) c.loop-at.invariant
