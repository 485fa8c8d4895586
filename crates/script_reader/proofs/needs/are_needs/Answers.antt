use Rattle.std.proofs.Common.{rules, ◌≡◌, true, false, sym, ◌∙◌, ap, Err}
use borrow.Author.Tests.{tests}
use Rattle.script_reader.specs.Lines.{is_need}
use Rattle.script_reader.specs.declared.cause.Cause.{Cause}
use Rattle.script_reader.proofs.Sifting.{passes_next, passes_fail}
use Rattle.script_reader.proofs.needs.are_needs.Goals as goal

pub returns-then-not-is_need : goal.returns-then-not-is_need
returns-then-not-is_need c =
    let off : c.is_need.result ≡ false = search (rules, tests) in
    passes_fail is_need Cause.NotNeed c.args.words.now c.loop-word.word-index c.loop-word-test.true (sym c.is_need.ensures ∙ off) c.loop-word.invariant
    ∙ ap (λ f. Err f) (sym c.fault.ensures)

pub loop-word-preserved : goal.loop-word-preserved
loop-word-preserved c =
    let on : c.is_need.result ≡ true = search (rules, tests) in
    passes_next is_need Cause.NotNeed c.args.words.now c.loop-word.word-index c.loop-word-test.true (sym c.is_need.ensures ∙ on) c.loop-word.invariant
