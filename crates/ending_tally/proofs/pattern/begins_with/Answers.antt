use Rattle.std.proofs.Common.{◌≡◌, ℕ, List, [], true, get_or, sym, ap, ◌∙◌, Bor}
use Rattle.ending_tally.specs.Patterns.{word_fits}
use Rattle.ending_tally.proofs.Lines.{begins_some, first_and_rest}
use Rattle.ending_tally.proofs.pattern.begins_with.Goals as goal

pub loop-word-preserved : goal.loop-word-preserved
loop-word-preserved c =
    let words = c.loop-word.rest.now in
    let none : Bor (List ℕ) = record { ref_ptr = (0, 0); now = [] } in
    let first = get_or words 0 none in
    let fit : word_fits c.word-item.result.items first.now ≡ true = ap (λ (w : List ℕ). word_fits w first.now) (sym c.deref.ensures.value) ∙ sym c.word_fits.ensures ∙ c.if-not-word_fits.false in
    sym (begins_some c.args.pattern.now c.loop-word.word-index c.word-item.result words _ first true c.loop-word-test.true c.word-item.is (first_and_rest words none c.in-len1-up.len_at_least) fit)
    ∙ c.loop-word.invariant
