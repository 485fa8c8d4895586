use Rattle.std.proofs.Common.{arith, ◌<◌, ◌≤◌, length, refl, sym, ◌∙◌}
use Rattle.live_run.specs.Views.{trail_of}
use Rattle.live_run.proofs.Polling.{few_words, none_completes, other_word}
use Rattle.live_run.proofs.poll.take_words.Goals as goal

pub returns-then-more-gt0 : goal.returns-then-more-gt0
returns-then-more-gt0 c =
    let some : 0 < length c.args.more.now = omega arith in
    let few : length c.args.more.now < 3 = omega arith in
    (few_words (λ t. t.now) c.args.word.now c.args.more.now (trail_of c.args.trail.now) some few, refl)

pub returns-then-is_word : goal.returns-then-is_word
returns-then-is_word c =
    let none : length c.args.more.now ≤ 0 = omega arith in
    (none_completes (λ t. t.now) c.args.word.now c.args.more.now none (sym c.is_word.ensures ∙ c.if-is_word.true), refl)

pub returns-else-is_word : goal.returns-else-is_word
returns-else-is_word c =
    let none : length c.args.more.now ≤ 0 = omega arith in
    (other_word (λ t. t.now) c.args.word.now c.args.more.now (trail_of c.args.trail.now) none (sym c.is_word.ensures ∙ c.if-is_word.false), refl)
