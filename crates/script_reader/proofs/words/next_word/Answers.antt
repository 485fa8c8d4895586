use Rattle.std.proofs.Common.{sym, ◌∙◌, ap, refl, length, take, drop, ◌-◌}
use Rattle.std.specs.Option.{unwrap_or}
use Rattle.script_reader.proofs.Wording.{end_inside, split_word}
use Rattle.script_reader.proofs.words.next_word.Goals as goal

pub split_at-requires : goal.split_at-requires
split_at-requires c =
    let text = take (length c.args.line.now - c.in_ok-start.start) (drop c.in_ok-start.start c.args.line.now) in
    end_inside text c.unwrap_or-end.result (c.unwrap_or-end.ensures ∙ ap (λ o. unwrap_or o (length text)) c.first_blank.ensures)

pub returns-clause-word : goal.returns-clause-word
returns-clause-word c =
    let text = take (length c.args.line.now - c.in_ok-start.start) (drop c.in_ok-start.start c.args.line.now) in
    (split_word c.args.line.now text c.split_at.result.0.now c.split_at.result.1.now c.in_ok-start.start c.unwrap_or-end.result
    (sym c.word_start.ensures ∙ c.in_ok-start.was) refl (c.unwrap_or-end.ensures ∙ ap (λ o. unwrap_or o (length text)) c.first_blank.ensures)
    c.split_at.ensures.front c.split_at.ensures.back).0
