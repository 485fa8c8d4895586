use Rattle.std.proofs.Common.{ℕ, ◌≡◌, ◌+◌, ◌-◌, length, take, drop, sym, ap, ◌∙◌}
use Rattle.std.proofs.lemmas.List.{take_rest}
use Rattle.front_hint.proofs.Spotting.{no_first, is_first}
use Rattle.front_hint.proofs.spot.end_move.Goals as goal

pub returns-in_default : goal.returns-in_default
returns-in_default c =
    no_first (drop c.args.at c.args.due.items) (take (length c.deref.result.now - c.args.at) (drop c.args.at c.deref.result.now))
    (sym (take_rest c.deref.result.now c.args.at ∙ ap (drop c.args.at) c.deref.ensures.value)) c.in_default.ensures.exact

pub returns : goal.returns
returns c =
    let size : c.len.result ≡ length c.in_ok-line.line.items = c.len.ensures ∙ c.in_ok-line.line.ok.0 in
    is_first c.args.due c.args.at (take (length c.deref.result.now - c.args.at) (drop c.args.at c.deref.result.now)) c.in-Some.front.now c.in-Some.field-0-1.now c.in_ok-line.line
    (c.args.at + c.len.result) c.requires.within (sym (take_rest c.deref.result.now c.args.at ∙ ap (drop c.args.at) c.deref.ensures.value)) c.in-Some.ensures.exact c.in_ok-line.ensures
    (ap (λ (n : ℕ). c.args.at + n) size)
