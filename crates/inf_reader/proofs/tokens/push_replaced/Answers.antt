use Rattle.std.proofs.Common.{◌≡◌, ◌++◌, ◌∙◌, List, ℕ, Result, Ok, Err}
use Rattle.std.specs.Bool.{if◌then◌else◌}
use Rattle.std.specs.Result.{OnOk, is_ok}
use Rattle.inf_reader.specs.Found.{text_found}
use Rattle.inf_reader.specs.Tokens.{replaced}
use Rattle.inf_reader.proofs.TokenLemmas.{token_more, single_more, plain_more}
use Rattle.inf_reader.proofs.tokens.push_replaced.Goals as goal

-- what was appended at the end, if it was
ends : {A E : Type 0} (r : Result A E) (new more before all : List ℕ) → new ≡ (if is_ok r then more else before) → more ≡ all → OnOk r (new ≡ all)
ends (Ok x) new more before all is same = is ∙ same
ends (Err e) new more before all is same = tt

pub loop-plain-preserved : goal.loop-plain-preserved
loop-plain-preserved c =
    rw (c.in_ok-push_token.ensures, c.in_ok-extend_from_slice.ensures.items)
    (token_more (text_found c.args.strings.now) c.loop-plain.out.items c.loop-plain.rest.now c.in-Some.plain.now c.in-Some.name_on.now c.in-Some-split_once.name.now c.in-Some-split_once.after.now _
    c.loop-plain.invariant c.in-Some.ensures.cut.0 c.in-Some-split_once.ensures.cut.0)

pub returns-in_default-split_once : goal.returns-in_default-split_once
returns-in_default-split_once c =
    let all = c.args.out.now.items ++ replaced (text_found c.args.strings.now) c.args.text.now in
    let so_far : c.push.new.self.items ++ c.in-Some.name_on.now ≡ all =
    rw (c.in_ok-push.ensures.items, c.in_ok-extend_from_slice.ensures.items)
    (single_more (text_found c.args.strings.now) c.loop-plain.out.items c.loop-plain.rest.now c.in-Some.plain.now c.in-Some.name_on.now _
    c.loop-plain.invariant c.in-Some.ensures.cut.0 c.in_default-split_once.ensures.cut) in
    ends c.extend_from_slice-in_default-split_once.result c.extend_from_slice-in_default-split_once.new.self.items _ c.push.new.self.items all c.extend_from_slice-in_default-split_once.ensures.items so_far

pub returns : goal.returns
returns c =
    let so_far = plain_more (text_found c.args.strings.now) c.loop-plain.out.items c.loop-plain.rest.now _ c.loop-plain.invariant c.in_default.ensures.cut in
    ends c.extend_from_slice-2.result c.extend_from_slice-2.new.self.items _ c.loop-plain.out.items _ c.extend_from_slice-2.ensures.items so_far
