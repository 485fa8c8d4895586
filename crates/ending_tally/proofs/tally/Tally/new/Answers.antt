use Rattle.std.proofs.Common.{◌≡◌, [], sym, ap, subst, ◌∙◌, arith, length, replicate, refl, rules}
use Rattle.std.proofs.lemmas.List.{length-replicate}
use Rattle.ending_tally.specs.Tallies.{IsMark, IsEnded, mark_at, no_mark}
use Rattle.ending_tally.proofs.Marks.{no_marks, mark_of_none}
use Rattle.ending_tally.proofs.Maps.{no_endings}
use Rattle.ending_tally.proofs.tally.Tally.new.Goals as goal

pub returns-clause-tally : goal.returns-clause-tally
returns-clause-tally c =
    let marks = c.in_ok-vec.field-0.items in
    let few = c.args.few in
    let all : marks ≡ replicate few no_mark = search rules in
    record {
      scripts = omega arith;
      expectations = ap (λ l. length l) all ∙ length-replicate few no_mark;
      broken = λ place l. subst (IsMark []) (sym (ap (λ l. mark_at l place) all ∙ no_marks few place)) mark_of_none;
      endings = λ kind. subst (IsEnded []) (sym (no_endings c.new.result kind c.new.ensures.empty)) refl;
    }
