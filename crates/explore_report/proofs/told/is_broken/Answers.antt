use Rattle.std.proofs.Common.{◌≡◌, ◌||◌, false, nat_lt, sym, ap, ◌∙◌, rules}
use borrow.Author.Tests.{tests}
use Rattle.std.specs.List.{list_any}
use Rattle.std.specs.FinMap.{len}
use Rattle.std.proofs.lemmas.Iterator.{YieldsList-from_slice}
use Rattle.std.proofs.lemmas.Iterator.Search.{any_from_yields_List}
use Rattle.ending_tally.specs.declared.tally.Mark.{Mark}
use Rattle.ending_tally.specs.Steps.{told}
use Rattle.explore_report.specs.Answers.{are_many}
use Rattle.explore_report.proofs.told.is_broken.Goals as goal

pub returns-else-are_many : goal.returns-else-are_many
returns-else-are_many c =
    let few : are_many c.args.most (len (told c.args.tally.now).endings) ≡ false = ap (are_many c.args.most) (sym c.len.ensures) ∙ sym c.are_many.ensures ∙ c.if-are_many.false in
    any_from_yields_List (λ (mark : Mark). nat_lt 0 mark.scripts) _ _ _ c.any.ensures.ran (YieldsList-from_slice _ c.iter.ensures.rest) (λ x b q k. search (rules, tests))
    ∙ ap (list_any (λ (mark : Mark). nat_lt 0 mark.scripts)) c.broken.ensures
    ∙ sym (ap (λ b. b || list_any (λ (mark : Mark). nat_lt 0 mark.scripts) (told c.args.tally.now).broken) few)
