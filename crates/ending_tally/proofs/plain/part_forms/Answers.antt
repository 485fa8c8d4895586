use Rattle.std.proofs.Common.{ap, cond, [], ◌∙◌}
use Rattle.ending_tally.specs.Plain.{in_order, tree_forms}
use Rattle.ending_tally.proofs.Lines.{bytes}
use Rattle.ending_tally.proofs.Texts.{sorted_texts}
use Rattle.ending_tally.proofs.plain.part_forms.Goals as goal

pub returns : goal.returns
returns c =
    sorted_texts _ _ c.in_ok-sort.ensures.sorted c.sort.ensures.stable
    ∙ ap in_order (c.in_ok-forms.ensures ∙ ap (λ l. cond c.args.is_tree (tree_forms [] l) l) (ap bytes c.deref.ensures.value ∙ c.in_ok-part.ensures))
