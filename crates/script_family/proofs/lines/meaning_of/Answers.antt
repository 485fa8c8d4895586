use Rattle.std.proofs.Common.{◌∙◌, ap}
use Rattle.script_family.specs.Lines.{tells}
use Rattle.script_family.proofs.Sorting.{sort_told}
use Rattle.script_family.proofs.lines.meaning_of.Goals as goal

pub returns : goal.returns
returns c = λ line cut.
    c.sort_told.ensures ∙ ap (λ lines. tells lines c.in_ok-script.script.ends) c.deref.ensures.value
    ∙ sort_told c.args.fed.now line c.in_ok-script.script.lines.items c.in_ok-script.script.ends c.in_ok-script.ensures cut
