use Rattle.std.proofs.Common.{◌∙◌, ◌++◌, ap}
use Rattle.why_cli.proofs.Weaving.{notes_label}
use Rattle.why_cli.proofs.weave.push_label.Goals as goal

pub returns-clause-behind : goal.returns-clause-behind
returns-clause-behind c = c.in_ok-extend_from_slice.ensures.items ∙ ap (λ x. c.args.text.now.items ++ x) (c.deref.ensures.value ∙ c.in_ok-line.ensures)

pub returns-clause-notes : goal.returns-clause-notes
returns-clause-notes c = λ labels has.
    notes_label labels c.args.text.now.items c.extend_from_slice.new.self.items c.args.label.now
    (c.in_ok-extend_from_slice.ensures.items ∙ ap (λ x. c.args.text.now.items ++ x) (c.deref.ensures.value ∙ c.in_ok-line.ensures)) has
