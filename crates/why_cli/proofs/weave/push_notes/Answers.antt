use Rattle.std.proofs.Common.{◌∙◌, ◌++◌, ap}
use Rattle.why_cli.specs.Woven.{note_lines}
use Rattle.why_cli.proofs.Weaving.{notes_more}
use Rattle.why_cli.proofs.weave.push_notes.Goals as goal

pub returns-clause-behind : goal.returns-clause-behind
returns-clause-behind c = c.in_ok-push_all.ensures ∙ ap (λ x. c.args.text.now.items ++ note_lines x) c.all.ensures

pub returns-clause-notes : goal.returns-clause-notes
returns-clause-notes c = λ lines has.
    notes_more lines c.args.text.now.items c.push_all.new.text.items c.args.notes.now.lines
    (c.in_ok-push_all.ensures ∙ ap (λ x. c.args.text.now.items ++ note_lines x) c.all.ensures) has
