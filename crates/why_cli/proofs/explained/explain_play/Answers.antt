use Rattle.std.proofs.Common.{◌∙◌, ◌++◌, ap}
use Rattle.why_cli.proofs.Explaining.{writing_none, explained_by}
use Rattle.why_cli.proofs.explained.explain_play.Goals as goal

pub returns : goal.returns
returns g c =
    explained_by c.args.play.now c.tell_all.new.play c.tell_all.new.text.items c.push_bad.new.text.items c.push_bad_note.new.text.items c.extend_from_slice.new.self.items
    c.bad_line-bad.result c.answer-status.result
    (c.in_ok-tell_all.ensures c.args.play.now (writing_none c.args.play.now c.new-text.result.items c.new-text.ensures.items c.requires))
    c.bad_line-bad.ensures
    c.in_ok-push_bad.ensures
    c.in_ok-push_bad_note.ensures
    (c.in_ok-extend_from_slice.ensures.items ∙ ap (λ x. c.push_bad_note.new.text.items ++ x) (c.deref.ensures.value ∙ c.in_ok-ending.ensures))
    c.answer-status.ensures
