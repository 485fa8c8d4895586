use Rattle.std.proofs.Common.{List, ℕ, ◌∙◌, subst, sym}
use Rattle.view_states.specs.States.{IsEdited, Telling, Tells}
use Rattle.view_states.proofs.Editing.{told_more}
use Rattle.view_states.proofs.states.States.tell.Goals as goal

pub returns : goal.returns
returns c = λ rows h.
    told_more c.self.inside.written.items c.push_edits.new.out.items c.push.new.self.items c.self.inside.last.items c.args.text.items rows
    (subst (λ (s : Telling). Tells s.written rows s.last) (sym (c.self.view_is ∙ c.spend.ensures)) h)
    (subst (λ (t : List ℕ). IsEdited c.self.inside.written.items c.push_edits.new.out.items c.self.inside.last.items t) c.deref-2.ensures.value
    (subst (λ (t : List ℕ). IsEdited c.self.inside.written.items c.push_edits.new.out.items t c.deref-2.result.now) c.deref.ensures.value c.in_ok-push_edits.ensures))
    c.in_ok-push.ensures.items
