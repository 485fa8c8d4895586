use Rattle.view_states.proofs.Editing.{Editing}
use Rattle.view_states.proofs.edits.push_edits.Given as goal

abbrev pub invariant-loop : goal.invariant-loop
invariant-loop l = Editing l.initial.out.items l.out.items l.fn.old l.fn.new l.rest.old.now l.rest.new.now
