use Rattle.std.proofs.Common.{◌≡◌, ◌++◌, drop, map}
use Rattle.why_cli.specs.Woven.{note_lines}
use Rattle.why_cli.proofs.weave.push_all.Given as goal

abbrev pub invariant-loop-note : goal.invariant-loop-note
invariant-loop-note l = l.text.items ++ note_lines (map (λ note. note.items) (drop l.note-index l.notes)) ≡ l.initial.text.items ++ note_lines (map (λ note. note.items) l.notes)
