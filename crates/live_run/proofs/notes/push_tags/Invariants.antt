use Rattle.std.proofs.Common.{◌≡◌, ◌++◌, drop, map}
use Rattle.live_model.specs.Notes.{broke_lines}
use Rattle.live_run.proofs.notes.push_tags.Given as goal

abbrev pub invariant-loop-tag : goal.invariant-loop-tag
invariant-loop-tag l = l.out.items ++ broke_lines l.ask l.driver (map (λ t. t.now) (drop l.tag-index l.tags)) ≡ l.initial.out.items ++ broke_lines l.ask l.driver (map (λ t. t.now) l.tags)
