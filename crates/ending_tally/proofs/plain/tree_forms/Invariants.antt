use Rattle.std.proofs.Common.{◌≡◌, ◌++◌, [], map, drop}
use Rattle.ending_tally.specs.Plain.{tree_forms}
use Rattle.ending_tally.specs.Nodes.{above_of}
use Rattle.ending_tally.proofs.plain.tree_forms.Given as goal

abbrev pub invariant-loop-line : goal.invariant-loop-line
invariant-loop-line l = map (λ form. form.items) l.forms.items ++ tree_forms (above_of l.above.items) (map (λ line. line.now) (drop l.line-index l.lines)) ≡ tree_forms [] (map (λ line. line.now) l.lines)
