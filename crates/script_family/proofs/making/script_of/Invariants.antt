use Rattle.std.proofs.Common.{reverse}
use Rattle.script_family.specs.Parts.{script_at}
use Rattle.script_family.specs.Steps.{shape}
use Rattle.script_family.specs.Tasks.{Leads, load}
use Rattle.script_family.proofs.making.script_of.Given as goal

abbrev pub invariant-tasks : goal.invariant-tasks
invariant-tasks l = Leads l.parts (reverse l.todo.items) l.out.items (script_at (shape l.parts l.part) l.lines l.number)

abbrev pub decreases-tasks : goal.decreases-tasks
decreases-tasks l = load l.parts (reverse l.todo.items)
