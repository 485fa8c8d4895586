use Rattle.std.proofs.Common.{◌+◌, ◌++◌, [], get_or, length}
use Rattle.script_family.specs.Families.{patterns, woven}
use Rattle.script_family.proofs.Interleaving.{Weaving}
use Rattle.script_family.proofs.weaving.weave_both.Given as goal

abbrev pub invariant-lines : goal.invariant-lines
invariant-lines l =
    Weaving l.parts.rows l.firsts l.seconds l.out.items l.way
    (l.fn.out.items ++ woven (get_or (patterns (length l.first + length l.second) (length l.first)) l.fn.way []) l.first l.second)

abbrev pub decreases-lines : goal.decreases-lines
decreases-lines l = length l.firsts + length l.seconds
