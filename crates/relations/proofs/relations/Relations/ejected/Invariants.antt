use Rattle.std.proofs.Common.{◌≡◌, ◌++◌, drop}
use Rattle.relations.specs.Relating.{ejected}
use Rattle.relations.proofs.relations.Relations.ejected.Given as goal

abbrev pub invariant-loop-relation : goal.invariant-loop-relation
invariant-loop-relation l = l.members ++ ejected (drop l.relation-index l.relation-items) l.owners ≡ ejected l.relation-items l.owners
