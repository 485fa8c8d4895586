use Rattle.explore_report.proofs.Looking.{Looked}
use Rattle.explore_report.proofs.expected.look.Given as goal

abbrev pub invariant-loop-at : goal.invariant-loop-at
invariant-loop-at l = Looked l.patterns l.line l.initial.fitted l.fitted l.at
