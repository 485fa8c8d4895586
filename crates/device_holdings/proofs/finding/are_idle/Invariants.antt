use Rattle.device_holdings.proofs.Idling.{IdleBelow}
use Rattle.device_holdings.proofs.finding.are_idle.Given as goal

abbrev pub invariant-serials : goal.invariant-serials
invariant-serials l = IdleBelow l.serials l.tree.nodes l.serial-index
