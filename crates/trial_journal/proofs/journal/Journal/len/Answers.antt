use Rattle.std.proofs.Common.{arith}
use Rattle.trial_journal.proofs.journal.Journal.len.Goals as goal

pub overflow_cast-result : goal.overflow_cast-result
overflow_cast-result c = let within = c.self.invariant.1 in let few = c.self.invariant.2 in omega (arith, c.len.ensures)
