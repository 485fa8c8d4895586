use Rattle.std.proofs.Common.{◌≡◌, ◌++◌, drop}
use Rattle.inf_reader.proofs.models.push_copies.Given as goal

abbrev pub invariant-loop-at : goal.invariant-loop-at
invariant-loop-at l = l.filters ++ drop l.at l.from ≡ l.initial.filters ++ l.from
