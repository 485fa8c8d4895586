use Rattle.std.proofs.Common.{◌++◌, take}
use Rattle.std.specs.Prelude.{IsPermutation}
use Rattle.trial_journal.specs.ByKind.{all_pairs}
use Rattle.assign_search.specs.Fixed.{fixed_pairs}
use Rattle.assign_search.proofs.problem.copy_fixed.Given as goal

abbrev pub invariant-pairs : goal.invariant-pairs
invariant-pairs l = IsPermutation (all_pairs l.initial.board ++ fixed_pairs l.serials (take l.pair-index l.pairs)) (all_pairs l.board)
