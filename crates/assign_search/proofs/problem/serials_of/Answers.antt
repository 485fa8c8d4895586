use Rattle.std.proofs.Common.{subst}
use Rattle.std.specs.Prelude.{IsPermutation}
use Rattle.std.proofs.lemmas.List.Sorted.{IsNonDecreasingBy-from_sort}
use Rattle.assign_search.proofs.problem.serials_of.Goals as goal

pub returns-clause-ascending : goal.returns-clause-ascending
returns-clause-ascending c = IsNonDecreasingBy-from_sort (λ x. x) c.sort_unstable.new.self.items c.sort_unstable.ensures.sorted

pub returns-clause-same : goal.returns-clause-same
returns-clause-same c = subst (λ l. IsPermutation l c.sort_unstable.new.self.items) c.in_ok-serials.ensures c.sort_unstable.ensures.permutation
