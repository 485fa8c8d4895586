use Rattle.std.proofs.Common.{◌≡◌, ◌≤◌, ◌+◌, List, ◌++◌, take, drop}
use Rattle.resource_reqs.specs.declared.kind.Kind.{Kind}
use Rattle.range_arbiter.specs.Pairs.{Pair}
use Rattle.trial_journal.specs.ByKind.{of_kind, lists_of}
use Rattle.device_holdings.specs.Mirrors.{pairs_of, lists_with, count_of}
use Rattle.device_holdings.proofs.pairs.put_all.Given as goal

abbrev pub invariant-held : goal.invariant-held
invariant-held l = record {
  put : (rest : List Pair) → lists_of l.initial.arbiters ≡ lists_with rest → lists_of l.arbiters ≡ lists_with (pairs_of l.owner (take l.at l.held) ++ rest);
  spare : (kind : Kind) → (of_kind l.initial.arbiters kind).spare + count_of kind (drop l.at l.held) ≤ (of_kind l.arbiters kind).spare + count_of kind l.held;
}
