use Rattle.std.proofs.Common.{◌≡◌, ◌<◌, ◌+◌, ℕ, length, get_or}
use Rattle.script_family.specs.Counts.{sums, capped}
use Rattle.script_family.specs.Pairs.{term}
use Rattle.script_family.proofs.pairs.pair_row.Given as goal

abbrev pub invariant-loop-at : goal.invariant-loop-at
invariant-loop-at l = record {
  length_is : length l.row.items ≡ l.at;
  counts : (j : ℕ) → j < l.at → get_or l.row.items j 0 ≡ capped (sums (term l.pair (l.least + j)) (l.least + j + 1));
}
