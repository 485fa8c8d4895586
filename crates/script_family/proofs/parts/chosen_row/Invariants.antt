use Rattle.std.proofs.Common.{◌≡◌, ◌<◌, ◌+◌, ◌-◌, ◌^◌, ℕ, min, length, get_or}
use Rattle.script_family.specs.Parts.{row_at}
use Rattle.script_family.proofs.parts.chosen_row.Given as goal

abbrev pub invariant-loop-at : goal.invariant-loop-at
invariant-loop-at l = record {
  length_is : length l.row.items ≡ l.at;
  counts : (j : ℕ) → j < l.at
      → get_or l.row.items j 0 ≡ min (row_at l.first.least l.first.row.items (l.least + j) + row_at l.second.least l.second.row.items (l.least + j)) (2 ^ 64 - 1);
}
