use Rattle.std.proofs.Common.{◌≡◌, ◌++◌, ◌+◌, ◌≤◌, length, None}
use Rattle.inf_reader.specs.Items.{items_from, written_lines}
use Rattle.inf_reader.proofs.items.items_of.Given as goal

abbrev pub invariant-loop-rest : goal.invariant-loop-rest
invariant-loop-rest l = record {
  items : l.items.items ++ items_from l.begun l.number (written_lines l.rest) ≡ items_from None 1 (written_lines l.text);
  few : l.number + length l.rest ≤ length l.text + 1;
}

abbrev pub decreases-loop-rest : goal.decreases-loop-rest
decreases-loop-rest l = length l.rest
