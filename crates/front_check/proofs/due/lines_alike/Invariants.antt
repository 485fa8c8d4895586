use Rattle.std.proofs.Common.{◌≡◌, ◌+◌, ◌-◌, ◌≤◌, drop, length}
use Rattle.trace_check.specs.Letters.{lines_alike}
use Rattle.front_check.proofs.due.lines_alike.Given as goal

abbrev pub invariant-loop-at : goal.invariant-loop-at
invariant-loop-at l = record {
  due : l.at ≤ length l.due;
  rest : l.at ≤ length l.rest;
  few : l.lines ≤ l.at;
  same : lines_alike l.due l.rest ≡ l.lines + lines_alike (drop l.at l.due) (drop l.at l.rest);
}

abbrev pub decreases-loop-at : goal.decreases-loop-at
decreases-loop-at l = length l.due - l.at
