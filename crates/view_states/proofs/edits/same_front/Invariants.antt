use Rattle.std.proofs.Common.{◌≡◌, ◌≤◌, ◌-◌, length, take}
use Rattle.view_states.proofs.edits.same_front.Given as goal

abbrev pub invariant-loop-at : goal.invariant-loop-at
invariant-loop-at l = record {
  old : l.at ≤ length l.old;
  new : l.at ≤ length l.new;
  whole : l.whole ≤ l.at;
  same : take l.at l.old ≡ take l.at l.new;
  front : take l.whole l.old ≡ take l.whole l.new;
}

abbrev pub decreases-loop-at : goal.decreases-loop-at
decreases-loop-at l = length l.old - l.at
