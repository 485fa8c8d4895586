use Rattle.std.proofs.Common.{◌≤◌, length}
use Rattle.view_states.proofs.edits.place_of.Given as goal

abbrev pub invariant-loop : goal.invariant-loop
invariant-loop l = l.at ≤ length l.text
