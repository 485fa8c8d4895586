use Rattle.std.proofs.Common.{◌≡◌, ◌++◌, drop, map}
use Rattle.bridge_windows.specs.Clips.{group_in}
use Rattle.bridge_windows.proofs.clipping.clipped_list.Given as goal

abbrev pub invariant-loop-at : goal.invariant-loop-at
invariant-loop-at l = l.clipped ++ map (group_in l.rooms) (drop l.at l.list) ≡ map (group_in l.rooms) l.list
