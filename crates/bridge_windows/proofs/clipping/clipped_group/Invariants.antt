use Rattle.std.proofs.Common.{◌≡◌, ◌++◌, drop, map}
use Rattle.bridge_windows.specs.Clips.{want_in}
use Rattle.bridge_windows.proofs.clipping.clipped_group.Given as goal

abbrev pub invariant-loop-at : goal.invariant-loop-at
invariant-loop-at l = l.clipped ++ map (want_in l.rooms) (drop l.at l.group) ≡ map (want_in l.rooms) l.group
