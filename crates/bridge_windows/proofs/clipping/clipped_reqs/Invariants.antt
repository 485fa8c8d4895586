use Rattle.std.proofs.Common.{◌≡◌, ◌++◌, drop, map}
use Rattle.bridge_windows.specs.Clips.{list_in}
use Rattle.bridge_windows.proofs.clipping.clipped_reqs.Given as goal

abbrev pub invariant-loop-at : goal.invariant-loop-at
invariant-loop-at l = l.clipped ++ map (list_in l.rooms) (drop l.at l.reqs) ≡ map (list_in l.rooms) l.reqs
