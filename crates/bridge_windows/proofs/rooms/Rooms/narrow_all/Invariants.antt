use Rattle.std.proofs.Common.{◌≡◌, drop}
use Rattle.resource_reqs.specs.declared.kind.Kind.{Kind}
use Rattle.bridge_windows.specs.Rooms.{room_in, narrowed_by}
use Rattle.bridge_windows.proofs.rooms.Rooms.narrow_all.Given as goal

abbrev pub invariant-loop-res : goal.invariant-loop-res
invariant-loop-res l = (kind : Kind) → narrowed_by kind (drop l.res-index l.ranges) (room_in l.self kind) ≡ narrowed_by kind l.ranges (room_in l.fn.self kind)
