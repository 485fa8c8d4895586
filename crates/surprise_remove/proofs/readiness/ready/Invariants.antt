use Rattle.std.proofs.Common.{◌≡◌, [], drop}
use Rattle.pnp_model.specs.Keyed.{those}
use Rattle.pnp_model.specs.Handles.{is_ready_device}
use Rattle.relations.specs.Leaving.{base}
use Rattle.surprise_remove.proofs.Readying.{IsAbove}
use Rattle.surprise_remove.proofs.readiness.ready.Given as goal

-- from this place on none is ready, and all before it are ahead of the walk
abbrev pub invariant-loop-at : goal.invariant-loop-at
invariant-loop-at l = record {
  none : those (is_ready_device (base l.tree.nodes l.relations) l.handles) (drop l.at l.tree.nodes) ≡ [];
  ahead : IsAbove l.tree.nodes l.handles l.walk l.at;
}
