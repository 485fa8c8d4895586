use Rattle.std.proofs.Common.{◌≡◌, ◌++◌, drop, map}
use Rattle.std.specs.List.{filter}
use Rattle.live_model.specs.Trails as trails
use Rattle.live_model.specs.Trails.{is_at}
use Rattle.live_run.specs.Views.{attached_of}
use Rattle.live_run.proofs.trail.Trail.drivers_of.Given as goal

abbrev pub invariant-loop-one : goal.invariant-loop-one
invariant-loop-one l =
    map (λ d. d.now) l.drivers.items ++ map (λ (a : trails.Attached). a.driver) (filter (is_at l.path) (map attached_of (drop l.one-index l.one-items)))
    ≡ map (λ (a : trails.Attached). a.driver) (filter (is_at l.path) (map attached_of l.one-items))
