use Rattle.std.proofs.Common.{◌≡◌, [], ◌∷◌, length, true}
use Rattle.std.specs.List.{AllByRecursion}
use Rattle.pnp_model.specs.States.{is_in_world, without_those}
use Rattle.pnp_model.specs.Tests.{has}
use Rattle.script_bus.proofs.Unplugs.{final, Rules}
use Rattle.script_bus.proofs.world.World.unplug.Given as goal

abbrev pub invariant-loop-self : goal.invariant-loop-self
invariant-loop-self l = record {
  outcome : without_those (l.born ∷ []) l.self.devices ≡ without_those (l.born ∷ []) l.initial.self.devices;
  next : l.self.next ≡ l.initial.self.next;
  rules : AllByRecursion (Rules l.born (final (l.born ∷ []) l.initial.self.devices)) l.self.devices;
  there : is_in_world l.self.devices l.born ≡ true → is_in_world l.self.devices l.at ≡ true;
  goes : is_in_world l.self.devices l.born ≡ true → has (final (l.born ∷ []) l.initial.self.devices) l.at ≡ true;
}

abbrev pub decreases-loop-self : goal.decreases-loop-self
decreases-loop-self l = length l.self.devices
