use Rattle.std.proofs.Common.{◌≡◌, ℕ, ◌-◌, Bool, true}
use Rattle.pnp_model.specs.States.{is_in_world}
use Rattle.script_bus.specs.Worlds.{PassesDown}
use Rattle.script_bus.proofs.world.World.last_below.Given as goal

abbrev pub invariant-loop-child : goal.invariant-loop-child
invariant-loop-child l = record {
  there : is_in_world l.self.devices l.at ≡ true;
  passes : (p : ℕ → Bool) → PassesDown l.self.devices p → p l.born ≡ true → p l.at ≡ true;
}

abbrev pub decreases-loop-child : goal.decreases-loop-child
decreases-loop-child l = l.self.next - l.at
