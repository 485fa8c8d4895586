-- The device of what is due is there, and when a change begins.
use Rattle.std.proofs.Common.{◌≡◌, ℕ, ◌==◌, Option, Some, None, IsSome, true, refl, ◌∙◌, is_some, ◌&&◌}
use Rattle.pnp_labels.specs.declared.label.OpKind.{OpKind}
use Rattle.pnp_labels.specs.declared.states.DevState.{DevState}
use Rattle.pnp_labels.specs.declared.states.DevState.TheVariants.{NoStack, NotStarted, Started, StopPending, Stopped, RemovePending, SurpriseRemoved}
use Rattle.pnp_model.specs.Cores.{node_at}
use Rattle.pnp_model.specs.Machine.{due, is_begin}
use Rattle.pnp_model.specs.Records.{Beginning, Device, Node, State}
use Rattle.pnp_model.specs.States.{device_born, is_in_world}
use Rattle.pnp_model.specs.Tasks.{begin_step, change_born, change_task}
use Rattle.pnp_model.specs.Tests.{is_started}
use Rattle.pnp_model.proofs.Due.{due_is_first}
use Rattle.script_bus.proofs.Places.{found_any}
use Rattle.pnp_machine.specs.Machines.{can_change}

pub due_there : (s : State) (first : Beginning) → due s ≡ Some first → IsSome (node_at first.serial s.core.nodes)
due_there s first h = by_node (node_at first.serial s.core.nodes) (due_is_first s first h).begins
  where
    by_node : (o : Option Node) → is_begin (begin_step s first.kind first.serial o).label ≡ true → IsSome o
    by_node None e = absurd (cc)
    by_node (Some n) e = refl

-- a change begins for a device that is Started and in the world
pub change_begins : (s : State) (k : ℕ) (o : Option Node) → is_begin (begin_step s OpKind.Change k o).label ≡ can_change s.world o
change_begins s k None = refl
change_begins s k (Some n) = by_state n.state
  where
    by_device : (o : Option Device) → is_begin (change_born s n o).label ≡ is_some o
    by_device None = refl
    by_device (Some d) = refl

    by_state : (state : DevState) → is_begin (change_task s n state).label ≡ (is_started state && is_in_world s.world n.born)
    by_state NoStack = refl
    by_state NotStarted = refl
    by_state Started = by_device (device_born n.born s.world) ∙ found_any (λ (d : Device). d.born == n.born) s.world
    by_state StopPending = refl
    by_state Stopped = refl
    by_state RemovePending = refl
    by_state SurpriseRemoved = refl
