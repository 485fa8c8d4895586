-- One request on its way through a stack of n drivers.
use Rattle.std.specs.Prelude.{ℕ, ◌+◌, ◌-◌, Bool, true, false, ◌&&◌, ◌||◌, nat_le, if◌then◌else◌}
use Rattle.pnp_model.specs.Records.{Walk}
use Rattle.pnp_labels.specs.declared.words.Minor.{Minor}
use Rattle.pnp_labels.specs.declared.words.Answer.{Answer}
use Rattle.pnp_labels.specs.declared.label.Shown.{Shown}
use Rattle.pnp_labels.specs.declared.states.DevState.{DevState}
use Rattle.pnp_labels.specs.declared.words.Minor.TheVariants.{Start, QueryRemove, Remove, CancelRemove, Stop, QueryStop, CancelStop, SurpriseRemoval}
use Rattle.pnp_labels.specs.declared.words.Answer.TheVariants.{Ok, Fail, Pend}
use Rattle.pnp_labels.specs.declared.states.DevState.TheVariants.{NoStack, Started, StopPending, Stopped, RemovePending, SurpriseRemoved}

abbrev pub walk_of : Minor → Walk
walk_of minor = record { minor = minor; asked = 0; failed = false; waits = false }

abbrev pub may_fail : Minor → Bool
may_fail Start = true
may_fail QueryRemove = true
may_fail QueryStop = true
may_fail _ = false

abbrev pub is_from_bottom : Minor → Bool
is_from_bottom Start = true
is_from_bottom CancelRemove = true
is_from_bottom CancelStop = true
is_from_bottom _ = false

-- the place in the stack that is asked next
abbrev pub place_of : Minor → ℕ → ℕ → ℕ
place_of minor n asked = if is_from_bottom minor then asked else n - 1 - asked

abbrev pub is_bad : Walk → Bool
is_bad w = may_fail w.minor && w.failed

abbrev pub has_ended : Walk → ℕ → Bool
has_ended w n = is_bad w || nat_le n w.asked

-- the walk after an answer
abbrev pub after : Walk → Answer → Walk
after w Ok = record { minor = w.minor; asked = w.asked + 1; failed = false; waits = false }
after w Fail = record { minor = w.minor; asked = w.asked + 1; failed = true; waits = false }
after w Pend = record { minor = w.minor; asked = w.asked; failed = w.failed; waits = true }

abbrev pub shown_fail : Bool → Shown
shown_fail true = Shown.Fail
shown_fail false = Shown.Violation

abbrev pub shown_of : Minor → Answer → Shown
shown_of minor Ok = Shown.Ok
shown_of minor Fail = shown_fail (may_fail minor)
shown_of minor Pend = Shown.Pend

-- the state of a device after a walk: what the state diagram gives by request and verdict
abbrev pub state_after : Minor → Bool → DevState → DevState
state_after Start false state = Started
state_after Start true state = state
state_after QueryRemove false state = RemovePending
state_after QueryRemove true state = state
state_after Remove bad state = NoStack
state_after CancelRemove bad state = Started
state_after Stop bad state = Stopped
state_after QueryStop false state = StopPending
state_after QueryStop true state = state
state_after CancelStop bad state = Started
state_after SurpriseRemoval bad state = SurpriseRemoved
