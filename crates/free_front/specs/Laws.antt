-- What is proved of free steps of a front.
use Rattle.std.specs.Prelude.{◌≡◌}
use Rattle.pnp_model.specs.Records.{Settings}
use Rattle.notify_front.specs.Fronts.{Front, FrontEntry, FrontSteps, IsFrontQuiet}
use Rattle.free_front.specs.FreeFronts.{FreeFrontSteps, with_drivers}

-- each step of the front is one whatever its drivers answer, which leaves their books
abbrev pub EachFrontStepIsFreeLaw : Type 0
EachFrontStepIsFreeLaw =
    (settings : Settings) (f : Front) (entry : FrontEntry) (new : Front) → FrontSteps settings f entry new → FreeFrontSteps settings f entry (with_drivers f.state.core.rack new)

-- where no step is next none is free
abbrev pub QuietIsNotFreeLaw : Type 0
QuietIsNotFreeLaw = (settings : Settings) (f : Front) (entry : FrontEntry) (new : Front) → IsFrontQuiet settings f → FreeFrontSteps settings f entry new → ⊥
