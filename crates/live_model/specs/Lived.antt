-- The states that a live run can come to.
use Rattle.std.specs.Prelude.{◌≡◌, List}
use Rattle.pnp_labels.specs.declared.words.DriverKind.{DriverKind}
use Rattle.pnp_model.specs.Records.{Driver, Settings, State}
use Rattle.pnp_model.specs.Runs.{Entry}
use Rattle.free_model.specs.Frees.{free_opening, with_rack}
use Rattle.free_model.specs.Runs.{FreeRun}
use Rattle.free_model.specs.Shapes.{shapes}

-- but for books, a state of the machine whatever its drivers answer
pub record IsLived (settings : Settings) (s : State) : Type 0 where
  pub kinds : List DriverKind
  pub entries : List Entry
  pub free : State
  pub run : FreeRun settings (free_opening kinds) entries free
  pub rack : List Driver
  pub is : free ≡ with_rack rack s
  pub shape : shapes rack ≡ shapes s.core.rack
