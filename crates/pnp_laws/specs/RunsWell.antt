-- Where each operation begins as `BeginsWell` says.
use Rattle.std.specs.Prelude.{◌≡◌, None}
use Rattle.pnp_model.specs.Records.{State}
use Rattle.pnp_laws.specs.Kept.{BeginsWell}

-- what an operation needs of the tree and of the tasks is there wherever one can begin, that is, where none runs
abbrev pub MayBegin : State → Type 0
MayBegin s = s.operation ≡ None → BeginsWell s.core s.tasks
