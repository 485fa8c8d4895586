-- The events of a script plug devices with at most 64 identifiers of each kind.
use Rattle.std.proofs.Common.{ℕ, ◌≡◌, Bool, List}
use Rattle.pnp_labels.specs.declared.event.Event.{Event}
use Rattle.pnp_labels.specs.declared.event.Event.TheVariants as events
use Rattle.script_reader.specs.Script.{Trace, gives, trace}
use Rattle.script_reader.proofs.FewIds as read
use Rattle.free_run.specs.FreeRuns.{HasFewIds}

few : (event : Event) → read.HasFewIds event → HasFewIds event
few (events.Plug parent path hw compat reqs) h = h
few _ h = tt

pub few_ids : (finished : Bool) (passed : ℕ) (bytes : List ℕ) (number : ℕ) (event : Event) (rest : Trace) → trace finished passed bytes ≡ gives number event rest → HasFewIds event
few_ids finished passed bytes number event rest is = few event (read.first_fine finished passed bytes number event rest is).0
