-- What the bytes of a script decide, of which no more are read than a file may have.
use Rattle.std.specs.Prelude.{ℕ, ◌≡◌, nat_le, true, List, length, take, Option, Some, None}
use Rattle.pnp_io.specs.Outside.{AppendsFront}
use Rattle.pnp_labels.specs.declared.label.Label.{Label}
use Rattle.pnp_model.specs.Records.{Settings}
use Rattle.notify_front.specs.Fronts.{Front}
use Rattle.script_reader.specs.Script.{Trace, gives, waits, ends, stops, trace}
use Rattle.pnp_cli.specs.Outputs.{Plays, text_of}
use Rattle.pnp_cli.specs.Infs.{limit}
use Rattle.pnp_cli.specs.declared.status.Status.{Status}

-- what the bytes of a script give
abbrev pub events_of : List ℕ → Trace
events_of script = trace true 0 script

-- what is decided within the first 16,777,216 bytes: where there are more, the last line is open
abbrev pub decided_of : List ℕ → Trace
decided_of script = trace (nat_le (length script) limit) 0 (take limit script)

-- the answer, by how this ends
abbrev pub answer_of : Trace → Status
answer_of (gives number event rest) = answer_of rest
answer_of ends = Status.Done
answer_of (stops number) = Status.BadScript
answer_of waits = Status.TooLarge

-- the answer for a script, or none where it is not there
abbrev pub script_status : Option (List ℕ) → Option Status
script_status None = None
script_status (Some script) = Some (answer_of (decided_of script))

-- of the lines of all labels of a script's run a front was written; nothing, where the script is not there
abbrev pub TookFront : Settings → Front → Option (List ℕ) → Option (List ℕ) → Option (List ℕ) → Type 0
TookFront settings f None old new = new ≡ old
TookFront settings f (Some script) old new =
    (labels : List Label) (last : Front) → Plays settings f (events_of script) labels last → AppendsFront old new (text_of labels)
