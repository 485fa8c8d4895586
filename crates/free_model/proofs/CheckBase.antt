-- How the worked rows of the check are posed: settings, drivers and scripts, and changed traces.
use Rattle.std.proofs.Common.{ℕ, ◌+◌, ◌-◌, List, [], ◌∷◌, ◌++◌}
use Rattle.std.specs.Prelude.{take, drop}
use Rattle.pnp_labels.specs.Texts.{Text}
use Rattle.pnp_labels.specs.declared.event.Event.{Event}
use Rattle.pnp_labels.specs.declared.words.DriverKind.{DriverKind}
use Rattle.pnp_labels.specs.declared.words.DriverKind.TheVariants.{Scripted, Steady, Stubborn}
use Rattle.pnp_model.specs.Records.{Found}
use Rattle.pnp_model.proofs.RowBase.{Known, settings_of}
use Rattle.script_reader.specs.Script.{Trace, gives, ends, stops}
use Rattle.free_model.specs.Checks.{Verdict, beginning}
use Rattle.free_model.specs.Follows.{checked}

abbrev pub small_kinds : List DriverKind
small_kinds =
    Scripted ∷ Scripted ∷ Scripted ∷ Steady ∷ Steady ∷ Steady ∷ Steady ∷ Steady ∷ Steady ∷ Stubborn ∷ Stubborn ∷ []

-- a script of these events alone, an event a line
abbrev pub script_from : ℕ → Trace → List Event → Trace
script_from number last [] = last
script_from number last (event ∷ events) = gives number event (script_from (number + 1) last events)

abbrev pub script_of : List Event → Trace
script_of events = script_from 1 ends events

-- the same with a bad line after its events
abbrev pub spoilt : ℕ → List Event → Trace
spoilt number events = script_from 1 (stops number) events

-- what the check computes of these lines, for a script and the answers of its searches
abbrev pub verdict : List Known → List Found → Trace → List Text → Verdict
verdict known found script lines = checked (settings_of known) (beginning small_kinds script) found 1 lines

-- Lines with a change, by the number of the line: another line in its place, without it, and with it twice.

abbrev pub with_line : ℕ → Text → List Text → List Text
with_line number line lines = take (number - 1) lines ++ line ∷ drop number lines

abbrev pub without_line : ℕ → List Text → List Text
without_line number lines = take (number - 1) lines ++ drop number lines

abbrev pub twice_line : ℕ → List Text → List Text
twice_line number lines = take number lines ++ drop (number - 1) lines
