-- That what is written for a script is a trace to which the check answers `yes`.
use Rattle.std.specs.Prelude.{ℕ, ◌≡◌, ◌≤◌, List, Option, Some, None, Ok, length, map}
use Rattle.pnp_labels.specs.Texts.{Text}
use Rattle.pnp_labels.specs.declared.words.DriverKind.{DriverKind}
use Rattle.pnp_model.specs.Records as machines
use Rattle.pnp_model.specs.Records.{Driver}
use Rattle.pnp_model.specs.Runs.{opening}
use Rattle.inf_reader.specs.declared.parts.Inf.{Inf}
use Rattle.notify_front.specs.Fronts.{opening_front}
use Rattle.free_model.specs.Checks.{IsChecked, Yes, beginning}
use Rattle.free_model.specs.Shapes.{AreOf}
use Rattle.pnp_cli.specs.Contents.{events_of}
use Rattle.pnp_cli.specs.Checks.{verdict_line}
use Rattle.pnp_cli.specs.Infs.{infs_in, limit}
use Rattle.pnp_cli.specs.Lawful.{Said}
use Rattle.pnp_cli.specs.Outputs.{HasNoClients, Prints, written}
use Rattle.pnp_cli.specs.Runs.{IsOutput}
use Rattle.pnp_cli.specs.declared.parts.Settings.{Settings}

-- the drivers have no names, and those that can be taught were taught nothing
abbrev pub IsUntaught : List Driver → Type 0
IsUntaught rack = AreOf (map (λ d. d.kind) rack) rack

-- where the text is what is written of the whole run, no line of the script is one of a client and the drivers were taught nothing: the check
-- of the text, over drivers of these kinds, answers `yes`
abbrev pub ChecksYes : Said
ChecksYes settings rack t report text =
    report ≡ written t → HasNoClients t → IsUntaught rack → IsChecked settings (beginning (map (λ d. d.kind) rack) t) text Yes

-- it is so for every script
abbrev pub EachOutputIsATraceLaw : Type 0
EachOutputIsATraceLaw =
    (settings : machines.Settings) (rack : List Driver) (script : List ℕ) (text : Text) → HasNoClients (events_of script) → IsUntaught rack
    → Prints settings (opening_front (opening rack)) (events_of script) text → IsChecked settings (beginning (map (λ d. d.kind) rack) (events_of script)) text Yes

-- and where a line of the script is one of a client, no trace is a run of it: the check knows no clients
abbrev pub NoTraceHasClientsLaw : Type 0
NoTraceHasClientsLaw =
    (settings : machines.Settings) (kinds : List DriverKind) (script trace : List ℕ) → IsChecked settings (beginning kinds (events_of script)) trace Yes → HasNoClients (events_of script)

-- A command runs a script that is there, with INFs that are taken, and a later one checks this text as its trace: with the same INFs, budget
-- and script, over drivers of the same kinds. Script and text are not too large.
pub record ChecksOutput (rack : List Driver) (told : Text → Option (List ℕ)) (s : Settings) (other : List Driver) (later : Text → Option (List ℕ)) (t : Settings) (text : Text) : Type 0 where
  pub runs : s.check ≡ None
  pub infs : List Inf
  pub taken : infs_in told s.infs ≡ Ok infs
  pub name : Text
  pub named : s.script ≡ Some name
  pub script : List ℕ
  pub there : told name ≡ Some script
  pub small : length script ≤ limit
  pub trace : Text
  pub checks : t.check ≡ Some trace
  pub bytes : later trace ≡ Some text
  pub fits : length text ≤ limit
  pub again : Text
  pub named_again : t.script ≡ Some again
  pub same_script : later again ≡ Some script
  pub same_infs : infs_in later t.infs ≡ Ok infs
  pub same_budget : t.budget ≡ s.budget
  pub same_kinds : map (λ d. d.kind) other ≡ map (λ d. d.kind) rack

-- then the output of the later one is the line `yes`, where no line of the script is one of a client and the drivers of the first were taught nothing
abbrev pub EachOutputIsCheckedLaw : Type 0
EachOutputIsCheckedLaw =
    (rack : List Driver) (told : Text → Option (List ℕ)) (s : Settings) (other : List Driver) (later : Text → Option (List ℕ)) (t : Settings) (text : Text)
    → (command : ChecksOutput rack told s other later t text) → HasNoClients (events_of command.script) → IsUntaught rack
    → IsOutput rack told s text → IsOutput other later t (verdict_line Yes)
