-- What a run writes and answers, by the words and by the contents of the files as they are told.
use Rattle.std.specs.Prelude.{◌≡◌, ◌⊎◌, ℕ, Bool, true, false, List, [], ◌∷◌, ◌++◌, Option, Some, None, IfSome, Result, Ok, Err, map}
use Rattle.pnp_io.specs.Outside.{Appends, AppendsFront}
use Rattle.pnp_labels.specs.Texts.{Text}
use Rattle.pnp_labels.specs.declared.words.DriverKind.{DriverKind}
use Rattle.pnp_model.specs.Records as machines
use Rattle.pnp_model.specs.Records.{Driver}
use Rattle.pnp_model.specs.Runs.{opening}
use Rattle.notify_front.specs.Fronts.{Front, opening_front}
use Rattle.free_model.specs.Checks.{IsChecked, Verdict, beginning}
use Rattle.inf_reader.specs.declared.parts.Inf.{Inf}
use Rattle.inf_reader.specs.declared.parts.InfError.{InfError}
use Rattle.inf_reader.specs.Meaning.{inf}
use Rattle.pnp_cli.specs.Outputs.{Prints, Shows}
use Rattle.pnp_cli.specs.Generated.{gen_script, gen_inf}
use Rattle.pnp_cli.specs.Summaries.{summary}
use Rattle.pnp_cli.specs.Contents.{events_of, script_status}
use Rattle.pnp_cli.specs.Checks.{AnswersOutcome, IsOutcome, Outcome, ShowsOutcome}
use Rattle.start_sequence.specs.Begins as begins
use Rattle.pnp_cli.specs.Words.{settings_of}
use Rattle.pnp_cli.specs.Infs.{infs_in, refusal_line}
use Rattle.pnp_cli.specs.declared.infs.InfsError.{InfsError}
use Rattle.pnp_cli.specs.declared.infs.InfsError.TheVariants as faults
use Rattle.pnp_cli.specs.declared.parts.Settings.{Settings}
use Rattle.pnp_cli.specs.declared.status.Status.{Status}

-- the files of a run: the INFs in order, and then the script; none, where the script is generated
abbrev pub names_of : List Text → Option Text → List Text
names_of infs None = []
names_of infs (Some name) = infs ++ name ∷ []

-- the files that are read: where a trace is to be checked, it comes before the script
abbrev pub names_by : List Text → Option Text → Option Text → List Text
names_by infs None script = names_of infs script
names_by infs (Some trace) script = infs ++ names_of (trace ∷ []) script

abbrev pub named : Settings → List Text
named s = names_by s.infs s.check s.script

-- what the machine is told of INFs and of the budget
abbrev pub machine : List Inf → ℕ → machines.Settings
machine infs budget = begins.settings_of infs budget

-- what is written for a script from a front on: nothing, where it is not there
abbrev pub IsPrintedFor : machines.Settings → Front → Option (List ℕ) → Text → Type 0
IsPrintedFor told_machine f None text = text ≡ []
IsPrintedFor told_machine f (Some script) text = Prints told_machine f (events_of script) text

-- the same from the opening state on, in which no client is registered
abbrev pub IsScriptOutput : machines.Settings → List Driver → Option (List ℕ) → Text → Type 0
IsScriptOutput told_machine rack script text = IsPrintedFor told_machine (opening_front (opening rack)) script text

-- the same, by what the INFs come to: the line of the first one that is refused; nothing, where one is not there or too large
abbrev pub IsOutputBy : List Driver → ℕ → Result (List Inf) InfsError → Option (List ℕ) → Text → Type 0
IsOutputBy rack budget (Ok infs) script text = IsScriptOutput (machine infs budget) rack script text
IsOutputBy rack budget (Err (faults.Refused number error)) script text = text ≡ refusal_line number error
IsOutputBy rack budget (Err error) script text = text ≡ []

-- what is written for the generated script of so many devices: the summary of its run, by what the generated INF comes to
abbrev pub IsSummaryBy : List Driver → ℕ → ℕ → Result Inf InfError → Text → Type 0
IsSummaryBy rack budget n (Ok read) text = Shows (machine (read ∷ []) budget) (opening_front (opening rack)) (events_of (gen_script n)) (summary n) text
IsSummaryBy rack budget n (Err error) text = text ≡ []

abbrev pub IsSummary : List Driver → ℕ → ℕ → Text → Type 0
IsSummary rack budget n text = IsSummaryBy rack budget n (inf gen_inf) text

-- the output, by whether a script is named, or else how many devices are generated
abbrev pub IsOutputFor : List Driver → ℕ → (Text → Option (List ℕ)) → List Text → Option Text → Option ℕ → Text → Type 0
IsOutputFor rack budget told infs (Some name) made text = IsOutputBy rack budget (infs_in told infs) (told name) text
IsOutputFor rack budget told infs None (Some n) text = IsSummary rack budget n text
IsOutputFor rack budget told infs None None text = text ≡ []

-- the same for settings, where no trace is to be checked
abbrev pub IsRunOutput : List Driver → (Text → Option (List ℕ)) → Settings → Text → Type 0
IsRunOutput rack told s text = IsOutputFor rack s.budget told s.infs s.script s.made text

-- what the check of a trace comes to, over drivers of the rack's kinds, whatever they answer; without a script, which no words give, nothing
abbrev pub IsVerdict : List Driver → (Text → Option (List ℕ)) → Settings → Text → Option Text → Outcome → Type 0
IsVerdict rack told s trace None outcome = outcome ≡ Err faults.ReadFault
IsVerdict rack told s trace (Some script) outcome = IsOutcome (map (λ d. d.kind) rack) s.budget told s.infs trace script outcome

-- the output, by whether a trace is to be checked: then the line for its verdict
abbrev pub IsOutputWith : List Driver → (Text → Option (List ℕ)) → Settings → Option Text → Text → Type 0
IsOutputWith rack told s None text = IsRunOutput rack told s text
IsOutputWith rack told s (Some trace) text = ShowsOutcome (IsVerdict rack told s trace s.script) text

-- the output for settings, by the contents of the files and the kinds and books of a rack
abbrev pub IsOutput : List Driver → (Text → Option (List ℕ)) → Settings → Text → Type 0
IsOutput rack told s text = IsOutputWith rack told s s.check text

-- the same, by what the INFs come to; an INF that is not there gives none
abbrev pub status_by : Result (List Inf) InfsError → Option (List ℕ) → Option Status
status_by (Ok infs) script = script_status script
status_by (Err (faults.Refused number error)) script = Some Status.BadInf
status_by (Err faults.TooLarge) script = Some Status.TooLarge
status_by (Err error) script = None

-- the same, by whether a script is named; one that is generated is read to its end
abbrev pub status_for : (Text → Option (List ℕ)) → List Text → Option Text → Option Status
status_for told infs None = Some Status.Done
status_for told infs (Some name) = status_by (infs_in told infs) (told name)

-- the answer for settings that the contents of the files decide, where no trace is to be checked
abbrev pub status_of : (Text → Option (List ℕ)) → Settings → Option Status
status_of told s = status_for told s.infs s.script

-- the contents decide this answer, by whether a trace is to be checked: then Done for the verdict Yes and NotARun for No
abbrev pub DecidesWith : List Driver → (Text → Option (List ℕ)) → Settings → Option Text → Status → Type 0
DecidesWith rack told s None status = status_of told s ≡ Some status
DecidesWith rack told s (Some trace) status = AnswersOutcome (IsVerdict rack told s trace s.script) status

-- the contents of the files, and the kinds of the drivers, decide this answer; there is one at most
abbrev pub Decides : List Driver → (Text → Option (List ℕ)) → Settings → Status → Type 0
Decides rack told s status = DecidesWith rack told s s.check status

-- answers that come only where the contents decide them
abbrev pub is_decided : Status → Bool
is_decided Status.Done = true
is_decided Status.BadScript = true
is_decided Status.BadInf = true
is_decided Status.TooLarge = true
is_decided Status.NotARun = true
is_decided _ = false

-- answers after which the whole output was written
abbrev pub is_whole : Status → Bool
is_whole Status.Done = true
is_whole Status.BadScript = true
is_whole Status.BadInf = true
is_whole Status.NotARun = true
is_whole _ = false

-- what holds of the settings that words give and of what files tell, where they do
abbrev pub Given : List Text → Option (Text → Option (List ℕ)) → (Settings → (Text → Option (List ℕ)) → Type 0) → Type 0
Given words contents Says = IfSome (settings_of words) (λ s. IfSome contents (λ told. Says s told))

-- what files tell to a command: where it names no script, it reads no file, and nothing has to be told
abbrev pub told_to : Option Text → Option (Text → Option (List ℕ)) → Option (Text → Option (List ℕ))
told_to None contents = Some (λ name. None)
told_to (Some script) contents = contents

-- what holds of the settings that words give and of what their files tell, where they do, or where no file is named
abbrev pub Known : List Text → Option (Text → Option (List ℕ)) → (Settings → (Text → Option (List ℕ)) → Type 0) → Type 0
Known words contents Says = IfSome (settings_of words) (λ s. IfSome (told_to s.script contents) (λ told. Says s told))

-- some text of which this holds was written whole
abbrev pub Wrote : (Text → Type 0) → Option Text → Option Text → Type 0
Wrote output old new = (text : Text) × output text × Appends old new text

-- of each text of which this holds a front was written
abbrev pub WroteFront : (Text → Type 0) → Option Text → Option Text → Type 0
WroteFront output old new = (text : Text) → output text → AppendsFront old new text

-- it holds of this text, and of no other
abbrev pub IsOnly : (Text → Type 0) → Text → Type 0
IsOnly output text = output text × ((other : Text) → output other → other ≡ text)

-- it holds of one text and of no other, and a front of that was written
abbrev pub WroteOneFront : (Text → Type 0) → Option Text → Option Text → Type 0
WroteOneFront output old new = (text : Text) × IsOnly output text × AppendsFront old new text

-- whatever the settings and the kinds of drivers, each trace has one verdict for a script and no other
abbrev pub ExactlyOneVerdictLaw : Type 0
ExactlyOneVerdictLaw =
    (settings : machines.Settings) (kinds : List DriverKind) (script trace : List ℕ)
    → (v : Verdict) × IsChecked settings (beginning kinds (events_of script)) trace v
    × ((other : Verdict) → IsChecked settings (beginning kinds (events_of script)) trace other → other ≡ v)

-- whatever the settings and the rack, each script has one output and no other
abbrev pub ExactlyOneOutputLaw : Type 0
ExactlyOneOutputLaw = (settings : machines.Settings) (rack : List Driver) (script : List ℕ) → (text : Text) × IsOnly (Prints settings (opening_front (opening rack)) (events_of script)) text

-- where no count rose, the answer is one that is decided, or want of memory
abbrev pub Answers : (Status → Type 0) → Type 0 → Type 0 → Status → Type 0
Answers decides read_rose write_rose status = (read_rose → ⊥) → (write_rose → ⊥) → decides status ⊎ (status ≡ Status.WantOfMemory)

-- files and a sink are as before
pub record Untouched {F K : Type 0} (contents : F → Option (List ℕ → Option (List ℕ))) (read_faults : F → List ℕ → ℕ) (taken : K → Option (List ℕ)) (write_faults : K → ℕ)
    (files files' : F) (sink sink' : K) : Type 0 where
  pub same_contents : contents files' ≡ contents files
  pub no_read_fault : read_faults files' ≡ read_faults files
  pub nothing_taken : taken sink' ≡ taken sink
  pub no_write_fault : write_faults sink' ≡ write_faults sink
