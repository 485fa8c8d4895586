-- What `--check` tells: the verdict of a trace, by the contents of the files, each read whole.
use Rattle.std.specs.Prelude.{ℕ, ◌≡◌, nat_le, length, if◌then◌else◌, List, [], ◌∷◌, ◌++◌, Option, Some, None, Result, Ok, Err, codes, Vec}
use Rattle.std.specs.Fmt.{decimal}
use Rattle.std.specs.Global.{Global}
use Rattle.pnp_labels.specs.Texts.{Text}
use Rattle.pnp_labels.specs.declared.words.DriverKind.{DriverKind}
use Rattle.inf_reader.specs.declared.parts.Inf.{Inf}
use Rattle.start_sequence.specs.Begins.{settings_of}
use Rattle.free_model.specs.Checks.{IsChecked, Verdict, Yes, No, beginning}
use Rattle.trace_check.specs.Verdicts.{verdict}
use Rattle.trace_check.specs.declared.check.Checked.{Checked}
use Rattle.pnp_cli.specs.Contents.{events_of}
use Rattle.pnp_cli.specs.Infs.{infs_in, limit, refusal_line}
use Rattle.pnp_cli.specs.declared.infs.InfsError.{InfsError}
use Rattle.pnp_cli.specs.declared.infs.InfsError.TheVariants.{ReadFault, TooLarge, Refused, WantOfMemory}
use Rattle.pnp_cli.specs.declared.status.Status.{Status}

-- what a check comes to: a verdict, or why a file was not taken
abbrev pub Outcome : Type 0
Outcome = Result Verdict InfsError

-- a whole file: it is not there, it has more than 16,777,216 bytes, or it has these
abbrev pub file_in : Option (List ℕ) → Result Text InfsError
file_in None = Err ReadFault
file_in (Some bytes) = if nat_le (length bytes) limit then Ok bytes else Err TooLarge

-- the verdict of the trace for the script, with INFs and a budget, over drivers of these kinds, whatever they answer; or what came
-- first of the INFs, the trace and the script: a name that is not there, a file that is too large, or an INF that is refused
abbrev pub ComesTo : List DriverKind → ℕ → Result (List Inf) InfsError → Result Text InfsError → Result Text InfsError → Outcome → Type 0
ComesTo kinds budget (Err error) trace script outcome = outcome ≡ Err error
ComesTo kinds budget (Ok infs) (Err error) script outcome = outcome ≡ Err error
ComesTo kinds budget (Ok infs) (Ok trace) (Err error) outcome = outcome ≡ Err error
ComesTo kinds budget (Ok infs) (Ok trace) (Ok script) outcome =
    (v : Verdict) × IsChecked (settings_of infs budget) (beginning kinds (events_of script)) trace v × (outcome ≡ Ok v)

-- the same by the names of the files
abbrev pub IsOutcome : List DriverKind → ℕ → (Text → Option (List ℕ)) → List Text → Text → Text → Outcome → Type 0
IsOutcome kinds budget told infs trace script outcome = ComesTo kinds budget (infs_in told infs) (file_in (told trace)) (file_in (told script)) outcome

-- the line `yes`, or `no line N`
abbrev pub verdict_line : Verdict → Text
verdict_line Yes = codes "yes" ++ 10 ∷ []
verdict_line (No line) = codes "no line " ++ decimal line ++ 10 ∷ []

abbrev pub verdict_status : Verdict → Status
verdict_status Yes = Status.Done
verdict_status (No line) = Status.NotARun

-- what is written for it: nothing, where a file is not there or too large
abbrev pub outcome_text : Outcome → Text
outcome_text (Ok v) = verdict_line v
outcome_text (Err (Refused number error)) = refusal_line number error
outcome_text (Err error) = []

-- the answer; a file that is not there gives none
abbrev pub outcome_status : Outcome → Option Status
outcome_status (Ok v) = Some (verdict_status v)
outcome_status (Err (Refused number error)) = Some Status.BadInf
outcome_status (Err TooLarge) = Some Status.TooLarge
outcome_status (Err error) = None

-- this is written for what a check comes to
abbrev pub ShowsOutcome : (Outcome → Type 0) → Text → Type 0
ShowsOutcome is text = (outcome : Outcome) × is outcome × (text ≡ outcome_text outcome)

-- and this is the answer
abbrev pub AnswersOutcome : (Outcome → Type 0) → Status → Type 0
AnswersOutcome is status = (outcome : Outcome) × is outcome × (outcome_status outcome ≡ Some status)

-- the file was read, unless a read failed or memory ran out
abbrev pub GivesFile : Result (Vec ℕ Global) InfsError → Result Text InfsError → Type 0
GivesFile (Ok read) meaning = meaning ≡ Ok read.items
GivesFile (Err ReadFault) meaning = Unit {0}
GivesFile (Err WantOfMemory) meaning = Unit {0}
GivesFile (Err error) meaning = meaning ≡ Err error

-- this is what it comes to, unless a read failed or memory ran out
abbrev pub GivesOutcome : Result Checked InfsError → (Outcome → Type 0) → Type 0
GivesOutcome (Ok checked) is = is (Ok (verdict checked))
GivesOutcome (Err ReadFault) is = Unit {0}
GivesOutcome (Err WantOfMemory) is = Unit {0}
GivesOutcome (Err error) is = is (Err error)
