-- What is written and answered, by the words and by the contents of the files as they are told.
use Rattle.std.specs.Prelude.{◌≡◌, ◌⊎◌, ℕ, Bool, true, false, List, [], ◌∷◌, Option, Some, None, IfSome, Result, Ok, Err, codes, if◌then◌else◌}
use Rattle.std.specs.Str.{bytes_eq}
use Rattle.pnp_io.specs.Outside.{Appends, AppendsFront}
use Rattle.pnp_io.specs.declared.whole.ReadError.{ReadError}
use Rattle.pnp_io.specs.declared.whole.ReadError.TheVariants as reads
use Rattle.pnp_labels.specs.Texts.{Text}
use Rattle.pnp_model.specs.Records.{Driver}
use Rattle.inf_reader.specs.declared.parts.Inf.{Inf}
use Rattle.pnp_cli.specs.Checks.{file_in}
use Rattle.pnp_cli.specs.Infs.{infs_in}
use Rattle.pnp_cli.specs.Runs.{IsOutputBy, status_by}
use Rattle.pnp_cli.specs.declared.infs.InfsError.{InfsError}
use Rattle.pnp_cli.specs.declared.infs.InfsError.TheVariants.{TooLarge}
use Rattle.pnp_cli.specs.declared.parts.Settings.{Settings}
use Rattle.pnp_cli.specs.declared.status.Status.{Status}
use Rattle.why_cli.specs.Woven.{IsWoven}
use Rattle.why_cli.specs.declared.explained.Explained.{Explained}

-- the word of the option for lines
abbrev pub is_lines : Text → Bool
is_lines word = bytes_eq word (codes "--lines")

abbrev pub opens_with_lines : List Text → Bool
opens_with_lines [] = false
opens_with_lines (word ∷ words) = is_lines word

-- the option stands first behind the program's name
abbrev pub asks_for_lines : List Text → Bool
asks_for_lines [] = false
asks_for_lines (program ∷ words) = opens_with_lines words

-- The words as those of `run`: without the option for lines, which then takes the place of the program's name, as that means nothing.
abbrev pub plain_words : List Text → List Text
plain_words [] = []
plain_words (program ∷ words) = if opens_with_lines words then words else program ∷ words

-- the script that settings name, where no trace is to be checked
abbrev pub plain_script : Option Text → Option Text → Option Text
plain_script script None = script
plain_script script (Some trace) = None

abbrev pub script_named : Settings → Option Text
script_named s = plain_script s.script s.check

-- the script that the words name, where no trace is to be checked
abbrev pub script_of : Option Settings → Option Text
script_of None = None
script_of (Some s) = script_named s

-- the first of the INFs and the script that is not taken has more than 16,777,216 bytes
abbrev pub IsTooLarge : Result (List Inf) InfsError → Option (List ℕ) → Type 0
IsTooLarge (Ok infs) script = file_in script ≡ Err TooLarge
IsTooLarge (Err error) script = error ≡ TooLarge

abbrev pub IsTooLargeFor : (Text → Option (List ℕ)) → Settings → Type 0
IsTooLargeFor told s = IfSome s.script (λ name. IsTooLarge (infs_in told s.infs) (told name))

-- a text that is one of these outputs, with notes
pub record Explains (output : Text → Type 0) (text : Text) : Type 0 where
  pub plain : Text
  pub is : output plain
  pub woven : IsWoven plain text

-- answers after which the whole text was written, and which come only where the contents decide them
abbrev pub is_told : Status → Bool
is_told Status.Done = true
is_told Status.BadScript = true
is_told Status.BadInf = true
is_told _ = false

-- the output of `run`, with notes, and its answer, by what the INFs come to
pub record IsWhy (rack : List Driver) (budget : ℕ) (infs : Result (List Inf) InfsError) (script : Option (List ℕ)) (text : Text) (status : Status) : Type 0 where
  pub explains : Explains (IsOutputBy rack budget infs script) text
  pub answer : status_by infs script ≡ Some status

abbrev pub status_of_error : ReadError → Status
status_of_error reads.ReadFault = Status.ReadFault
status_of_error reads.TooLarge = Status.TooLarge
status_of_error reads.WantOfMemory = Status.WantOfMemory

-- a text was written whole, or a front of it, or none
abbrev pub WroteOut : Result Explained ReadError → Status → Option Text → Option Text → Type 0
WroteOut (Ok e) status old new = ((status ≡ e.status) × Appends old new e.text.items) ⊎ ((status ≡ Status.WriteFault) × AppendsFront old new e.text.items)
WroteOut (Err error) status old new = (status ≡ status_of_error error) × (new ≡ old)

-- nothing was written, or a front of such a text
abbrev pub WroteSome : (Text → Type 0) → Option Text → Option Text → Type 0
WroteSome output old new = (new ≡ old) ⊎ ((text : Text) × output text × AppendsFront old new text)
