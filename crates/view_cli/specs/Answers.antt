-- What is written and answered, by the words and by the contents of the files as they are told.
use Rattle.std.specs.Prelude.{◌≡◌, ◌⊎◌, ℕ, Bool, true, false, List, [], ◌∷◌, Option, Some, None, IfSome, Result, Ok, Err, codes, if◌then◌else◌}
use Rattle.std.specs.Str.{bytes_eq}
use Rattle.pnp_io.specs.Outside.{Appends, AppendsFront}
use Rattle.pnp_io.specs.declared.whole.ReadError.{ReadError}
use Rattle.pnp_io.specs.declared.whole.ReadError.TheVariants as reads
use Rattle.pnp_labels.specs.Texts.{Text}
use Rattle.pnp_model.specs.Records as machines
use Rattle.pnp_model.specs.Records.{Driver}
use Rattle.pnp_model.specs.Runs.{opening}
use Rattle.notify_front.specs.Fronts.{Front, opening_front}
use Rattle.view_page.specs.Pages.{IsPage}
use Rattle.view_page.specs.declared.words.Part.{Part}
use Rattle.view_page.specs.declared.words.Tag.{Tag}
use Rattle.inf_reader.specs.declared.parts.Inf.{Inf}
use Rattle.pnp_cli.specs.Checks.{file_in}
use Rattle.pnp_cli.specs.Infs.{infs_in, refusal_line}
use Rattle.pnp_cli.specs.Contents.{events_of}
use Rattle.pnp_cli.specs.Runs.{machine, status_by}
use Rattle.pnp_cli.specs.declared.infs.InfsError.{InfsError}
use Rattle.pnp_cli.specs.declared.infs.InfsError.TheVariants.{TooLarge, Refused}
use Rattle.pnp_cli.specs.declared.parts.Settings.{Settings}
use Rattle.pnp_cli.specs.declared.status.Status.{Status}
use Rattle.view_cli.specs.Viewed.{IsRunView}
use Rattle.view_cli.specs.declared.viewed.Viewed.{Viewed}

-- the word of the option for stepping
abbrev pub is_step : Text → Bool
is_step word = bytes_eq word (codes "--step")

abbrev pub opens_with_step : List Text → Bool
opens_with_step [] = false
opens_with_step (word ∷ words) = is_step word

-- the option stands first behind the program's name
abbrev pub asks_to_step : List Text → Bool
asks_to_step [] = false
asks_to_step (program ∷ words) = opens_with_step words

-- The words as those of `run`: without that option, which then takes the place of the program's name, as that means nothing.
abbrev pub plain_words : List Text → List Text
plain_words [] = []
plain_words (program ∷ words) = if opens_with_step words then words else program ∷ words

-- the script that settings name, where no trace is to be checked
abbrev pub plain_script : Option Text → Option Text → Option Text
plain_script script None = script
plain_script script (Some trace) = None

abbrev pub script_named : Settings → Option Text
script_named s = plain_script s.script s.check

-- the script that the words name, where no trace is to be checked
abbrev pub script_of : Option Settings → Option Text
script_of None = None
script_of (Some s) = script_named s

-- the first of the INFs and the script that is not taken has more than 16,777,216 bytes
abbrev pub IsTooLarge : Result (List Inf) InfsError → Option (List ℕ) → Type 0
IsTooLarge (Ok infs) script = file_in script ≡ Err TooLarge
IsTooLarge (Err error) script = error ≡ TooLarge

abbrev pub IsTooLargeFor : (Text → Option (List ℕ)) → Settings → Type 0
IsTooLargeFor told s = IfSome s.script (λ name. IsTooLarge (infs_in told s.infs) (told name))

-- what is written for a script from a front on, with the states behind its rows or without: a page, and nothing where it is not there
abbrev pub IsPageFor : Bool → machines.Settings → Front → Option (List ℕ) → Text → Type 0
IsPageFor steps settings f None text = text ≡ []
IsPageFor steps settings f (Some script) text = IsRunView steps settings f (events_of script) text

-- the same, by what the INFs come to: where one is refused, a page with the line that tells it, and without arrows
abbrev pub IsViewBy : Bool → List Driver → ℕ → Result (List Inf) InfsError → Option (List ℕ) → Text → Type 0
IsViewBy steps rack budget (Ok infs) script text = IsPageFor steps (machine infs budget) (opening_front (opening rack)) script text
IsViewBy steps rack budget (Err (Refused number error)) script text = IsPage ((Part.Words Tag.P, refusal_line number error) ∷ []) text
IsViewBy steps rack budget (Err error) script text = text ≡ []

-- the same for settings with this script
abbrev pub IsViewFor : Bool → List Driver → ℕ → (Text → Option (List ℕ)) → List Text → Option Text → Text → Type 0
IsViewFor steps rack budget told infs None text = text ≡ []
IsViewFor steps rack budget told infs (Some name) text = IsViewBy steps rack budget (infs_in told infs) (told name) text

-- The view for settings, by the contents of the files and the kinds and books of a rack: of the run whose output `IsOutput` says.
abbrev pub IsView : Bool → List Driver → (Text → Option (List ℕ)) → Settings → Text → Type 0
IsView steps rack told s text = IsViewFor steps rack s.budget told s.infs (script_named s) text

-- answers after which the whole text was written, and which come only where the contents decide them
abbrev pub is_told : Status → Bool
is_told Status.Done = true
is_told Status.BadScript = true
is_told Status.BadInf = true
is_told _ = false

-- the view of a run, and its answer, by what the INFs come to
pub record IsViewed (steps : Bool) (rack : List Driver) (budget : ℕ) (infs : Result (List Inf) InfsError) (script : Option (List ℕ)) (text : Text) (status : Status) : Type 0 where
  pub view : IsViewBy steps rack budget infs script text
  pub answer : status_by infs script ≡ Some status

abbrev pub status_of_error : ReadError → Status
status_of_error reads.ReadFault = Status.ReadFault
status_of_error reads.TooLarge = Status.TooLarge
status_of_error reads.WantOfMemory = Status.WantOfMemory

-- a text was written whole, or a front of it, or none
abbrev pub WroteOut : Result Viewed ReadError → Status → Option Text → Option Text → Type 0
WroteOut (Ok e) status old new = ((status ≡ e.status) × Appends old new e.text.items) ⊎ ((status ≡ Status.WriteFault) × AppendsFront old new e.text.items)
WroteOut (Err error) status old new = (status ≡ status_of_error error) × (new ≡ old)

-- nothing was written, or a front of such a text
abbrev pub WroteSome : (Text → Type 0) → Option Text → Option Text → Type 0
WroteSome output old new = (new ≡ old) ⊎ ((text : Text) × output text × AppendsFront old new text)
