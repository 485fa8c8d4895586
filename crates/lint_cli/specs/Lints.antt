-- What a lint answers, by what the files hold.
use Rattle.std.specs.Prelude.{◌≡◌, ◌⊎◌, ℕ, Bool, true, false, not, ◌==◌, ◌||◌, ◌&&◌, nat_lt, List, [], ◌∷◌, ◌++◌, length, Option, Some, None, Result, Ok, Err, Contains}
use Rattle.std.specs.Option.{is_some}
use Rattle.std.specs.List.{list_any}
use Rattle.pnp_io.specs.Outside.{Appends, Rose}
use Rattle.pnp_labels.specs.Texts.{Text}
use Rattle.inf_reader.specs.declared.parts.Inf.{Inf}
use Rattle.inf_reader.specs.declared.parts.InfError.{InfError}
use Rattle.inf_reader.specs.Meaning.{inf}
use Rattle.script_reader.specs.Script.{trace}
use Rattle.script_lint.specs.Script.{stop_of}
use Rattle.lint_cli.specs.Reports.{script_text, inf_text}
use Rattle.lint_cli.specs.Warnings.{Known, nothing_known, known_of, warnings_text}
use Rattle.lint_cli.specs.declared.words.Options.{Options}
use Rattle.lint_cli.specs.declared.status.Status.{Status}

-- a run of the script ends at a bad line
abbrev pub is_bad_script : List ℕ → Bool
is_bad_script bytes = is_some (stop_of (trace true 0 bytes))

abbrev pub is_refused : Result Inf InfError → Bool
is_refused (Ok read) = false
is_refused (Err error) = true

abbrev pub is_bad_inf : List ℕ → Bool
is_bad_inf bytes = is_refused (inf bytes)

abbrev pub is_bad_file : (List ℕ → Bool) → Option (List ℕ) → Bool
is_bad_file is_bad None = false
is_bad_file is_bad (Some bytes) = is_bad bytes

-- one of the INFs of these names is refused
abbrev pub bad_infs : (Text → Option (List ℕ)) → List Text → Bool
bad_infs told names = list_any (λ name. is_bad_file is_bad_inf (told name)) names

-- the script, which is named first, has a bad line, or one of the INFs is refused
abbrev pub is_bad_set : (Text → Option (List ℕ)) → Text → List Text → Bool
is_bad_set told script infs = is_bad_file is_bad_script (told script) || bad_infs told infs

-- the same of all names, by whether there is no script among them
abbrev pub is_bad_by : Bool → (Text → Option (List ℕ)) → List Text → Bool
is_bad_by true told names = bad_infs told names
is_bad_by false told [] = false
is_bad_by false told (script ∷ infs) = is_bad_set told script infs

-- the most bytes that a file may have
abbrev pub limit : ℕ
limit = 16777216

abbrev pub is_large : Option (List ℕ) → Bool
is_large None = false
is_large (Some bytes) = nat_lt limit (length bytes)

-- one of the files of these names has more
abbrev pub some_large : (Text → Option (List ℕ)) → List Text → Bool
some_large told names = list_any (λ name. is_large (told name)) names

abbrev pub found_by : Bool → Status
found_by true = Status.Found
found_by false = Status.Clean

-- the answer: something is bad, or it is strict and something is written
abbrev pub answer_by : Bool → Bool → Text → Status
answer_by strict bad text = found_by (bad || (strict && not (length text == 0)))

-- the answers that come only where the contents decide them
abbrev pub is_decided : Status → Bool
is_decided Status.Clean = true
is_decided Status.Found = true
is_decided Status.TooLarge = true
is_decided _ = false

abbrev pub is_too_large : Status → Bool
is_too_large Status.TooLarge = true
is_too_large _ = false

-- the answers after which all was read and written
abbrev pub is_reported : Status → Bool
is_reported Status.Clean = true
is_reported Status.Found = true
is_reported _ = false

-- the answers after which nothing was written
abbrev pub is_unwritten : Status → Bool
is_unwritten Status.BadWords = true
is_unwritten Status.ReadFault = true
is_unwritten Status.TooLarge = true
is_unwritten Status.WantOfMemory = true
is_unwritten _ = false

-- where no count rose, the answer is one that the contents decide, or want of memory
abbrev pub Answers : Type 0 → Type 0 → Status → Type 0
Answers read_rose write_rose status = (read_rose → ⊥) → (write_rose → ⊥) → (is_decided status ≡ true) ⊎ (status ≡ Status.WantOfMemory)

-- the count of one of these names rose
pub record SomeRose (old new : Text → ℕ) (names : List Text) : Type 0 where
  pub name : Text
  pub named : Contains names name
  pub rose : Rose (old name) (new name)

-- of an INF that is read its warnings are added, and then more; of another first that for which `read` refuses it
abbrev pub AddsInf : Text → Known → Result Inf InfError → Text → Text → Type 0
AddsInf name known (Ok read) old new = (more : Text) × (new ≡ old ++ (warnings_text name known read ++ more))
AddsInf name known (Err error) old new = (more : Text) × (new ≡ old ++ (inf_text name error ++ more))

abbrev pub AddsFile : Text → Known → Option (List ℕ) → Text → Text → Type 0
AddsFile name known None old new = Unit {0}
AddsFile name known (Some bytes) old new = AddsInf name known (inf bytes) old new

-- the same of the INFs of these names, one after another
abbrev pub AddsInfs : (Text → Option (List ℕ)) → Known → List Text → Text → Text → Type 0
AddsInfs told known [] old new = new ≡ old
AddsInfs told known (name ∷ names) old new = (middle : Text) × AddsFile name known (told name) old middle × AddsInfs told known names middle new

-- a text has what is written of the script, and behind it what is added of the INFs, by what the script tells
abbrev pub IsText : (Text → Option (List ℕ)) → Bool → Text → Option (List ℕ) → List Text → Text → Type 0
IsText told all name None infs text = Unit {0}
IsText told all name (Some script) infs text = AddsInfs told (known_of all script) infs (script_text name script) text

-- the same by names, where there may be no script among them
abbrev pub IsTextBy : Bool → Bool → (Text → Option (List ℕ)) → List Text → Text → Type 0
IsTextBy true all told names text = AddsInfs told nothing_known names [] text
IsTextBy false all told [] text = Unit {0}
IsTextBy false all told (script ∷ infs) text = IsText told all script (told script) infs text

-- such a text was written, and the answer is its
abbrev pub WroteBy : Options → (Text → Option (List ℕ)) → List Text → Status → Option Text → Option Text → Type 0
WroteBy o told names status old new = (text : Text) × IsTextBy o.bare o.all told names text × Appends old new text × (status ≡ answer_by o.strict (is_bad_by o.bare told names) text)

-- no file is too large where a text was written, and one is where `TooLarge` is the answer
abbrev pub Sizes : (Text → Option (List ℕ)) → List Text → Status → Type 0
Sizes told names status = some_large told names ≡ is_too_large status
