-- The meaning of an INF: a refusal, or its date, version and models lines (the driver kit, "INF Version Section", "INF
-- DriverVer Directive"). The refusals and their order are this project's own.
use Rattle.std.specs.Prelude.{◌≡◌, ℕ, ◌+◌, ◌*◌, List, [], ◌∷◌, ◌++◌, Bool, ◌||◌, ◌&&◌, nat_lt, if◌then◌else◌, map, codes, Result, Ok, Err}
use Rattle.std.specs.Prelude.{Option, Some, None, unwrap_or, is_none}
use Rattle.std.specs.List.{list_any, flat_map, find}
use Rattle.device_ids.specs.Folding.{same}
use Rattle.inf_reader.specs.declared.items.Item.{Item}
use Rattle.inf_reader.specs.declared.items.Item.TheVariants.{TooLong, OpenHeader, Header, Line}
use Rattle.inf_reader.specs.declared.entries.Entry.{Entry}
use Rattle.inf_reader.specs.declared.parts.InfError.{InfError}
use Rattle.inf_reader.specs.declared.parts.InfError.TheVariants as errors
use Rattle.inf_reader.specs.declared.parts.Inf.{Inf}
use Rattle.inf_reader.specs.Text.{text_of}
use Rattle.inf_reader.specs.Items.{items_of}
use Rattle.inf_reader.specs.Tokens.{Strings}
use Rattle.inf_reader.specs.Numbers.{date_of, version_of, score_of, ◌>>=◌}
use Rattle.inf_reader.specs.Entries.{value_at, is_signature_key, is_driver_key, is_score_key}
use Rattle.inf_reader.specs.Sections.{Sections, strings_of, sections_of, entries_of, entries_in, keyed_in}
use Rattle.inf_reader.specs.Models.{models_name, all_models}

-- the place of a refusal: by its line, and at one line in this order
abbrev pub place_of : InfError → ℕ
place_of (errors.LineTooLong line) = 4 * line
place_of (errors.OpenHeader line) = 4 * line + 1
place_of (errors.BadDate line) = 4 * line + 2
place_of (errors.BadScore line) = 4 * line + 3
place_of errors.NoSignature = 0
place_of errors.WantOfMemory = 0

-- the first of two refusals, by their places
abbrev pub earlier : Option InfError → Option InfError → Option InfError
earlier None b = b
earlier (Some x) None = Some x
earlier (Some x) (Some y) = if nat_lt (place_of y) (place_of x) then Some y else Some x

abbrev pub least_of : List InfError → Option InfError
least_of [] = None
least_of (fault ∷ faults) = earlier (Some fault) (least_of faults)

-- a line that is too long, a header without its end
abbrev pub mark_of : Item → List InfError
mark_of (TooLong n) = errors.LineTooLong n ∷ []
mark_of (OpenHeader n) = errors.OpenHeader n ∷ []
mark_of (Header name) = []
mark_of (Line n symbols) = []

-- a `FeatureScore` of another form, in any section
abbrev pub is_bad_score : Entry → Bool
is_bad_score e = is_score_key e.key && is_none (score_of (value_at e.values 0))

abbrev pub score_fault : Entry → List InfError
score_fault e = if is_bad_score e then errors.BadScore e.line ∷ [] else []

-- a `DriverVer` is a date and, unless it is empty, a version
abbrev pub version_in : List ℕ → Option ℕ
version_in [] = Some 0
version_in (b ∷ text) = version_of (b ∷ text)

unfoldable pub driver_version : Entry → Option (ℕ × ℕ)
driver_version e = date_of (value_at e.values 0) >>= (λ date. version_in (value_at e.values 1) >>= (λ version. Some (date, version)))

-- the first `DriverVer` of [Version], if any, gives date and version, and else both are 0; another form of it is BadDate
abbrev pub is_driver : Entry → Bool
is_driver e = is_driver_key e.key

abbrev pub driver_entry : Sections → Option Entry
driver_entry sections = find is_driver (keyed_in sections (codes "Version"))

abbrev pub dated : Option Entry → Option (ℕ × ℕ)
dated None = Some (0, 0)
dated (Some e) = driver_version e

abbrev pub date_fault : Option Entry → List InfError
date_fault None = []
date_fault (Some e) = if is_none (driver_version e) then errors.BadDate e.line ∷ [] else []

-- some `Signature` of [Version] is one of these two, in any letters
abbrev pub is_signature : Entry → Bool
is_signature e = is_signature_key e.key && (same (value_at e.values 0) (codes "$Windows NT$") || same (value_at e.values 0) (codes "$CHICAGO$"))

abbrev pub is_signed : Sections → Bool
is_signed sections = list_any is_signature (keyed_in sections (codes "Version"))

-- the names of the models sections, by the entries of [Manufacturer]
abbrev pub makers_of : Strings → List Item → List (List ℕ)
makers_of strings items = map (λ e. models_name e.values) (entries_in strings (codes "manufacturer") items)

-- all that is wrong with a text but a missing signature
abbrev pub faults_of : Strings → List Item → List InfError
faults_of strings items = flat_map mark_of items ++ (flat_map score_fault (entries_of strings items) ++ date_fault (driver_entry (sections_of strings items)))

-- the refusal that comes first, else none but a missing signature, else the value
abbrev pub inf_with : Sections → List (List ℕ) → ℕ × ℕ → Inf
inf_with sections makers version = record { date = version.0; version = version.1; lines = all_models sections makers }

abbrev pub judged : Sections → List (List ℕ) → Option InfError → Result Inf InfError
judged sections makers (Some fault) = Err fault
judged sections makers None = if is_signed sections then Ok (inf_with sections makers (unwrap_or (dated (driver_entry sections)) (0, 0))) else Err errors.NoSignature

unfoldable pub meaning_by : Strings → List Item → Result Inf InfError
meaning_by strings items = judged (sections_of strings items) (makers_of strings items) (least_of (faults_of strings items))

unfoldable pub meaning_of : List Item → Result Inf InfError
meaning_of items = meaning_by (strings_of items) items

-- the meaning of the bytes of a file
unfoldable pub inf : List ℕ → Result Inf InfError
inf bytes = meaning_of (items_of (text_of bytes))

-- all that is wrong with the bytes of a file but a missing signature
abbrev pub faults_in : List ℕ → List InfError
faults_in bytes = let items = items_of (text_of bytes) in faults_of (strings_of items) items

-- what a reader returned is the meaning, unless memory ran out
abbrev pub Gives : Result Inf InfError → Result Inf InfError → Type 0
Gives (Ok read) meaning = meaning ≡ Ok read
Gives (Err errors.WantOfMemory) meaning = Unit {0}
Gives (Err e) meaning = meaning ≡ Err e
