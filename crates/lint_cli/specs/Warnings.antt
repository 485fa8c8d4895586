-- What an INF that is read lacks for its devices: the drivers that no line of the script names, the lines without a service, and an INF without lines.
use Rattle.std.specs.Prelude.{ℕ, ◌||◌, ◌&&◌, ◌==◌, Bool, true, not, List, [], ◌∷◌, ◌++◌, length, map, codes, if◌then◌else◌, Option, Some, None}
use Rattle.std.specs.Str.{bytes_eq}
use Rattle.std.specs.List.{flat_map, filter, list_any, find}
use Rattle.device_ids.specs.Cuts.{parts}
use Rattle.device_ids.specs.Folding.{same}
use Rattle.pnp_labels.specs.Texts.{Text}
use Rattle.inf_reader.specs.declared.parts.Inf.{Inf}
use Rattle.inf_reader.specs.declared.parts.ModelLine.{ModelLine}
use Rattle.lint_cli.specs.declared.drivers.Named.{Named}
use Rattle.lint_cli.specs.declared.warnings.Known.{Known as Given}
use Rattle.script_reader.specs.Words.{words_of}
use Rattle.script_reader.specs.Lines.{value_at}
use Rattle.lint_cli.specs.Reports.{quoted, warning_head}

-- a line whose first word is `driver` names its second word
abbrev pub name_in : List Text → List Text
name_in [] = []
name_in (word ∷ []) = []
name_in (word ∷ name ∷ words) = if bytes_eq word (codes "driver") then name ∷ [] else []

-- the drivers that the lines of a script name
abbrev pub driver_names : List ℕ → List Text
driver_names script = flat_map (λ line. name_in (words_of line)) (parts 0x0A script)

-- the identifiers that an attribute of a device writes: `hw=ID,ID` or `compat=ID,ID`
abbrev pub ids_at : Option Text → List Text
ids_at None = []
ids_at (Some value) = parts 0x2C value

abbrev pub ids_of : Text → List Text
ids_of word = ids_at (value_at (codes "hw=") word) ++ ids_at (value_at (codes "compat=") word)

-- a line whose first word is `plug` writes those of a device: its third word, and those of its attributes
abbrev pub ids_in : List Text → List Text
ids_in [] = []
ids_in (word ∷ []) = []
ids_in (word ∷ parent ∷ []) = []
ids_in (word ∷ parent ∷ device ∷ words) = if bytes_eq word (codes "plug") then device ∷ flat_map ids_of words else []

-- the identifiers that the lines of a script write for its devices
abbrev pub script_ids : List ℕ → List Text
script_ids script = flat_map (λ line. ids_in (words_of line)) (parts 0x0A script)

-- a driver that a models line names, behind the number of the line
abbrev pub Naming : Type 0
Naming = ℕ × Text

-- as the code has it
abbrev pub seen : Named → Naming
seen n = (n.line, n.name.now)

abbrev pub service_of : Option Text → List Text
service_of None = []
service_of (Some service) = service ∷ []

-- the service and the filters of a models line
abbrev pub names_of : ModelLine → List Naming
names_of line = map (λ name. (line.line, name)) (service_of line.service ++ (line.lower ++ line.upper))

abbrev pub names_in : List ModelLine → List Naming
names_in lines = flat_map names_of lines

-- the name is one of these, in any letters
abbrev pub knows : List Text → Text → Bool
knows names name = list_any (λ known. same name known) names

-- a line counts where one of its IDs, not empty, is one of the script's; where none are told each line counts
abbrev pub is_some_of : List Text → Text → Bool
is_some_of ids id = not (length id == 0) && knows ids id

abbrev pub counts : Option (List Text) → ModelLine → Bool
counts None line = true
counts (Some ids) line = list_any (is_some_of ids) line.ids

-- a line of the script names the driver, or it was told before
abbrev pub is_told : List Text → List Text → Text → Bool
is_told drivers passed name = knows drivers name || knows passed name

-- those that no line of the script names, each name once: where it stands first
abbrev pub missing : List Text → List Text → List Naming → List Naming
missing drivers passed [] = []
missing drivers passed (named ∷ more) =
    if is_told drivers passed named.1 then missing drivers passed more else named ∷ missing drivers (passed ++ named.1 ∷ []) more

-- `FILE:LINE: warning: "NAME" is named by no driver line of the script (problem 39)`
abbrev pub missing_text : Text → Naming → Text
missing_text file named = warning_head file named.0 ++ (quoted named.1 ++ codes "is named by no driver line of the script (problem 39)\n")

-- of one of them, by whether it is told no more
abbrev pub text_by : Text → Naming → Bool → Text
text_by file named told = if told then [] else missing_text file named

abbrev pub passed_by : List Text → Text → Bool → List Text
passed_by passed name told = if told then passed else passed ++ name ∷ []

abbrev pub missing_texts : Text → List Naming → Text
missing_texts file all = flat_map (missing_text file) all

-- the first ID of a line that matches something
abbrev pub matching_id : ModelLine → Option Text
matching_id line = find (λ id. not (length id == 0)) line.ids

abbrev pub no_service_text : Text → ℕ → Text → Text
no_service_text file line id =
    warning_head file line ++ (quoted id ++ codes "gets no driver: its models line has no service, which an AddService with the flag 2 gives (problem 28)\n")

abbrev pub unserved_by : Text → ℕ → Option Text → Option Text → Text
unserved_by file line (Some service) id = []
unserved_by file line None None = []
unserved_by file line None (Some id) = no_service_text file line id

-- a line that matches IDs and has no service
abbrev pub unserved_text : Text → ModelLine → Text
unserved_text file line = unserved_by file line.line line.service (matching_id line)

-- no models line was taken at all
abbrev pub no_lines_text : Text → List ModelLine → Text
no_lines_text file [] = warning_head file 1 ++ codes "no models line is read, so no device gets a driver from it (problem 28)\n"
no_lines_text file (line ∷ lines) = []

-- the drivers that are missing, where a script tells which there are
abbrev pub missing_by : Text → Option (List Text) → List Naming → Text
missing_by file None all = []
missing_by file (Some drivers) all = missing_texts file (missing drivers [] all)

-- what the script tells: the drivers that it names, if there is one, and the IDs of its devices, if only lines that match one are told of
pub record Known : Type 0 where
  pub drivers : Option (List Text)
  pub ids : Option (List Text)

-- as the code has it
abbrev pub told : Given → Known
told k = record { drivers = k.drivers; ids = k.ids }

abbrev pub nothing_known : Known
nothing_known = record { drivers = None; ids = None }

abbrev pub ids_known : Bool → List ℕ → Option (List Text)
ids_known all script = if all then None else Some (script_ids script)

abbrev pub known_of : Bool → List ℕ → Known
known_of all script = record { drivers = Some (driver_names script); ids = ids_known all script }

-- what is written of an INF that is read, of those of its lines that count
abbrev pub warnings_of : Text → Option (List Text) → List ModelLine → Text
warnings_of file drivers lines = flat_map (unserved_text file) lines ++ missing_by file drivers (names_in lines)

abbrev pub warnings_text : Text → Known → Inf → Text
warnings_text file known read = no_lines_text file read.lines ++ warnings_of file known.drivers (filter (counts known.ids) read.lines)
