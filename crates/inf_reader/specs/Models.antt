-- The models lines of an INF, and what their install sections give (the driver kit, "INF Manufacturer Section", "INF Models
-- Section", "INF DDInstall Section", "INF AddService Directive", "INF DDInstall.HW Section").
use Rattle.std.specs.Prelude.{ℕ, List, [], ◌∷◌, ◌++◌, Bool, ◌&&◌, if◌then◌else◌, map, take, drop, length, codes}
use Rattle.std.specs.Prelude.{Option, Some, None, unwrap_or}
use Rattle.std.specs.List.{flat_map, find}
use Rattle.device_ids.specs.Folding.{same, folded}
use Rattle.inf_reader.specs.declared.entries.Entry.{Entry}
use Rattle.inf_reader.specs.declared.section.Kind.{Kind}
use Rattle.inf_reader.specs.declared.section.Kind.TheVariants.{Lower, Upper}
use Rattle.inf_reader.specs.declared.models.Install.{Install}
use Rattle.inf_reader.specs.declared.parts.ModelLine.{ModelLine}
use Rattle.inf_reader.specs.Numbers.{or_else, score_of}
use Rattle.inf_reader.specs.Entries.{value_at, is_score_key, is_service_key, is_registry_key}
use Rattle.inf_reader.specs.Filters.{has_bit, is_some_text}
use Rattle.inf_reader.specs.Sections.{Sections, contents_at, keyed_in, filters_at, is_there}

abbrev pub begins : List ℕ → List ℕ → Bool
begins word text = same (take (length word) text) word

abbrev pub is_word : List ℕ → List ℕ → Bool
is_word word text = same text word

-- of the decorations `NTamd64`, else the first that begins `NTamd64.`, else `NT`; this order is this project's own
unfoldable pub decoration_of : List (List ℕ) → Option (List ℕ)
decoration_of values = or_else (find (is_word (codes "NTamd64")) values)
    (or_else (find (begins (codes "NTamd64.")) values) (find (is_word (codes "NT")) values))

abbrev pub dotted : List ℕ → Option (List ℕ) → List ℕ
dotted name None = name
dotted name (Some decoration) = name ++ 0x2E ∷ decoration

-- the models section that an entry of [Manufacturer] names: the first value, a dot, and the decoration that is taken
unfoldable pub models_name : List (List ℕ) → List ℕ
models_name values = dotted (value_at values 0) (decoration_of (drop 1 values))

-- the folded name of the install section: the first of three that is there, else the bare one; this project's own
unfoldable pub install_name : Sections → List ℕ → List ℕ
install_name sections name = folded (if is_there sections (name ++ codes ".NTamd64") then name ++ codes ".NTamd64"
    else (if is_there sections (name ++ codes ".NT") then name ++ codes ".NT" else name))

-- the first `FeatureScore`; 255 without one
abbrev pub is_score : Entry → Bool
is_score e = is_score_key e.key

abbrev pub score_from : Option Entry → ℕ
score_from None = 255
score_from (Some e) = unwrap_or (score_of (value_at e.values 0)) 255

unfoldable pub score_in : List Entry → ℕ
score_in entries = score_from (find is_score entries)

-- the first `AddService` whose number has the bit 2 gives the service, unless it names none
abbrev pub is_function_service : Entry → Bool
is_function_service e = is_service_key e.key && has_bit 2 (value_at e.values 1)

abbrev pub named : Option Entry → Option (List ℕ)
named None = None
named (Some e) = if is_some_text (value_at e.values 0) then Some (value_at e.values 0) else None

unfoldable pub service_in : List Entry → Option (List ℕ)
service_in entries = named (find is_function_service entries)

-- each value of each `AddReg` names a section whose lines add filters
abbrev pub filters_in_all : Sections → Kind → List (List ℕ) → List (List ℕ)
filters_in_all sections kind names = flat_map (λ name. filters_at kind (contents_at sections name)) names

abbrev pub filters_by : Sections → Kind → Entry → List (List ℕ)
filters_by sections kind e = if is_registry_key e.key then filters_in_all sections kind e.values else []

unfoldable pub filters_in : Sections → Kind → List Entry → List (List ℕ)
filters_in sections kind entries = flat_map (filters_by sections kind) entries

-- what an install section gives, and the sections that are named by it
unfoldable pub install_service : Sections → List ℕ → Option (List ℕ)
install_service sections install = service_in (keyed_in sections (install ++ codes ".Services"))

unfoldable pub install_filters : Sections → Kind → List ℕ → List (List ℕ)
install_filters sections kind install = filters_in sections kind (keyed_in sections (install ++ codes ".HW"))

abbrev pub install_of : Sections → List ℕ → Install
install_of sections install = record {
  score = score_in (keyed_in sections install);
  service = install_service sections install;
  lower = install_filters sections Lower install;
  upper = install_filters sections Upper install;
}

-- up to eight IDs stand behind the install name
abbrev pub line_with : Entry → Install → ModelLine
line_with e install = record {
  line = e.line;
  ids = take 8 (drop 1 e.values);
  score = install.score;
  service = install.service;
  lower = install.lower;
  upper = install.upper;
}

-- each entry of a models section that has a key is a models line
unfoldable pub model_line : Sections → Entry → ModelLine
model_line sections e = line_with e (install_of sections (install_name sections (value_at e.values 0)))

abbrev pub models_of : Sections → List ℕ → List ModelLine
models_of sections name = map (model_line sections) (keyed_in sections name)

-- the models sections in the order of [Manufacturer], here by their names
unfoldable pub all_models : Sections → List (List ℕ) → List ModelLine
all_models sections names = flat_map (models_of sections) names
