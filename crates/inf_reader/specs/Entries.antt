-- The entry that a joined line is: a key and values (the driver kit, "General Syntax Rules for INF Files").
use Rattle.std.specs.Prelude.{ℕ, List, [], ◌∷◌, Bool, true, false, if◌then◌else◌, map, slice_index_or, codes, Option, Some, None}
use Rattle.std.specs.List.{slice_split}
use Rattle.device_ids.specs.Folding.{same}
use Rattle.inf_reader.specs.declared.symbols.Symbol.{Symbol}
use Rattle.inf_reader.specs.declared.entries.Key.{Key}
use Rattle.inf_reader.specs.declared.entries.Key.TheVariants.{Absent, Signature, DriverVer, FeatureScore, AddService, AddReg, Other}
use Rattle.inf_reader.specs.declared.entries.Entry.{Entry}
use Rattle.inf_reader.specs.Cuts.{cut_at}
use Rattle.inf_reader.specs.Symbols.{bare, is_plain}
use Rattle.inf_reader.specs.Tokens.{Strings, text_with}

-- before the first `=` outside quotes stands the key, and behind it the values; without one all are values
abbrev pub sides_by : List Symbol → Option (List Symbol × List Symbol) → List Symbol × List Symbol
sides_by symbols None = ([], symbols)
sides_by symbols (Some p) = p

abbrev pub sides : List Symbol → List Symbol × List Symbol
sides symbols = sides_by symbols (cut_at (is_plain 0x3D) symbols)

-- a key or a value loses the blanks at its ends, then its quotes, and then has its tokens replaced, where strings are given
abbrev pub part_text : Option Strings → List Symbol → List ℕ
part_text strings part = text_with strings (bare part)

-- the values of a list, separated by commas outside quotes
abbrev pub values_of : Option Strings → List Symbol → List (List ℕ)
values_of strings symbols = map (part_text strings) (slice_split (is_plain 0x2C) symbols)

-- the keys that have a meaning are known by their folded letters; an entry may have no key
abbrev pub known_key : List ℕ → Key
known_key text = if same text (codes "Signature") then Signature
    else (if same text (codes "DriverVer") then DriverVer
    else (if same text (codes "FeatureScore") then FeatureScore
    else (if same text (codes "AddService") then AddService
    else (if same text (codes "AddReg") then AddReg else Other))))

unfoldable pub key_of : List ℕ → Key
key_of [] = Absent
key_of (b ∷ text) = known_key (b ∷ text)

abbrev pub has_some : Key → Bool
has_some Absent = false
has_some _ = true

abbrev pub is_keyed : Entry → Bool
is_keyed e = has_some e.key

abbrev pub is_signature_key : Key → Bool
is_signature_key Signature = true
is_signature_key _ = false

abbrev pub is_driver_key : Key → Bool
is_driver_key DriverVer = true
is_driver_key _ = false

abbrev pub is_score_key : Key → Bool
is_score_key FeatureScore = true
is_score_key _ = false

abbrev pub is_service_key : Key → Bool
is_service_key AddService = true
is_service_key _ = false

abbrev pub is_registry_key : Key → Bool
is_registry_key AddReg = true
is_registry_key _ = false

unfoldable pub entry_of : Option Strings → ℕ → List Symbol → Entry
entry_of strings number symbols = record {
  line = number;
  key = key_of (part_text strings (sides symbols).0);
  values = values_of strings (sides symbols).1;
}

-- the value at a place, or nothing
abbrev pub value_at : List (List ℕ) → ℕ → List ℕ
value_at values at = slice_index_or values at []
