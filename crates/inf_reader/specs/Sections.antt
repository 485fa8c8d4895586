-- Sections by their folded names, and what they hold.
use Rattle.std.specs.Prelude.{ℕ, List, [], ◌∷◌, ◌++◌, Bool, false, ◌||◌, if◌then◌else◌, map, codes, Option, Some, None, unwrap_or, is_some}
use Rattle.std.specs.List.{filter, flat_map}
use Rattle.std.specs.Str.{bytes_eq}
use Rattle.device_ids.specs.Folding.{folded}
use Rattle.inf_reader.specs.declared.symbols.Symbol.{Symbol}
use Rattle.inf_reader.specs.declared.items.Item.{Item}
use Rattle.inf_reader.specs.declared.items.Item.TheVariants.{TooLong, OpenHeader, Header, Line}
use Rattle.inf_reader.specs.declared.entries.Entry.{Entry}
use Rattle.inf_reader.specs.declared.section.Kind.{Kind}
use Rattle.inf_reader.specs.declared.section.Kind.TheVariants.{Lower, Upper}
use Rattle.inf_reader.specs.Numbers.{or_else}
use Rattle.inf_reader.specs.Tokens.{Strings}
use Rattle.inf_reader.specs.Entries.{sides, part_text, values_of, value_at, entry_of, is_keyed}
use Rattle.inf_reader.specs.Filters.{filters_of}

-- a joined line, with the folded name of its section
pub record Placed : Type 0 where
  pub section : List ℕ
  pub number : ℕ
  pub symbols : List Symbol

-- a line stands under the last header before it; before the first one, and behind one without its end, lines are dropped
abbrev pub placed_from : Option (List ℕ) → List Item → List Placed
placed_from under [] = []
placed_from under (TooLong n ∷ items) = placed_from under items
placed_from under (OpenHeader n ∷ items) = placed_from None items
placed_from under (Header name ∷ items) = placed_from (Some name) items
placed_from None (Line n symbols ∷ items) = placed_from None items
placed_from (Some name) (Line n symbols ∷ items) = record { section = name; number = n; symbols = symbols } ∷ placed_from (Some name) items

-- the joined lines of the section of this folded name, in order, under whichever of its headers they stand
abbrev pub is_in : List ℕ → Placed → Bool
is_in name p = bytes_eq name p.section

abbrev pub lines_from : List ℕ → Option (List ℕ) → List Item → List Placed
lines_from name under items = filter (is_in name) (placed_from under items)

-- what tokens stand for: the first value of the first line of [Strings] with that folded key, as it is written there
abbrev pub string_key : List Symbol → List ℕ
string_key symbols = folded (part_text None (sides symbols).0)

abbrev pub string_value : List Symbol → List ℕ
string_value symbols = value_at (values_of None (sides symbols).1) 0

abbrev pub string_in : List ℕ → List Symbol → Option (List ℕ)
string_in name symbols = if bytes_eq name (string_key symbols) then Some (string_value symbols) else None

abbrev pub first_string : List ℕ → List Placed → Option (List ℕ)
first_string name [] = None
first_string name (p ∷ lines) = or_else (string_in name p.symbols) (first_string name lines)

abbrev pub strings_of : List Item → Strings
strings_of items name = first_string name (lines_from (codes "strings") None items)

-- the entry of a line; under [Strings] no tokens are replaced
abbrev pub tokens_in : Strings → List ℕ → Option Strings
tokens_in strings section = if bytes_eq section (codes "strings") then None else Some strings

abbrev pub entry_at : Strings → Placed → Entry
entry_at strings p = entry_of (tokens_in strings p.section) p.number p.symbols

-- all entries, and those of a section
abbrev pub entries_of : Strings → List Item → List Entry
entries_of strings items = map (entry_at strings) (placed_from None items)

abbrev pub entries_from : Strings → List ℕ → Option (List ℕ) → List Item → List Entry
entries_from strings name under items = map (entry_at strings) (lines_from name under items)

abbrev pub entries_in : Strings → List ℕ → List Item → List Entry
entries_in strings name items = entries_from strings name None items

-- what a section holds: its entries with a key, and the filters that its lines add
pub record Contents : Type 0 where
  pub keyed : List Entry
  pub lower : List (List ℕ)
  pub upper : List (List ℕ)

abbrev pub no_contents : Contents
no_contents = record { keyed = []; lower = []; upper = [] }

abbrev pub contents_of : List Entry → Contents
contents_of entries = record {
  keyed = filter is_keyed entries;
  lower = flat_map (filters_of Lower) entries;
  upper = flat_map (filters_of Upper) entries;
}

-- what a section holds once entries were added
abbrev pub added : Contents → List Entry → Contents
added contents entries = record {
  keyed = contents.keyed ++ filter is_keyed entries;
  lower = contents.lower ++ flat_map (filters_of Lower) entries;
  upper = contents.upper ++ flat_map (filters_of Upper) entries;
}

-- a section is there where a header has its folded name
abbrev pub names_it : List ℕ → Item → Bool
names_it name (TooLong n) = false
names_it name (OpenHeader n) = false
names_it name (Header other) = bytes_eq name other
names_it name (Line n symbols) = false

abbrev pub has_header : List ℕ → List Item → Bool
has_header name [] = false
has_header name (item ∷ items) = names_it name item || has_header name items

abbrev pub Sections : Type 0
Sections = List ℕ → Option Contents

abbrev pub sections_of : Strings → List Item → Sections
sections_of strings items name = if has_header name items then Some (contents_of (entries_in strings name items)) else None

-- a section is named with any letters; one that is not there holds nothing
abbrev pub contents_at : Sections → List ℕ → Contents
contents_at sections name = unwrap_or (sections (folded name)) no_contents

abbrev pub keyed_in : Sections → List ℕ → List Entry
keyed_in sections name = (contents_at sections name).keyed

abbrev pub filters_at : Kind → Contents → List (List ℕ)
filters_at Lower contents = contents.lower
filters_at Upper contents = contents.upper

abbrev pub is_there : Sections → List ℕ → Bool
is_there sections name = is_some (sections (folded name))
