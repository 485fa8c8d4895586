-- What is known of a section while the items are read: the sections that were put back, and the current one.
use Rattle.std.specs.Prelude.{ℕ, List, [], ◌∷◌, Bool, true, false, ◌||◌, if◌then◌else◌, Option, Some, None, unwrap_or, option_map, is_some, map, codes}
use Rattle.std.specs.Str.{bytes_eq}
use Rattle.inf_reader.specs.declared.entries.Entry.{Entry}
use Rattle.inf_reader.specs.declared.symbols.Symbol.{Symbol}
use Rattle.inf_reader.specs.declared.items.Item.{Item}
use Rattle.inf_reader.specs.declared.items.Item.TheVariants.{TooLong, OpenHeader, Header, Line}
use Rattle.inf_reader.specs.declared.reading.Current.{Current}
use Rattle.inf_reader.specs.Tokens.{Strings}
use Rattle.inf_reader.specs.Sections.{Contents, Sections, Placed, no_contents, added, has_header, entries_from, entry_at, placed_from}
use Rattle.inf_reader.specs.Models.{models_name}

-- the folded name of the current section
abbrev pub under : Option Current → Option (List ℕ)
under None = None
under (Some c) = Some c.name.items

-- what a name's section holds so far, none where no header named it yet
abbrev pub seen_by : Option Current → Sections → Sections
seen_by None found name = found name
seen_by (Some c) found name = if bytes_eq name c.name.items then Some c.section else found name

-- the section that an item leaves current
abbrev pub under_after : Option (List ℕ) → Item → Option (List ℕ)
under_after current (TooLong n) = current
under_after current (OpenHeader n) = None
under_after current (Header name) = Some name
under_after current (Line n symbols) = current

-- what an item adds to a name's section
abbrev pub after_header : Bool → Option Contents → Option Contents
after_header true seen = Some (unwrap_or seen no_contents)
after_header false seen = seen

abbrev pub after_lines : List Entry → Option Contents → Option Contents
after_lines entries seen = option_map (λ c. added c entries) seen

abbrev pub after_item : Strings → Option (List ℕ) → List ℕ → Item → Option Contents → Option Contents
after_item strings current name (TooLong n) seen = seen
after_item strings current name (OpenHeader n) seen = seen
after_item strings current name (Header other) seen = after_header (bytes_eq name other) seen
after_item strings current name (Line n symbols) seen = after_lines (entries_from strings name current (Line n symbols ∷ [])) seen

-- what the section is once the rest of the items is read
abbrev pub finished : Strings → Option (List ℕ) → List ℕ → Option Contents → List Item → Option Contents
finished strings current name seen rest = if is_some seen || has_header name rest then Some (added (unwrap_or seen no_contents) (entries_from strings name current rest)) else None

-- the entries of the items behind a header
abbrev pub entries_at : Strings → Option (List ℕ) → List Item → List Entry
entries_at strings current items = map (entry_at strings) (placed_from current items)

-- the names that the entries of [Manufacturer] give
abbrev pub makers_from : Strings → Option (List ℕ) → List Item → List (List ℕ)
makers_from strings current items = map (λ e. models_name e.values) (entries_from strings (codes "manufacturer") current items)

abbrev pub maker_name : List ℕ → Entry → List (List ℕ)
maker_name section e = if bytes_eq (codes "manufacturer") section then models_name e.values ∷ [] else []

abbrev pub placed : List ℕ → ℕ → List Symbol → Placed
placed section number symbols = record { section = section; number = number; symbols = symbols }

abbrev pub is_strings : Option (List ℕ) → Bool
is_strings None = false
is_strings (Some name) = bytes_eq (codes "strings") name
