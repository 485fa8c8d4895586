-- What one more item adds to what the passes over the items found.
use Rattle.std.proofs.Common.{◌≡◌, ℕ, Bool, true, false, cond, ◌||◌, List, [], ◌∷◌, ◌++◌, map, codes, ap, sym, refl, ◌∙◌, Option, Some, None, append-nil, append_assoc, reverse}
use Rattle.std.specs.Option.{is_some, unwrap_or, option_to_list}
use Rattle.std.specs.List.{filter, flat_map}
use Rattle.std.specs.Str.{bytes_eq}
use Rattle.std.proofs.lemmas.List.{map-append, reverse-append}
use Rattle.std.proofs.lemmas.List.Elements.{filter-append}
use Rattle.std.proofs.lemmas.Grind.{flat_map-append}
use Rattle.inf_reader.specs.declared.symbols.Symbol.{Symbol}
use Rattle.inf_reader.specs.declared.items.Item.{Item}
use Rattle.inf_reader.specs.declared.items.Item.TheVariants.{TooLong, OpenHeader, Header, Line}
use Rattle.inf_reader.specs.declared.entries.Entry.{Entry}
use Rattle.inf_reader.specs.declared.section.Kind.TheVariants.{Lower, Upper}
use Rattle.inf_reader.specs.declared.parts.InfError.{InfError}
use Rattle.inf_reader.specs.declared.reading.Current.{Current}
use Rattle.inf_reader.specs.Tokens.{Strings}
use Rattle.inf_reader.specs.Entries.{is_keyed}
use Rattle.inf_reader.specs.Filters.{filters_of}
use Rattle.inf_reader.specs.Sections.{Contents, Sections, no_contents, added, is_in, placed_from, lines_from, entry_at, entries_from, has_header}
use Rattle.inf_reader.specs.Models.{models_name}
use Rattle.inf_reader.specs.Meaning.{earlier, least_of, score_fault}
use Rattle.inf_reader.specs.Reading.{under, under_after, seen_by, after_header, after_lines, after_item, finished, entries_at, makers_from}
use Rattle.inf_reader.proofs.Least.{least_more}

-- the lines
pub placed_more : (current : Option (List ℕ)) (item : Item) (rest : List Item) → placed_from current (item ∷ rest) ≡ placed_from current (item ∷ []) ++ placed_from (under_after current item) rest
placed_more current (TooLong n) rest = refl
placed_more current (OpenHeader n) rest = refl
placed_more current (Header name) rest = refl
placed_more None (Line n symbols) rest = refl
placed_more (Some name) (Line n symbols) rest = refl

pub lines_more : (name : List ℕ) (current : Option (List ℕ)) (item : Item) (rest : List Item) → lines_from name current (item ∷ rest) ≡ lines_from name current (item ∷ []) ++ lines_from name (under_after current item) rest
lines_more name current item rest = ap (filter (is_in name)) (placed_more current item rest) ∙ filter-append (is_in name) (placed_from current (item ∷ [])) (placed_from (under_after current item) rest)

-- the entries of all sections, and of one
entries_at_more : (strings : Strings) (current : Option (List ℕ)) (item : Item) (rest : List Item) → entries_at strings current (item ∷ rest) ≡ entries_at strings current (item ∷ []) ++ entries_at strings (under_after current item) rest
entries_at_more strings current item rest = ap (map (entry_at strings)) (placed_more current item rest) ∙ map-append (entry_at strings) (placed_from current (item ∷ [])) (placed_from (under_after current item) rest)

entries_from_more : (strings : Strings) (name : List ℕ) (current : Option (List ℕ)) (item : Item) (rest : List Item)
    → entries_from strings name current (item ∷ rest) ≡ entries_from strings name current (item ∷ []) ++ entries_from strings name (under_after current item) rest
entries_from_more strings name current item rest = ap (map (entry_at strings)) (lines_more name current item rest) ∙ map-append (entry_at strings) (lines_from name current (item ∷ [])) (lines_from name (under_after current item) rest)

-- the first bad score
pub fault_more : (strings : Strings) (so_far all : Option InfError) (current : Option (List ℕ)) (item : Item) (rest : List Item)
    → earlier so_far (least_of (flat_map score_fault (entries_at strings current (item ∷ rest)))) ≡ all
    → earlier (earlier so_far (least_of (flat_map score_fault (entries_at strings current (item ∷ []))))) (least_of (flat_map score_fault (entries_at strings (under_after current item) rest))) ≡ all
fault_more strings so_far all current item rest e =
    let both = ap (flat_map score_fault) (entries_at_more strings current item rest) ∙ flat_map-append score_fault (entries_at strings current (item ∷ [])) (entries_at strings (under_after current item) rest) in
    least_more so_far all (flat_map score_fault (entries_at strings current (item ∷ []))) (flat_map score_fault (entries_at strings (under_after current item) rest)) (ap (λ l. earlier so_far (least_of l)) (sym both) ∙ e)

-- the names that [Manufacturer] gives
abbrev maker : Entry → List ℕ
maker e = models_name e.values

pub makers_more : (strings : Strings) (so_far all : List (List ℕ)) (current : Option (List ℕ)) (item : Item) (rest : List Item)
    → so_far ++ makers_from strings current (item ∷ rest) ≡ all
    → (so_far ++ makers_from strings current (item ∷ [])) ++ makers_from strings (under_after current item) rest ≡ all
makers_more strings so_far all current item rest e =
    let first = entries_from strings (codes "manufacturer") current (item ∷ []) in
    let others = entries_from strings (codes "manufacturer") (under_after current item) rest in
    let both = ap (map maker) (entries_from_more strings (codes "manufacturer") current item rest) ∙ map-append maker first others in
    append_assoc so_far (map maker first) (map maker others) ∙ (ap (λ l. so_far ++ l) (sym both) ∙ e)

-- what a section holds
same_contents : (k l : List Entry) (m n p q : List (List ℕ)) → k ≡ l → m ≡ n → p ≡ q → let a : Contents = record { keyed = k; lower = m; upper = p } in let b : Contents = record { keyed = l; lower = n; upper = q } in a ≡ b
same_contents k l m n p q e f g = cc

added-nil : (c : Contents) → added c [] ≡ c
added-nil c = same_contents _ _ _ _ _ _ (append-nil c.keyed) (append-nil c.lower) (append-nil c.upper)

added-append : (c : Contents) (es fs : List Entry) → added (added c es) fs ≡ added c (es ++ fs)
added-append c es fs = same_contents _ _ _ _ _ _
    (append_assoc c.keyed (filter is_keyed es) (filter is_keyed fs) ∙ ap (λ l. c.keyed ++ l) (sym (filter-append is_keyed es fs)))
    (append_assoc c.lower (flat_map (filters_of Lower) es) (flat_map (filters_of Lower) fs) ∙ ap (λ l. c.lower ++ l) (sym (flat_map-append (filters_of Lower) es fs)))
    (append_assoc c.upper (flat_map (filters_of Upper) es) (flat_map (filters_of Upper) fs) ∙ ap (λ l. c.upper ++ l) (sym (flat_map-append (filters_of Upper) es fs)))

-- once all is read
told : Option Contents → Bool → List Entry → Option Contents
told seen more entries = cond (is_some seen || more) (Some (added (unwrap_or seen no_contents) entries)) None

header_step : (b more : Bool) (seen : Option Contents) (entries : List Entry) → told seen (b || more) entries ≡ told (after_header b seen) more entries
unfolding told
header_step true more None entries = refl
header_step true more (Some c) entries = refl
header_step false more None entries = refl
header_step false more (Some c) entries = refl

no_line_step : (more : Bool) (seen : Option Contents) (entries : List Entry) → told seen more entries ≡ told (after_lines [] seen) more entries
unfolding told
no_line_step more None entries = refl
no_line_step more (Some c) entries = ap (λ d. Some (added d entries)) (sym (added-nil c))

line_step : (more : Bool) (c : Contents) (es fs : List Entry) → told (Some c) more (es ++ fs) ≡ told (after_lines es (Some c)) more fs
unfolding told
line_step more c es fs = ap Some (sym (added-append c es fs))

in_line : (strings : Strings) (b more : Bool) (name section : List ℕ) (n : ℕ) (symbols : List Symbol) (c : Contents) (seen : Option Contents) (rest : List Item) → bytes_eq name section ≡ b
    → told (cond b (Some c) seen) more (entries_from strings name (Some section) (Line n symbols ∷ rest))
    ≡ told (after_lines (entries_from strings name (Some section) (Line n symbols ∷ [])) (cond b (Some c) seen)) more (entries_from strings name (Some section) rest)
in_line strings true more name section n symbols c seen rest at =
    ap (told (Some c) more) (entries_from_more strings name (Some section) (Line n symbols) rest)
    ∙ line_step more c (entries_from strings name (Some section) (Line n symbols ∷ [])) (entries_from strings name (Some section) rest)
in_line strings false more name section n symbols c seen rest at =
    let none : entries_from strings name (Some section) (Line n symbols ∷ []) ≡ [] = ap (λ b. map (entry_at strings) (cond b (record { section = section; number = n; symbols = symbols } ∷ []) [])) at in
    ap (told seen more) (entries_from_more strings name (Some section) (Line n symbols) rest ∙ ap (λ l. l ++ entries_from strings name (Some section) rest) none)
    ∙ (no_line_step more seen (entries_from strings name (Some section) rest) ∙ ap (λ l. told (after_lines l seen) more (entries_from strings name (Some section) rest)) (sym none))

pub finished_more : (strings : Strings) (current : Option Current) (found : Sections) (name : List ℕ) (item : Item) (rest : List Item)
    → finished strings (under current) name (seen_by current found name) (item ∷ rest)
    ≡ finished strings (under_after (under current) item) name (after_item strings (under current) name item (seen_by current found name)) rest
unfolding told
finished_more strings current found name (TooLong n) rest = refl
finished_more strings current found name (OpenHeader n) rest = refl
finished_more strings current found name (Header other) rest = header_step (bytes_eq name other) (has_header name rest) (seen_by current found name) (entries_from strings name (Some other) rest)
finished_more strings None found name (Line n symbols) rest = no_line_step (has_header name rest) (found name) (entries_from strings name None rest)
finished_more strings (Some c) found name (Line n symbols) rest = in_line strings (bytes_eq name c.name.items) (has_header name rest) name c.name.items n symbols c.section (found name) rest refl

-- behind the last item
pub finished_last : (strings : Strings) (current : Option (List ℕ)) (name : List ℕ) (seen : Option Contents) → finished strings current name seen [] ≡ seen
finished_last strings current name None = refl
finished_last strings current name (Some c) = ap Some (added-nil c)

-- the last of reversed items was taken out
pub popped : {X : Type 0} (old new : List X) (result : Option X) (x : X) → result ≡ Some x → old ≡ new ++ option_to_list result → reverse old ≡ x ∷ reverse new
popped old new result x is e = ap reverse (e ∙ ap (λ o. new ++ option_to_list o) is) ∙ reverse-append new (x ∷ [])

-- one turn of the pass
pub seen_turn : (strings : Strings) (old new : Option Current) (found later : Sections) (name : List ℕ) (item : Item) (before rest : List Item) (all : Option Contents)
    → under new ≡ under_after (under old) item → seen_by new later name ≡ after_item strings (under old) name item (seen_by old found name) → before ≡ item ∷ rest
    → finished strings (under old) name (seen_by old found name) before ≡ all → finished strings (under new) name (seen_by new later name) rest ≡ all
seen_turn strings old new found later name item before rest all is_under is_seen is_before e =
    ap (λ u. finished strings u name (seen_by new later name) rest) is_under
    ∙ (ap (λ s. finished strings (under_after (under old) item) name s rest) is_seen
    ∙ (sym (finished_more strings old found name item rest)
    ∙ (ap (finished strings (under old) name (seen_by old found name)) (sym is_before) ∙ e)))

pub makers_turn : (strings : Strings) (so_far made all : List (List ℕ)) (old new : Option (List ℕ)) (item : Item) (before rest : List Item)
    → new ≡ under_after old item → made ≡ so_far ++ makers_from strings old (item ∷ []) → before ≡ item ∷ rest
    → so_far ++ makers_from strings old before ≡ all → made ++ makers_from strings new rest ≡ all
makers_turn strings so_far made all old new item before rest is_new is_made is_before e =
    ap (λ l. l ++ makers_from strings new rest) is_made
    ∙ (ap (λ u. (so_far ++ makers_from strings old (item ∷ [])) ++ makers_from strings u rest) is_new
    ∙ makers_more strings so_far all old item rest (ap (λ l. so_far ++ makers_from strings old l) (sym is_before) ∙ e))

pub fault_turn : (strings : Strings) (so_far made all : Option InfError) (old new : Option (List ℕ)) (item : Item) (before rest : List Item)
    → new ≡ under_after old item → made ≡ earlier so_far (least_of (flat_map score_fault (entries_at strings old (item ∷ [])))) → before ≡ item ∷ rest
    → earlier so_far (least_of (flat_map score_fault (entries_at strings old before))) ≡ all → earlier made (least_of (flat_map score_fault (entries_at strings new rest))) ≡ all
fault_turn strings so_far made all old new item before rest is_new is_made is_before e =
    ap (λ f. earlier f (least_of (flat_map score_fault (entries_at strings new rest)))) is_made
    ∙ (ap (λ u. earlier (earlier so_far (least_of (flat_map score_fault (entries_at strings old (item ∷ []))))) (least_of (flat_map score_fault (entries_at strings u rest)))) is_new
    ∙ fault_more strings so_far all old item rest (ap (λ l. earlier so_far (least_of (flat_map score_fault (entries_at strings old l)))) (sym is_before) ∙ e))
