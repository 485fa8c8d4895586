-- The filters that the lines of a section of registry values add (the driver kit, "INF AddReg Directive").
use Rattle.std.specs.Prelude.{ℕ, List, [], ◌∷◌, Bool, true, false, ◌==◌, ◌&&◌, not, if◌then◌else◌, drop, codes, bit_and}
use Rattle.std.specs.List.{filter}
use Rattle.device_ids.specs.Folding.{same}
use Rattle.inf_reader.specs.declared.entries.Entry.{Entry}
use Rattle.inf_reader.specs.declared.section.Kind.{Kind}
use Rattle.inf_reader.specs.declared.section.Kind.TheVariants.{Lower, Upper}
use Rattle.inf_reader.specs.Entries.{is_keyed, value_at}
use Rattle.inf_reader.specs.Numbers.{flags_of}

-- a number has a bit, here told by the power of two
abbrev pub has_bit : ℕ → List ℕ → Bool
has_bit bit text = not (bit_and (flags_of text) bit == 0)

abbrev pub is_some_text : List ℕ → Bool
is_some_text [] = false
is_some_text (b ∷ text) = true

abbrev pub word_of : Kind → List ℕ
word_of Lower = codes "LowerFilters"
word_of Upper = codes "UpperFilters"

-- a line without a key: HKR, nothing, the kind's word, a number with the bit 0x00010000, and then the filters
abbrev pub adds_filters : Kind → Entry → Bool
adds_filters kind e = not (is_keyed e) && (same (value_at e.values 0) (codes "HKR") && (not (is_some_text (value_at e.values 1))
    && (same (value_at e.values 2) (word_of kind) && has_bit 0x0001_0000 (value_at e.values 3))))

-- empty values add none
abbrev pub filters_of : Kind → Entry → List (List ℕ)
filters_of kind e = if adds_filters kind e then filter is_some_text (drop 4 e.values) else []
