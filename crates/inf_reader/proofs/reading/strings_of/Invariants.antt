use Rattle.std.proofs.Common.{◌≡◌, ℕ, List, drop, codes}
use Rattle.std.specs.Option.{option_map}
use Rattle.inf_reader.specs.Maps.{by_key}
use Rattle.inf_reader.specs.Numbers.{or_else}
use Rattle.inf_reader.specs.Sections.{first_string, lines_from, strings_of}
use Rattle.inf_reader.proofs.reading.strings_of.Given as goal

abbrev pub invariant-loop-item : goal.invariant-loop-item
invariant-loop-item l = (name : List ℕ) → or_else (by_key l.texts name) (first_string name (lines_from (codes "strings") (option_map (λ s. s.now) l.section) (drop l.item-index l.items))) ≡ strings_of l.items name
