use Rattle.std.proofs.Common.{◌≡◌, ◌++◌, ℕ, List, length, reverse}
use Rattle.std.specs.List.{flat_map}
use Rattle.inf_reader.specs.Found.{text_found}
use Rattle.inf_reader.specs.Maps.{by_key}
use Rattle.inf_reader.specs.Sections.{sections_of, entries_of}
use Rattle.inf_reader.specs.Meaning.{earlier, least_of, score_fault, makers_of}
use Rattle.inf_reader.specs.Reading.{finished, under, seen_by, entries_at, makers_from}
use Rattle.inf_reader.proofs.reading.index_of.Given as goal

abbrev pub invariant-loop-item : goal.invariant-loop-item
invariant-loop-item l = record {
  seen : (name : List ℕ) → finished (text_found l.strings) (under l.current) name (seen_by l.current (by_key l.sections) name) (reverse l.items.items) ≡ sections_of (text_found l.strings) l.fn.items.items name;
  makers : l.gathered.makers ++ makers_from (text_found l.strings) (under l.current) (reverse l.items.items) ≡ makers_of (text_found l.strings) l.fn.items.items;
  fault : earlier l.gathered.fault (least_of (flat_map score_fault (entries_at (text_found l.strings) (under l.current) (reverse l.items.items)))) ≡ least_of (flat_map score_fault (entries_of (text_found l.strings) l.fn.items.items));
}

abbrev pub decreases-loop-item : goal.decreases-loop-item
decreases-loop-item l = length l.items.items
