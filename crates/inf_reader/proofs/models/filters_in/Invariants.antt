use Rattle.std.proofs.Common.{◌≡◌, ◌++◌, drop}
use Rattle.std.specs.List.{flat_map}
use Rattle.inf_reader.specs.Found.{section_found}
use Rattle.inf_reader.specs.Models.{filters_by}
use Rattle.inf_reader.proofs.models.filters_in.Given as goal

abbrev pub invariant-loop-entry : goal.invariant-loop-entry
invariant-loop-entry l = l.filters ++ flat_map (filters_by (section_found l.sections) l.kind) (drop l.entry-index l.entries) ≡ flat_map (filters_by (section_found l.sections) l.kind) l.entries
