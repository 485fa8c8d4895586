use Rattle.std.proofs.Common.{◌≡◌, ◌++◌, drop}
use Rattle.inf_reader.specs.Found.{section_found}
use Rattle.inf_reader.specs.Models.{filters_in_all}
use Rattle.inf_reader.proofs.models.push_named_filters.Given as goal

abbrev pub invariant-loop-name : goal.invariant-loop-name
invariant-loop-name l = l.filters ++ filters_in_all (section_found l.sections) l.kind (drop l.name-index l.name-items) ≡ l.initial.filters ++ filters_in_all (section_found l.sections) l.kind l.name-items
