use Rattle.std.proofs.Common.{◌≡◌, ◌++◌, drop}
use Rattle.std.specs.List.{flat_map}
use Rattle.inf_reader.specs.Found.{section_found, IsKept}
use Rattle.inf_reader.specs.Models.{models_of}
use Rattle.inf_reader.proofs.models.push_all_models.Given as goal

abbrev pub invariant-loop-name : goal.invariant-loop-name
invariant-loop-name l = record {
  lines : l.lines ++ flat_map (models_of (section_found l.sections)) (drop l.name-index l.name-items) ≡ l.initial.lines ++ flat_map (models_of (section_found l.sections)) l.name-items;
  kept : IsKept (section_found l.sections) l.installs;
}
