use Rattle.std.proofs.Common.{◌≡◌, ◌++◌, drop, map}
use Rattle.inf_reader.specs.Found.{section_found, IsKept}
use Rattle.inf_reader.specs.Models.{model_line}
use Rattle.inf_reader.proofs.models.push_models.Given as goal

abbrev pub invariant-loop-entry : goal.invariant-loop-entry
invariant-loop-entry l = record {
  lines : l.lines ++ map (model_line (section_found l.sections)) (drop l.entry-index l.entries) ≡ l.initial.lines ++ map (model_line (section_found l.sections)) l.entries;
  kept : IsKept (section_found l.sections) l.installs;
}
