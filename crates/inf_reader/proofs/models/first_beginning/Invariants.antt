use Rattle.std.proofs.Common.{◌≡◌, drop}
use Rattle.std.specs.List.{find}
use Rattle.inf_reader.specs.Models.{begins}
use Rattle.inf_reader.proofs.models.first_beginning.Given as goal

abbrev pub invariant-loop-text : goal.invariant-loop-text
invariant-loop-text l = find (begins l.word) (drop l.text-index l.texts) ≡ find (begins l.word) l.texts
