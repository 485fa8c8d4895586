use Rattle.std.proofs.Common.{◌≡◌, drop}
use Rattle.std.specs.List.{find}
use Rattle.inf_reader.specs.Models.{is_word}
use Rattle.inf_reader.proofs.models.first_word.Given as goal

abbrev pub invariant-loop-text : goal.invariant-loop-text
invariant-loop-text l = find (is_word l.word) (drop l.text-index l.texts) ≡ find (is_word l.word) l.texts
