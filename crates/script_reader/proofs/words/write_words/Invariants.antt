use Rattle.std.proofs.Common.{◌≡◌, length}
use Rattle.script_reader.proofs.Wording.{Written}
use Rattle.script_reader.proofs.words.write_words.Given as goal

abbrev pub invariant-loop-word : goal.invariant-loop-word
invariant-loop-word l = Written l.line l.rest l.count l.words × (length l.words ≡ length l.initial.words)

abbrev pub decreases-loop-word : goal.decreases-loop-word
decreases-loop-word l = length l.rest
