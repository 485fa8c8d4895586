use Rattle.std.proofs.Common.{◌≡◌, drop}
use Rattle.trace_check.specs.Letters.{answer_from}
use Rattle.trace_check.proofs.letters.answer_of.Given as goal

abbrev pub invariant-loop-byte : goal.invariant-loop-byte
invariant-loop-byte l = answer_from 0 l.rest ≡ answer_from l.letter (drop l.byte-index l.rest)
