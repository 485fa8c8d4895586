use Rattle.script_reader.specs.Lines.{is_need}
use Rattle.script_reader.specs.declared.cause.Cause.{Cause}
use Rattle.script_reader.proofs.Gathering.{now_of}
use Rattle.script_reader.proofs.Sifting.{Passes}
use Rattle.script_reader.proofs.needs.are_needs.Given as goal

abbrev pub invariant-loop-word : goal.invariant-loop-word
invariant-loop-word l = Passes is_need Cause.NotNeed (now_of l.words) l.word-index
