use Rattle.script_reader.specs.Lines.{is_attribute}
use Rattle.script_reader.specs.declared.cause.Cause.{Cause}
use Rattle.script_reader.proofs.Gathering.{now_of}
use Rattle.script_reader.proofs.Sifting.{Passes}
use Rattle.script_reader.proofs.needs.are_attributes.Given as goal

abbrev pub invariant-loop-word : goal.invariant-loop-word
invariant-loop-word l = Passes is_attribute Cause.NotAttribute (now_of l.words) l.word-index
