use Rattle.script_reader.specs.Wants.{list_of}
use Rattle.script_reader.proofs.Gathering.{Gathered, now_of}
use Rattle.script_reader.proofs.needs.lists_of.Given as goal

abbrev pub invariant-loop-value : goal.invariant-loop-value
invariant-loop-value l = Gathered list_of (now_of l.values) l.value-index l.reqs
