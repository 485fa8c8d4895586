use Rattle.std.proofs.Common.{◌≡◌, drop, None}
use Rattle.std.specs.Prelude.{option_copied}
use Rattle.why_notes.specs.Refusing.{last_from}
use Rattle.why_notes.proofs.refusals.last_of.Given as goal

abbrev pub invariant-loop-at : goal.invariant-loop-at
invariant-loop-at l = last_from l.path (option_copied l.last) (drop l.at l.refused) ≡ last_from l.path None l.refused
