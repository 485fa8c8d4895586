use Rattle.std.proofs.Common.{◌≡◌, take}
use Rattle.script_family.specs.Texts.{text_of}
use Rattle.script_family.proofs.family.text_of.Given as goal

abbrev pub invariant-loop-at : goal.invariant-loop-at
invariant-loop-at l = l.lines.items ≡ text_of l.text (take l.at-index l.places)
