-- What is told of a device that moved.
use Rattle.std.specs.Prelude.{codes}
use Rattle.pnp_labels.specs.Texts.{Text}
use Rattle.why_facts.specs.Notes.{Noting, added, said}

-- `PATH has now NEW; before: OLD.`
abbrev pub moved : Text → Text → Text → Noting → Noting
moved path old new n = said (codes ".") (added old (added (codes "; before: ") (added new (added (codes " has now ") (added path n)))))
