-- What the answer of a check says.
use Rattle.free_model.specs.Checks.{Verdict, Yes, No}
use Rattle.trace_check.specs.declared.check.Checked.{Checked}

abbrev pub verdict : Checked → Verdict
verdict Checked.Yes = Yes
verdict (Checked.No line) = No line
