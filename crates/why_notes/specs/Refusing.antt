-- Who refused last, and what is told of what moved.
use Rattle.std.specs.Prelude.{List, [], ◌∷◌, Option, Some, None, if◌then◌else◌}
use Rattle.device_ids.specs.Folding.{same}
use Rattle.pnp_labels.specs.Texts.{Text}
use Rattle.why_facts.specs.declared.facts.AskedDriver.{AskedDriver}

-- this one, if it is of the path, and else the one before
abbrev pub later : Text → Option AskedDriver → AskedDriver → Option AskedDriver
later path last asked = if same asked.path path then Some asked else last

-- the last of those who refused for a path, or else this one
abbrev pub last_from : Text → Option AskedDriver → List AskedDriver → Option AskedDriver
last_from path last [] = last
last_from path last (asked ∷ refused) = last_from path (later path last asked) refused

abbrev pub last_of : Text → List AskedDriver → Option AskedDriver
last_of path refused = last_from path None refused
