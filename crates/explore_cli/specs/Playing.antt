-- What the run of a script shows, over the drivers of the program.
use Rattle.std.specs.Prelude.{ℕ, ◌≡◌, List, map}
use Rattle.pnp_labels.specs.Texts.{label_line}
use Rattle.pnp_labels.specs.declared.label.Label.{Label}
use Rattle.pnp_model.specs.Endings.{ending, joined}
use Rattle.pnp_model.specs.Records.{Settings}
use Rattle.pnp_model.specs.Runs.{opening}
use Rattle.notify_front.specs.Fronts.{Front, opening_front}
use Rattle.pnp_cli.specs.Contents.{events_of}
use Rattle.pnp_cli.specs.Outputs.{Plays}
use Rattle.pnp_cli.specs.Racks.{program_rack}
use Rattle.script_play.specs.Playing.{Playing, Played, Ended}
use Rattle.explore_report.specs.declared.expected.Expected.{Expected}
use Rattle.explore_report.specs.declared.expected.Seen.{Seen}
use Rattle.explore_report.specs.Expectations.{HasSeen}

-- A script's events happen one after another to a front to which nothing happened, over the drivers of the program: these are the lines of all labels, and this is the end of the output.
pub record Shows (settings : Settings) (script : List ℕ) (lines : List (List ℕ)) (text : List ℕ) : Type 0 where
  pub labels : List Label
  pub last : Front
  pub plays : Plays settings (opening_front (opening program_rack)) (events_of script) labels last
  pub told : lines ≡ map label_line labels
  pub ending : text ≡ joined (ending last.state)

-- ---- one label after another

-- these labels were told since the start, and their lines were looked at
pub record SawPlayed (start : Playing) (expected : Expected) (now : Playing) (seen : Seen) : Type 0 where
  pub labels : List Label
  pub played : Played start labels now
  pub looked : HasSeen expected (map label_line labels) seen

-- these were all labels of the run, and their lines were looked at
pub record SawEnded (start : Playing) (expected : Expected) (now : Playing) (seen : Seen) : Type 0 where
  pub labels : List Label
  pub ended : Ended start labels now
  pub looked : HasSeen expected (map label_line labels) seen
