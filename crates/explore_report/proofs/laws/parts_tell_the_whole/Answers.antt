use Rattle.explore_report.proofs.OneRun.{parts_tell_the_whole}
use Rattle.explore_report.proofs.laws.parts_tell_the_whole.Goals as goal

pub returns : goal.returns
returns g c = parts_tell_the_whole (g.R.Runs.shows c.args.runs.now) (g.met.R.Runs.one c.args.runs.now)
