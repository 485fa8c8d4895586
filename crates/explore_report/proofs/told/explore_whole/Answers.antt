use Rattle.std.proofs.Common.{subst}
use Rattle.ending_tally.specs.Steps.{told}
use Rattle.explore_report.specs.Scripts.{IsTallyOf}
use Rattle.explore_report.proofs.Numbers.{all_of_one}
use Rattle.explore_report.proofs.told.explore_whole.Goals as goal

pub returns : goal.returns
returns g c = record {
  told = told c.in_ok-tally.tally;
  tally = subst (λ ns. IsTallyOf (g.R.Runs.shows c.args.runs.now) c.args.asked.family.now c.args.asked.exploration.now.expected c.args.asked.exploration.now.exact ns (told c.in_ok-tally.tally)) (all_of_one c.args.asked.below) c.in_ok-tally.ensures;
  report = c.in_ok-report.ensures;
}
