use Rattle.std.proofs.Common.{subst, sym}
use Rattle.explore_report.specs.Scripts.{IsShare}
use Rattle.explore_report.specs.Answers.{IsReport}
use Rattle.explore_report.proofs.Merges.{if_ok_weaker, tells_merged}
use Rattle.explore_report.proofs.told.explore_asked.Goals as goal

pub returns-in-Merged : goal.returns-in-Merged
returns-in-Merged g c =
    let asked = c.args.asked in
    if_ok_weaker c.explore_merged.result _ _ (λ r h.
    subst (λ s. IsReport (g.R.Runs.shows c.args.runs.now) (g.F.Files.contents c.args.files.now) asked.family.now asked.exploration.now asked.below asked.mark.now s r) (sym c.in-Merged.is)
    (tells_merged (g.R.Runs.shows c.args.runs.now) (g.F.Files.contents c.args.files.now) asked.family.now asked.exploration.now asked.below asked.mark.now c.in-Merged.names r
    (subst IsShare c.in-Merged.is c.requires.share).0 h))
    c.explore_merged.ensures
