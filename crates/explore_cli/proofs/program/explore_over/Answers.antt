use Rattle.std.proofs.Common.{refl, subst, ap, ◌∙◌}
use Rattle.sha2.specs.Sha256.{sha256}
use Rattle.start_sequence.specs.Begins.{settings_of}
use Rattle.explore_report.specs.Scripts.{below_of}
use Rattle.explore_report.specs.Marks.{mark_text}
use Rattle.explore_report.specs.Answers.{IsReport}
use Rattle.explore_cli.specs.Playing.{Shows}
use Rattle.explore_cli.specs.Explored.{is_told}
use Rattle.explore_cli.proofs.Outputs.{all_told}
use Rattle.explore_cli.proofs.program.explore_over.Goals as goal

pub returns-clause-told : goal.returns-clause-told
returns-clause-told g c = ap is_told c.status_of-status.ensures ∙ all_told c.in_ok-text.field-0.found

pub returns-clause-explored : goal.returns-clause-explored
returns-clause-explored g c =
    let contents = g.F.Files.contents c.args.files.now in
    let family = c.args.family.now in
    let e = c.args.exploration.now in
    let report = c.in_ok-text.field-0 in
    record {
      report = report;
      is = subst (λ ds. IsReport (Shows (settings_of c.args.infs.read.items e.budget)) contents family e (below_of family e) (sha256 (mark_text c.args.digest.now ds e)) e.share report) c.deref.ensures.value
          (subst (λ s. IsReport (Shows s) contents family e (below_of family e) (sha256 (mark_text c.args.digest.now c.deref.result.now e)) e.share report) c.in_ok-player.ensures c.in_ok-text.ensures);
      text_is = refl;
      status_is = c.status_of-status.ensures;
    }
