use Rattle.std.proofs.Common.{◌<◌, ◌++◌, [], ◌∙◌, length, sym, ap, arith}
use Rattle.sha2.specs.Sha256.{sha256}
use Rattle.explore_report.specs.Reports.{digest_line}
use Rattle.explore_report.proofs.Looking.{lines_more}
use Rattle.explore_report.proofs.mark.push_patterns.Goals as goal

pub loop-at-preserved : goal.loop-at-preserved
loop-at-preserved c =
    let within : c.loop-at.at < length c.args.patterns.now = omega (arith, c.len-at-end.ensures, c.loop-at-test.true) in
    lines_more (λ pattern. digest_line c.args.word.now (sha256 pattern)) c.args.patterns.now c.loop-at.at c.bytes.result.now c.args.out.now.items c.loop-at.out.items c.push_digest_line.new.out.items within (c.get.ensures.item [] ∙ sym c.bytes.ensures)
    (c.in_ok-push_digest_line.ensures ∙ ap (λ d. c.loop-at.out.items ++ digest_line c.args.word.now d) c.digest.ensures) c.loop-at.invariant
