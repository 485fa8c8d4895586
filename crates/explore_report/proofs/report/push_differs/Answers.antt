use Rattle.std.proofs.Common.{◌++◌, ◌∙◌, codes, ap}
use Rattle.std.specs.Fmt.{decimal}
use Rattle.std.proofs.lemmas.Result.{on_ok_weaker}
use Rattle.explore_report.specs.Reports.{number_line}
use Rattle.explore_report.proofs.Appending.{two}
use Rattle.explore_report.proofs.report.push_differs.Goals as goal

pub returns : goal.returns
returns c = on_ok_weaker c.push_place-2.result (λ after.
    let start = c.args.out.now.items in
    let first = c.in_ok-push_told.ensures ∙ ap (λ n. start ++ (codes "differs from " ++ decimal n)) c.saturating_add.ensures in
    let second = c.in_ok-push_number_line.ensures ∙ ap (λ n. c.push_told.new.out.items ++ number_line (codes " line ") n) c.saturating_add-2.ensures in
    two start c.push_place.new.out.items c.push_place-2.new.out.items _ _
    (two start c.push_number_line.new.out.items c.push_place.new.out.items _ _ (two start c.push_told.new.out.items c.push_number_line.new.out.items _ _ first second) c.in_ok-push_place.ensures) after)
    c.push_place-2.ensures
