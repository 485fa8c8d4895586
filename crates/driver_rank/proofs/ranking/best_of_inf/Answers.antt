use Rattle.std.proofs.Common.{◌+◌, drop, ap, sym, ◌∙◌, arith, option_map}
use Rattle.driver_rank.specs.Candidates.{match_of}
use Rattle.driver_rank.specs.Lookups.{base_found}
use Rattle.driver_rank.specs.Passes.{best_from}
use Rattle.driver_rank.proofs.Steps.{line_met, line_passed, none_from}
use Rattle.driver_rank.proofs.ranking.best_of_inf.Goals as goal
use Rattle.driver_rank.proofs.ranking.best_of_inf.Goals.{in-Some, in_default}

pub loop-place-preserved : goal.loop-place-preserved
loop-place-preserved c =
    let f = base_found c.args.ids.now in
    let inf = c.args.inf.now in
    let before = option_map match_of c.loop-place.found in
    elim c.match-branch-2.branch [
      | in-Some w ↦ line_met f c.args.number inf before _ c.loop-place.place inf.lines c.get-line.result.now c.loop-place.invariant (omega arith) c.get-line.ensures.item
          w.in-Some.rank (option_map match_of c.match-branch-2.found) (sym w.in-Some.is ∙ c.in_ok-rank.ensures) (ap (option_map match_of) w.found-is ∙ w.better-found.ensures)
      | in_default w ↦
          ap (λ m. best_from f c.args.number inf (option_map match_of m) (c.loop-place.place + 1) (drop (c.loop-place.place + 1) inf.lines)) w.found-is
          ∙ line_passed f c.args.number inf before _ c.loop-place.place inf.lines c.get-line.result.now c.loop-place.invariant (omega arith) c.get-line.ensures.item
          (sym (none_from c.in_ok-rank.field-0 w.in_default.not-Some) ∙ c.in_ok-rank.ensures)
    ]
