use Rattle.std.proofs.Common.{◌+◌, take, drop, ap, ◌∙◌, arith, nat_lt}
use Rattle.driver_rank.specs.First.{first_of}
use Rattle.driver_rank.specs.Lookups.{base_found, id_rank}
use Rattle.driver_rank.specs.Passes.{ranks_from}
use Rattle.driver_rank.proofs.Steps.{rank_more}
use Rattle.driver_rank.proofs.ranking.line_rank.Goals as goal

pub loop-at-preserved : goal.loop-at-preserved
loop-at-preserved c =
    let f = base_found c.args.ids.now in
    let line = c.args.line.now in
    let at = c.loop-at.at in
    let met = c.lesser-least.ensures ∙ ap (first_of nat_lt c.loop-at.least) (c.in_ok-rank.ensures ∙ ap (id_rank f line.score at) c.bytes.ensures) in
    ap (λ r. ranks_from f line.score r (at + 1) (drop (at + 1) (take 8 line.ids))) met
    ∙ rank_more f line.score c.loop-at.least _ at line.ids c.get.result.now c.loop-at.invariant (omega arith) (omega arith) c.get.ensures.item
