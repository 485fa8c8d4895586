use Rattle.std.proofs.Common.{◌≡◌, ◌++◌, [], ◌∷◌, arith}
use Rattle.inf_reader.proofs.Scans.{copy_more}
use Rattle.inf_reader.proofs.models.push_copies.Goals as goal

pub loop-at-preserved : goal.loop-at-preserved
loop-at-preserved c =
    let put : c.push.new.self ≡ c.loop-at.filters ++ c.get.result.now ∷ [] = cc (c.in_ok-push.ensures.pushed, c.in_ok-copy.ensures) in
    copy_more c.loop-at.filters _ c.args.from.now c.loop-at.at c.get.result.now c.push.new.self c.loop-at.invariant (omega arith) c.get.ensures.item put
