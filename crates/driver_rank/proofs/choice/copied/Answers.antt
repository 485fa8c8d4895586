use Rattle.std.proofs.Common.{◌≡◌, ◌++◌, [], ◌∷◌, arith, sym, ap, ◌∙◌}
use Rattle.driver_rank.proofs.Steps.{take_item}
use Rattle.driver_rank.proofs.choice.copied.Goals as goal

pub loop-at-preserved : goal.loop-at-preserved
loop-at-preserved c =
    let put : c.push.new.self ≡ c.loop-at.texts ++ c.get.result.now ∷ [] = cc (c.in_ok-push.ensures.pushed, c.in_ok-copy.ensures) in
    put ∙ (ap (λ l. l ++ c.get.result.now ∷ []) c.loop-at.invariant ∙ sym (take_item c.args.from.now c.loop-at.at c.get.result.now (omega arith) c.get.ensures.item))
