use Rattle.std.proofs.Common.{◌++◌, ◌∙◌, sym, ap, map, rules}
use Rattle.std.specs.Map.Iter.{deref}
use Rattle.std.proofs.lemmas.Map.Iter.{rest_more, rest_all}
use Rattle.std.proofs.lemmas.List.Sorted.{answers_always}
use Rattle.ending_tally.proofs.Lines.{snoc}
use Rattle.ending_tally.proofs.Texts.{endings_done}
use Rattle.ending_tally.proofs.tally.Tally.endings.Goals as goal

pub loop-ending-preserved : goal.loop-ending-preserved
loop-ending-preserved c =
    ap (λ l. map (λ e. e.now) l ++ c.next.new.self) c.in_ok-push.ensures.items
    ∙ snoc (λ e. e.now) c.loop-ending.all.items c.in-Some.ending c.next.new.self _
    (ap (λ l. map (λ e. e.now) c.loop-ending.all.items ++ l) (sym (rest_more deref _ _ _ _ c.in-Some.is c.next.ensures.steps)) ∙ c.loop-ending.invariant)

pub returns : goal.returns
returns c =
    endings_done c.args.self.now.endings c.loop-ending.all.items _ c.loop-ending.ending-iterator
    (rest_all deref _ _ _ c.in-None.is c.next.ensures.steps) c.values-ending-items.ensures.ordered c.loop-ending.invariant
    (c.in_ok-sort_by_key.ensures.sorted (λ e. e.now.mark.first) (answers_always _ _ _ (λ f a r g h. search rules)))
    (c.sort_by_key.ensures.stable (λ e. e.now.mark.first) (answers_always _ _ _ (λ f a r g h. search rules)))
