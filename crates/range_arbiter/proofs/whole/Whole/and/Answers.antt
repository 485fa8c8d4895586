use Rattle.std.proofs.Common.{IfSome, sym, subst}
use Rattle.range_arbiter.specs.Pairs.{Pair, pairs_with}
use Rattle.range_arbiter.specs.Known.{Knows}
use Rattle.range_arbiter.proofs.PairLists.{with_once}
use Rattle.range_arbiter.proofs.Knowing.{knows_with}
use Rattle.range_arbiter.proofs.whole.Whole.and.Goals as goal
use Rattle.range_arbiter.proofs.whole.Whole.and.Goals.{in-Some, in-None}

pub returns : goal.returns
returns c = λ xs tells.
    let p : Pair = c.args.pair in
    let known : IfSome c.match-self.known (λ k. Knows (pairs_with xs p) k) = elim c.match-self.branch [
      | in-Some w ↦
          let was = subst (λ o. IfSome o (λ k. Knows xs k)) w.in-Some.is tells.known in
          subst (λ o. IfSome o (λ k. Knows (pairs_with xs p) k)) (sym w.known-is) (knows_with xs p w.and.result (w.and.ensures xs was))
      | in-None w ↦ subst (λ o. IfSome o (λ k. Knows (pairs_with xs p) k)) (sym w.known-is) tt
    ] in
    record {
      known = known;
      before = λ rest e. subst (λ l. IfSome c.args.self.known (λ k. Knows l k)) (with_once xs rest p e) tells.known;
    }
