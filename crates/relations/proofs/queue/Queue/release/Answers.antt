use Rattle.std.proofs.Common.{ℕ, ◌<◌, Option, IfSome, sym, subst}
use Rattle.relations.proofs.Queueing.{release_joins}
use Rattle.relations.proofs.queue.Queue.release.Goals as goal

pub returns-in_ok-push-clause-joins : goal.returns-in_ok-push-clause-joins
returns-in_ok-push-clause-joins c =
    let some = subst (λ (o : Option ℕ). IfSome o (λ n. 0 < n)) (sym c.in-Some.ensures.value) c.requires in
    release_joins c.args.self.now.counts c.args.serial c.in-Some.count.now _ _ c.in-Some.ensures.value some c.if-count-eq0.true c.in_ok-push.ensures.permutation
