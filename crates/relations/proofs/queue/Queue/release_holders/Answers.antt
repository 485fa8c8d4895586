use Rattle.std.proofs.Common.{ℕ, ◌+◌, ◌-◌, ◌≤◌, ◌==◌, ◌∙◌, ap, cond, nat_eq, option_map, subst, sym, IfSome}
use Rattle.std.specs.BinaryHeap.{heap_items}
use Rattle.std.specs.HashMap.{get}
use Rattle.std.proofs.lemmas.Result.{on_ok_weaker}
use Rattle.relations.specs.Queues.{number, freed}
use Rattle.relations.proofs.queue.Queue.release_holders.Goals as goal

pub release_all-requires-clause-enough : goal.release_all-requires-clause-enough
release_all-requires-clause-enough c q =
    let seen = ap (number q) c.deref.ensures.value ∙ c.in_ok-found.ensures (λ (j : ℕ). cond (j == q) 1 0) in
    subst (λ (n : ℕ). IfSome (get nat_eq c.args.self.now.counts q) (λ m. n ≤ m)) (sym seen) (c.requires.enough q)

pub returns-clause-lowered : goal.returns-clause-lowered
returns-clause-lowered c =
    let seen = λ (q : ℕ). ap (number q) c.deref.ensures.value ∙ c.in_ok-found.ensures (λ (j : ℕ). cond (j == q) 1 0) in
    on_ok_weaker c.release_all.result (λ lowered q. lowered q ∙ ap (λ n. option_map (λ m. m - n) (get nat_eq c.args.self.now.counts q)) (seen q)) c.release_all.ensures.lowered

pub returns-clause-joins : goal.returns-clause-joins
returns-clause-joins c =
    let seen = λ (q : ℕ). ap (number q) c.deref.ensures.value ∙ c.in_ok-found.ensures (λ (j : ℕ). cond (j == q) 1 0) in
    on_ok_weaker c.release_all.result (λ joins q. joins q ∙ ap (λ n. number q (heap_items c.args.self.now.free) + freed (get nat_eq c.args.self.now.counts q) n) (seen q)) c.release_all.ensures.joins
