use Rattle.std.proofs.Common.{◌≤◌, ◌<◌, ℕ, IfSome, IfNone, subst}
use Rattle.resource_reqs.specs.Resources.{IsOpen}
use Rattle.range_arbiter.specs.Pairs.{Arbiter, res_list}
use Rattle.irq_dma_arbiter.proofs.arbiter.NumberArbiter.next_place.Goals as goal

pub returns-clause-least : goal.returns-clause-least
returns-clause-least c =
    subst (λ (a : Arbiter). IfSome c.next_place.result (λ s. (t : ℕ) → c.args.from ≤ t → t < s → ¬ IsOpen (res_list a.pairs) c.args.want.now t)) c.self.view_is c.next_place.ensures.least

pub returns-clause-none : goal.returns-clause-none
returns-clause-none c =
    subst (λ (a : Arbiter). IfNone c.next_place.result ((t : ℕ) → c.args.from ≤ t → ¬ IsOpen (res_list a.pairs) c.args.want.now t)) c.self.view_is c.next_place.ensures.none
