use Rattle.std.proofs.Common.{sym, ◌∙◌, ap}
use Rattle.resource_reqs.specs.Resources.{Res}
use Rattle.range_arbiter.specs.Pairs.{Pair}
use Rattle.range_arbiter.proofs.Knowing.{unshared_first, unshared_none}
use Rattle.range_arbiter.proofs.known.Known.unshared_and.Goals as goal

pub returns-then-pair : goal.returns-then-pair
returns-then-pair c = λ xs h. unshared_first xs c.args.pair.now c.args.self c.in-None.is (sym (ap (λ (r : Res). r.shared) (ap (λ (p : Pair). p.1) c.pair.view_is)) ∙ c.if-pair.true) h

pub returns-else-pair : goal.returns-else-pair
returns-else-pair c = λ xs h. unshared_none xs c.args.pair.now c.args.self c.in-None.is (sym (ap (λ (r : Res). r.shared) (ap (λ (p : Pair). p.1) c.pair.view_is)) ∙ c.if-pair.false) h
