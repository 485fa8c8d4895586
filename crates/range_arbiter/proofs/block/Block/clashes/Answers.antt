use Rattle.std.proofs.Common.{◌≡◌, ◌||◌, true, sym, ◌∙◌, ap, subst}
use Rattle.std.specs.Prelude.{nat_lt}
use Rattle.resource_reqs.specs.Resources.{Res}
use Rattle.range_arbiter.specs.Spans.{Covers}
use Rattle.range_arbiter.proofs.Clashing.{apart_any}
use Rattle.range_arbiter.proofs.block.Block.clashes.Goals as goal

pub returns-then-misses : goal.returns-then-misses
returns-then-misses c =
    let own : c.res.inside.shared ≡ c.args.res.now.shared = ap (λ (r : Res). r.shared) c.res.view_is in
    let low : c.res.inside.lo ≡ c.args.res.now.lo = ap (λ (r : Res). r.lo) c.res.view_is in
    let high : c.res.inside.hi ≡ c.args.res.now.hi = ap (λ (r : Res). r.hi) c.res.view_is in
    let s = c.span-span.result in
    let apart : (nat_lt s.reach s.lo || (nat_lt s.reach c.res.inside.lo || nat_lt c.res.inside.hi s.lo)) ≡ true = sym c.misses.ensures ∙ c.if-misses.true in
    sym (apart_any c.args.res.now c.args.self.now s (subst (λ b. Covers b c.args.self.now s) own c.span-span.ensures)
    (subst (λ h. (nat_lt s.reach s.lo || (nat_lt s.reach c.args.res.now.lo || nat_lt h s.lo)) ≡ true) high
    (subst (λ l. (nat_lt s.reach s.lo || (nat_lt s.reach l || nat_lt c.res.inside.hi s.lo)) ≡ true) low apart)))
