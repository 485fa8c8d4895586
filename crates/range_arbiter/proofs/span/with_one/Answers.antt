use Rattle.std.proofs.Common.{◌≡◌, ◌≤◌, ◌∷◌, [], false, sym, ◌∙◌, ap, arith}
use Rattle.std.specs.Prelude.{nat_lt}
use Rattle.std.proofs.lemmas.Bool.{ltb-true}
use Rattle.std.proofs.lemmas.Bool.Decides.{nat_tests}
use Rattle.resource_reqs.specs.Resources.{Res}
use Rattle.range_arbiter.proofs.Spanning.{covers_one, covers_back, covers_both}
use Rattle.range_arbiter.proofs.span.with_one.Goals as goal

pub returns-then-is_nothing : goal.returns-then-is_nothing
returns-then-is_nothing c = λ shared xs blocks front.
    let lo : c.res.inside.lo ≡ c.args.pair.now.1.lo = ap (λ (r : Res). r.lo) c.res.view_is in
    let hi : c.res.inside.hi ≡ c.args.pair.now.1.hi = ap (λ (r : Res). r.hi) c.res.view_is in
    let ordered : c.res.inside.lo ≤ c.res.inside.hi = c.res.invariant in
    covers_back shared xs (c.args.pair.now ∷ []) c.args.span (record { lo = c.res.inside.lo; reach = c.res.inside.hi; gap = 0 })
    (ltb-true c.args.span.reach c.args.span.lo (sym c.is_nothing.ensures ∙ c.if-is_nothing.true)) front
    (covers_one shared c.args.pair.now (record { lo = c.res.inside.lo; reach = c.res.inside.hi; gap = 0 }) blocks (omega arith) lo hi)

pub returns : goal.returns
returns c = λ shared xs blocks front.
    let lo : c.res.inside.lo ≡ c.args.pair.now.1.lo = ap (λ (r : Res). r.lo) c.res.view_is in
    let hi : c.res.inside.hi ≡ c.args.pair.now.1.hi = ap (λ (r : Res). r.hi) c.res.view_is in
    let ordered : c.res.inside.lo ≤ c.res.inside.hi = c.res.invariant in
    let some : nat_lt c.args.span.reach c.args.span.lo ≡ false = sym c.is_nothing.ensures ∙ c.if-is_nothing.false in
    let some_span : c.args.span.lo ≤ c.args.span.reach = grind (arith, nat_tests) in
    covers_both shared xs (c.args.pair.now ∷ []) c.args.span (record { lo = c.res.inside.lo; reach = c.res.inside.hi; gap = 0 })
    (record { lo = c.min.result; reach = c.max.result; gap = c.max-2.result }) c.between.result some_span ordered
    c.min.ensures c.max.ensures (omega (arith, c.max-2.ensures)) (omega arith) (omega (arith, c.max-2.ensures))
    c.between.ensures front (covers_one shared c.args.pair.now (record { lo = c.res.inside.lo; reach = c.res.inside.hi; gap = 0 }) blocks (omega arith) lo hi)
