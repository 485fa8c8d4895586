use Rattle.std.proofs.Common.{◌≡◌, ◌≤◌, sym, ◌∙◌, ap, arith}
use Rattle.std.proofs.lemmas.Bool.{both_ways}
use Rattle.resource_reqs.specs.Resources.{Res}
use Rattle.range_arbiter.specs.Spans.{Blocks}
use Rattle.range_arbiter.proofs.Spanning.{covers_one}
use Rattle.range_arbiter.proofs.span.Span.of.Goals as goal
use Rattle.range_arbiter.proofs.span.Span.of.Goals.{else-shared-via-then-shared+else-res, else-shared-via-else-shared}

pub returns : goal.returns
returns c =
    let lo : c.res.inside.lo ≡ c.args.pair.now.1.lo = ap (λ (r : Res). r.lo) c.res.view_is in
    let hi : c.res.inside.hi ≡ c.args.pair.now.1.hi = ap (λ (r : Res). r.hi) c.res.view_is in
    let own : c.res.inside.shared ≡ c.args.pair.now.1.shared = ap (λ (r : Res). r.shared) c.res.view_is in
    let ordered : c.res.inside.lo ≤ c.res.inside.hi = c.res.invariant in
    let blocks : Blocks c.args.shared c.args.pair.now.1 = elim c.else-shared.branch [
      | else-shared-via-then-shared+else-res w ↦ λ both. both_ways c.args.pair.now.1.shared (sym own ∙ w.if-res.false) both.0
      | else-shared-via-else-shared w ↦ λ both. both_ways c.args.shared w.if-shared.false both.1
    ] in
    covers_one c.args.shared c.args.pair.now (record { lo = c.res.inside.lo; reach = c.res.inside.hi; gap = 0 }) blocks (omega arith) lo hi
