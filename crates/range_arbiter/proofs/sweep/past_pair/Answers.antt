use Rattle.std.proofs.Common.{◌≡◌, ◌≤◌, ◌+◌, ◌-◌, ap, subst, arith}
use Rattle.std.proofs.lemmas.Bool.{both_ways}
use Rattle.std.proofs.lemmas.Result.{IfErr-weaker}
use Rattle.resource_reqs.specs.Resources.{IsWant, Res, Clash, res_at}
use Rattle.range_arbiter.proofs.Sweeping.{passed_pair, passed_clash, ended_clash, stopped_pair, with_ok}
use Rattle.range_arbiter.proofs.sweep.past_pair.Goals as goal

pub returns-then-place-want-clause-ended : goal.returns-then-place-want-clause-ended
returns-then-place-want-clause-ended c =
    let is : IsWant c.args.want.now = subst IsWant c.want.view_is c.want.invariant in
    let len_is : c.want.inside.len ≡ c.args.want.now.len = ap (λ w. w.len) c.want.view_is in
    let lo : c.other.inside.lo ≡ c.args.pair.now.1.lo = ap (λ (r : Res). r.lo) c.other.view_is in
    let some = is.some_length in
    stopped_pair c.args.pair.now c.args.want.now c.args.place some c.requires.start (let far = c.if-place-want.true in omega arith)

pub returns-then-is_in_the_way-clause-on : goal.returns-then-is_in_the_way-clause-on
returns-then-is_in_the_way-clause-on c =
    let is : IsWant c.args.want.now = subst IsWant c.want.view_is c.want.invariant in
    let hi : c.other.inside.hi ≡ c.args.pair.now.1.hi = ap (λ (r : Res). r.hi) c.other.view_is in
    let clash : Clash c.args.pair.now.1 (res_at c.args.want.now c.args.place) = c.is_in_the_way.ensures.0 c.if-is_in_the_way.true in
    with_ok c.start_above.result _ _ _
    (λ s next least. passed_clash c.args.pair.now c.args.want.now c.args.place c.other.inside.hi s is clash hi next least)
    c.start_above.ensures.next c.start_above.ensures.least

pub returns-then-is_in_the_way-clause-ended : goal.returns-then-is_in_the_way-clause-ended
returns-then-is_in_the_way-clause-ended c =
    let is : IsWant c.args.want.now = subst IsWant c.want.view_is c.want.invariant in
    let hi : c.other.inside.hi ≡ c.args.pair.now.1.hi = ap (λ (r : Res). r.hi) c.other.view_is in
    let clash : Clash c.args.pair.now.1 (res_at c.args.want.now c.args.place) = c.is_in_the_way.ensures.0 c.if-is_in_the_way.true in
    IfErr-weaker c.start_above.result _ _
    (λ e last. ended_clash c.args.pair.now c.args.want.now c.args.place c.other.inside.hi e is clash hi last)
    c.start_above.ensures.none

pub returns-clause-on : goal.returns-clause-on
returns-clause-on c =
    let is : IsWant c.args.want.now = subst IsWant c.want.view_is c.want.invariant in
    let len_is : c.want.inside.len ≡ c.args.want.now.len = ap (λ w. w.len) c.want.view_is in
    let lo : c.other.inside.lo ≡ c.args.pair.now.1.lo = ap (λ (r : Res). r.lo) c.other.view_is in
    let hi : c.other.inside.hi ≡ c.args.pair.now.1.hi = ap (λ (r : Res). r.hi) c.other.view_is in
    let some = is.some_length in
    let ordered : c.args.pair.now.1.lo ≤ c.args.pair.now.1.hi = (let up = c.other.invariant in omega arith) in
    let near : c.args.pair.now.1.lo ≤ c.args.place + c.args.want.now.len - 1 = (let close = c.if-place-want.false in omega arith) in
    passed_pair c.args.pair.now c.args.want.now c.args.place is c.requires.start ordered near
    (λ clash. both_ways c.is_in_the_way.result c.if-is_in_the_way.false (c.is_in_the_way.ensures.1 clash))
