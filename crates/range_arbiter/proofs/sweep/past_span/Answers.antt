use Rattle.std.proofs.Common.{◌≡◌, ◌≤◌, ◌<◌, ◌+◌, ◌-◌, sym, ◌∙◌, ap, subst, arith}
use Rattle.std.proofs.lemmas.Result.{IfOk-weaker, IfErr-weaker}
use Rattle.resource_reqs.specs.Resources.{IsWant}
use Rattle.range_arbiter.specs.Sweeps.{EndedWith}
use Rattle.range_arbiter.proofs.Sweeping.{not_below, cleared_below, cleared_span, ended_span}
use Rattle.range_arbiter.proofs.sweep.past_span.Goals as goal

pub returns-then-is_below-clause-on : goal.returns-then-is_below-clause-on
returns-then-is_below-clause-on c = λ xs kinds covers.
    cleared_below xs c.args.want.now c.args.from c.args.span covers (sym c.is_below.ensures ∙ c.if-is_below.true)

pub returns-then-saturating_sub-want-clause-on : goal.returns-then-saturating_sub-want-clause-on
returns-then-saturating_sub-want-clause-on c = λ xs kinds covers.
    let is : IsWant c.args.want.now = subst IsWant c.want.view_is c.want.invariant in
    let len_is : c.want.inside.len ≡ c.args.want.now.len = ap (λ w. w.len) c.want.view_is in
    let s = c.args.span in
    let some_length = is.some_length in
    let parts = not_below s.reach s.lo c.args.from (sym c.is_below.ensures ∙ c.if-is_below.false) in
    let tight : s.gap < c.args.want.now.len = (let t = c.if-span-want.true in omega arith) in
    let less = c.saturating_sub.ensures in
    let near : s.lo ≤ c.args.from + c.args.want.now.len - 1 = (let l = c.if-saturating_sub-want.true in omega arith) in
    IfOk-weaker c.number_above.result _ _
    (λ next e. cleared_span xs c.args.want.now c.args.from next s is kinds covers parts.0 parts.1 tight near e) c.number_above.ensures.next

pub returns-then-saturating_sub-want-clause-ended : goal.returns-then-saturating_sub-want-clause-ended
returns-then-saturating_sub-want-clause-ended c = λ xs kinds covers.
    let is : IsWant c.args.want.now = subst IsWant c.want.view_is c.want.invariant in
    let len_is : c.want.inside.len ≡ c.args.want.now.len = ap (λ w. w.len) c.want.view_is in
    let s = c.args.span in
    let some_length = is.some_length in
    let parts = not_below s.reach s.lo c.args.from (sym c.is_below.ensures ∙ c.if-is_below.false) in
    let tight : s.gap < c.args.want.now.len = (let t = c.if-span-want.true in omega arith) in
    let less = c.saturating_sub.ensures in
    let near : s.lo ≤ c.args.from + c.args.want.now.len - 1 = (let l = c.if-saturating_sub-want.true in omega arith) in
    IfErr-weaker c.number_above.result _ _
    (λ e last. subst (EndedWith xs c.args.want.now c.args.from) (sym last.0)
    (ended_span xs c.args.want.now c.args.from s is kinds covers parts.0 tight near last.1)) c.number_above.ensures.none
