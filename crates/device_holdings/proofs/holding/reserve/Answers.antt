use Rattle.std.proofs.Common.{◌+◌, ◌≤◌, ◌^◌, List, length, sym, subst}
use Rattle.resource_reqs.specs.Resources.{Res}
use Rattle.trial_journal.specs.ByKind.{Lists, of_kind, lists_of}
use Rattle.device_holdings.specs.Mirrors.{Mirrors}
use Rattle.device_holdings.proofs.Apart.{reserved_more, mirrors_same}
use Rattle.device_holdings.proofs.holding.reserve.Goals as goal

pub put-requires : goal.put-requires
put-requires c = subst (λ (r : Res). 1 ≤ (of_kind c.room_of.new.arbiters r.kind).spare) c.res.view_is c.in_ok-room_of.ensures.room

pub returns-clause-mirrors : goal.returns-clause-mirrors
returns-clause-mirrors c = λ nodes m.
    subst (λ (l : List Res). Mirrors l nodes c.put.new.self) (sym c.in_ok-push.ensures.pushed)
    (reserved_more c.args.reserved.now c.args.res nodes c.room_of.new.arbiters c.put.new.self c.put.ensures
    (subst (λ (l : Lists). length (of_kind l c.args.res.kind) + 1 ≤ 2 ^ 29) (sym c.in_ok-room_of.ensures.same)
    (subst (λ (r : Res). length (of_kind (lists_of c.args.arbiters.now) r.kind) + 1 ≤ 2 ^ 29) c.res.view_is c.in_ok-room_of.ensures.few))
    (mirrors_same c.args.reserved.now nodes c.args.arbiters.now c.room_of.new.arbiters c.in_ok-room_of.ensures.same m))
