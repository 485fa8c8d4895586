use Rattle.std.proofs.Common.{◌≡◌, ◌+◌, ◌≤◌, sym, subst, arith}
use Rattle.range_arbiter.specs.Pairs.{Arbiter}
use Rattle.resource_reqs.specs.declared.owner.Owner.TheVariants.{Device}
use Rattle.trial_journal.specs.ByKind.{Arbiters, of_kind, arbiter_with}
use Rattle.trial_journal.proofs.EachKind.{at_each}
use Rattle.small_rows.proofs.trials.first_holds.Goals as goal

-- a put takes room for one
pub returns-clause-room : goal.returns-clause-room
returns-clause-room c k =
    let a = c.room_of_each.new.self in
    let room = c.in_ok-room_of_each.ensures.ok k in
    let less = subst (λ (x : Arbiters). (of_kind a k).spare ≤ (of_kind x k).spare + 1) (sym c.put.ensures)
    (at_each (λ (x y : Arbiter). x.spare ≤ y.spare + 1) a c.args.res.kind (arbiter_with (of_kind a c.args.res.kind) (Device 1, c.args.res)) (omega arith) (λ y. omega arith) k) in
    omega arith
