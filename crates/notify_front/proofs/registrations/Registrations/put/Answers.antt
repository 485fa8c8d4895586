use Rattle.std.proofs.Common.{◌≡◌, ◌∙◌, rules, arith, ap, subst, sym, insert, List}
use Rattle.std.specs.Prelude.{nat_le}
use Rattle.std.specs.List.Sorted.{IsNonDecreasingBy}
use Rattle.std.proofs.lemmas.Bool.{leb-true, leb-false}
use Rattle.std.proofs.lemmas.List.Sorted.{IsPartitionPoint-from_clause, IsPartitionedBy-leb, IsNonDecreasingBy-insert}
use Rattle.pnp_machine.proofs.Inserts.{inserted}
use Rattle.pnp_model.specs.Keyed.{put_before}
use Rattle.notify_front.specs.Fronts.{Registration, comes_after}
use Rattle.notify_front.proofs.registrations.Registrations.put.Goals as goal

pub invariant_of-self-2 : goal.invariant_of-self-2
invariant_of-self-2 c =
    let xs = c.self.inside.items.items in
    let key = λ (r : Registration). r.device in
    let place = c.partition_point-place.result in
    let k = c.registration.inside.device in
    let is_k : k ≡ c.args.registration.device = ap (λ (r : Registration). r.device) c.registration.view_is in
    let parted = rw c.deref.ensures.value at c.partition_point-place.ensures.partitioned in
    let bound = rw c.deref.ensures.value at c.partition_point-place.ensures.bound in
    let point = IsPartitionPoint-from_clause (λ e. nat_le e.device k) xs place parted (IsPartitionedBy-leb key xs k c.self.invariant) (λ a r q k. search rules) in
    let put : c.insert.new.self.items ≡ insert xs place c.args.registration = c.in_ok-insert.ensures.items in
    subst (λ (l : List Registration). IsNonDecreasingBy key l) (sym put)
    (IsNonDecreasingBy-insert key xs place c.args.registration c.self.invariant bound
    (λ i d lt. let low = leb-true _ _ (point.0 i d (omega arith) lt) in omega arith)
    (λ i d l lt. let past = leb-false _ _ (point.1 i d l lt) in omega arith))

pub returns-clause-put : goal.returns-clause-put
returns-clause-put c =
    let xs = c.self.inside.items.items in
    let key = λ (r : Registration). r.device in
    let place = c.partition_point-place.result in
    let k = c.registration.inside.device in
    let is_k : k ≡ c.args.registration.device = ap (λ (r : Registration). r.device) c.registration.view_is in
    let parted = rw c.deref.ensures.value at c.partition_point-place.ensures.partitioned in
    let bound = rw c.deref.ensures.value at c.partition_point-place.ensures.bound in
    let point = IsPartitionPoint-from_clause (λ e. nat_le e.device k) xs place parted (IsPartitionedBy-leb key xs k c.self.invariant) (λ a r q k. search rules) in
    c.in_ok-insert.ensures.items
    ∙ inserted key xs k place c.args.registration bound (λ i d lt. point.0 i d (omega arith) lt) (λ i d l lt. point.1 i d l lt)
    ∙ ap (λ i. put_before (comes_after i) c.args.registration xs) is_k ∙ ap (put_before (comes_after c.args.registration.device) c.args.registration) c.self.view_is
