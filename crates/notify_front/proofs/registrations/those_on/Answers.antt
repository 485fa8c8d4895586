use Rattle.std.proofs.Common.{◌≡◌, ◌-◌, ◌∙◌, length, take, drop, ap, sym, subst, rules, List}
use Rattle.std.specs.Prelude.{nat_lt, nat_le}
use Rattle.std.specs.List.Sorted.{IsNonDecreasingBy}
use Rattle.std.proofs.lemmas.List.Sorted.{IsPartitionPoint-from_clause, IsPartitionedBy-ltb, IsPartitionedBy-leb, IsNonDecreasingBy-drop}
use Rattle.relations.proofs.Cutting.{part_is, whole_rest}
use Rattle.notify_front.specs.Fronts.{Registration, is_on}
use Rattle.notify_front.proofs.Registering.{those_are}
use Rattle.notify_front.proofs.registrations.those_on.Goals as goal

pub returns : goal.returns
returns c =
    let xs = c.args.items.now in
    let k = c.args.device in
    let low = c.partition_point-low.result in
    let rest = take (length xs - low) (drop low xs) in
    let is_rest : rest ≡ drop low xs = whole_rest xs low in
    let count = c.partition_point-count.result in
    let key = λ (r : Registration). r.device in
    let first = IsPartitionPoint-from_clause (λ e. nat_lt e.device k) xs low c.partition_point-low.ensures.partitioned (IsPartitionedBy-ltb key xs k c.requires) (λ a r q k. search rules) in
    let sorted = subst (λ (l : List Registration). IsNonDecreasingBy key l) (sym is_rest) (IsNonDecreasingBy-drop key low xs c.requires) in
    let second = IsPartitionPoint-from_clause (λ e. nat_le e.device k) rest count c.partition_point-count.ensures.partitioned (IsPartitionedBy-leb key rest k sorted) (λ a r q k. search rules) in
    let bound = c.partition_point-count.ensures.bound in
    ap (take count) is_rest
    ∙ part_is key k xs low count first.0 first.1 (rw is_rest at bound) (rw is_rest at second.0) (rw is_rest at second.1)
    ∙ those_are (is_on k) xs
