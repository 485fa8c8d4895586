use Rattle.std.proofs.Common.{◌≡◌, ◌+◌, ◌∙◌, option_map, ap, sym, position, rules, tests}
use Rattle.std.specs.Prelude.{nat_lt}
use Rattle.std.proofs.lemmas.Iterator.{YieldsList-from_slice}
use Rattle.std.proofs.lemmas.Iterator.Search.{position_from_yields_List}
use Rattle.std.proofs.lemmas.List.Sorted.{IsPartitionPoint-from_clause, IsPartitionedBy-ltb}
use Rattle.pnp_model.specs.Keyed.{those}
use Rattle.notify_front.specs.Fronts.{Registration, is_of, is_on}
use Rattle.notify_front.proofs.Registering.{place_on}
use Rattle.notify_front.proofs.registrations.place_of.Goals as goal

pub returns-in_err-place : goal.returns-in_err-place
returns-in_err-place c =
    let xs = c.args.items.now in
    let k = c.args.device in
    let test = is_of c.args.client.now k in
    let low = c.partition_point-low.result in
    let key = λ (r : Registration). r.device in
    let point = IsPartitionPoint-from_clause (λ e. nat_lt e.device k) xs low c.partition_point-low.ensures.partitioned (IsPartitionedBy-ltb key xs k c.requires) (λ a r q k. search rules) in
    let place : position test (those (is_on k) xs) ≡ c.position.result =
    sym (position_from_yields_List test _ _ c.position.result c.position.ensures.ran (YieldsList-from_slice _ c.iter.ensures.rest) (λ x b q k. search (rules, tests)) ∙ ap (position test) c.those_on.ensures) in
    c.from_residual.ensures
    ∙ ap (option_map (λ i. low + i)) (sym (place ∙ c.in_err-place.was))
    ∙ place_on c.args.client.now k low xs c.requires c.partition_point-low.ensures.bound point.0 point.1

pub returns : goal.returns
returns c =
    let xs = c.args.items.now in
    let k = c.args.device in
    let test = is_of c.args.client.now k in
    let low = c.partition_point-low.result in
    let key = λ (r : Registration). r.device in
    let point = IsPartitionPoint-from_clause (λ e. nat_lt e.device k) xs low c.partition_point-low.ensures.partitioned (IsPartitionedBy-ltb key xs k c.requires) (λ a r q k. search rules) in
    let place : position test (those (is_on k) xs) ≡ c.position.result =
    sym (position_from_yields_List test _ _ c.position.result c.position.ensures.ran (YieldsList-from_slice _ c.iter.ensures.rest) (λ x b q k. search (rules, tests)) ∙ ap (position test) c.those_on.ensures) in
    ap (option_map (λ i. low + i)) (sym (place ∙ c.in_ok-place.was))
    ∙ place_on c.args.client.now k low xs c.requires c.partition_point-low.ensures.bound point.0 point.1
