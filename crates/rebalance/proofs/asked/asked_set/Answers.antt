use Rattle.std.proofs.Common.{◌≡◌, ℕ, ◌+◌, ◌∙◌, ◌++◌, [], ◌∷◌, List, take, sym, ap, subst, arith}
use Rattle.std.proofs.lemmas.List.{take_all}
use Rattle.std.specs.BTreeSet.{BTreeSet}
use Rattle.device_holdings.proofs.Putting.{front_at}
use Rattle.rebalance.proofs.Listing.{IsCollected, collected_more, collected_same, all_collected}
use Rattle.rebalance.proofs.asked.asked_set.Goals as goal
use Rattle.rebalance.proofs.asked.asked_set.Goals.{then-is_asked+in_ok-insert, else-is_asked}

pub order-preserved : goal.order-preserved
order-preserved c =
    let nodes = c.args.tree.now.nodes in
    let order = c.in_ok-order.order in
    let k = c.get-serial.result.now in
    let so_far = c.order.invariant in
    let cut : take (c.order.at + 1) order ≡ take c.order.at order ++ k ∷ [] = front_at order c.order.at k c.get-serial.ensures in
    subst (λ (l : List ℕ). IsCollected nodes l c.if-is_asked.set.keys) (sym cut)
    (elim c.if-is_asked.branch [
      | then-is_asked+in_ok-insert w ↦
          collected_more nodes (take c.order.at order) c.order.set.keys k so_far c.if-is_asked.set.keys (ap (λ (s : BTreeSet ℕ). s.keys) w.set-is ∙ w.in_ok-insert.ensures.keys) (sym c.is_asked.ensures ∙ w.if-is_asked.true)
      | else-is_asked w ↦
          subst (λ (l : List ℕ). IsCollected nodes (take c.order.at order ++ k ∷ []) l) (sym (ap (λ (s : BTreeSet ℕ). s.keys) w.set-is))
          (collected_same nodes (take c.order.at order) c.order.set.keys k so_far (sym c.is_asked.ensures ∙ w.if-is_asked.false))
    ])

pub returns : goal.returns
returns c =
    let order = c.in_ok-order.order in
    let all : take c.order.at order ≡ order = take_all c.order.at order (omega (arith, c.len-at-end.ensures)) in
    all_collected c.args.tree.now c.requires (take c.order.at order) c.order.set.keys (all ∙ c.in_ok-order.ensures) c.order.invariant
