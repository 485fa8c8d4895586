use Rattle.std.proofs.Common.{◌≡◌, ◌∙◌, ℕ, not, List, IfOk, ap, subst}
use Rattle.pnp_model.specs.Keyed.{those}
use Rattle.pnp_model.specs.Tests.{has}
use Rattle.pnp_model.specs.Frames.{rest}
use Rattle.pnp_model.specs.Rebalances.{is_not_above}
use Rattle.rebalance.proofs.Taking.{those_same, drop_first}
use Rattle.rebalance.proofs.above.left_to_ask.Goals as goal

pub returns : goal.returns
returns c =
    let nodes = c.args.tree.now.nodes in
    let refuser = c.args.refuser in
    let left = c.drop_first.new.self in
    let same : (k : ℕ) → not (has c.in_ok-above.above k) ≡ is_not_above nodes refuser k = λ k. ap not (c.in_ok-above.ensures k) in
    subst (λ (ks : List ℕ). IfOk c.others.result (λ (l : List ℕ). l ≡ ks))
    (those_same (λ k. not (has c.in_ok-above.above k)) (is_not_above nodes refuser) left same ∙ ap (those (is_not_above nodes refuser)) (c.drop_first.ensures ∙ (drop_first c.in_ok-todo.todo ∙ ap rest c.in_ok-todo.ensures))) c.others.ensures
