-- A device that is ready to be finished.
use Rattle.std.proofs.Common.{ℕ, ◌≡◌, ◌≢◌, true, false, not, ◌&&◌, List, [], ◌∷◌, length, Some, refl, sym, ◌∙◌, subst, arith}
use Rattle.std.specs.List.{list_any}
use Rattle.std.proofs.lemmas.Bool.Decides.{nat_tests}
use Rattle.pnp_labels.specs.declared.words.Minor.{Minor}
use Rattle.pnp_model.specs.Cores.{node_at, serials_of}
use Rattle.pnp_model.specs.Handles.{has_drivers, holds_back, is_open, is_ready_device, ready_device}
use Rattle.pnp_model.specs.Keyed.{those}
use Rattle.pnp_model.specs.Records.{Core, Handle, Node}
use Rattle.pnp_model.specs.Tests.{has, is_surprise_removed}
use Rattle.pnp_model.specs.Trees.{greatest}
use Rattle.pnp_model.specs.Walks.{has_ended, walk_of}
use Rattle.pnp_laws.specs.Kept.{Ascending}
use Rattle.pnp_laws.proofs.Lists.{those_found}
use Rattle.pnp_laws.proofs.Lookups.{some_same}
use Rattle.pnp_laws.proofs.Orders.{greatest_some}
use Rattle.pnp_laws.proofs.Truths.{and_both}

greatest_has : (ks : List ℕ) (k : ℕ) → greatest ks ≡ Some k → has ks k ≡ true
greatest_has [] k e = absurd (cc)
greatest_has (j ∷ js) k e = let some = greatest_some j js in let same = sym some.1 ∙ e in let own = some.2 in subst (λ (x : ℕ). has (j ∷ js) x ≡ true) (some_is same) own
  where
    some_is : {x y : ℕ} → Some x ≡ Some y → x ≡ y
    some_is e = cc

-- the device that is taken next is ready
pub ready_is : (c : Core) (handles : List Handle) (k : ℕ) (node : Node) → Ascending 0 c.nodes → ready_device c handles ≡ Some k → node_at k c.nodes ≡ Some node → is_ready_device c handles node ≡ true
ready_is c handles k node order e at =
    let f = those_found 0 (is_ready_device c handles) c.nodes k order (greatest_has (serials_of (those (is_ready_device c handles) c.nodes)) k e) in
    subst (λ (n : Node). is_ready_device c handles n ≡ true) (some_same (node_at k c.nodes) f.0 node f.1 at) f.2

-- so it has drivers, and the first of them is asked
fresh : (stack : List ℕ) → has_drivers stack ≡ true → has_ended (walk_of Minor.Remove) (length stack) ≡ false
fresh [] h = absurd (cc)
fresh (d ∷ ds) h = grind (arith, nat_tests)

-- a device with drivers is asked first
pub asks_fresh : (minor : Minor) (stack : List ℕ) → stack ≢ [] → has_ended (walk_of minor) (length stack) ≡ false
asks_fresh minor [] some = absurd (some refl)
asks_fresh minor (d ∷ ds) some = grind (arith, nat_tests)

pub ready_fresh : (c : Core) (handles : List Handle) (k : ℕ) (node : Node) → Ascending 0 c.nodes → ready_device c handles ≡ Some k → node_at k c.nodes ≡ Some node → has_ended (walk_of Minor.Remove) (length node.stack) ≡ false
ready_fresh c handles k node order e at =
    let ready = and_both (is_surprise_removed node.state) (has_drivers node.stack && (not (is_open handles node.serial) && not (list_any (holds_back c node.serial) c.nodes))) (ready_is c handles k node order e at) in
    fresh node.stack (and_both (has_drivers node.stack) (not (is_open handles node.serial) && not (list_any (holds_back c node.serial) c.nodes)) ready.1).0
