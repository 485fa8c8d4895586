use Rattle.std.proofs.Common.{◌≡◌, ◌++◌, ◌∙◌, [], List, ℕ, refl, reverse, ap, sym, subst, append-nil, arith}
use Rattle.pnp_laws.specs.Rebalanced.{Falling}
use Rattle.pnp_model.specs.Tests.{has}
use Rattle.relations.proofs.Falls.{one_over, sorted_falls}
use Rattle.relations.proofs.Queueing.{empty_of}
use Rattle.relations.proofs.unrelated.falling.Goals as goal

pub loop-serial-init : goal.loop-serial-init
loop-serial-init c = rw c.new-order.ensures refl

pub loop-serial-preserved : goal.loop-serial-preserved
loop-serial-preserved c =
    rw c.in_ok-push.ensures.pushed
    (one_over c.loop-serial.order c.pop.new.self.items c.loop-serial.serials.items (reverse c.sort_unstable.new.self.items) c.in-Some.serial c.in-Some.ensures.items c.loop-serial.invariant)

pub returns : goal.returns
returns c =
    let none : c.loop-serial.serials.items ≡ [] = empty_of c.loop-serial.serials.items (let zero = c.in_default.ensures.cases.0 in omega arith) in
    let turned : c.loop-serial.order ≡ reverse c.sort_unstable.new.self.items = sym (append-nil c.loop-serial.order) ∙ (ap (λ (l : List ℕ). c.loop-serial.order ++ reverse l) (sym none) ∙ c.loop-serial.invariant) in
    let both = sorted_falls c.args.serials.items c.sort_unstable.new.self.items c.requires c.sort_unstable.ensures.permutation c.sort_unstable.ensures.sorted in
    record {
      falls = subst Falling (sym turned) both.0;
      same = λ k. ap (λ (l : List ℕ). has l k) turned ∙ both.1 k;
    }
