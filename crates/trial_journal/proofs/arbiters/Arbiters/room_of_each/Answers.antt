use Rattle.std.proofs.Common.{◌≡◌, ℕ, ◌+◌, ◌<◌, ◌^◌, length, subst, sym}
use Rattle.resource_reqs.specs.declared.kind.Kind.{Kind}
use Rattle.resource_reqs.specs.declared.kind.Kind.TheVariants.{Port, Irq, Mem, Dma, Bus}
use Rattle.trial_journal.specs.ByKind.{Arbiters, of_kind}
use Rattle.trial_journal.proofs.arbiters.Arbiters.room_of_each.Goals as goal

few_of : (a b : Arbiters) (more : ℕ) (k : Kind) → b ≡ a → length (of_kind a k).pairs + more < 2 ^ 32 → length (of_kind b k).pairs + more < 2 ^ 32
few_of a b more k is few = subst (λ (x : Arbiters). length (of_kind x k).pairs + more < 2 ^ 32) (sym is) few

pub room-requires : goal.room-requires
room-requires c = few_of _ _ c.args.more Port c.self.view_is (c.requires Port)

pub room-requires-2 : goal.room-requires-2
room-requires-2 c = few_of _ _ c.args.more Irq c.self.view_is (c.requires Irq)

pub room-requires-3 : goal.room-requires-3
room-requires-3 c = few_of _ _ c.args.more Mem c.self.view_is (c.requires Mem)

pub room-requires-4 : goal.room-requires-4
room-requires-4 c = few_of _ _ c.args.more Dma c.self.view_is (c.requires Dma)

pub room-requires-5 : goal.room-requires-5
room-requires-5 c = few_of _ _ c.args.more Bus c.self.view_is (c.requires Bus)
