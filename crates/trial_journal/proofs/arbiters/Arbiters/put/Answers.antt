use Rattle.std.proofs.Common.{sym, ◌∙◌, ap}
use Rattle.resource_reqs.specs.declared.kind.Kind.TheVariants.{Port, Irq, Mem, Dma, Bus}
use Rattle.resource_reqs.specs.Resources.{Res}
use Rattle.trial_journal.proofs.KindsApart.{put_is_of, with_are}
use Rattle.trial_journal.proofs.arbiters.Arbiters.put.Goals as goal

pub invariant_of-self : goal.invariant_of-self
invariant_of-self c =
    with_are _ Port c.put.new.self c.self.invariant
    (put_is_of Port c.self.inside.ports c.put.new.self (c.args.owner, c.args.res) c.self.invariant.ports (sym (ap (λ (r : Res). r.kind) c.res.view_is) ∙ c.in-Port.is) c.put.ensures)

pub invariant_of-self-in-Irq : goal.invariant_of-self-in-Irq
invariant_of-self-in-Irq c =
    with_are _ Irq c.put-in-Irq.new.self c.self.invariant
    (put_is_of Irq c.self.inside.irqs c.put-in-Irq.new.self (c.args.owner, c.args.res) c.self.invariant.irqs (sym (ap (λ (r : Res). r.kind) c.res.view_is) ∙ c.in-Irq.is) c.put-in-Irq.ensures)

pub invariant_of-self-in-Mem : goal.invariant_of-self-in-Mem
invariant_of-self-in-Mem c =
    with_are _ Mem c.put-in-Mem.new.self c.self.invariant
    (put_is_of Mem c.self.inside.memory c.put-in-Mem.new.self (c.args.owner, c.args.res) c.self.invariant.memory (sym (ap (λ (r : Res). r.kind) c.res.view_is) ∙ c.in-Mem.is) c.put-in-Mem.ensures)

pub invariant_of-self-in-Dma : goal.invariant_of-self-in-Dma
invariant_of-self-in-Dma c =
    with_are _ Dma c.put-in-Dma.new.self c.self.invariant
    (put_is_of Dma c.self.inside.channels c.put-in-Dma.new.self (c.args.owner, c.args.res) c.self.invariant.channels (sym (ap (λ (r : Res). r.kind) c.res.view_is) ∙ c.in-Dma.is) c.put-in-Dma.ensures)

pub invariant_of-self-in-Bus : goal.invariant_of-self-in-Bus
invariant_of-self-in-Bus c =
    with_are _ Bus c.put-in-Bus.new.self c.self.invariant
    (put_is_of Bus c.self.inside.buses c.put-in-Bus.new.self (c.args.owner, c.args.res) c.self.invariant.buses (sym (ap (λ (r : Res). r.kind) c.res.view_is) ∙ c.in-Bus.is) c.put-in-Bus.ensures)
