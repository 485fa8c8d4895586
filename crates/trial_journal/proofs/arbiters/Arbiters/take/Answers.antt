use Rattle.resource_reqs.specs.declared.kind.Kind.TheVariants.{Port, Irq, Mem, Dma, Bus}
use Rattle.trial_journal.proofs.KindsApart.{take_is_of, with_are}
use Rattle.trial_journal.proofs.arbiters.Arbiters.take.Goals as goal

pub invariant_of-self : goal.invariant_of-self
invariant_of-self c =
    with_are _ Port c.take.new.self c.self.invariant
    (take_is_of Port c.self.inside.ports c.take.new.self (c.args.owner, c.args.res) c.self.invariant.ports c.take.ensures.pairs c.take.ensures.kind)

pub invariant_of-self-in-Irq : goal.invariant_of-self-in-Irq
invariant_of-self-in-Irq c =
    with_are _ Irq c.take-in-Irq.new.self c.self.invariant
    (take_is_of Irq c.self.inside.irqs c.take-in-Irq.new.self (c.args.owner, c.args.res) c.self.invariant.irqs c.take-in-Irq.ensures.pairs c.take-in-Irq.ensures.kind)

pub invariant_of-self-in-Mem : goal.invariant_of-self-in-Mem
invariant_of-self-in-Mem c =
    with_are _ Mem c.take-in-Mem.new.self c.self.invariant
    (take_is_of Mem c.self.inside.memory c.take-in-Mem.new.self (c.args.owner, c.args.res) c.self.invariant.memory c.take-in-Mem.ensures.pairs c.take-in-Mem.ensures.kind)

pub invariant_of-self-in-Dma : goal.invariant_of-self-in-Dma
invariant_of-self-in-Dma c =
    with_are _ Dma c.take-in-Dma.new.self c.self.invariant
    (take_is_of Dma c.self.inside.channels c.take-in-Dma.new.self (c.args.owner, c.args.res) c.self.invariant.channels c.take-in-Dma.ensures.pairs c.take-in-Dma.ensures.kind)

pub invariant_of-self-in-Bus : goal.invariant_of-self-in-Bus
invariant_of-self-in-Bus c =
    with_are _ Bus c.take-in-Bus.new.self c.self.invariant
    (take_is_of Bus c.self.inside.buses c.take-in-Bus.new.self (c.args.owner, c.args.res) c.self.invariant.buses c.take-in-Bus.ensures.pairs c.take-in-Bus.ensures.kind)
