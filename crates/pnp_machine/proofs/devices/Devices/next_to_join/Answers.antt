use Rattle.std.proofs.Common.{ap, sym}
use Rattle.pnp_model.specs.Records.{Node}
use Rattle.pnp_machine.specs.Devices.{Devices}
use Rattle.pnp_machine.proofs.Joins.{kept_at, next_of}
use Rattle.pnp_machine.proofs.devices.Devices.next_to_join.Goals as goal

pub returns : goal.returns
returns c =
    let s = c.self.inside in
    let ds : Devices = record { world = s.world; tree = s.tree; relations = s.relations; reserved = s.reserved; windows = s.bridges; handles = s.handles } in
    let kept = kept_at s.world s.tree s.reserved s.arbiters s.over s.from c.node.inside.born s.whole c.self.invariant in
    rw (← c.self.view_is)
    (next_of ds c.args.serial c.node.inside.born c.from_at-from.result c.at-node.result.now c.next_join.result
    (sym c.at-node.ensures.node) (ap (λ (n : Node). n.born) (sym c.node.view_is))
    (rw c.from_at-from.ensures kept.listed) c.next_join.ensures)
