use Rattle.std.proofs.Common.{◌==◌, ◌∙◌, ap, sym, not, length, List, ℕ}
use Rattle.pnp_machine.specs.Devices.{Devices}
use Rattle.pnp_machine.proofs.WindowSteps.{below_in_world, below_no_node, below_node}
use Rattle.pnp_machine.proofs.devices.Devices.has_any_below.Goals as goal

pub returns-then-has_child : goal.returns-then-has_child
returns-then-has_child c =
    let s = c.self.inside in
    let ds : Devices = record { world = s.world; tree = s.tree; relations = s.relations; reserved = s.reserved; windows = s.bridges; handles = s.handles } in
    rw (← c.self.view_is) (sym (below_in_world ds c.args.born (sym c.has_child.ensures.child ∙ c.if-has_child.true)))

pub returns-in-Some : goal.returns-in-Some
returns-in-Some c =
    let s = c.self.inside in
    let ds : Devices = record { world = s.world; tree = s.tree; relations = s.relations; reserved = s.reserved; windows = s.bridges; handles = s.handles } in
    rw (← c.self.view_is)
    (ap not (c.is_empty.ensures ∙ ap (λ (ks : List ℕ). length ks == 0) c.children.ensures)
    ∙ below_node ds c.args.born (sym c.has_child.ensures.child ∙ c.if-has_child.false) c.in-Some.serial c.in-Some.ensures)

pub returns-in-None : goal.returns-in-None
returns-in-None c =
    let s = c.self.inside in
    let ds : Devices = record { world = s.world; tree = s.tree; relations = s.relations; reserved = s.reserved; windows = s.bridges; handles = s.handles } in
    rw (← c.self.view_is) (sym (below_no_node ds c.args.born (sym c.has_child.ensures.child ∙ c.if-has_child.false) c.in-None.ensures))
