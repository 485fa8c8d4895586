use Rattle.std.proofs.Common.{◌∙◌, ap, sym, Err, arith, refl}
use Rattle.std.specs.Option.{option_copied}
use Rattle.pnp_model.specs.Records.{Node}
use Rattle.pnp_model.specs.Windows.{clip}
use Rattle.script_bus.specs.declared.device.Device as shown
use Rattle.pnp_machine.proofs.Joins.{joins_at, joins_below, part_there, part_is, no_same_path, kept_after, joined_is, memory_alone}
use Rattle.pnp_machine.proofs.devices.Devices.join_next.Goals as goal

pub unreachable-requires-in_default-part : goal.unreachable-requires-in_default-part
unreachable-requires-in_default-part c =
    let s = c.self.inside in
    let j = joins_at s.world s.tree s.relations s.reserved s.bridges s.handles c.args.self.now c.args.serial c.in-Some.born c.self.view_is c.part.ensures.world c.in-Some.ensures in
    let there = part_there s.world s.tree j.node.born c.in-Some.born (option_copied c.part.result) j.joining c.part.ensures.part in
    let none = ap option_copied c.in_default-part.is in
    cc

pub overflow_add-self : goal.overflow_add-self
overflow_add-self c =
    let s = c.self.inside in
    let j = joins_at s.world s.tree s.relations s.reserved s.bridges s.handles c.args.self.now c.args.serial c.in-Some.born c.self.view_is c.part.ensures.world c.in-Some.ensures in
    let below = joins_below s.world s.tree j.node.born c.in-Some.born c.part.ensures.world j.joining in
    let few = c.part.ensures.world.few in
    omega arith

pub invariant_of-self : goal.invariant_of-self
invariant_of-self c =
    let s = c.self.inside in
    let j = joins_at s.world s.tree s.relations s.reserved s.bridges s.handles c.args.self.now c.args.serial c.in-Some.born c.self.view_is c.part.ensures.world c.in-Some.ensures in
    let own = part_is s.world s.tree j.node.born c.in-Some.born c.in-Some-part.part.now j.joining c.in-Some-part.ensures.part in
    let part = c.in_ok-device.ensures ∙ ap (λ (x : shown.Device). record x { reqs = clip s.bridges s.tree.nodes c.args.serial x.reqs }) own in
    kept_after s.world s.tree c.join-joined.new.self c.args.serial c.in-Some.born c.in-Ok.joined j s.bridges c.in_ok-device.device part c.in-Ok.ensures.serial
    c.in-Ok.ensures.joined s.reserved s.arbiters s.over s.from c.node-2.inside.born s.whole c.in-Some-node.node.now c.part.ensures.world c.self.invariant c.in-Some-node.ensures.node
    (ap (λ (n : Node). n.born) c.node-2.view_is)

pub only_memory-requires : goal.only_memory-requires
only_memory-requires c =
    let s = c.self.inside in
    let j = joins_at s.world s.tree s.relations s.reserved s.bridges s.handles c.args.self.now c.args.serial c.in-Some.born c.self.view_is c.part.ensures.world c.in-Some.ensures in
    let own = part_is s.world s.tree j.node.born c.in-Some.born c.in-Some-part.part.now j.joining c.in-Some-part.ensures.part in
    let part = c.in_ok-device.ensures ∙ ap (λ (x : shown.Device). record x { reqs = clip s.bridges s.tree.nodes c.args.serial x.reqs }) own in
    memory_alone c.in-Err.error
    (λ e. let none = c.in-Err.ensures.no_parent.0 (ap Err e) in let there = c.in-Some-node.ensures.node in cc)
    (λ e. no_same_path s.world s.tree j.node.born c.in-Some.born j.joining c.in_ok-device.device.path (ap (λ (x : shown.Device). x.path) part)
    (c.in-Err.ensures.same_path.0 (ap Err e)).1)

pub returns-in-Ok-clause-joined : goal.returns-in-Ok-clause-joined
returns-in-Ok-clause-joined c =
    let s = c.self.inside in
    let j = joins_at s.world s.tree s.relations s.reserved s.bridges s.handles c.args.self.now c.args.serial c.in-Some.born c.self.view_is c.part.ensures.world c.in-Some.ensures in
    let own = part_is s.world s.tree j.node.born c.in-Some.born c.in-Some-part.part.now j.joining c.in-Some-part.ensures.part in
    let part = c.in_ok-device.ensures ∙ ap (λ (x : shown.Device). record x { reqs = clip s.bridges s.tree.nodes c.args.serial x.reqs }) own in
    joined_is s.world s.tree c.join-joined.new.self c.args.serial c.in-Some.born c.in-Ok.joined j s.bridges c.in_ok-device.device part c.in-Ok.ensures.serial
    c.in-Ok.ensures.joined s.relations s.reserved s.handles c.args.self.now _ c.in_ok-path.path c.self.view_is refl
    (c.in_ok-path.ensures ∙ ap (λ (x : shown.Device). x.path) (sym c.in_ok-device.ensures))
