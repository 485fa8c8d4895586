use Rattle.std.proofs.Common.{◌≡◌, ◌∙◌, true, false, ap, sym}
use Rattle.pnp_model.specs.States.{device_of}
use Rattle.pnp_machine.specs.Devices.{Devices, has_any_below}
use Rattle.pnp_machine.proofs.WindowSteps.{bridged_none, bridged_root, bridged_below, bridged_told, stays_told, why_told, after_told}
use Rattle.pnp_machine.proofs.devices.Devices.set_window.Goals as goal

pub returns-in_default-clause-refused : goal.returns-in_default-clause-refused
returns-in_default-clause-refused c =
    let s = c.self.inside in
    let ds : Devices = record { world = s.world; tree = s.tree; relations = s.relations; reserved = s.reserved; windows = s.bridges; handles = s.handles } in
    rw (← c.self.view_is) ((bridged_none ds c.args.res (device_of c.args.path.now s.world.devices) c.in_default.ensures).why)

pub returns-then-born-eq0-clause-refused : goal.returns-then-born-eq0-clause-refused
returns-then-born-eq0-clause-refused c =
    let s = c.self.inside in
    let ds : Devices = record { world = s.world; tree = s.tree; relations = s.relations; reserved = s.reserved; windows = s.bridges; handles = s.handles } in
    rw (← c.self.view_is) ((bridged_root ds c.args.res c.in-Some.born (device_of c.args.path.now s.world.devices) c.in-Some.ensures c.if-born-eq0.true).why)

pub returns-then-has_any_below-clause-refused : goal.returns-then-has_any_below-clause-refused
returns-then-has_any_below-clause-refused c =
    let s = c.self.inside in
    let ds : Devices = record { world = s.world; tree = s.tree; relations = s.relations; reserved = s.reserved; windows = s.bridges; handles = s.handles } in
    let below : has_any_below ds c.in-Some.born ≡ true = ap (λ (x : Devices). has_any_below x c.in-Some.born) c.self.view_is ∙ (sym c.has_any_below.ensures ∙ c.if-has_any_below.true) in
    rw (← c.self.view_is)
    ((bridged_below ds c.args.res c.in-Some.born c.if-born-eq0.false (device_of c.args.path.now s.world.devices) c.in-Some.ensures below).why)

pub returns-clause-refused : goal.returns-clause-refused
returns-clause-refused c =
    let s = c.self.inside in
    let ds : Devices = record { world = s.world; tree = s.tree; relations = s.relations; reserved = s.reserved; windows = s.bridges; handles = s.handles } in
    let o = device_of c.args.path.now s.world.devices in
    let alone : has_any_below ds c.in-Some.born ≡ false = ap (λ (x : Devices). has_any_below x c.in-Some.born) c.self.view_is ∙ (sym c.has_any_below.ensures ∙ c.if-has_any_below.false) in
    rw (← c.self.view_is) (why_told ds c.args.res o (record ds { windows = c.set-set.new.self }) c.told.result
    (bridged_told ds c.args.res c.in-Some.born c.if-born-eq0.false alone o c.in-Some.ensures c.set-set.new.self c.set-set.result c.told.result c.told.ensures c.set-set.ensures.set c.set-set.ensures.same_window c.set-set.ensures.err))

pub returns-clause-set : goal.returns-clause-set
returns-clause-set c =
    let s = c.self.inside in
    let ds : Devices = record { world = s.world; tree = s.tree; relations = s.relations; reserved = s.reserved; windows = s.bridges; handles = s.handles } in
    let o = device_of c.args.path.now s.world.devices in
    let alone : has_any_below ds c.in-Some.born ≡ false = ap (λ (x : Devices). has_any_below x c.in-Some.born) c.self.view_is ∙ (sym c.has_any_below.ensures ∙ c.if-has_any_below.false) in
    rw (← c.self.view_is) (after_told ds c.args.res o (record ds { windows = c.set-set.new.self }) c.told.result
    (bridged_told ds c.args.res c.in-Some.born c.if-born-eq0.false alone o c.in-Some.ensures c.set-set.new.self c.set-set.result c.told.result c.told.ensures c.set-set.ensures.set c.set-set.ensures.same_window c.set-set.ensures.err))

pub returns-clause-err : goal.returns-clause-err
returns-clause-err c =
    let s = c.self.inside in
    let ds : Devices = record { world = s.world; tree = s.tree; relations = s.relations; reserved = s.reserved; windows = s.bridges; handles = s.handles } in
    let o = device_of c.args.path.now s.world.devices in
    let alone : has_any_below ds c.in-Some.born ≡ false = ap (λ (x : Devices). has_any_below x c.in-Some.born) c.self.view_is ∙ (sym c.has_any_below.ensures ∙ c.if-has_any_below.false) in
    rw (← c.self.view_is) (stays_told ds c.args.res c.in-Some.born c.if-born-eq0.false alone o c.in-Some.ensures c.set-set.new.self c.set-set.result c.told.result c.told.ensures c.set-set.ensures.err)
