use Rattle.std.proofs.Common.{Err, subst}
use Rattle.std.proofs.lemmas.Result.{err_from_is_err_and}
use Rattle.pnp_machine.specs.Devices.{Devices, Departs}
use Rattle.pnp_machine.proofs.Arrivals.{kept_anew}
use Rattle.pnp_machine.proofs.Departures.{departs, stays_there}
use Rattle.pnp_machine.proofs.devices.Devices.pull.Goals as goal

pub returns-in_err-parent : goal.returns-in_err-parent
returns-in_err-parent c =
    let s = c.self.inside in
    let ds : Devices = record { world = s.world; tree = s.tree; relations = s.relations; reserved = s.reserved; windows = s.bridges; handles = s.handles } in
    let e = c.in_err-parent.ensures in
    let p = err_from_is_err_and c.from_residual.result c.from_residual.ensures.1 in
    rw (p.1, p.2)
    (subst (λ (x : Devices). Departs x c.args.path.now (Err c.in_err-parent.field-0.0) (record ds { world = c.pull.new.self })) c.self.view_is
    (stays_there ds c.args.path.now c.pull.new.self c.in_err-parent.field-0.0 e.no_device e.root_stays e.err))

pub invariant_of-self-2 : goal.invariant_of-self-2
invariant_of-self-2 c =
    let s = c.self.inside in
    kept_anew s.world c.pull.new.self s.tree s.tree s.reserved s.reserved s.arbiters s.arbiters s.over s.from s.whole s.over c.self.invariant c.self.invariant.mirrors

pub returns : goal.returns
returns c =
    let s = c.self.inside in
    let ds : Devices = record { world = s.world; tree = s.tree; relations = s.relations; reserved = s.reserved; windows = s.bridges; handles = s.handles } in
    let e = c.in_ok-parent.ensures in
    rw (← c.self.view_is)
    (departs ds c.args.path.now c.pull.new.self c.in_ok-parent.parent c.find_born.result e.pulled e.no_device e.root_stays c.find_born.ensures)
