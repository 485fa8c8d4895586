use Rattle.std.proofs.Common.{◌∙◌, ap, sym, Some}
use Rattle.pnp_model.specs.States.{is_activity}
use Rattle.pnp_model.proofs.Keyed.{find_from_position, find_from_none}
use Rattle.pnp_machine.proofs.starts.Starts.work.Goals as goal

pub returns-in_err-place : goal.returns-in_err-place
returns-in_err-place c =
    rw (c.from_residual.ensures, ← c.self.view_is)
    (sym (find_from_none (is_activity c.args.serial) c.self.inside.works.items (rw c.deref.ensures.value at (sym c.in_err-place.ensures))))

pub returns : goal.returns
returns c =
    rw (← c.self.view_is)
    (ap Some c.index.ensures
    ∙ sym (find_from_position (is_activity c.args.serial) c.self.inside.works.items c.in_ok-place.place c.index.result.now (rw c.deref.ensures.value at (sym c.in_ok-place.ensures))))
