use Rattle.pnp_machine.proofs.Departures.{kept_opened}
use Rattle.pnp_machine.proofs.devices.Devices.new.Goals as goal

pub invariant_of-result : goal.invariant_of-result
invariant_of-result c =
    kept_opened c.in_ok-new.field-0 c.in_ok-new-2.field-0 c.new-5.result c.in_ok-new-3.field-0 c.in_ok-new-2.ensures.root c.new-5.ensures c.in_ok-new-3.ensures.kinds
