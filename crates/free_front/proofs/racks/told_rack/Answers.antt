use Rattle.std.proofs.Common.{◌≡◌, IfOk, List, subst}
use Rattle.pnp_model.specs.Records.{Driver}
use Rattle.free_front.proofs.Tellers.{told_rows}
use Rattle.free_front.proofs.racks.told_rack.Goals as goal

pub returns : goal.returns
returns c = subst (λ (rows : List Driver). IfOk c.make.result (λ rack. rack ≡ rows)) (told_rows c.args.answer c.args.kinds.now c.loop-kind.drivers.items c.loop-kind.kind-index c.loop-kind.invariant c.loop-kind-test.false) c.make.ensures
