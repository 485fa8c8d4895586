use Rattle.std.proofs.Common.{ap, ◌∙◌, sym}
use Rattle.assign_search.specs.Fixed.{is_mover}
use Rattle.assign_search.proofs.Fixing.{found_serial}
use Rattle.assign_search.proofs.problem.owns_moving.Goals as goal

pub returns-in-Device : goal.returns-in-Device
returns-in-Device c =
    c.is_ok.ensures.value ∙ found_serial c.args.serials.now c.in-Device.serial c.binary_search.result c.binary_search.ensures.position c.requires
    ∙ ap (is_mover c.args.serials.now) (sym c.in-Device.is)
