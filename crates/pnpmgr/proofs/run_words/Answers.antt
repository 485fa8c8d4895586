use Rattle.std.proofs.Common.{◌≡◌, length, sym, ap, ◌∙◌, arith}
use Rattle.std.proofs.lemmas.List.{length-map}
use Rattle.std.proofs.lemmas.Iterator.Adapters.{YieldsList-from_vec}
use Rattle.std.proofs.lemmas.Iterator.Consumers.{YieldsList-end}
use Rattle.pnp_cli.specs.Racks.{row_of}
use Rattle.pnpmgr.proofs.run_words.Goals as goal

pub run-requires : goal.run-requires
run-requires c =
    let drivers = c.in_ok-drivers.drivers.items in
    let t = YieldsList-end (YieldsList-from_vec drivers (cc) (cc)) c.boxes.yielded _ c.boxes.yielded_by _ c.next.new.self c.in-None.is c.next.ensures.steps in
    let long : length drivers ≡ 176 = sym (length-map drivers row_of) ∙ ap length c.in_ok-drivers.ensures in
    omega (arith, t.1, long, c.boxes.invariant)
