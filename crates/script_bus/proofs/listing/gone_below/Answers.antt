use Rattle.std.proofs.Common.{◌∙◌, ap, sym, arith}
use Rattle.pnp_model.specs.Keyed.{those}
use Rattle.script_bus.specs.Differences.{is_lost_serial}
use Rattle.script_bus.proofs.Joining.{gone_by_serial, all_gone_through}
use Rattle.script_bus.proofs.listing.gone_below.Goals as goal

pub returns : goal.returns
returns c =
    let w = c.args.world.now in
    let t = c.args.tree.now in
    all_gone_through (is_lost_serial w t) c.children-child-items.result.now c.loop-child.child-index (omega arith) c.loop-child.gone c.loop-child.invariant
    ∙ (ap (those (is_lost_serial w t)) c.children-child-items.ensures ∙ sym (gone_by_serial w t c.requires c.args.serial))
