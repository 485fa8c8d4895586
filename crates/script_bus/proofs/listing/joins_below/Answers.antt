use Rattle.std.proofs.Common.{◌∙◌, ap, sym, arith}
use Rattle.pnp_model.specs.Keyed.{those}
use Rattle.script_bus.specs.Differences.{is_new_born}
use Rattle.script_bus.proofs.Joining.{joins_by_birth, all_gone_through}
use Rattle.script_bus.proofs.listing.joins_below.Goals as goal

pub returns : goal.returns
returns c =
    let w = c.args.world.now in
    let t = c.args.tree.now in
    all_gone_through (is_new_born w t) c.children-child-items.result.now c.loop-child.child-index (omega arith) c.loop-child.joins c.loop-child.invariant
    ∙ (ap (those (is_new_born w t)) c.children-child-items.ensures.children ∙ sym (joins_by_birth w t c.args.born c.children-child-items.ensures.world c.requires))
