use Rattle.std.proofs.Common.{get_or, below_more, arith}
use Rattle.device_holdings.specs.Idle.{IsIdle}
use Rattle.device_holdings.proofs.Idling.{all_idle}
use Rattle.device_holdings.proofs.finding.are_idle.Goals as goal

pub serials-preserved : goal.serials-preserved
serials-preserved c =
    below_more (λ j. IsIdle (get_or c.args.serials.now j 0) c.args.tree.now.nodes) c.serials.serial-index c.serials.invariant (c.is_idle.ensures c.if-not-is_idle.false)

pub returns : goal.returns
returns c h = all_idle c.args.serials.now c.args.tree.now.nodes (λ j less. c.serials.invariant j (omega arith))
