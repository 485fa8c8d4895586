use Rattle.pnp_labels.proofs.Reading.{spaced_next}
use Rattle.drive_cli.proofs.machine.push_held.Goals as goal

pub loop-at-preserved : goal.loop-at-preserved
loop-at-preserved c =
    rw (c.in_ok-push_res.ensures, c.in_ok-push.ensures.items)
    (spaced_next c.loop-at.words.items _ c.args.held.now c.loop-at.at c.get.result.now c.get.ensures c.loop-at.invariant)
