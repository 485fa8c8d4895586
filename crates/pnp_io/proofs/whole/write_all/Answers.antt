use Rattle.std.proofs.Common.{arith}
use Rattle.pnp_io.proofs.Tellings.{appends_more}
use Rattle.pnp_io.proofs.whole.write_all.Goals as goal

pub loop-done-preserved : goal.loop-done-preserved
loop-done-preserved g c =
    record {
      within = omega (arith, c.in_ok-done.ensures.within);
      took = appends_more _ _ _ c.args.bytes.now c.loop-done.done c.in_ok-done.field-0 c.loop-done.invariant.within c.loop-done.invariant.took c.in_ok-done.ensures.took;
      counts = omega (arith, c.in_ok-done.ensures.counts);
    }
