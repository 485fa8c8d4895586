use Rattle.std.proofs.Common.{arith, ◌∙◌}
use Rattle.std.proofs.lemmas.Grind.{common_steps}
use Rattle.pnp_io.proofs.Tellings.{ends_told, more_told, begins_more_told}
use Rattle.pnp_io.proofs.whole.read_through.Goals as goal

pub returns-then-n-eq0-clause-whole : goal.returns-then-n-eq0-clause-whole
returns-then-n-eq0-clause-whole g c =
    ends_told _ _ _ _ _ c.loop-files.buffer c.read.new.into (omega arith) c.if-n-eq0.true (omega (arith, c.loop-files.invariant.long)) c.loop-files.invariant.begins (rw c.loop-files.invariant.same at c.in_ok-n.ensures.told)

pub loop-files-preserved : goal.loop-files-preserved
loop-files-preserved g c =
    let next = begins_more_told _ _ c.loop-files.bytes.items c.len-in-loop-files.result c.in_ok-n.n c.loop-files.buffer c.read.new.into (omega arith) c.loop-files.invariant.begins (rw c.loop-files.invariant.same at c.in_ok-n.ensures.told) in
    record {
      long = omega (arith, c.read.auto.into, c.loop-files.invariant.long);
      begins = rw c.in_ok-extend_from_slice.ensures.items next;
      counts = λ other. grind (arith, common_steps, c.loop-files.invariant.counts other, c.in_ok-n.ensures.counts other);
      same = c.in_ok-n.ensures.same ∙ c.loop-files.invariant.same;
    }

pub returns-clause-too_large : goal.returns-clause-too_large
returns-clause-too_large g c = λ e. more_told _ _ _ _ (omega arith) c.loop-files.invariant.begins
