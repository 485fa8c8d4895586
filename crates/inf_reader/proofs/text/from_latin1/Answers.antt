use Rattle.std.proofs.Common.{◌∙◌}
use Rattle.inf_reader.proofs.Encodings.{latin1_more}
use Rattle.inf_reader.proofs.text.from_latin1.Goals as goal

pub loop-byte-preserved : goal.loop-byte-preserved
loop-byte-preserved c = c.in_ok-push.ensures.bytes ∙ latin1_more c.args.bytes.now c.loop-byte.byte-index _ c.loop-byte-test.true c.loop-byte.invariant
