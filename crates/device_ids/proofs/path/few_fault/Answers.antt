use Rattle.std.proofs.Common.{arith}
use Rattle.device_ids.proofs.Scans.{found}
use Rattle.device_ids.proofs.path.few_fault.Goals as goal
use Rattle.device_ids.proofs.path.few_fault.Goals.{then-backslashes-bytes-via-then-backslashes-bytes, then-backslashes-bytes-via-else-backslashes-bytes+then-parts-ne3}

pub returns-then-backslashes-bytes : goal.returns-then-backslashes-bytes
returns-then-backslashes-bytes c = elim c.then-backslashes-bytes.branch [
  | then-backslashes-bytes-via-then-backslashes-bytes w ↦
      (found c.args.bytes.now c.args.text.now c.loop-byte.byte-index c.loop-byte.backslashes c.loop-byte.parts c.loop-byte.illegal c.loop-byte.begins c.requires.few c.requires.text (omega arith) c.loop-byte.invariant).wrong_cuts w.if-backslashes-bytes.true
  | then-backslashes-bytes-via-else-backslashes-bytes+then-parts-ne3 w ↦
      (found c.args.bytes.now c.args.text.now c.loop-byte.byte-index c.loop-byte.backslashes c.loop-byte.parts c.loop-byte.illegal c.loop-byte.begins c.requires.few c.requires.text (omega arith) c.loop-byte.invariant).wrong_starts w.if-parts-ne3.true
]

pub returns-then-illegal-ne0 : goal.returns-then-illegal-ne0
returns-then-illegal-ne0 c =
    (found c.args.bytes.now c.args.text.now c.loop-byte.byte-index c.loop-byte.backslashes c.loop-byte.parts c.loop-byte.illegal c.loop-byte.begins c.requires.few c.requires.text (omega arith) c.loop-byte.invariant).wrong_byte c.if-backslashes-bytes.false c.if-parts-ne3.false c.if-illegal-ne0.true

pub returns : goal.returns
returns c =
    (found c.args.bytes.now c.args.text.now c.loop-byte.byte-index c.loop-byte.backslashes c.loop-byte.parts c.loop-byte.illegal c.loop-byte.begins c.requires.few c.requires.text (omega arith) c.loop-byte.invariant).right c.if-backslashes-bytes.false c.if-parts-ne3.false c.if-illegal-ne0.false
