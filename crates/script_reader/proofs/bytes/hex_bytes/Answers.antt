use Rattle.std.proofs.Common.{arith}
use Rattle.script_reader.proofs.HexBytes.{front_none, goes_on, no_byte, all_read, one_left}
use Rattle.script_reader.proofs.bytes.hex_bytes.Goals as goal

pub loop-init : goal.loop-init
loop-init c = grind (arith, front_none)

pub returns-in_default : goal.returns-in_default
returns-in_default c = grind (arith, no_byte)

pub loop-preserved : goal.loop-preserved
loop-preserved c = grind (arith, goes_on)

pub returns-then-is_empty : goal.returns-then-is_empty
returns-then-is_empty c = grind (arith, all_read)

pub returns-else-is_empty : goal.returns-else-is_empty
returns-else-is_empty c = grind (arith, one_left)
