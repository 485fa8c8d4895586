use Rattle.std.proofs.Common.{arith}
use Rattle.script_family.specs.Steps.{shape}
use Rattle.script_family.proofs.Totals.{none_left}
use Rattle.script_family.proofs.family.lines_of.Goals as goal

pub unreachable-requires : goal.unreachable-requires
unreachable-requires c =
    none_left (shape c.args.parts.now c.args.part) c.loop-lines.lines c.loop-lines.rest c.args.number c.requires.below (omega arith) c.loop-lines.invariant
