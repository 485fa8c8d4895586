use Rattle.std.proofs.Common.{arith}
use Rattle.script_family.specs.Pairs.{term}
use Rattle.script_family.proofs.Windows.{sums_zero}
use Rattle.script_family.proofs.Placing.{never_behind}
use Rattle.script_family.proofs.pairs.find_lines.Goals as goal

pub loop-k-init : goal.loop-k-init
loop-k-init c = omega (arith, sums_zero (term c.args.pair c.args.n) c.window-start.result.0 c.window-start.ensures.before)

pub unreachable-requires : goal.unreachable-requires
unreachable-requires c =
    never_behind c.args.pair c.args.n c.loop-k.k c.args.number c.loop-k.rest (omega arith)
    (λ j low high. c.window-start.ensures.behind j (omega arith) high) c.requires.there c.loop-k.invariant
