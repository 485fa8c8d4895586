use Rattle.std.proofs.Common.{◌∙◌, sym, ap, ◌+◌, arith}
use Rattle.script_family.specs.Counts.{capped}
use Rattle.script_family.specs.Pairs.{term}
use Rattle.script_family.proofs.Windows.{sums_zero, sums_window}
use Rattle.script_family.proofs.pairs.count_pair.Goals as goal

pub loop-k-init : goal.loop-k-init
loop-k-init c = sym (ap capped (sums_zero (term c.args.pair c.args.n) c.window-start.result.0 c.window-start.ensures.before))

pub returns : goal.returns
returns c =
    c.loop-k.invariant
    ∙ sym (ap capped (sums_window (term c.args.pair c.args.n) c.loop-k.k (c.args.n + 1) (omega arith)
    (λ j low high. c.window-start.ensures.behind j (omega arith) high)))
