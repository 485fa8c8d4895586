use Rattle.std.proofs.Common.{◌∙◌, sym, arith}
use Rattle.start_sequence.proofs.Numbers.{continues_found, continues_missing, continues_end}
use Rattle.start_sequence.proofs.begin.append_numbers.Goals as goal

pub loop-at-init : goal.loop-at-init
loop-at-init g c = λ ok new a. a

pub returns-in_default : goal.returns-in_default
returns-in_default g c =
    continues_missing (g.R.Drivers.rows c.args.rack.now) c.args.names.now c.loop-at.at c.get.result.now c.get.ensures.part _ c.args.drivers.now.items c.loop-at.drivers.items _ (sym c.in_default.is ∙ c.find.ensures) c.loop-at.invariant

pub loop-at-preserved : goal.loop-at-preserved
loop-at-preserved g c =
    rw c.in_ok-push_back.ensures.items
    (continues_found (g.R.Drivers.rows c.args.rack.now) c.args.names.now c.loop-at.at c.get.result.now c.get.ensures.part c.in-Some.driver _ c.args.drivers.now.items c.loop-at.drivers.items (sym c.in-Some.is ∙ c.find.ensures) c.loop-at.invariant)

pub returns : goal.returns
returns g c =
    continues_end (g.R.Drivers.rows c.args.rack.now) c.args.names.now c.loop-at.at _ c.args.drivers.now.items c.loop-at.drivers.items (omega arith) c.loop-at.invariant
