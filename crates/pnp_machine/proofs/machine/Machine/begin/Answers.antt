use Rattle.std.proofs.Common.{sym}
use Rattle.pnp_machine.proofs.BeginSteps.{not_rebalanced, not_disabled, not_surprised, not_finished, finish_taken}
use Rattle.pnp_machine.proofs.machine.Machine.begin.Goals as goal

pub returns-in-Rebalance-2-clause-done : goal.returns-in-Rebalance-2-clause-done
returns-in-Rebalance-2-clause-done g c =
    rw c.in-Rebalance-2.is
    (not_rebalanced c.args.self.now c.args.serial _ _ (sym c.if-can_rebalance.ensures) (rw c.in-Rebalance-2.is at c.skip_begin-in-Rebalance-2.ensures))

pub returns-in-Disable-clause-done : goal.returns-in-Disable-clause-done
returns-in-Disable-clause-done g c =
    rw c.in-Disable.is
    (not_disabled c.args.self.now c.args.serial _ _ (sym c.if-is_disabled.ensures) (rw c.in-Disable.is at c.skip_begin-in-Disable.ensures))

pub returns-in-Surprise-clause-done : goal.returns-in-Surprise-clause-done
returns-in-Surprise-clause-done g c =
    rw c.in-Surprise.is
    (not_surprised c.args.self.now c.args.serial _ _ (sym c.if-was_told.ensures) (rw c.in-Surprise.is at c.skip_begin-in-Surprise.ensures))

pub returns-in-Finish-clause-done : goal.returns-in-Finish-clause-done
returns-in-Finish-clause-done g c =
    rw c.in-Finish.is
    (finish_taken c.args.self.now c.args.serial c.begin_finish.new.self c.begin_finish.result c.if-is_ready.ensures c.begin_finish.ensures.done)

pub returns-in-Finish-2-clause-done : goal.returns-in-Finish-2-clause-done
returns-in-Finish-2-clause-done g c =
    rw c.in-Finish-2.is
    (not_finished c.args.self.now c.args.serial _ _ (sym c.if-is_ready.ensures) (rw c.in-Finish-2.is at c.skip_begin-in-Finish-2.ensures))
