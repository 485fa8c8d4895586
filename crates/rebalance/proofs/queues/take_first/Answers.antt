use Rattle.std.proofs.Common.{ℕ, List, ◌∷◌, ◌∙◌, sym, ap}
use Rattle.rebalance.proofs.Taking.{first_cut}
use Rattle.rebalance.proofs.queues.take_first.Goals as goal

pub returns-clause-taken : goal.returns-clause-taken
returns-clause-taken c =
    first_cut c.args.queue.now c.in_ok-serial.serial (sym c.in_ok-serial.ensures) ∙ ap (λ (l : List ℕ). c.in_ok-serial.serial ∷ l) (sym c.drop_first.ensures)
