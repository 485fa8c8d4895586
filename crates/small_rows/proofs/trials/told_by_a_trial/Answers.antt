use Rattle.std.proofs.Common.{length, ap, arith}
use Rattle.small_rows.proofs.trials.told_by_a_trial.Goals as goal

-- nothing is held
pub begin-requires : goal.begin-requires
begin-requires c = λ k. let none = ap length (c.requires k) in omega (arith, none)
