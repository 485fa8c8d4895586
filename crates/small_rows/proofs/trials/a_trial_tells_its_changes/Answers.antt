use Rattle.std.proofs.Common.{ap}
use Rattle.range_arbiter.specs.Pairs.{Arbiter}
use Rattle.small_rows.proofs.trials.a_trial_tells_its_changes.Goals as goal

-- nothing is held at first
pub told_by_a_trial-requires : goal.told_by_a_trial-requires
told_by_a_trial-requires c = λ k. ap (λ (a : Arbiter). a.pairs) (c.in_ok-arbiters.ensures.kinds k)
