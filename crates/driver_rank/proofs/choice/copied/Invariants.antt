use Rattle.std.proofs.Common.{◌≡◌, take}
use Rattle.driver_rank.proofs.choice.copied.Given as goal

abbrev pub invariant-loop-at : goal.invariant-loop-at
invariant-loop-at l = l.texts ≡ take l.at l.from
