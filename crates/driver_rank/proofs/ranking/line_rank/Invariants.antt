use Rattle.std.proofs.Common.{◌≡◌, take, drop}
use Rattle.driver_rank.specs.Lookups.{base_found}
use Rattle.driver_rank.specs.Passes.{line_rank, ranks_from}
use Rattle.driver_rank.proofs.ranking.line_rank.Given as goal

abbrev pub invariant-loop-at : goal.invariant-loop-at
invariant-loop-at l = ranks_from (base_found l.ids) l.line.score l.least l.at (drop l.at (take 8 l.line.ids)) ≡ line_rank (base_found l.ids) l.line
