use Rattle.std.proofs.Common.{◌≡◌, drop, option_map, None}
use Rattle.driver_rank.specs.Candidates.{match_of}
use Rattle.driver_rank.specs.Lookups.{base_found}
use Rattle.driver_rank.specs.Passes.{best_of_infs}
use Rattle.driver_rank.proofs.ranking.best_match.Given as goal

abbrev pub invariant-loop-number : goal.invariant-loop-number
invariant-loop-number l = best_of_infs (base_found l.ids) (option_map match_of l.found) l.number (drop l.number l.infs) ≡ best_of_infs (base_found l.ids) None 0 l.infs
