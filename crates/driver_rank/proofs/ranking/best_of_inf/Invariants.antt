use Rattle.std.proofs.Common.{◌≡◌, drop, option_map}
use Rattle.driver_rank.specs.Candidates.{match_of}
use Rattle.driver_rank.specs.Lookups.{base_found}
use Rattle.driver_rank.specs.Passes.{best_from}
use Rattle.driver_rank.proofs.ranking.best_of_inf.Given as goal

abbrev pub invariant-loop-place : goal.invariant-loop-place
invariant-loop-place l = best_from (base_found l.ids) l.number l.inf (option_map match_of l.found) l.place (drop l.place l.inf.lines)
    ≡ best_from (base_found l.ids) l.number l.inf (option_map match_of l.initial.found) 0 l.inf.lines
