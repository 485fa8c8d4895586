-- What a candidate stands for.
use Rattle.driver_rank.specs.Best.{Match, match_at}
use Rattle.driver_rank.specs.declared.candidate.Candidate.{Candidate}

abbrev pub match_of : Candidate → Match
match_of c = match_at c.number c.inf.now c.place c.line.now c.rank
