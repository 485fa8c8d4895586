-- One pass over the models lines, with a running best.
use Rattle.std.specs.Prelude.{ℕ, ◌+◌, List, [], ◌∷◌, take, nat_lt, Option, None}
use Rattle.std.specs.Option.{option_map}
use Rattle.inf_reader.specs.declared.parts.Inf.{Inf}
use Rattle.inf_reader.specs.declared.parts.ModelLine.{ModelLine}
use Rattle.driver_rank.specs.Best.{Match, match_at, is_better}
use Rattle.driver_rank.specs.First.{first_of}
use Rattle.driver_rank.specs.Lookups.{id_rank}

abbrev pub ranks_from : (List ℕ → Option ℕ) → ℕ → Option ℕ → ℕ → List (List ℕ) → Option ℕ
ranks_from f score least at [] = least
ranks_from f score least at (id ∷ ids) = ranks_from f score (first_of nat_lt least (id_rank f score at id)) (at + 1) ids

abbrev pub line_rank : (List ℕ → Option ℕ) → ModelLine → Option ℕ
line_rank f line = ranks_from f line.score None 0 (take 8 line.ids)

abbrev pub best_from : (List ℕ → Option ℕ) → ℕ → Inf → Option Match → ℕ → List ModelLine → Option Match
best_from f number inf found place [] = found
best_from f number inf found place (line ∷ lines) =
    best_from f number inf (first_of is_better found (option_map (match_at number inf place line) (line_rank f line))) (place + 1) lines

abbrev pub best_of_infs : (List ℕ → Option ℕ) → Option Match → ℕ → List Inf → Option Match
best_of_infs f found number [] = found
best_of_infs f found number (inf ∷ infs) = best_of_infs f (best_from f number inf found 0 inf.lines) (number + 1) infs
