-- The best driver of a device: the first of all matches between its IDs and those of models lines. The match types and
-- their order are the driver kit's ("How Windows Ranks Drivers"); the number, and what decides between equal numbers, are
-- this project's own.
use Rattle.std.specs.Prelude.{ℕ, ◌+◌, ◌*◌, ◌==◌, Bool, true, false, nat_lt, List, [], ◌∷◌, ◌++◌, map, take, Option, if◌then◌else◌}
use Rattle.std.specs.Option.{option_map}
use Rattle.std.specs.List.{filter, flat_map, enumerate_from}
use Rattle.device_ids.specs.Folding.{same}
use Rattle.inf_reader.specs.declared.parts.Inf.{Inf}
use Rattle.inf_reader.specs.declared.parts.ModelLine.{ModelLine}
use Rattle.driver_rank.specs.declared.choice.Choice.{Choice}
use Rattle.driver_rank.specs.First.{least_of}

-- an ID of the device: its text, its place in its own list, and whether it is a compatible ID or a hardware ID
pub record Given : Type 0 where
  pub text : List ℕ
  pub at : ℕ
  pub compatible : Bool

abbrev pub given_from : Bool → ℕ → List (List ℕ) → List Given
given_from compatible at [] = []
given_from compatible at (id ∷ ids) = record { text = id; at = at; compatible = compatible } ∷ given_from compatible (at + 1) ids

abbrev pub given_of : List (List ℕ) → List (List ℕ) → List Given
given_of hw compat = given_from false 0 hw ++ given_from true 0 compat

-- an ID of an INF agrees with one of the device where both are equal after ASCII letters are folded; an empty one never does
abbrev pub agrees : List ℕ → Given → Bool
agrees [] g = false
agrees (b ∷ id) g = same (b ∷ id) g.text

-- 0 for hardware ID with hardware ID, 1 for hardware ID with the INF's compatible ID, 2 for compatible ID with the INF's
-- hardware ID, 3 for both compatible; the first ID of a line is the hardware ID
abbrev pub match_type : Bool → ℕ → ℕ
match_type compatible at = (if compatible then 2 else 0) + (if at == 0 then 0 else 1)

-- the number of a match: the line's score, the match type, the place of the device's ID, the place of the line's ID
abbrev pub rank_of : ℕ → Given → ℕ → ℕ
rank_of score g at = score * 0x10000 + match_type g.compatible at * 0x1000 + g.at * 8 + at

-- of all matches of the ID at a place of a line, and of a line's first eight IDs
abbrev pub ranks_at : ℕ → List Given → ℕ × List ℕ → List ℕ
ranks_at score gs id = map (λ g. rank_of score g id.0) (filter (agrees id.1) gs)

abbrev pub ranks_of : List Given → ModelLine → List ℕ
ranks_of gs line = flat_map (ranks_at line.score gs) (enumerate_from 0 (take 8 line.ids))

-- a match: its rank, the line, and where that stands
pub record Match : Type 0 where
  pub rank : ℕ
  pub date : ℕ  -- of the INF
  pub version : ℕ
  pub inf : ℕ  -- the place of the INF
  pub line : ModelLine
  pub place : ℕ  -- of the line among those of its INF

abbrev pub match_at : ℕ → Inf → ℕ → ModelLine → ℕ → Match
match_at number inf place line rank = record { rank = rank; date = inf.date; version = inf.version; inf = number; line = line; place = place }

abbrev pub line_matches : List Given → ℕ → Inf → ℕ × ModelLine → List Match
line_matches gs number inf line = map (match_at number inf line.0 line.1) (ranks_of gs line.1)

abbrev pub inf_matches : List Given → ℕ × Inf → List Match
inf_matches gs inf = flat_map (line_matches gs inf.0 inf.1) (enumerate_from 0 inf.1.lines)

-- all matches of a device
abbrev pub matches : List Given → List Inf → List Match
matches gs infs = flat_map (inf_matches gs) (enumerate_from 0 infs)

-- the lesser number decides, and between equal ones what follows
abbrev pub by : ℕ → ℕ → Bool → Bool
by a b rest = if nat_lt a b then true else (if nat_lt b a then false else rest)

-- x is better: lesser rank, newer date, higher version, INF named first, earlier line
abbrev pub is_better : Match → Match → Bool
is_better x y = by x.rank y.rank (by y.date x.date (by y.version x.version (by x.inf y.inf (by x.line.line y.line.line (nat_lt x.place y.place)))))

abbrev pub choice_of : Match → Choice
choice_of m = record { inf = m.inf; line = m.line.line; rank = m.rank; service = m.line.service; lower = m.line.lower; upper = m.line.upper }

abbrev pub best : List Inf → List (List ℕ) → List (List ℕ) → Option Choice
best infs hw compat = option_map choice_of (least_of is_better (matches (given_of hw compat) infs))
