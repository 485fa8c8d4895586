-- The order of the lines that match a device, and the first place of a want.
use Rattle.std.specs.Prelude.{ℕ, Bool, not, nat_lt, []}
use Rattle.driver_rank.specs.Best.{Given, by}
use Rattle.why_facts.specs.declared.matches.Match.{Match}

-- as `is_better` of driver_rank has it: the lesser rank, the newer date, the higher version, the INF that is named first, the earlier line
abbrev pub comes_before : Match → Match → Bool
comes_before x y = by x.rank y.rank (by y.date x.date (by y.version x.version (by x.inf y.inf (by x.line y.line (nat_lt x.place y.place)))))

-- an ID of the device at a place of its list, as driver_rank has it; its text does not count for the rank
abbrev pub given : Bool → ℕ → Given
given hardware at = record { text = []; at = at; compatible = not hardware }
