-- Which driver is the best one: no match of a device's IDs with those of an INF is better.
use Rattle.std.specs.Prelude.{ℕ, ◌≡◌, ◌<◌, ◌≤◌, ◌⊎◌, List, Some, Contains}
use Rattle.inf_reader.specs.declared.parts.Inf.{Inf}
use Rattle.driver_rank.specs.Best.{Match, best, choice_of, given_of, matches}
use Rattle.driver_rank.specs.declared.choice.Choice.{Choice}

-- the lesser decides, and between equal ones what follows
abbrev pub LessOr : ℕ → ℕ → Type 0 → Type 0
LessOr a b Rest = (a < b) ⊎ ((a ≡ b) × Rest)

-- the lesser number, then the newer INF, the higher version, the INF that was named first, the earlier line
abbrev pub IsNoWorse : Match → Match → Type 0
IsNoWorse m other =
    LessOr m.rank other.rank
    (LessOr other.date m.date (LessOr other.version m.version (LessOr m.inf other.inf (LessOr m.line.line other.line.line (m.place ≤ other.place)))))

-- what is chosen is one of the matches, and no worse than any
abbrev pub TheBestIsChosenLaw : Type 0
TheBestIsChosenLaw =
    (infs : List Inf) (hw compat : List (List ℕ)) (choice : Choice) → best infs hw compat ≡ Some choice
    → (m : Match) × Contains (matches (given_of hw compat) infs) m × (choice_of m ≡ choice)
    × ((other : Match) → Contains (matches (given_of hw compat) infs) other → IsNoWorse m other)
