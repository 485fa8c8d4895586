-- What is told after a step: a tally as what it tells, and how each call changes that.
use Rattle.std.specs.Prelude.{ℕ, ◌+◌, ◌==◌, min, Bool, nat_lt, if◌then◌else◌, List, [], ◌∷◌, map, Option, Some, None}
use Rattle.std.specs.Ordering.{nat_cmp, is_lt}
use Rattle.std.specs.Cmp.Lexicographic.{slice_cmp}
use Rattle.std.specs.FinMap.{FinMap, get, insert, from_entries}
use Rattle.std.specs.declared.vec.Vec.{Vec}
use Rattle.std.specs.declared.alloc.Global.{Global}
use Rattle.ending_tally.specs.declared.tally.Mark.{Mark}
use Rattle.ending_tally.specs.declared.tally.Ending.{Ending}
use Rattle.ending_tally.specs.declared.tally.Tally.{Tally}
use Rattle.ending_tally.specs.Sorting.{sorted_by}
use Rattle.ending_tally.specs.Tallies.{Ended, Told, capped, no_mark}

-- what is told of an ending, without where it lies in memory
abbrev pub ended : Ending → Ended
ended e = record { mark = e.mark; text = e.text.items }

abbrev pub entry_of : Vec ℕ Global × Ending → List ℕ × Ended
entry_of e = (e.0.items, ended e.1)

-- what a tally tells
abbrev pub told : Tally → Told
told t = record { scripts = t.scripts; broken = t.broken.items; endings = from_entries (map entry_of t.endings.entries) }

-- the mark of all runs of two marks
abbrev pub both : Mark → Mark → Mark
both one other = if other.scripts == 0 then one else if one.scripts == 0 then other else record { scripts = capped (one.scripts + other.scripts); first = min one.first other.first }

-- the mark of the run of a number, or of none
abbrev pub mark_if : Bool → ℕ → Mark
mark_if there number = if there then record { scripts = 1; first = number } else no_mark

-- an ending to which more runs came: the text is that of the lesser number
abbrev pub with_ended : Option Ended → Ended → Ended
with_ended None more = more
with_ended (Some told) more = record { mark = both told.mark more.mark; text = if nat_lt more.mark.first told.mark.first then more.text else told.text }

-- the endings, with these runs under a kind
abbrev pub with_kind : FinMap (slice_cmp nat_cmp) Ended → List ℕ → Ended → FinMap (slice_cmp nat_cmp) Ended
with_kind endings kind more = insert endings kind (with_ended (get endings kind) more)

-- the endings, with all of these
abbrev pub with_all : FinMap (slice_cmp nat_cmp) Ended → List (List ℕ × Ended) → FinMap (slice_cmp nat_cmp) Ended
with_all endings [] = endings
with_all endings (e ∷ es) = with_all (with_kind endings e.0 e.1) es

-- endings by their first runs
abbrev pub earlier : Ended → Ended → Bool
earlier e other = is_lt (nat_cmp e.mark.first other.mark.first)

abbrev pub by_first : List Ended → List Ended
by_first endings = sorted_by earlier endings
