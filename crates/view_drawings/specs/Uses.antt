-- How often rows of the state diagram were used.
use Rattle.std.specs.Prelude.{◌≡◌, ℕ, ◌+◌, ◌^◌, ◌-◌, List, Some, slice_index, slice_set, min}
use Rattle.pnp_labels.specs.declared.states.DevState.{DevState}
use Rattle.pnp_labels.specs.declared.words.Minor.{Minor}
use Rattle.view_drawings.specs.Rows.{from_of, minor_of, to_of}
use Rattle.view_drawings.specs.declared.rows.Row.{Row}
use Rattle.view_drawings.specs.declared.rows.Row.TheVariants.{Add, Start, StartBad, Remove, QueryStop, QueryStopBad, CancelStopRefused, CancelStop, Stop, Restart, RestartBad, SurpriseStopped, QueryRemove, QueryRemoveBad, CancelRemoveRefused, CancelRemove, RemovePending, Surprise, RemoveSurprised}

-- the place of a row
abbrev pub place_of : Row → ℕ
place_of Add = 0
place_of Start = 1
place_of StartBad = 2
place_of Remove = 3
place_of QueryStop = 4
place_of QueryStopBad = 5
place_of CancelStopRefused = 6
place_of CancelStop = 7
place_of Stop = 8
place_of Restart = 9
place_of RestartBad = 10
place_of SurpriseStopped = 11
place_of QueryRemove = 12
place_of QueryRemoveBad = 13
place_of CancelRemoveRefused = 14
place_of CancelRemove = 15
place_of RemovePending = 16
place_of Surprise = 17
place_of RemoveSurprised = 18

abbrev pub count_of : Row → List ℕ → ℕ
count_of row counts = slice_index counts (place_of row)

-- one more for this row, up to the greatest number, and the same for all others
abbrev pub counted : Row → List ℕ → List ℕ
counted row counts = slice_set counts (place_of row) (min (count_of row counts + 1) (2 ^ 64 - 1))

-- the row from a state by a request to a state was used once more
pub record IsCounted (from : DevState) (minor : Minor) (to : DevState) (old new : List ℕ) : Type 0 where
  pub row : Row
  pub starts : from_of row ≡ from
  pub asks : minor_of row ≡ Some minor
  pub ends : to_of row ≡ to
  pub counts : new ≡ counted row old
