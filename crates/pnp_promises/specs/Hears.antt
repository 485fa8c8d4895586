-- What a device hears after it was asked, and in which order devices are asked whether they may stop.
use Rattle.std.specs.Prelude.{ℕ, ◌≡◌, ◌<◌, true, List, Some, slice_get}
use Rattle.pnp_labels.specs.declared.label.Label.{Label}
use Rattle.pnp_labels.specs.declared.words.Minor.{Minor}
use Rattle.pnp_model.specs.Frames.{rest}
use Rattle.pnp_model.specs.Laws.{Reaches}
use Rattle.pnp_model.specs.Records.{Driver, Job, Settings, State, Walk}
use Rattle.pnp_model.specs.Runs.{Entry, Goes}
use Rattle.pnp_model.specs.Runs.Entry.{Did}
use Rattle.pnp_model.specs.Tests.{has}
use Rattle.pnp_model.specs.Walks.{is_bad, walk_of}

-- the operation asks its first device this
pub record IsAsked (s : State) (k : ℕ) (w : Walk) : Type 0 where
  pub operation : Job
  pub runs : s.operation ≡ Some operation
  pub first : slice_get operation.todo 0 ≡ Some k
  pub walk : operation.walk ≡ Some w

-- what takes a query back
pub data TakesBack : Minor → Minor → Type 0 where
  remove : TakesBack Minor.QueryRemove Minor.CancelRemove
  stop : TakesBack Minor.QueryStop Minor.CancelStop

-- a device that refuses is told at once that it stays
abbrev pub RefusersHearLaw : Type 0
RefusersHearLaw =
    (settings : Settings) (rack : List Driver) (entries : List Entry) (s : State) (label : Label) (t : State) (k : ℕ) (w : Walk) (back : Minor)
    → Reaches settings rack entries s → IsAsked s k w → is_bad w ≡ true → TakesBack w.minor back → Goes settings s (Did label) t → IsAsked t k (walk_of back)

-- the device that is asked whether it may stop has the greatest serial of those that are still to be asked, and all that agreed have
-- greater ones: so a child is asked before its parent
pub record FromTheGreatest (s : State) (o : Job) (k : ℕ) : Type 0 where
  pub left : (j : ℕ) → has (rest o.todo) j ≡ true → j < k
  pub agreed : (j : ℕ) → has o.agreed j ≡ true → k < j

abbrev pub AskedFromTheGreatestLaw : Type 0
AskedFromTheGreatestLaw =
    (settings : Settings) (rack : List Driver) (entries : List Entry) (s : State) (k : ℕ) (w : Walk)
    → Reaches settings rack entries s → (asked : IsAsked s k w) → w.minor ≡ Minor.QueryStop → FromTheGreatest s asked.operation k
