-- Each operation has a cause: what happened, or was printed, before it.
use Rattle.std.specs.Prelude.{ℕ, ◌≡◌, false, List, ◌∷◌, ◌++◌, Some}
use Rattle.resource_reqs.specs.Resources.{Reqs}
use Rattle.pnp_labels.specs.Texts.{Text}
use Rattle.pnp_labels.specs.declared.deed.Deed.{Deed}
use Rattle.pnp_labels.specs.declared.event.Event.{Event}
use Rattle.pnp_labels.specs.declared.label.Label.{Label}
use Rattle.pnp_labels.specs.declared.label.OpKind.{OpKind}
use Rattle.pnp_labels.specs.declared.states.Problem.{Problem}
use Rattle.pnp_model.specs.Cores.{node_at}
use Rattle.pnp_model.specs.Laws.{Reaches}
use Rattle.pnp_model.specs.Records.{Driver, Node, Settings, State}
use Rattle.pnp_model.specs.Runs.{Entry, Goes}
use Rattle.pnp_model.specs.Runs.Entry.{Happens, Did}
use Rattle.pnp_model.specs.States.{is_in_world, node_of}

-- why an operation of a kind is due for a device: by an event that was accepted, or by a line
pub data Causes (s : State) : Entry → OpKind → ℕ → Type 0 where
  disabled : (path : Text) (n : Node) (deed : Deed) → node_of path s.core.nodes ≡ Some n → Causes s (Happens (Event.Disable path) (Label.Did deed)) OpKind.Disable n.serial
  ejected : (path : Text) (n : Node) (deed : Deed) → node_of path s.core.nodes ≡ Some n → Causes s (Happens (Event.Eject path) (Label.Did deed)) OpKind.Eject n.serial
  changed : (path : Text) (reqs : Reqs) (n : Node) (deed : Deed) → node_of path s.core.nodes ≡ Some n → Causes s (Happens (Event.Change path reqs) (Label.Did deed)) OpKind.Change n.serial
  -- the last handle to a device that has gone
  closed : (path : Text) (n : Node) (deed : Deed) → node_of path s.core.nodes ≡ Some n → Causes s (Happens (Event.CloseHandle path) (Label.Did deed)) OpKind.Finish n.serial
  -- nothing fits
  unplaced : (n : Node) → node_at n.serial s.core.nodes ≡ Some n → Causes s (Did (Label.NoFit n.path)) OpKind.Rebalance n.serial
  -- it is in the world no more
  gone : (n : Node) → node_at n.serial s.core.nodes ≡ Some n → is_in_world s.world n.born ≡ false → Causes s (Did (Label.Gone n.path)) OpKind.Surprise n.serial
  -- it would not start again after it was stopped
  failed : (n : Node) → node_at n.serial s.core.nodes ≡ Some n → Causes s (Did (Label.Trouble n.path Problem.FailedStart)) OpKind.Surprise n.serial

-- such an entry stands among these
pub record IsCaused (settings : Settings) (rack : List Driver) (entries : List Entry) (kind : OpKind) (k : ℕ) : Type 0 where
  pub earlier : List Entry
  pub later : List Entry
  pub before : State
  pub cause : Entry
  pub after : State
  pub all : entries ≡ earlier ++ cause ∷ later
  pub reaches : Reaches settings rack earlier before
  pub goes : Goes settings before cause after
  pub causes : Causes before cause kind k

-- of each operation that begins, for its device
abbrev pub OperationsHaveCausesLaw : Type 0
OperationsHaveCausesLaw =
    (settings : Settings) (rack : List Driver) (entries : List Entry) (s : State) (kind : OpKind) (path : Text) (t : State)
    → Reaches settings rack entries s → Goes settings s (Did (Label.Begin kind path)) t
    → (n : Node) × (node_at n.serial s.core.nodes ≡ Some n) × (n.path ≡ path) × IsCaused settings rack entries kind n.serial
