-- Disable a device and enable it again: it is started with the same drivers, and all else is as it was.
use Rattle.std.specs.Prelude.{ℕ, ◌≡◌, ◌≢◌, false, List, [], ◌∷◌, Some, None, find, slice_get}
use Rattle.std.specs.List.{AllByRecursion}
use Rattle.resource_reqs.specs.Resources.{Res}
use Rattle.resource_reqs.specs.Spelling.{IsAnswer}
use Rattle.resource_reqs.specs.Spelling.Answer.{assignment, spent}
use Rattle.pnp_labels.specs.Texts.{Text}
use Rattle.pnp_labels.specs.declared.event.Event.{Event}
use Rattle.pnp_labels.specs.declared.states.DevState.TheVariants.{Started}
use Rattle.pnp_labels.specs.declared.words.AskWhat.{AskWhat}
use Rattle.pnp_model.specs.Books.{book_of, fits}
use Rattle.pnp_model.specs.Cores.{forget, is_node}
use Rattle.pnp_model.specs.Handles.{is_open}
use Rattle.pnp_model.specs.Keyed.{changed_first}
use Rattle.pnp_model.specs.Laws.{Reaches}
use Rattle.pnp_model.specs.Machine.{IsQuiet}
use Rattle.pnp_model.specs.Records.{Driver, Node, Settings, State}
use Rattle.pnp_model.specs.Runs.{Entry, Run}
use Rattle.pnp_model.specs.Starts.{own_part, own_problem}
use Rattle.pnp_model.specs.States.{node_of}
use Rattle.pnp_model.specs.Tasks.{joining}
use Rattle.pnp_model.specs.Tests.{has_same}
use Rattle.pnp_model.specs.Trees.{dependents}
use Rattle.pnp_promises.specs.Later.{NoneDeclined, happened}

-- nothing is under way
pub record IsStill (s : State) : Type 0 where
  pub none : s.operation ≡ None
  pub idle : s.activities ≡ []
  pub done : s.tasks ≡ []

-- the driver has no rule for what is asked for this path: so it answers ok, and its book stays
abbrev pub HasNoRule : List Driver → Text → ℕ → Type 0
HasNoRule rack path d = (what : AskWhat) → find (fits what path) (book_of (slice_get rack d)) ≡ None

-- The device of the path is Started and can be taken out alone: it is not the root, nothing depends on it or is to join below it, no handle
-- to it is open, its drivers agree to all that is asked for it, and the search of its resources stays within the budget.
pub record StandsAlone (settings : Settings) (s : State) (path : Text) (n : Node) : Type 0 where
  pub named : node_of path s.core.nodes ≡ Some n
  pub no_root : n.serial ≢ 0
  pub up : n.state ≡ Started
  pub enabled : has_same path s.disabled ≡ false
  pub nobody : dependents s.core n.serial ≡ []
  pub none_joins : joining n.born s.core.nodes s.world ≡ None
  pub shut : is_open s.handles n.serial ≡ false
  pub agree : AllByRecursion (HasNoRule s.core.rack n.path) n.stack
  pub in_budget : IsAnswer (own_problem s.core n).fixed (own_problem s.core n).movers settings.budget spent → ⊥

-- what is found for the device alone, beside all that others hold and what is reserved: the first that fits
abbrev pub IsFirstFit : Settings → State → Node → List Res → Type 0
IsFirstFit settings s n holds =
    (plan : List (List Res)) × IsAnswer (own_problem s.core n).fixed (own_problem s.core n).movers settings.budget (assignment plan) × (holds ≡ own_part plan)

-- the state, but that the device has no problem, holds this, and is owner and member of no relation
abbrev pub with_anew : Node → List Res → State → State
with_anew n holds s =
    record s {
      core = record s.core {
        nodes = changed_first (is_node n.serial) (λ (m : Node). record m { problem = None; holds = holds }) s.core.nodes;
        relations = forget n.serial s.core.relations;
      };
    }

-- Where nothing is under way, a device that stands alone is disabled and enabled, and the machine comes to rest, all is as it was: the device is
-- Started with the same drivers, below the same parent, under the same serial. But it holds what a search finds first, and its relations are gone.
abbrev pub DisabledAndEnabledLaw : Type 0
DisabledAndEnabledLaw =
    (settings : Settings) (rack : List Driver) (earlier entries : List Entry) (s t : State) (path : Text) (n : Node)
    → Reaches settings rack earlier s → IsStill s → StandsAlone settings s path n → Run settings s entries t → NoneDeclined entries → IsQuiet settings t
    → happened entries ≡ Event.Disable path ∷ Event.Enable path ∷ [] → (holds : List Res) × IsFirstFit settings s n holds × (t ≡ with_anew n holds s)

-- So doing it twice is as doing it once.
abbrev pub TwiceIsAsOnceLaw : Type 0
TwiceIsAsOnceLaw =
    (settings : Settings) (rack : List Driver) (earlier once again : List Entry) (s t u : State) (path : Text) (n : Node)
    → Reaches settings rack earlier s → IsStill s → StandsAlone settings s path n
    → Run settings s once t → NoneDeclined once → IsQuiet settings t → happened once ≡ Event.Disable path ∷ Event.Enable path ∷ []
    → Run settings t again u → NoneDeclined again → IsQuiet settings u → happened again ≡ Event.Disable path ∷ Event.Enable path ∷ [] → u ≡ t
