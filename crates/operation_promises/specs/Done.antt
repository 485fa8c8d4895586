-- What an operation has done where its last line is printed.
use Rattle.std.specs.Prelude.{ℕ, ◌≡◌, ◌⊎◌, true, List, ◌∷◌, Some, None}
use Rattle.resource_reqs.specs.Resources.{Whole}
use Rattle.resource_reqs.specs.Spelling.Answer.{no_fit, spent}
use Rattle.pnp_labels.specs.Texts.{Text}
use Rattle.pnp_labels.specs.declared.label.Label.{Label}
use Rattle.pnp_labels.specs.declared.label.OpEnd.{OpEnd}
use Rattle.pnp_labels.specs.declared.label.OpKind.{OpKind}
use Rattle.pnp_labels.specs.declared.states.DevState.TheVariants.{NoStack, SurpriseRemoved}
use Rattle.pnp_model.specs.Cores.{node_at, path_of}
use Rattle.pnp_model.specs.Laws.{Reaches}
use Rattle.pnp_model.specs.Rebalances.{has_refused}
use Rattle.pnp_model.specs.Records.{Course, Driver, Job, Node, Settings, State, course_of}
use Rattle.pnp_model.specs.Runs.{Entry, Goes}
use Rattle.pnp_model.specs.Runs.Entry.{Did}
use Rattle.pnp_model.specs.Tests.{has}
use Rattle.pnp_laws.specs.Effects.{Running}

-- who of these is still there has no drivers
abbrev pub NoneDriven : List ℕ → List Node → Type 0
NoneDriven set nodes = (k : ℕ) (n : Node) → node_at k nodes ≡ Some n → has set k ≡ true → n.state ≡ NoStack

-- or has gone and waits to be finished
abbrev pub NoneUp : List ℕ → List Node → Type 0
NoneUp set nodes = (k : ℕ) (n : Node) → node_at k nodes ≡ Some n → has set k ≡ true → (n.state ≡ NoStack) ⊎ (n.state ≡ SurpriseRemoved)

-- one refused, whose path is told
abbrev pub Vetoed : Job → List Node → Text → Type 0
Vetoed o nodes refuser = (q : ℕ) × (qs : List ℕ) × (o.refused ≡ q ∷ qs) × (refuser ≡ path_of (node_at q nodes))

-- the device holds one whole alternative of what it requires
abbrev pub HoldsAll : Job → List Node → Type 0
HoldsAll o nodes = (n : Node) → node_at o.target nodes ≡ Some n → Whole n.reqs n.holds

-- `done` of a disable and an eject: none of its devices has drivers; of a surprise removal too, and after `waiting` none is up; after `moved`
-- the device of the operation holds what was found for it; after `nofit` and `spent` nothing was; and after `refused` the device of a change
-- had not agreed to stop
abbrev pub DoneBy : Course → Job → List Node → OpEnd → Type 0
DoneBy Course.Removing o nodes OpEnd.Done = NoneDriven o.set nodes
DoneBy Course.Removing o nodes (OpEnd.Veto refuser) = Vetoed o nodes refuser
DoneBy Course.Surprising o nodes OpEnd.Done = NoneDriven o.set nodes
DoneBy Course.Surprising o nodes OpEnd.Waiting = NoneUp o.set nodes
DoneBy Course.Rebalancing o nodes OpEnd.Moved = HoldsAll o nodes
DoneBy Course.Rebalancing o nodes OpEnd.NoFit = o.found ≡ no_fit
DoneBy Course.Rebalancing o nodes OpEnd.Spent = o.found ≡ spent
DoneBy Course.Rebalancing o nodes OpEnd.Refused = has_refused o ≡ true
DoneBy Course.Finishing o nodes OpEnd.Done = Unit {0}
DoneBy _ o nodes result = ⊥

-- the operation that ends, and what it has done; its last line changes no device
pub record HasDone (s : State) (kind : OpKind) (path : Text) (result : OpEnd) (t : State) : Type 0 where
  pub operation : Job
  pub ran : Running s operation
  pub own_kind : operation.kind ≡ kind
  pub own_path : operation.path ≡ path
  pub over : t.operation ≡ None
  pub done : DoneBy (course_of kind) operation s.core.nodes result

abbrev pub EndsSayWhatWasDoneLaw : Type 0
EndsSayWhatWasDoneLaw =
    (settings : Settings) (rack : List Driver) (entries : List Entry) (s : State) (kind : OpKind) (path : Text) (result : OpEnd) (t : State)
    → Reaches settings rack entries s → Goes settings s (Did (Label.End kind path result)) t → HasDone s kind path result t
