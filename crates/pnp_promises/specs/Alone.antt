-- An operation is alone, and begins in its turn.
use Rattle.std.specs.Prelude.{◌≡◌, List, [], Some, slice_get}
use Rattle.pnp_labels.specs.Texts.{Text}
use Rattle.pnp_labels.specs.declared.label.Label.{Label}
use Rattle.pnp_labels.specs.declared.label.OpKind.{OpKind}
use Rattle.pnp_model.specs.Cores.{node_at}
use Rattle.pnp_model.specs.Laws.{Reaches}
use Rattle.pnp_model.specs.Records.{Driver, Duty, Job, Node, Settings, State}
use Rattle.pnp_model.specs.Runs.{Entry, Goes}
use Rattle.pnp_model.specs.Runs.Entry.{Did}
use Rattle.pnp_promises.specs.Accepted.{task}

-- no task is taken, no device joins or is started, and no other operation begins
abbrev pub IsOfOperation : Label → Type 0
IsOfOperation (Label.Skip kind k) = ⊥
IsOfOperation (Label.Join k path) = ⊥
IsOfOperation (Label.Gone path) = ⊥
IsOfOperation (Label.Listed path) = ⊥
IsOfOperation (Label.Install path rank driver) = ⊥
IsOfOperation (Label.Add path driver ok) = ⊥
IsOfOperation (Label.Assign path parts) = ⊥
IsOfOperation (Label.Begin kind path) = ⊥
IsOfOperation _ = Unit {0}

-- while an operation runs nothing is being started, and each step is its own
abbrev pub OperationsAreAloneLaw : Type 0
OperationsAreAloneLaw =
    (settings : Settings) (rack : List Driver) (entries : List Entry) (s : State) (label : Label) (t : State) (o : Job)
    → Reaches settings rack entries s → s.operation ≡ Some o → Goes settings s (Did label) t → (s.activities ≡ []) × IsOfOperation label

-- what begins is what the first task says
abbrev pub OperationsBeginInTurnLaw : Type 0
OperationsBeginInTurnLaw =
    (settings : Settings) (rack : List Driver) (entries : List Entry) (s : State) (kind : OpKind) (path : Text) (t : State)
    → Reaches settings rack entries s → Goes settings s (Did (Label.Begin kind path)) t
    → (n : Node) × (node_at n.serial s.core.nodes ≡ Some n) × (n.path ≡ path) × (slice_get s.tasks 0 ≡ Some (task (Duty.Begins kind) n))
