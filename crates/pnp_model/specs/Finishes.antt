-- The end of surprise removals whose handles are closed.
use Rattle.std.specs.Prelude.{ℕ, Bool, true, false, not, ◌||◌, List, [], ◌∷◌, Option, Some, None}
use Rattle.pnp_model.specs.Walks.{walk_of}
use Rattle.pnp_model.specs.Cores.{node_at, set_problem, drop_node}
use Rattle.pnp_model.specs.Handles.{was_told, ready_device}
use Rattle.pnp_model.specs.Frames.{asked}
use Rattle.pnp_model.specs.Jobs.{JobMove, Beside, moves, job_of, stands, begins, asks, closes}
use Rattle.pnp_model.specs.Records.{Node, Core, Handle, Job, Stage}
use Rattle.pnp_model.specs.Records.Stage.{Next, Removing, Leaving, Holding}
use Rattle.pnp_labels.specs.declared.label.Label.{Label}
use Rattle.pnp_labels.specs.declared.words.Minor.{Minor}
use Rattle.pnp_labels.specs.declared.states.Problem.{Problem}
use Rattle.pnp_labels.specs.declared.label.OpKind.{OpKind}
use Rattle.pnp_labels.specs.declared.label.OpEnd.{OpEnd}

-- the next ready device
abbrev pub next_on : Job → Job
next_on f = stands f [] Next

abbrev pub begun_finish : Node → Job
begun_finish node = next_on (job_of OpKind.Finish node)

-- its node leaves where it is gone, or goes with its parent
abbrev pub is_leaving : List Node → Node → Bool → Bool
is_leaving nodes node in_world = was_told (node_at node.parent nodes) || not in_world

-- a device that stays has a problem, the one that it had or Held
abbrev pub settle_on : Job → Bool → Option Problem → Job
settle_on f true problem = stands f f.todo Leaving
settle_on f false (Some problem) = next_on f
settle_on f false None = stands f f.todo Holding

-- where the request of the device that is next has ended
abbrev pub after_end : Core → Job → Node → Bool → Stage → Option Job
after_end c f node in_world Removing = Some (settle_on f (is_leaving c.nodes node in_world) node.problem)
after_end c f node in_world _ = None

abbrev pub close : Core → Job → JobMove
close c f = closes c f OpEnd.Done Beside.Over

-- this device is taken, and its REMOVE walk begins
abbrev pub taken : Job → Node → Job
taken f node = begins f (node.serial ∷ []) Removing Minor.Remove

-- a ready device has drivers, which are asked at once
abbrev pub take : Core → Job → Option Node → JobMove
take c f None = close c f
take c f (Some node) = asks (taken f node) (asked c node (walk_of Minor.Remove))

abbrev pub node_of_ready : List Node → Option ℕ → Option Node
node_of_ready nodes None = None
node_of_ready nodes (Some k) = node_at k nodes

abbrev pub leave : Core → Job → Node → JobMove
leave c f node =
    record {
      label = Label.Leave node.path;
      core = drop_node node.serial c;
      frame = next_on f;
      beside = Beside.Left node.path node.born;
    }

abbrev pub hold : Core → Job → Node → JobMove
hold c f node =
    moves (Label.Trouble node.path Problem.Held) (set_problem node.serial (Some Problem.Held) c) (next_on f)

-- without a request on its way
abbrev pub acts : Core → Job → List Handle → Stage → Option Node → Option JobMove
acts c f handles Next n = Some (take c f (node_of_ready c.nodes (ready_device c handles)))
acts c f handles Leaving (Some node) = Some (leave c f node)
acts c f handles Holding (Some node) = Some (hold c f node)
acts c f handles _ n = None
