-- The surprise removal.
use Rattle.std.specs.Prelude.{ℕ, ◌==◌, Bool, true, false, ◌||◌, List, [], ◌∷◌, Option, Some, None, if◌then◌else◌}
use Rattle.std.specs.List.{list_any}
use Rattle.pnp_model.specs.Keyed.{those}
use Rattle.pnp_model.specs.Tests.{has, is_told}
use Rattle.pnp_model.specs.Walks.{walk_of}
use Rattle.pnp_model.specs.Cores.{node_at, set_problem, drop_node}
use Rattle.pnp_model.specs.Trees.{leaving, dependents}
use Rattle.pnp_model.specs.Handles.{is_open, was_told}
use Rattle.pnp_model.specs.Frames.{asked, rest}
use Rattle.pnp_model.specs.Jobs.{JobMove, Beside, moves, job_of, stands, begins, each_gets, asks, closes}
use Rattle.pnp_model.specs.Records.{Node, Core, Handle, Job, Stage}
use Rattle.pnp_model.specs.Records.Stage.{Telling, Next, Removing, Settling, Ending}
use Rattle.pnp_labels.specs.declared.label.Label.{Label}
use Rattle.pnp_labels.specs.declared.words.Minor.{Minor}
use Rattle.pnp_labels.specs.declared.states.Problem.{Problem}
use Rattle.pnp_labels.specs.declared.label.OpKind.{OpKind}
use Rattle.pnp_labels.specs.declared.label.OpEnd.{OpEnd}

-- what comes next, by the devices that are still to do

abbrev pub finish_on : Job → List ℕ → Job
finish_on o [] = stands o [] Ending
finish_on o (k ∷ ks) = stands o (k ∷ ks) Next

abbrev pub tell_on : Job → List ℕ → Job
tell_on o todo = each_gets Minor.SurpriseRemoval Telling o todo (finish_on o o.set)

abbrev pub is_told_node : Option Node → Bool
is_told_node None = false
is_told_node (Some n) = is_told n.state

abbrev pub begun_with : Core → Node → List ℕ → Job
begun_with c node set =
    tell_on (record (job_of OpKind.Surprise node) { set = set; told = those (λ k. was_told (node_at k c.nodes)) set })
    (those (λ k. is_told_node (node_at k c.nodes)) set)

abbrev pub begun_surprise : Core → Node → Job
begun_surprise c node = begun_with c node (leaving c node.serial)

-- where the request of the device that is next has ended
abbrev pub after_end : Job → Stage → Option Job
after_end o Telling = Some (tell_on o (rest o.todo))
after_end o Removing = Some (stands o o.todo Settling)
after_end o _ = None

-- did a device stay behind?
abbrev pub end_of : List ℕ → OpEnd
end_of [] = OpEnd.Done
end_of (k ∷ ks) = OpEnd.Waiting

abbrev pub close : Core → Job → JobMove
close c o = closes c o (end_of o.behind) Beside.Over

abbrev pub leaves : Core → Job → Node → JobMove
leaves c o node =
    record {
      label = Label.Leave node.path;
      core = drop_node node.serial c;
      frame = finish_on o (rest o.todo);
      beside = Beside.Left node.path node.born;
    }

-- the target comes last: where its birth number is in the world it stays, without a step, and the operation ends
abbrev pub settle : Core → Job → Node → Bool → JobMove
settle c o node in_world =
    if node.serial == o.target then if in_world then close c o else leaves c o node
    else if has o.set node.parent then leaves c o node
    else
    moves (Label.Trouble node.path Problem.Held) (set_problem node.serial (Some Problem.Held) c)
    (finish_on o (rest o.todo))

-- it was told before, a handle to it is open, or what depends on it stayed behind
abbrev pub stays_behind : Core → Job → List Handle → ℕ → Bool
stays_behind c o handles k = has o.told k || (is_open handles k || list_any (λ j. has o.behind j) (dependents c k))

abbrev pub wait : Core → Job → Node → JobMove
wait c o node =
    moves (Label.Waits node.path) c (finish_on (record o { behind = node.serial ∷ o.behind }) (rest o.todo))

abbrev pub removing : Job → Job
removing o = begins o o.todo Removing Minor.Remove

-- a device with drivers loses them first
abbrev pub finish_with : Core → Job → Node → Bool → List ℕ → JobMove
finish_with c o node in_world [] = settle c (stands o o.todo Settling) node in_world
finish_with c o node in_world (d ∷ ds) = asks (removing o) (asked c node (walk_of Minor.Remove))

-- does it stay behind?
abbrev pub finish : Core → Job → Node → Bool → Bool → JobMove
finish c o node in_world true = wait c o node
finish c o node in_world false = finish_with c o node in_world node.stack

-- without a request on its way; `in_world` says whether the target's birth number is in the world
abbrev pub acts : Core → Job → Bool → List Handle → Stage → Option Node → Option JobMove
acts c o in_world handles Ending n = Some (close c o)
acts c o in_world handles Next (Some node) = Some (finish c o node in_world (stays_behind c o handles node.serial))
acts c o in_world handles Settling (Some node) = Some (settle c o node in_world)
acts c o in_world handles _ n = None
