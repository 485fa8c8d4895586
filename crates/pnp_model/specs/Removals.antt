-- The removal in order, with veto: disable and eject.
use Rattle.std.specs.Prelude.{ℕ, ◌==◌, Bool, true, false, ◌&&◌, ◌||◌, List, [], ◌∷◌, Option, Some, None, map, if◌then◌else◌}
use Rattle.pnp_model.specs.Keyed.{those}
use Rattle.pnp_model.specs.Tests.{has, is_eject, is_started, is_surprise_removed, same_rel}
use Rattle.pnp_model.specs.Walks.{walk_of}
use Rattle.pnp_model.specs.Cores.{node_at, set_problem, drop_node, stack_of, path_of}
use Rattle.pnp_model.specs.Trees.{leaving}
use Rattle.pnp_model.specs.Handles.{is_open}
use Rattle.pnp_model.specs.Frames.{rest}
use Rattle.pnp_model.specs.Jobs.{JobMove, Beside, moves, job_of, stands, begins, each_gets, walks, closes}
use Rattle.pnp_model.specs.Records.{Node, Core, Handle, Relation, Job, Stage}
use Rattle.pnp_model.specs.Records.Stage.{Next, Asking, TakingBack, Cancelling, Removing, Settling, Ending}
use Rattle.pnp_labels.specs.declared.label.Label.{Label}
use Rattle.pnp_labels.specs.declared.words.Minor.{Minor}
use Rattle.pnp_labels.specs.declared.states.DevState.{DevState}
use Rattle.pnp_labels.specs.declared.states.Problem.{Problem}
use Rattle.pnp_labels.specs.declared.label.OpKind.{OpKind}
use Rattle.pnp_labels.specs.declared.label.OpEnd.{OpEnd}
use Rattle.pnp_labels.specs.declared.words.RelKind.{RelKind}

-- what comes next, by the devices that are still to do

abbrev pub finish_with : Job → List ℕ → List ℕ → Job
finish_with o todo [] = stands o todo Settling
finish_with o todo (d ∷ ds) = begins o todo Removing Minor.Remove

-- a device is finished: where it has a stack by a REMOVE walk first
abbrev pub finish_on : List Node → Job → List ℕ → Job
finish_on nodes o [] = stands o [] Ending
finish_on nodes o (k ∷ ks) = finish_with o (k ∷ ks) (stack_of (node_at k nodes))

abbrev pub ask_on : List Node → Job → List ℕ → Job
ask_on nodes o [] = finish_on nodes o o.set
ask_on nodes o (k ∷ ks) = stands o (k ∷ ks) Next

abbrev pub cancel_on : Job → List ℕ → Job
cancel_on o todo = each_gets Minor.CancelRemove Cancelling o todo (stands o [] Ending)

-- the begin

abbrev pub is_ejecting : List ℕ → Relation → Bool
is_ejecting set r = same_rel RelKind.Ejection r.kind && has set r.owner

-- such a device is asked, or refuses unasked
abbrev pub is_queried : DevState → Bool
is_queried state = is_started state || is_surprise_removed state

abbrev pub is_queried_node : Option Node → Bool
is_queried_node None = false
is_queried_node (Some n) = is_queried n.state

abbrev pub begun_with : Core → OpKind → Node → List ℕ → Job
begun_with c kind node set =
    ask_on c.nodes
    (record (job_of kind node) { set = set; ejecting = map (λ r. r.member) (those (is_ejecting set) c.relations) })
    (those (λ k. is_queried_node (node_at k c.nodes)) set)

abbrev pub begun_removal : Core → OpKind → Node → Job
begun_removal c kind node = begun_with c kind node (leaving c node.serial)

-- where the request of the device that is next has ended: after a bad end the device refuses, and is told first that it stays

abbrev pub answers : Core → Job → Node → Bool → Job
answers c o node true = begins (record o { refused = node.serial ∷ o.refused }) o.todo TakingBack Minor.CancelRemove
answers c o node false = ask_on c.nodes (record o { agreed = node.serial ∷ o.agreed }) (rest o.todo)

abbrev pub after_end : Core → Job → Node → Bool → Stage → Option Job
after_end c o node bad Asking = Some (answers c o node bad)
after_end c o node bad TakingBack = Some (cancel_on o o.agreed)
after_end c o node bad Cancelling = Some (cancel_on o (rest o.todo))
after_end c o node bad Removing = Some (stands o o.todo Settling)
after_end c o node bad _ = None

-- a handle to it is open, or it waits to be finished
abbrev pub refuses_unasked : List Handle → Node → Bool
refuses_unasked handles node = is_open handles node.serial || is_surprise_removed node.state

-- nothing is taken back from a device that refuses unasked
abbrev pub declines : Core → Job → Node → JobMove
declines c o node =
    moves (Label.Handles node.path) c (cancel_on (record o { refused = node.serial ∷ o.refused }) o.agreed)

abbrev pub queried : Job → Job
queried o = begins o o.todo Asking Minor.QueryRemove

-- does it refuse unasked?
abbrev pub query : Core → Job → Node → Bool → Option JobMove
query c o node true = Some (declines c o node)
query c o node false = walks c (queried o) node (walk_of Minor.QueryRemove) (Some (answers c (queried o) node false))

-- finishing: a device remains with a problem, or leaves

abbrev pub remains : Core → Job → Node → Problem → Beside → JobMove
remains c o node problem beside =
    record {
      label = Label.Trouble node.path problem;
      core = set_problem node.serial (Some problem) c;
      frame = finish_on c.nodes o (rest o.todo);
      beside = beside;
    }

abbrev pub leaves : Core → Job → Node → Label → Beside → JobMove
leaves c o node label beside =
    record { label = label; core = drop_node node.serial c; frame = finish_on c.nodes o (rest o.todo); beside = beside }

-- by the first of these cases
abbrev pub settle : Core → Job → Node → JobMove
settle c o node =
    if has o.set node.parent then leaves c o node (Label.Leave node.path) (Beside.Left node.path node.born)
    else if node.serial == o.target then
    if is_eject o.kind then leaves c o node (Label.Ejected node.path) (Beside.Ejected node.path node.born)
    else remains c o node Problem.Disabled (Beside.Disabled node.path)
    else if is_eject o.kind && has o.ejecting node.serial then remains c o node Problem.HeldForEject Beside.On
    else remains c o node Problem.Held Beside.On

-- the end: did a device refuse?
abbrev pub end_of : Core → List ℕ → OpEnd
end_of c [] = OpEnd.Done
end_of c (q ∷ qs) = OpEnd.Veto (path_of (node_at q c.nodes))

abbrev pub close : Core → Job → JobMove
close c o = closes c o (end_of c o.refused) Beside.Over

-- without a request on its way; but for the end, the device that is next is there
abbrev pub acts : Core → Job → List Handle → Stage → Option Node → Option JobMove
acts c o handles Ending n = Some (close c o)
acts c o handles Next (Some node) = query c o node (refuses_unasked handles node)
acts c o handles Settling (Some node) = Some (settle c o node)
acts c o handles _ n = None
