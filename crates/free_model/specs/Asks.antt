-- Which driver is asked next, what, and for which device: none where the next step asks none.
use Rattle.std.specs.Prelude.{ℕ, Bool, true, false, List, [], ◌∷◌, Option, Some, None, length, find}
use Rattle.pnp_labels.specs.Texts.{Text}
use Rattle.pnp_labels.specs.declared.words.AskWhat.{AskWhat}
use Rattle.pnp_labels.specs.declared.words.AskWhat.TheVariants.{Add, Irp}
use Rattle.pnp_labels.specs.declared.words.Minor.{Minor}
use Rattle.pnp_model.specs.Cores.{node_at}
use Rattle.pnp_model.specs.Walks.{walk_of, has_ended}
use Rattle.pnp_model.specs.Handles.{ready_device}
use Rattle.pnp_model.specs.Removals.{refuses_unasked}
use Rattle.pnp_model.specs.Surprises.{stays_behind}
use Rattle.pnp_model.specs.Finishes.{node_of_ready}
use Rattle.pnp_model.specs.Frames.{next_driver, first_node}
use Rattle.pnp_model.specs.Records.{Node, Core, Handle, Walk, Phase, Activity, State, Job, Course, Stage, course_of}
use Rattle.pnp_model.specs.Records.Phase.{Adding, Searching, Starting, Removing, Due}
use Rattle.pnp_model.specs.Machine.{is_waiting, is_ready}

pub record Query : Type 0 where
  pub what : AskWhat
  pub path : Text
  pub driver : ℕ

-- the next ask of a walk
abbrev pub query : Node → Walk → Query
query node w = record { what = Irp w.minor; path = node.path; driver = next_driver node w }

-- has the walk ended?
abbrev pub walk_query : Node → Walk → Bool → Option Query
walk_query node w true = None
walk_query node w false = Some (query node w)

abbrev pub walk_next : Node → Walk → Option Query
walk_next node w = walk_query node w (has_ended w (length node.stack))

abbrev pub phase_query : Node → Phase → Option Query
phase_query node (Adding []) = None
phase_query node (Adding (d ∷ ds)) = Some (record { what = Add; path = node.path; driver = d })
phase_query node Searching = None
phase_query node (Starting w) = walk_next node w
phase_query node (Removing w) = walk_next node w
phase_query node (Due problem) = None

-- a walk of the device that is next
abbrev pub at_query : Option Node → Walk → Option Query
at_query None w = None
at_query (Some node) w = walk_next node w

-- does it refuse unasked?
abbrev pub next_removal : Node → Bool → Option Query
next_removal node true = None
next_removal node false = walk_next node (walk_of Minor.QueryRemove)

-- a device without drivers is asked nothing, and one with drivers at once
abbrev pub stack_query : Node → List ℕ → Option Query
stack_query node [] = None
stack_query node (d ∷ ds) = Some (query node (walk_of Minor.Remove))

-- does it stay behind?
abbrev pub next_surprise : Node → Bool → Option Query
next_surprise node true = None
next_surprise node false = stack_query node node.stack

-- a ready device has drivers, which are asked at once
abbrev pub ready_query : Option Node → Option Query
ready_query None = None
ready_query (Some node) = Some (query node (walk_of Minor.Remove))

-- while no request is on its way, a device is asked where it is taken up
abbrev pub acts_query : Core → List Handle → Job → Course → Stage → Option Node → Option Query
acts_query c handles j Course.Removing Stage.Next (Some node) = next_removal node (refuses_unasked handles node)
acts_query c handles j Course.Surprising Stage.Next (Some node) =
    next_surprise node (stays_behind c j handles node.serial)
acts_query c handles j Course.Finishing Stage.Next n = ready_query (node_of_ready c.nodes (ready_device c handles))
acts_query c handles j _ _ n = None

abbrev pub job_query : Core → List Handle → Job → Option Walk → Option Node → Option Query
job_query c handles j None n = acts_query c handles j (course_of j.kind) j.stage n
job_query c handles j (Some w) n = at_query n w

-- does its walk wait?
abbrev pub operation_query : Core → List Handle → Job → Bool → Option Query
operation_query c handles j true = None
operation_query c handles j false = job_query c handles j j.walk (first_node c.nodes j.todo)

abbrev pub activity_query : Activity → Option Node → Option Query
activity_query a None = None
activity_query a (Some node) = phase_query node a.phase

abbrev pub idle_query : List Node → Option Activity → Option Query
idle_query nodes (Some a) = activity_query a (node_at a.serial nodes)
idle_query nodes None = None

abbrev pub query_of : State → Option Job → Option Query
query_of s (Some j) = operation_query s.core s.handles j (is_waiting j.walk)
query_of s None = idle_query s.core.nodes (find is_ready s.activities)

abbrev pub next_query : State → Option Query
next_query s = query_of s s.operation
