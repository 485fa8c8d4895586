-- Whom a step is to ask does not depend on books.
use Rattle.std.proofs.Common.{ℕ, ◌≡◌, Bool, true, false, Option, Some, None, List, refl, ap}
use Rattle.std.specs.Prelude.{find}
use Rattle.pnp_model.specs.Cores.{set_rack, node_at}
use Rattle.pnp_model.specs.Finishes.{node_of_ready}
use Rattle.pnp_model.specs.Frames.{first_node}
use Rattle.pnp_model.specs.Machine.{is_ready, is_waiting}
use Rattle.pnp_model.specs.Records.{Activity, Core, Course, Driver, Handle, Job, Node, Stage, State, Walk, course_of}
use Rattle.free_model.specs.Asks.{acts_query, job_query, next_query, next_surprise, operation_query, query_of, ready_query}
use Rattle.free_model.specs.Frees.{with_rack}
use Rattle.free_model.proofs.Alikes.{ready_same, stays_same}

module _ (t : List Driver) where
  of_acts : (c : Core) (handles : List Handle) (j : Job) (course : Course) (stage : Stage) (n : Option Node) → acts_query (set_rack t c) handles j course stage n ≡ acts_query c handles j course stage n
  of_acts c handles j Course.Surprising Stage.Next None = refl
  of_acts c handles j Course.Surprising Stage.Next (Some node) = ap (next_surprise node) (stays_same c t j handles node.serial)
  of_acts c handles j Course.Surprising _ n = refl
  of_acts c handles j Course.Finishing Stage.Next n = ap (λ (k : Option ℕ). ready_query (node_of_ready c.nodes k)) (ready_same c t handles)
  of_acts c handles j Course.Finishing _ n = refl
  of_acts c handles j Course.Removing Stage.Next None = refl
  of_acts c handles j Course.Removing Stage.Next (Some node) = refl
  of_acts c handles j Course.Removing _ n = refl
  of_acts c handles j Course.Rebalancing _ n = refl

  of_job : (c : Core) (handles : List Handle) (j : Job) (w : Option Walk) (n : Option Node) → job_query (set_rack t c) handles j w n ≡ job_query c handles j w n
  of_job c handles j None n = of_acts c handles j (course_of j.kind) j.stage n
  of_job c handles j (Some w) n = refl

  of_operation : (c : Core) (handles : List Handle) (j : Job) (waits : Bool) → operation_query (set_rack t c) handles j waits ≡ operation_query c handles j waits
  of_operation c handles j true = refl
  of_operation c handles j false = of_job c handles j j.walk (first_node c.nodes j.todo)

  of_state : (s : State) (o : Option Job) → query_of (with_rack t s) o ≡ query_of s o
  of_state s (Some j) = of_operation s.core s.handles j (is_waiting j.walk)
  of_state s None = refl

  pub query_same : (s : State) → next_query (with_rack t s) ≡ next_query s
  query_same s = of_state s s.operation
