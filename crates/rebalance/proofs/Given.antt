-- A rebalance that has a next step has what the step needs.
use Rattle.std.proofs.Common.{◌≡◌, Bool, false, List, Option, Some, None, IsSome, is_some, option_map, refl, ap}
use Rattle.pnp_model.specs.Frames.{first_node}
use Rattle.pnp_model.specs.Machine.{acts, is_back, job_lifted, job_step, operation_next}
use Rattle.pnp_model.specs.Records.{Core, Course, Handle, Job, Node, Stage, State, Walk, course_of, doing_map}
use Rattle.pnp_model.specs.Records.Doing.{Does}
use Rattle.pnp_model.specs.Rebalances as rebalances
use Rattle.pnp_model.specs.Removals as removals
use Rattle.pnp_model.specs.Surprises as surprises
use Rattle.pnp_model.specs.Finishes as finishes
use Rattle.rebalance.specs.Steps.{HasNext}

-- without its device no failed restart is told
none_failed : (c : Core) (r : Job) (in_world : Bool) (handles : List Handle) (course : Course) → r.stage ≡ Stage.Failed → acts c r in_world handles None course ≡ None
none_failed c r in_world handles Course.Rebalancing e = ap (λ s. rebalances.acts c r s None) e
none_failed c r in_world handles Course.Removing e = ap (λ s. option_map (λ m. Does m) (removals.acts c r handles s None)) e
none_failed c r in_world handles Course.Surprising e = ap (λ s. option_map (λ m. Does m) (surprises.acts c r in_world handles s None)) e
none_failed c r in_world handles Course.Finishing e = ap (λ s. option_map (λ m. Does m) (finishes.acts c r handles s None)) e

pub rebalance_ready : (s : State) (r : Job) → IsSome (operation_next s r false) → HasNext (first_node s.core.nodes r.todo) r.walk r.stage
rebalance_ready s r goes = by (first_node s.core.nodes r.todo) r.walk r.stage refl goes
  where
    by : (first : Option Node) (walk : Option Walk) (stage : Stage) → r.stage ≡ stage → IsSome (option_map (doing_map (job_lifted s)) (job_step s.core r (course_of r.kind) (is_back s r (course_of r.kind)) s.handles walk first)) → HasNext first walk stage
    by (Some n) (Some w) stage e h = refl
    by None (Some w) stage e h = absurd (cc)
    by (Some n) None Stage.Failed e h = refl
    by None None Stage.Failed e h =
        let none = ap (λ x. is_some (option_map (doing_map (job_lifted s)) x)) (none_failed s.core r (is_back s r (course_of r.kind)) s.handles (course_of r.kind) e) in absurd (cc)
    by first None _ e h = tt
