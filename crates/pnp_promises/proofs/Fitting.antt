-- What an operation that runs keeps, by its course.
use Rattle.std.proofs.Common.{◌≡◌, List, Option, Some, sym, ap, ◌∙◌, subst}
use Rattle.std.specs.Option.{option_map}
use Rattle.pnp_model.specs.Records.{Course, Job, Node, State, Walk, course_of}
use Rattle.pnp_laws.specs.Plans.{IsPlanned, PlanKept, PlanKeptIn, StagePlan}
use Rattle.pnp_laws.specs.Kept.{IsGood, IsOwn, JobFits, OperationFits, RebalanceKeeps, asked_in}

pub fits_own : (course : Course) (o : Job) (nodes : List Node) → JobFits course o nodes → IsOwn o.walk (asked_in course o.stage)
fits_own Course.Rebalancing o nodes h = h.own
fits_own Course.Removing o nodes h = h.own
fits_own Course.Surprising o nodes h = h.own
fits_own Course.Finishing o nodes h = h.own

-- the request that is on its way is the one of the stage
pub asked_is : (o : Job) (nodes : List Node) (w : Walk) → OperationFits (Some o) nodes → o.walk ≡ Some w → asked_in (course_of o.kind) o.stage ≡ Some w.minor
asked_is o nodes w h walk = sym (fits_own (course_of o.kind) o nodes h) ∙ ap (option_map (λ (v : Walk). v.minor)) walk

pub rebalance_fits : (s : State) (r : Job) → IsGood s → s.operation ≡ Some r → course_of r.kind ≡ Course.Rebalancing → RebalanceKeeps r r.stage s.core.nodes
rebalance_fits s r good runs course =
    subst (λ (x : Course). JobFits x r s.core.nodes) course (subst (λ (x : Option Job). OperationFits x s.core.nodes) runs good.fits)

pub fits_by : (course : Course) (p : Job) (nodes : List Node) → course_of p.kind ≡ course → OperationFits (Some p) nodes → JobFits course p nodes
fits_by course p nodes is h = subst (λ (x : Course). JobFits x p nodes) is h

pub plan_by : (s : State) (r : Job) → IsPlanned s → s.operation ≡ Some r → course_of r.kind ≡ Course.Rebalancing → StagePlan r r.stage s.core.reserved s.core.nodes
plan_by s r planned runs course = subst (λ (x : Course). PlanKeptIn x r s.core.reserved s.core.nodes) course (subst (λ (x : Option Job). PlanKept x s.core.reserved s.core.nodes) runs planned)
