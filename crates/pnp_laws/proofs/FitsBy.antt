-- An operation fits the nodes by its course.
use Rattle.std.proofs.Common.{◌≡◌, List, Option, Some, None, refl, sym, ap, ◌∙◌, subst}
use Rattle.pnp_labels.specs.declared.words.Answer.{Answer}
use Rattle.pnp_labels.specs.declared.words.Minor.{Minor}
use Rattle.pnp_model.specs.Records.{Course, Job, Node, State, Walk, course_of}
use Rattle.pnp_model.specs.Walks.{after}
use Rattle.std.specs.Option.{option_map}
use Rattle.pnp_laws.specs.Kept.{IsGood, IsOwn, RebalanceKeeps, JobFits, OperationFits, asked_in, kind_by}
use Rattle.pnp_laws.specs.Plans.{IsPlanned, PlanKept, PlanKeptIn, StagePlan}
use Rattle.resource_reqs.specs.Resources.{Reqs}

pub fit : (course : Course) (p : Job) (nodes : List Node) → course_of p.kind ≡ course → JobFits course p nodes → OperationFits (Some p) nodes
fit course p nodes is h = subst (λ (x : Course). JobFits x p nodes) (sym is) h

pub fits_by : (course : Course) (p : Job) (nodes : List Node) → course_of p.kind ≡ course → OperationFits (Some p) nodes → JobFits course p nodes
fits_by course p nodes is h = subst (λ (x : Course). JobFits x p nodes) is h

-- the request that is on its way is the one of the stage
pub fits_own : (course : Course) (o : Job) (nodes : List Node) → JobFits course o nodes → IsOwn o.walk (asked_in course o.stage)
fits_own Course.Rebalancing o nodes h = h.own
fits_own Course.Removing o nodes h = h.own
fits_own Course.Surprising o nodes h = h.own
fits_own Course.Finishing o nodes h = h.own

-- and stays it where it gets an answer

pub after_minor : (w : Walk) (answer : Answer) → (after w answer).minor ≡ w.minor
after_minor w Answer.Ok = refl
after_minor w Answer.Fail = refl
after_minor w Answer.Pend = refl

pub answered_own : (answer : Answer) (walk : Option Walk) (minor : Option Minor) → IsOwn walk minor → IsOwn (option_map (λ w. after w answer) walk) minor
answered_own answer None minor own = own
answered_own answer (Some w) minor own = ap Some (after_minor w answer) ∙ own

-- rebalance and change go one way
course_by : (wanted : Option Reqs) → course_of (kind_by wanted) ≡ Course.Rebalancing
course_by None = refl
course_by (Some wanted) = refl

pub by_kind : (r : Job) → r.kind ≡ kind_by r.wanted → course_of r.kind ≡ Course.Rebalancing
by_kind r kind = ap course_of kind ∙ course_by r.wanted

pub asked_is : (o : Job) (nodes : List Node) (w : Walk) → OperationFits (Some o) nodes → o.walk ≡ Some w → asked_in (course_of o.kind) o.stage ≡ Some w.minor
asked_is o nodes w h walk = sym (fits_own (course_of o.kind) o nodes h) ∙ ap (option_map (λ (v : Walk). v.minor)) walk

-- of the operation that runs

pub rebalance_fits : (s : State) (r : Job) → IsGood s → s.operation ≡ Some r → course_of r.kind ≡ Course.Rebalancing → RebalanceKeeps r r.stage s.core.nodes
rebalance_fits s r good runs course = fits_by Course.Rebalancing r s.core.nodes course (subst (λ (x : Option Job). OperationFits x s.core.nodes) runs good.fits)

pub plan_by : (s : State) (r : Job) → IsPlanned s → s.operation ≡ Some r → course_of r.kind ≡ Course.Rebalancing → StagePlan r r.stage s.core.reserved s.core.nodes
plan_by s r planned runs course = subst (λ (x : Course). PlanKeptIn x r s.core.reserved s.core.nodes) course (subst (λ (x : Option Job). PlanKept x s.core.reserved s.core.nodes) runs planned)
