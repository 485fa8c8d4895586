-- The steps without a request are those of the machine.
use Rattle.std.proofs.Common.{◌≡◌, ℕ, List, [], Option, Some, None, refl, sym, ap, ◌∙◌, subst}
use Rattle.resource_reqs.specs.Resources.{Res, Reqs}
use Rattle.pnp_labels.specs.declared.label.Label.{Label}
use Rattle.pnp_model.specs.Cores.{set_rack}
use Rattle.pnp_model.specs.Frames.{first_node}
use Rattle.pnp_model.specs.Machine.{job_step}
use Rattle.pnp_model.specs.Records as Records
use Rattle.pnp_model.specs.Records.{Node, Core, Driver, Found, Handle, Walk, Job, Course}
use Rattle.pnp_model.specs.Rebalances.{acts, movers, plan_of, failed}
use Rattle.devnode_tree.specs.Cores.{at_nodes}
use Rattle.trial_journal.specs.ByKind.{Arbiters}
use Rattle.assign_search.specs.Fixed.{answer_of}
use Rattle.assign_search.specs.declared.plan.Found.{Found as Answer}
use Rattle.assign_search.specs.declared.plan.Found.TheVariants.{Assignment, NoFit, Spent}
use Rattle.device_holdings.specs.Answers.{asked_for, AnswersTo}
use Rattle.device_holdings.specs.Mirrors.{Mirrors}
use Rattle.operation_frame.specs.Steps.{MovesFor}
use Rattle.rebalance.specs.Steps.{Moved, MovedBy, Rebalances}
use Rattle.rebalance.specs.Parts.{Searched, Takes}
use Rattle.rebalance.specs.Stages.{stage_of, walk_at}
use Rattle.rebalance.specs.declared.frame.Stage.{Stage}
use Rattle.rebalance.specs.declared.next.RebalanceStep.{RebalanceStep}

-- The step of a stage is the machine's -----------------------------------------------------------

pub acted : (nodes : List Node) (a : Arbiters) (rack : List Driver) (r : Job) (budget : ℕ) (step : RebalanceStep) (nodes' : List Node) (r' : Job) (s stage : Stage) (w : Walk)
    → stage_of s ≡ r.stage → walk_at s w ≡ r.walk → s ≡ stage → walk_at stage w ≡ None
    → ((around : Core) → Mirrors around.reserved nodes a → MovedBy budget (acts (at_nodes nodes around) r (stage_of stage) (first_node nodes r.todo)) step (at_nodes nodes' around) r') → Rebalances nodes a rack r budget step nodes' rack r'
acted nodes a rack r budget step nodes' r' s stage w is walk same none h = λ around in_world handles m.
    let c = set_rack rack around in
    let stands : stage_of stage ≡ r.stage = sym (ap stage_of same) ∙ is in
    let rests : None ≡ r.walk = sym none ∙ (sym (ap (λ t. walk_at t w) same) ∙ walk) in
    subst (λ (v : Option Walk). MovedBy budget (job_step (at_nodes nodes c) r Course.Rebalancing in_world handles v (first_node nodes r.todo)) step (at_nodes nodes' c) r') rests
    (subst (λ (t : Records.Stage). MovedBy budget (acts (at_nodes nodes c) r t (first_node nodes r.todo)) step (at_nodes nodes' c) r') stands (h c m))

pub fails : (nodes : List Node) (r : Job) (budget : ℕ) (step : RebalanceStep) (nodes' : List Node) (r' : Job) → MovesFor Moved (first_node nodes r.todo) (λ c n. failed c r n) nodes step nodes' r'
    → (around : Core) → MovedBy budget (acts (at_nodes nodes around) r Records.Stage.Failed (first_node nodes r.todo)) step (at_nodes nodes' around) r'
fails nodes r budget step nodes' r' h around = by (first_node nodes r.todo) h
  where
    by : (x : Option Node) → MovesFor Moved x (λ c n. failed c r n) nodes step nodes' r' → MovedBy budget (acts (at_nodes nodes around) r Records.Stage.Failed x) step (at_nodes nodes' around) r'
    by None h = absurd h
    by (Some n) h = h around

-- The search ------------------------------------------------------------------------------------

pub found_is : (nodes : List Node) (a : Arbiters) (r : Job) (budget : ℕ) (wanted : Option Reqs) (all : List ℕ) (found : Answer) (label : Label) (r' : Job)
    → wanted ≡ r.wanted → all ≡ movers r → AnswersTo (asked_for wanted nodes all) nodes a all budget found → Takes r (answer_of found) label r' → Searched nodes a r budget label r'
found_is nodes a r budget wanted all found label r' w e answers takes = λ around m.
    let right = subst (λ ks. AnswersTo (asked_for r.wanted nodes ks) nodes a ks budget found) e (subst (λ x. AnswersTo (asked_for x nodes all) nodes a all budget found) w answers) in (
      answer_of found,
      right around.reserved m,
      takes (at_nodes nodes around),
    )

-- what was found, where it is no assignment
pub no_plan : (found : Answer) → ((plan : List (List Res)) → found ≡ Assignment plan → ⊥) → plan_of (answer_of found) ≡ []
no_plan (Assignment plan) other = absurd (other plan refl)
no_plan NoFit other = refl
no_plan Spent other = refl
