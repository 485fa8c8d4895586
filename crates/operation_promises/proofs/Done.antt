-- What an operation has done where its last line is printed.
use Rattle.std.proofs.Common.{ℕ, ◌≡◌, ◌≢◌, ◌⊎◌, inl, inr, Bool, true, false, List, [], ◌∷◌, map, Option, Some, None, refl, sym, ap, subst, ◌∙◌}
use Rattle.std.proofs.lemmas.Bool.{cases_eq}
use Rattle.resource_reqs.specs.Spelling.Answer.{assignment, no_fit, spent}
use Rattle.pnp_labels.specs.Texts.{Text}
use Rattle.pnp_labels.specs.declared.event.Event.{Event}
use Rattle.pnp_labels.specs.declared.label.Label.{Label}
use Rattle.pnp_labels.specs.declared.label.OpEnd.{OpEnd}
use Rattle.pnp_labels.specs.declared.label.OpKind.{OpKind}
use Rattle.pnp_labels.specs.declared.states.DevState.TheVariants.{NoStack, SurpriseRemoved}
use Rattle.pnp_model.specs.Cores.{is_node, node_at, stack_of, with_problem}
use Rattle.pnp_model.specs.Events.{answer_of, completed}
use Rattle.pnp_model.specs.Frames.{first_node, rest}
use Rattle.pnp_model.specs.Jobs.{JobMove, job_of}
use Rattle.pnp_model.specs.Keyed.{changed_first, those, without_first}
use Rattle.pnp_model.specs.Laws.{Reaches}
use Rattle.pnp_model.specs.Machine as ma
use Rattle.pnp_model.specs.Rebalances as re
use Rattle.pnp_model.specs.Records.{Course, Driver, Found, Job, Node, Relation, Settings, Stage, State, Step, course_of}
use Rattle.pnp_model.specs.Removals as rm
use Rattle.pnp_model.specs.Runs.{Entry, Goes}
use Rattle.pnp_model.specs.Runs.Entry.{Happens, Did, Declines}
use Rattle.pnp_model.specs.Tests.{has}
use Rattle.pnp_model.specs.Trees.{leaving}
use Rattle.pnp_model.proofs.Due.{due_is_first}
use Rattle.pnp_laws.specs.Effects.{ClosesIn, OpEffect, Running, Turn, begun}
use Rattle.pnp_laws.specs.Kept.{JobFits, OperationFits, RemovalKeeps, SurpriseKeeps, removal_state}
use Rattle.pnp_laws.specs.Holdings.{has_plan}
use Rattle.pnp_laws.specs.Plans.{IsPlanned, PlanKept, PlanKeptIn, StagePlan}
use Rattle.pnp_laws.specs.Reached.{IsReached}
use Rattle.pnp_laws.proofs.EffectsOf.{effect_goes}
use Rattle.pnp_laws.proofs.EffectsOfOperations.{begun_work, turn_work}
use Rattle.pnp_laws.proofs.EventChanges.{Answered, happens_outside}
use Rattle.pnp_laws.proofs.Finishing.{head_bare}
use Rattle.pnp_laws.proofs.Lists.{HeadIs, head_found, rest_has}
use Rattle.pnp_laws.proofs.Lookups.{left_from, node_from, some_same}
use Rattle.pnp_laws.proofs.PlansKept.{reached_is_planned}
use Rattle.pnp_laws.proofs.Reaching.{kept}
use Rattle.pnp_laws.proofs.RebalanceRuns.{after_core}
use Rattle.pnp_laws.proofs.RunsStand.{Kept, reaches_kept}
use Rattle.pnp_laws.proofs.Stages.{OperationStep, RebalanceAct, RebalanceStep, RemovalAct, RemovalStep, operation_step, own_step}
use Rattle.pnp_laws.proofs.Standing.{AllTold, RemovalOrder, SurpriseOrder, SurpriseTold, kept_by, told_by}
use Rattle.pnp_laws.proofs.SurpriseSteps.{last_alone}
use Rattle.pnp_laws.proofs.Turns.{running_good}
use Rattle.pnp_laws.proofs.TurnsKept.{running_stage, running_told}
use Rattle.pnp_promises.proofs.Excuses.{after_frame}
use Rattle.pnp_promises.proofs.Lines.{lines_mean_what_they_say}
use Rattle.pnp_promises.specs.Lines.{Ended, EndsSo}
use Rattle.operation_promises.specs.Done.{DoneBy, EndsSayWhatWasDoneLaw, HoldsAll, NoneDriven}

fits_by : (course : Course) (p : Job) (nodes : List Node) → course_of p.kind ≡ course → OperationFits (Some p) nodes → JobFits course p nodes
fits_by course p nodes is h = subst (λ (x : Course). JobFits x p nodes) is h

plan_by : (s : State) (r : Job) → IsPlanned s → s.operation ≡ Some r → course_of r.kind ≡ Course.Rebalancing → StagePlan r r.stage s.core.reserved s.core.nodes
plan_by s r planned runs course = subst (λ (x : Course). PlanKeptIn x r s.core.reserved s.core.nodes) course (subst (λ (x : Option Job). PlanKept x s.core.reserved s.core.nodes) runs planned)

-- A disable or an eject that nobody refused ends where none of its devices has drivers --------------------------------

-- while what was agreed is taken back somebody has refused
abbrev SoFar : Job → List Node → Stage → Type 0
SoFar o nodes Stage.TakingBack = o.refused ≢ []
SoFar o nodes Stage.Cancelling = o.refused ≢ []
SoFar o nodes Stage.Ending = o.refused ≡ [] → NoneDriven o.set nodes
SoFar o nodes _ = Unit {0}

abbrev SoFarIn : Course → Job → List Node → Type 0
SoFarIn Course.Removing o nodes = SoFar o nodes o.stage
SoFarIn _ o nodes = Unit {0}

abbrev AllSoFar : Option Job → List Node → Type 0
AllSoFar None nodes = Unit {0}
AllSoFar (Some o) nodes = SoFarIn (course_of o.kind) o nodes

so_far_by : (o : Job) (nodes : List Node) → (course_of o.kind ≡ Course.Removing → SoFar o nodes o.stage) → SoFarIn (course_of o.kind) o nodes
so_far_by o nodes h = by_course (course_of o.kind) refl
  where
    by_course : (course : Course) → course_of o.kind ≡ course → SoFarIn course o nodes
    by_course Course.Removing e = h e
    by_course Course.Rebalancing e = tt
    by_course Course.Surprising e = tt
    by_course Course.Finishing e = tt

module _ (now : List Node) where
  cancels : (r : Job) (ks : List ℕ) → r.refused ≢ [] → SoFar (rm.cancel_on r ks) now (rm.cancel_on r ks).stage
  cancels r [] some = λ e. absurd (some e)
  cancels r (k ∷ ks) some = some

  finishes : (nodes : List Node) (o : Job) (ks : List ℕ) → (ks ≡ [] → NoneDriven o.set now) → SoFar (rm.finish_on nodes o ks) now (rm.finish_on nodes o ks).stage
  finishes nodes o [] h = λ e. h refl
  finishes nodes o (k ∷ ks) h = by_stack (stack_of (node_at k nodes))
    where
      by_stack : (stack : List ℕ) → SoFar (rm.finish_with o (k ∷ ks) stack) now (rm.finish_with o (k ∷ ks) stack).stage
      by_stack [] = tt
      by_stack (d ∷ ds) = tt

  asks : (nodes : List Node) (o : Job) (ks : List ℕ) → SoFar (rm.ask_on nodes o ks) now (rm.ask_on nodes o ks).stage
  asks nodes o (k ∷ ks) = tt
  asks nodes o [] = finishes nodes o o.set (λ e k n at inside. absurd (let none = subst (λ (set : List ℕ). has set k ≡ true) e inside in cc))

module _ (s : State) (good : Kept s) (o : Job) (course : course_of o.kind ≡ Course.Removing) (keeps : RemovalKeeps o o.stage s.core.nodes) (order : RemovalOrder s.core o o.stage) (before : SoFar o s.core.nodes o.stage) where
  abbrev Q : Step → Type 0
  Q step = (p : Job) → step.state.operation ≡ Some p → SoFarIn (course_of p.kind) p step.state.core.nodes

  lifted : (m : JobMove) → SoFar m.frame m.core.nodes m.frame.stage → Q (ma.job_lifted s m)
  lifted m h p e =
      let same : m.frame ≡ p = after_frame m.frame m.beside (Rattle.pnp_model.specs.States.with_core m.core s) p e in
      so_far_by p (ma.job_lifted s m).state.core.nodes
      (λ q. subst (λ (c : Rattle.pnp_model.specs.Records.Core). SoFar p c.nodes p.stage) (sym (after_core m.frame m.beside m.core s)) (subst (λ (x : Job). SoFar x m.core.nodes x.stage) same h))

  -- all but the one that is next have none
  all_but : o.stage ≡ Stage.Settling → (node : Node) → first_node s.core.nodes o.todo ≡ Some node → rest o.todo ≡ [] → (k : ℕ) (n : Node) → node_at k s.core.nodes ≡ Some n → has o.set k ≡ true → n.state ≡ NoStack
  all_but at node first none k n there inside =
      let head = head_found s.core.nodes o.todo node first in
      elim (cases_eq node.serial k) [
        | inl e ↦
            let same = some_same (node_at k s.core.nodes) node n (subst (λ (i : ℕ). node_at i s.core.nodes ≡ Some node) e head.1) there in
            ap (λ (x : Node). x.state) (sym same) ∙ head_bare o.todo node.serial node.state head.0 (subst (λ (x : Stage). removal_state o x node.serial node.state ≡ true) at (keeps.each node.serial node head.1))
        | inr d ↦ (subst (λ (x : Stage). RemovalOrder s.core o x) at order).bare k n there inside (sym (rest_has node.serial k o.todo head.0 d) ∙ ap (λ (ks : List ℕ). has ks k) none)
      ]

  leaves : (m : JobMove) (node : Node) → o.stage ≡ Stage.Settling → first_node s.core.nodes o.todo ≡ Some node → m.frame ≡ rm.finish_on s.core.nodes o (rest o.todo) → m.core.nodes ≡ without_first (is_node node.serial) s.core.nodes → Q (ma.job_lifted s m)
  leaves m node at first frame nodes =
      lifted m
      (subst (λ (x : Job). SoFar x m.core.nodes x.stage) (sym frame)
      (finishes m.core.nodes s.core.nodes o (rest o.todo)
      (λ none k n there inside. let was = left_from node.serial k s.core.nodes n good.good.serials (subst (λ (x : List Node). node_at k x ≡ Some n) nodes there) in all_but at node first none k n was.1 inside)))

  remains : (m : JobMove) (node : Node) (problem : Option Rattle.pnp_labels.specs.declared.states.Problem.Problem) → o.stage ≡ Stage.Settling → first_node s.core.nodes o.todo ≡ Some node → m.frame ≡ rm.finish_on s.core.nodes o (rest o.todo)
      → m.core.nodes ≡ changed_first (is_node node.serial) (with_problem problem) s.core.nodes → Q (ma.job_lifted s m)
  remains m node problem at first frame nodes =
      lifted m
      (subst (λ (x : Job). SoFar x m.core.nodes x.stage) (sym frame)
      (finishes m.core.nodes s.core.nodes o (rest o.todo)
      (λ none k n there inside.
      elim (node_from node.serial k (with_problem problem) s.core.nodes n (λ x. refl) (subst (λ (x : List Node). node_at k x ≡ Some n) nodes there)) [
        | inl (e, (was, q, r)) ↦ ap (λ (x : Node). x.state) r ∙ all_but at node first none k was q inside
        | inr (d, q) ↦ all_but at node first none k n q inside
      ])))

  act : (stage : Stage) (m : JobMove) → o.stage ≡ stage → RemovalAct s.core o stage m → Q (ma.job_lifted s m)
  act _ _ at (RemovalAct.declines node first) = lifted (rm.declines s.core o node) (cancels s.core.nodes (record o { refused = node.serial ∷ o.refused }) o.agreed (λ e. cc))
  act _ m at (RemovalAct.leaves node first up) = leaves m node at first refl refl
  act _ m at (RemovalAct.ejects node first) = leaves m node at first refl refl
  act _ m at (RemovalAct.disables node first up target) = remains m node _ at first refl refl
  act _ m at (RemovalAct.remains node problem first up fine) = remains m node _ at first refl refl
  act _ _ at RemovalAct.closes = λ p e. absurd (cc)

  removal_step : (stage : Stage) (m : JobMove) → o.stage ≡ stage → RemovalStep s.core o stage m → Q (ma.job_lifted s m)
  removal_step _ m at (RemovalStep.agrees node w e fine) = lifted m (asks m.core.nodes s.core.nodes (record o { agreed = node.serial ∷ o.agreed }) (rest o.todo))
  removal_step _ m at (RemovalStep.refuses node w e bad) = lifted m (λ q. cc)
  removal_step _ m at (RemovalStep.takes_back node w e) = lifted m (cancels m.core.nodes o o.agreed (subst (λ (x : Stage). SoFar o s.core.nodes x) at before))
  removal_step _ m at (RemovalStep.cancels node w e) = lifted m (cancels m.core.nodes o (rest o.todo) (subst (λ (x : Stage). SoFar o s.core.nodes x) at before))
  removal_step _ m at (RemovalStep.removes node w e) = lifted m tt
  removal_step _ m at (RemovalStep.acts stage _ x) = act stage m at x

  step_so_far : (step : Step) → OperationStep s o step → Q step
  step_so_far _ (OperationStep.asks node w a) p e =
      let same : record o { walk = Some (Rattle.pnp_model.specs.Frames.asked s.core node w).walk } ≡ p = cc in
      so_far_by p s.core.nodes (λ q. subst (λ (x : Job). SoFar x s.core.nodes x.stage) same (walked o.stage before))
    where
      walked : (stage : Stage) → SoFar o s.core.nodes stage → SoFar (record o { walk = Some (Rattle.pnp_model.specs.Frames.asked s.core node w).walk }) s.core.nodes stage
      walked Stage.TakingBack h = h
      walked Stage.Cancelling h = h
      walked Stage.Ending h = h
      walked _ h = tt
  step_so_far _ (OperationStep.removes stage m own at x) p e = removal_step stage m at x p e
  step_so_far _ (OperationStep.rebalances stage m own at x) p e = absurd (cc)
  step_so_far _ (OperationStep.surprises stage m own at x) p e = absurd (cc)
  step_so_far _ (OperationStep.finishes stage m own at x) p e = absurd (cc)

-- where the next device is taken
turned : (s : State) (o p : Job) (nodes : List Node) → Turn s o p → course_of p.kind ≡ Course.Removing → SoFarIn (course_of o.kind) o nodes → SoFar p nodes p.stage
turned s o _ nodes (Turn.same _) course h = subst (λ (c : Course). SoFarIn c o nodes) course h
turned s _ _ nodes (Turn.queries o node own at none first asked) course h = tt
turned s _ _ nodes (Turn.removes o node d ds own at none first goes stack) course h = absurd (cc)
turned s _ _ nodes (Turn.settles o node own at none first goes stack) course h = absurd (cc)
turned s _ _ nodes (Turn.finishes f k node own at none ready there) course h = absurd (cc)

-- Each step ---------------------------------------------------------------------------------------------------------------

-- a removal as it begins, before anyone is asked
abbrev taking_in : State → Node → OpKind → Job
taking_in s node kind =
    record (job_of kind node) { set = leaving s.core node.serial; ejecting = map (λ (r : Relation). r.member) (those (rm.is_ejecting (leaving s.core node.serial)) s.core.relations) }

begun_so_far : (s : State) (kind : OpKind) (node : Node) (nodes : List Node) → SoFarIn (course_of (begun s kind node).kind) (begun s kind node) nodes
begun_so_far s kind node nodes = so_far_by (begun s kind node) nodes (λ e. by_kind kind (ap course_of (sym (begun_work s kind node).0) ∙ e))
  where
    by_kind : (own : OpKind) → course_of own ≡ Course.Removing → SoFar (begun s own node) nodes (begun s own node).stage
    by_kind OpKind.Disable e = asks nodes s.core.nodes (taking_in s node OpKind.Disable) (those (λ k. rm.is_queried_node (node_at k s.core.nodes)) (leaving s.core node.serial))
    by_kind OpKind.Eject e = asks nodes s.core.nodes (taking_in s node OpKind.Eject) (those (λ k. rm.is_queried_node (node_at k s.core.nodes)) (leaving s.core node.serial))
    by_kind OpKind.Surprise e = absurd (cc)
    by_kind OpKind.Rebalance e = absurd (cc)
    by_kind OpKind.Change e = absurd (cc)
    by_kind OpKind.Finish e = absurd (cc)

-- of the operation that runs
abbrev GoesSoFar : State → Type 0
GoesSoFar s = (p : Job) → s.operation ≡ Some p → SoFarIn (course_of p.kind) p s.core.nodes

module _ (settings : Settings) (s : State) (good : Kept s) (before : GoesSoFar s) where
  module _ (label : Label) (t : State) (goes : Goes settings s (Did label) t) where
    did : OpEffect s label t → GoesSoFar t
    did (OpEffect.idles none after prints) p e = absurd (cc)
    did (OpEffect.begins kind node none alone at why same) p e =
        let op : Some (begun s kind node) ≡ Some p = sym (ap (λ (x : Step). x.state.operation) same) ∙ e in
        let own : begun s kind node ≡ p = cc in
        subst (λ (x : Job). SoFarIn (course_of x.kind) x t.core.nodes) own (begun_so_far s kind node t.core.nodes)
    did (OpEffect.goes o q runs after work prints) p e = so_far_by p t.core.nodes by_course
      where
        same : q ≡ p
        same = some_same t.operation q p after e

        taken : Rattle.pnp_laws.proofs.Stages.TakenStep s o (record { label = label; state = t })
        taken = operation_step settings s o (record { label = label; state = t }) runs goes

        by_course : course_of p.kind ≡ Course.Removing → SoFar p t.core.nodes p.stage
        by_course is =
            let old : course_of o.kind ≡ Course.Removing = ap course_of (sym work.kind) ∙ ap (λ (x : Job). course_of x.kind) same ∙ is in
            let running : Running s taken.now = record { before = o; runs = runs; turn = taken.turn } in
            let course : course_of taken.now.kind ≡ Course.Removing = ap course_of (turn_work s o taken.now taken.turn).kind ∙ old in
            let fits = (running_good s taken.now running good.good).fits in
            let stage = kept_by Course.Removing taken.now s.core course (running_stage s taken.now running good) in
            subst (λ (c : Course). SoFarIn c p t.core.nodes) is
            (step_so_far s good taken.now course (fits_by Course.Removing taken.now s.core.nodes course fits) stage.0 (turned s o taken.now s.core.nodes taken.turn course (before o runs)) (record { label = label; state = t }) (own_step s taken.now (record { label = label; state = t }) fits taken.is) p e)
    did (OpEffect.ends o result runs after prints by closes) p e = absurd (cc)

  happens : (event : Event) (label : Label) (t : State) → Goes settings s (Happens event label) t → GoesSoFar t
  happens event label t goes p e =
      let out = happens_outside s event in
      let nodes : t.core.nodes ≡ s.core.nodes = subst (λ (x : Step). x.state.core.nodes ≡ s.core.nodes) goes.1 out.nodes in
      elim (subst (λ (x : Step). Answered s.operation x.state.operation) goes.1 out.operation) [
        | inl same ↦ subst (λ (x : List Node). SoFarIn (course_of p.kind) p x) (sym nodes) (before p (sym same ∙ e))
        | inr (ok, o, ran, now) ↦
            let own : completed (answer_of ok) o ≡ p = some_same t.operation (completed (answer_of ok) o) p now e in
            subst (λ (x : Job). SoFarIn (course_of x.kind) x t.core.nodes) own (subst (λ (x : List Node). SoFarIn (course_of o.kind) (completed (answer_of ok) o) x) (sym nodes) (answered ok o (course_of o.kind) (before o ran)))
      ]
    where
      answered_stage : (ok : Bool) (o : Job) (stage : Stage) → SoFar o s.core.nodes stage → SoFar (completed (answer_of ok) o) s.core.nodes stage
      answered_stage ok o Stage.TakingBack h = h
      answered_stage ok o Stage.Cancelling h = h
      answered_stage ok o Stage.Ending h = h
      answered_stage ok o _ h = tt

      answered : (ok : Bool) (o : Job) (course : Course) → SoFarIn course o s.core.nodes → SoFarIn course (completed (answer_of ok) o) s.core.nodes
      answered ok o Course.Removing h = answered_stage ok o o.stage h
      answered ok o Course.Rebalancing h = tt
      answered ok o Course.Surprising h = tt
      answered ok o Course.Finishing h = tt

  goes_so_far : (entry : Entry) (t : State) → Goes settings s entry t → GoesSoFar t
  goes_so_far (Happens event label) t goes = happens event label t goes
  goes_so_far (Did label) t goes = did label t goes (effect_goes settings s (Did label) t goes).operation
  goes_so_far (Declines label) t goes = λ p e. absurd (let none = ap (λ (x : State). x.operation) goes.dropped ∙ (due_is_first s goes.first goes.is_due).idle in cc)

reached_so_far : (settings : Settings) (rack : List Driver) (s : State) → IsReached settings rack s → GoesSoFar s
reached_so_far settings rack = kept GoesSoFar settings rack (λ old entry new reached h goes. goes_so_far settings old (reaches_kept settings rack reached.0 old reached.1) h entry new goes) (λ p e. absurd (cc))

-- Where an end is printed --------------------------------------------------------------------------------------------------

-- a removal in order and a rebalance end at their last stage, by who refused, and by what was found
abbrev EndsAt : Course → State → Job → Label → Type 0
EndsAt Course.Removing s o label = (o.stage ≡ Stage.Ending) × (label ≡ Label.End o.kind o.path (rm.end_of s.core o.refused))
EndsAt Course.Rebalancing s o label = (o.stage ≡ Stage.Ending) × (label ≡ Label.End o.kind o.path (re.result o.found (re.has_refused o)))
EndsAt _ s o label = Unit {0}

abbrev IsEnd : Label → Type 0
IsEnd (Label.End kind path result) = Unit {0}
IsEnd _ = ⊥

module _ (s : State) (o : Job) where
  found_ends : (found : Found) → IsEnd (re.searched s.core o found).label → EndsAt Course.Rebalancing s o (re.searched s.core o found).label
  found_ends (assignment plan) h = absurd h
  found_ends no_fit h = absurd h
  found_ends spent h = absurd h

  rebalance_ends : (stage : Stage) (m : JobMove) → o.stage ≡ stage → RebalanceStep s.core o stage m → IsEnd m.label → EndsAt Course.Rebalancing s o m.label
  rebalance_ends _ _ at (RebalanceStep.agrees node w e good) h = absurd h
  rebalance_ends _ _ at (RebalanceStep.refuses node w e bad) h = absurd h
  rebalance_ends _ _ at (RebalanceStep.takes_back node w e) h = absurd h
  rebalance_ends _ _ at (RebalanceStep.cancels node w e) h = absurd h
  rebalance_ends _ _ at (RebalanceStep.stops node w e) h = absurd h
  rebalance_ends _ _ at (RebalanceStep.restarts node w e good) h = absurd h
  rebalance_ends _ _ at (RebalanceStep.fails node w e bad) h = absurd h
  rebalance_ends _ _ at (RebalanceStep.acts _ _ (RebalanceAct.searches found budget answer)) h = found_ends found h
  rebalance_ends _ _ at (RebalanceStep.acts _ _ RebalanceAct.sticks) h = absurd h
  rebalance_ends _ _ at (RebalanceStep.acts _ _ RebalanceAct.commits) h = absurd h
  rebalance_ends _ _ at (RebalanceStep.acts _ _ (RebalanceAct.failed node first)) h = absurd h
  rebalance_ends _ _ at (RebalanceStep.acts _ _ RebalanceAct.closes) h = (at, refl)

  removal_ends : (stage : Stage) (m : JobMove) → o.stage ≡ stage → RemovalStep s.core o stage m → IsEnd m.label → EndsAt Course.Removing s o m.label
  removal_ends _ _ at (RemovalStep.agrees node w e good) h = absurd h
  removal_ends _ _ at (RemovalStep.refuses node w e bad) h = absurd h
  removal_ends _ _ at (RemovalStep.takes_back node w e) h = absurd h
  removal_ends _ _ at (RemovalStep.cancels node w e) h = absurd h
  removal_ends _ _ at (RemovalStep.removes node w e) h = absurd h
  removal_ends _ _ at (RemovalStep.acts _ _ (RemovalAct.declines node first)) h = absurd h
  removal_ends _ _ at (RemovalStep.acts _ _ (RemovalAct.leaves node first up)) h = absurd h
  removal_ends _ _ at (RemovalStep.acts _ _ (RemovalAct.ejects node first)) h = absurd h
  removal_ends _ _ at (RemovalStep.acts _ _ (RemovalAct.disables node first up target)) h = absurd h
  removal_ends _ _ at (RemovalStep.acts _ _ (RemovalAct.remains node problem first up fine)) h = absurd h
  removal_ends _ _ at (RemovalStep.acts _ _ RemovalAct.closes) h = (at, refl)

  ends_at : (step : Step) → OperationStep s o step → IsEnd step.label → EndsAt (course_of o.kind) s o step.label
  ends_at _ (OperationStep.asks node w a) h = absurd h
  ends_at _ (OperationStep.rebalances stage m course at x) h = subst (λ (c : Course). EndsAt c s o m.label) (sym course) (rebalance_ends stage m at x h)
  ends_at _ (OperationStep.removes stage m course at x) h = subst (λ (c : Course). EndsAt c s o m.label) (sym course) (removal_ends stage m at x h)
  ends_at _ (OperationStep.surprises stage m course at x) h = subst (λ (c : Course). EndsAt c s o m.label) (sym course) tt
  ends_at _ (OperationStep.finishes stage m course at x) h = subst (λ (c : Course). EndsAt c s o m.label) (sym course) tt

-- at the last stage the next device is not taken anew
ending_now : (s : State) (o p : Job) → Turn s o p → p.stage ≡ Stage.Ending → o ≡ p
ending_now s o _ (Turn.same _) at = refl
ending_now s _ _ (Turn.queries o node own is none first asked) at = absurd (cc)
ending_now s _ _ (Turn.removes o node d ds own is none first goes stack) at = absurd (cc)
ending_now s _ _ (Turn.settles o node own is none first goes stack) at = absurd (cc)
ending_now s _ _ (Turn.finishes f k node own is none ready there) at = absurd (cc)

ending_was : (s : State) (o p : Job) → Turn s o p → o.stage ≡ Stage.Ending → o ≡ p
ending_was s o _ (Turn.same _) at = refl
ending_was s _ _ (Turn.queries o node own is none first asked) at = absurd (cc)
ending_was s _ _ (Turn.removes o node d ds own is none first goes stack) at = absurd (cc)
ending_was s _ _ (Turn.settles o node own is none first goes stack) at = absurd (cc)
ending_was s _ _ (Turn.finishes f k node own is none ready there) at = absurd (cc)

same_set : (s : State) (o p : Job) → Turn s o p → (p.set ≡ o.set) × (p.behind ≡ o.behind)
same_set s o _ (Turn.same _) = (refl, refl)
same_set s _ _ (Turn.queries o node own is none first asked) = (refl, refl)
same_set s _ _ (Turn.removes o node d ds own is none first goes stack) = (refl, refl)
same_set s _ _ (Turn.settles o node own is none first goes stack) = (refl, refl)
same_set s _ _ (Turn.finishes f k node own is none ready there) = (refl, refl)

-- where a surprise removal ends each of its devices has no drivers, or stayed behind
module _ (s : State) (good : Kept s) (o : Job) (running : Running s o) (course : course_of o.kind ≡ Course.Surprising) (k : ℕ) (n : Node) (at : node_at k s.core.nodes ≡ Some n) (inside : has o.set k ≡ true) where
  abbrev BareOrBehind : Type 0
  BareOrBehind = (n.state ≡ NoStack) ⊎ ((has o.behind k ≡ true) × (n.state ≡ SurpriseRemoved))

  by_behind : AllTold o.behind s.core.nodes → (has o.behind k ≡ false → n.state ≡ NoStack) → BareOrBehind
  by_behind stayed bare = by_test (has o.behind k) refl
    where
      by_test : (b : Bool) → has o.behind k ≡ b → BareOrBehind
      by_test true e = inr (e, stayed k n e at)
      by_test false e = inl (bare e)

  bare_or_behind : (t : State) → ClosesIn s o t Course.Surprising → BareOrBehind
  bare_or_behind t (inl is) =
      let stage = kept_by Course.Surprising o s.core course (running_stage s o running good) in
      let told = subst (λ (x : Stage). SurpriseTold s.core o x) is (told_by Course.Surprising o s.core course (running_told s o running good)) in
      by_behind told.stayed (λ none. (subst (λ (x : Stage). SurpriseOrder s.core o x) is stage.0).bare k n at inside refl none)
  bare_or_behind t (inr (is, node, first, last)) =
      let stage = kept_by Course.Surprising o s.core course (running_stage s o running good) in
      let told = subst (λ (x : Stage). SurpriseTold s.core o x) is (told_by Course.Surprising o s.core course (running_told s o running good)) in
      let order = (subst (λ (x : Stage). SurpriseOrder s.core o x) is stage.0).0 in
      let keeps = subst (λ (x : Stage). SurpriseKeeps o x s.core.nodes) is (fits_by Course.Surprising o s.core.nodes course (running_good s o running good.good).fits) in
      let head = (head_found s.core.nodes o.todo node first).0 in
      let none = last_alone o.target o.todo (subst (λ (i : ℕ). HeadIs i o.todo) last head) keeps.ends in
      elim (cases_eq node.serial k) [
        | inl q ↦ inl (head_bare o.todo k n.state (subst (λ (i : ℕ). HeadIs i o.todo) q head) (keeps.each k n at))
        | inr d ↦ by_behind told.stayed (λ apart. order.bare k n at inside (sym (rest_has node.serial k o.todo head d) ∙ ap (λ (ks : List ℕ). has ks k) none) apart)
      ]

module _ (settings : Settings) (rack : List Driver) (entries : List Entry) (s : State) (kind : OpKind) (path : Text) (result : OpEnd) (t : State) (run : Reaches settings rack entries s) (goes : Goes settings s (Did (Label.End kind path result)) t) where
  good_s : Kept s
  good_s = reaches_kept settings rack entries s run

  ended : Ended s kind path result t
  ended = lines_mean_what_they_say settings rack entries s (Label.End kind path result) t run goes

  abbrev o : Job
  o = ended.operation

  abbrev before : Job
  before = ended.ran.before

  taken : Rattle.pnp_laws.proofs.Stages.TakenStep s ended.ran.before (record { label = Label.End kind path result; state = t })
  taken = operation_step settings s ended.ran.before (record { label = Label.End kind path result; state = t }) ended.ran.runs goes

  now_kind : taken.now.kind ≡ o.kind
  now_kind = (turn_work s before taken.now taken.turn).kind ∙ sym (turn_work s before o ended.ran.turn).kind

  last : EndsAt (course_of taken.now.kind) s taken.now (Label.End kind path result)
  last = ends_at s taken.now (record { label = Label.End kind path result; state = t }) (own_step s taken.now (record { label = Label.End kind path result; state = t }) (running_good s taken.now (record { before = before; runs = ended.ran.runs; turn = taken.turn }) good_s.good).fits taken.is) tt

  -- at its last stage it is as it runs
  record AsItRuns : Type 0 where
    stage : o.stage ≡ Stage.Ending
    runs : s.operation ≡ Some o
    same : taken.now ≡ o

  as_it_runs : taken.now.stage ≡ Stage.Ending → AsItRuns
  as_it_runs at =
      let was = ending_now s before taken.now taken.turn at in
      let before_at : before.stage ≡ Stage.Ending = ap (λ (x : Job). x.stage) was ∙ at in
      let same = ending_was s before o ended.ran.turn before_at in
      record { stage = ap (λ (x : Job). x.stage) (sym same) ∙ before_at; runs = ended.ran.runs ∙ ap Some same; same = sym was ∙ same }

  own_result : (k : OpKind) (p : Text) (r : OpEnd) → Label.End kind path result ≡ Label.End k p r → result ≡ r
  own_result k p r e = cc

  removal_done : course_of o.kind ≡ Course.Removing → DoneBy Course.Removing o s.core.nodes result
  removal_done course =
      let here = subst (λ (c : Course). EndsAt c s taken.now (Label.End kind path result)) (ap course_of now_kind ∙ course) last in
      let end = as_it_runs here.0 in
      let far : SoFar o s.core.nodes o.stage = subst (λ (c : Course). SoFarIn c o s.core.nodes) course (reached_so_far settings rack s (entries, run) o end.runs) in
      let is : result ≡ rm.end_of s.core o.refused = own_result _ _ _ here.1 ∙ ap (λ (x : Job). rm.end_of s.core x.refused) end.same in
      subst (λ (r : OpEnd). DoneBy Course.Removing o s.core.nodes r) (sym is) (by_refused o.refused refl (subst (λ (x : Stage). SoFar o s.core.nodes x) end.stage far))
    where
      by_refused : (refused : List ℕ) → o.refused ≡ refused → (o.refused ≡ [] → NoneDriven o.set s.core.nodes) → DoneBy Course.Removing o s.core.nodes (rm.end_of s.core refused)
      by_refused [] e done = done e
      by_refused (q ∷ qs) e done = (q, qs, e, refl)

  rebalance_done : course_of o.kind ≡ Course.Rebalancing → DoneBy Course.Rebalancing o s.core.nodes result
  rebalance_done course =
      let here = subst (λ (c : Course). EndsAt c s taken.now (Label.End kind path result)) (ap course_of now_kind ∙ course) last in
      let end = as_it_runs here.0 in
      let plan = subst (λ (x : Stage). StagePlan o x s.core.reserved s.core.nodes) end.stage (plan_by s o (reached_is_planned settings rack s (entries, run)) end.runs course) in
      let is : result ≡ re.result o.found (re.has_refused o) = own_result _ _ _ here.1 ∙ ap (λ (x : Job). re.result x.found (re.has_refused x)) end.same in
      subst (λ (r : OpEnd). DoneBy Course.Rebalancing o s.core.nodes r) (sym is) (by_found o.found (re.has_refused o) refl refl plan)
    where
      by_found : (found : Found) (refused : Bool) → o.found ≡ found → re.has_refused o ≡ refused → (has_plan o.found ≡ true → HoldsAll o s.core.nodes) → DoneBy Course.Rebalancing o s.core.nodes (re.result found refused)
      by_found found true e refuses plan = refuses
      by_found (assignment plans) false e agrees plan = plan (ap has_plan e)
      by_found no_fit false e agrees plan = e
      by_found spent false e agrees plan = e

  -- by the account of the step it closes as a surprise removal does
  left : course_of o.kind ≡ Course.Surprising → (k : ℕ) (n : Node) → node_at k s.core.nodes ≡ Some n → has o.set k ≡ true → (n.state ≡ NoStack) ⊎ ((has o.behind k ≡ true) × (n.state ≡ SurpriseRemoved))
  left course k n at inside = by_effect (effect_goes settings s (Did (Label.End kind path result)) t goes).operation
    where
      by_effect : OpEffect s (Label.End kind path result) t → (n.state ≡ NoStack) ⊎ ((has o.behind k ≡ true) × (n.state ≡ SurpriseRemoved))
      by_effect (OpEffect.idles none after prints) = absurd (let runs = ended.ran.runs in cc)
      by_effect (OpEffect.begins own node none alone there why same) = absurd (let runs = ended.ran.runs in cc)
      by_effect (OpEffect.goes p q runs after work prints) = absurd (let over = ended.over in cc)
      by_effect (OpEffect.ends p own runs after prints by closes) =
          let same : runs.before ≡ before = some_same s.operation runs.before before runs.runs ended.ran.runs in
          let p_set = same_set s runs.before p runs.turn in
          let o_set = same_set s before o ended.ran.turn in
          let set : p.set ≡ o.set = p_set.0 ∙ ap (λ (x : Job). x.set) same ∙ sym o_set.0 in
          let behind : p.behind ≡ o.behind = p_set.1 ∙ ap (λ (x : Job). x.behind) same ∙ sym o_set.1 in
          let own_course : course_of p.kind ≡ Course.Surprising = ap course_of (turn_work s runs.before p runs.turn).kind ∙ ap (λ (x : Job). course_of x.kind) same ∙ ap course_of (sym (turn_work s before o ended.ran.turn).kind) ∙ course in
          elim (bare_or_behind s good_s p runs own_course k n at (subst (λ (ks : List ℕ). has ks k ≡ true) (sym set) inside) t (subst (λ (c : Course). ClosesIn s p t c) own_course closes)) [
            | inl bare ↦ inl bare
            | inr stayed ↦ inr (subst (λ (ks : List ℕ). has ks k ≡ true) behind stayed.0, stayed.1)
          ]

  surprise_done : course_of o.kind ≡ Course.Surprising → EndsSo s o Course.Surprising result → DoneBy Course.Surprising o s.core.nodes result
  surprise_done course (inl (none, is)) =
      subst (λ (r : OpEnd). DoneBy Course.Surprising o s.core.nodes r) (sym is)
      (λ k n at inside. elim (left course k n at inside) [ inl bare ↦ bare | inr stayed ↦ absurd (let e = subst (λ (ks : List ℕ). has ks k ≡ true) none stayed.0 in cc) ])
  surprise_done course (inr (some, is)) =
      subst (λ (r : OpEnd). DoneBy Course.Surprising o s.core.nodes r) (sym is) (λ k n at inside. elim (left course k n at inside) [ inl bare ↦ inl bare | inr stayed ↦ inr stayed.1 ])

  done_by : (course : Course) → course_of o.kind ≡ course → EndsSo s o course result → DoneBy course o s.core.nodes result
  done_by Course.Removing is so = removal_done is
  done_by Course.Surprising is so = surprise_done is so
  done_by Course.Rebalancing is so = rebalance_done is
  done_by Course.Finishing is so = subst (λ (r : OpEnd). DoneBy Course.Finishing o s.core.nodes r) (sym so.0) tt

pub ends_say_what_was_done : EndsSayWhatWasDoneLaw
ends_say_what_was_done settings rack entries s kind path result t run goes =
    let e = ended settings rack entries s kind path result t run goes in
    record {
      operation = e.operation;
      ran = e.ran;
      own_kind = e.own_kind;
      own_path = e.own_path;
      over = e.over;
      done = done_by settings rack entries s kind path result t run goes (course_of kind) (ap course_of e.own_kind) e.so;
    }
