-- What a step of an operation is, stage by stage: the one list that laws over stages read.
use Rattle.std.proofs.Common.{ℕ, ◌≡◌, ◌==◌, ◌⊎◌, ◌∙◌, inl, inr, Bool, true, false, ◌&&◌, List, [], ◌∷◌, length, Option, Some, None, refl, sym, ap, subst, if◌then◌else◌}
use Rattle.std.specs.Option.{option_map}
use Rattle.resource_reqs.specs.Spelling.{IsAnswer}
use Rattle.pnp_labels.specs.declared.words.AskWhat.{AskWhat}
use Rattle.pnp_labels.specs.declared.words.Answer.{Answer}
use Rattle.pnp_labels.specs.declared.words.Minor.{Minor}
use Rattle.pnp_labels.specs.declared.label.Label.{Label}
use Rattle.pnp_labels.specs.declared.states.Problem.{Problem}
use Rattle.pnp_model.specs.Books.{rack_reply}
use Rattle.pnp_model.specs.Cores.{node_at, set_problem}
use Rattle.pnp_model.specs.Frames.{asked, ended, first_node, next_driver, rest, state_label}
use Rattle.pnp_model.specs.Handles.{ready_device}
use Rattle.pnp_model.specs.Jobs as jobs
use Rattle.pnp_model.specs.Jobs.{Beside, JobMove, moves, stands}
use Rattle.pnp_model.specs.Keyed.{those}
use Rattle.pnp_model.specs.Records.{Core, Course, Doing, Found, Handle, Job, Node, Settings, Stage, State, Step, Walk, course_of, doing_map}
use Rattle.pnp_model.specs.Records.Doing.{Does}
use Rattle.pnp_model.specs.Tests.{has, is_eject}
use Rattle.pnp_model.specs.Walks.{has_ended, is_bad, may_fail, walk_of}
use Rattle.pnp_laws.specs.Effects.{Turn}
use Rattle.pnp_laws.specs.Kept.{Ascending, IsOwn, OperationFits, asked_in}
use Rattle.pnp_laws.specs.Words.{NotTwelve}
use Rattle.pnp_laws.proofs.FitsBy.{fits_own}
use Rattle.pnp_laws.proofs.Lookups.{found_self}
use Rattle.pnp_laws.proofs.Passing.{AllNext, all_step}
use Rattle.pnp_laws.proofs.Readies.{asks_fresh, ready_fresh}
use Rattle.pnp_laws.proofs.Truths.{by_test}
use Rattle.pnp_model.specs.Machine as ma
use Rattle.pnp_model.specs.Rebalances as re
use Rattle.pnp_model.specs.Removals as rm
use Rattle.pnp_model.specs.Surprises as su
use Rattle.pnp_model.specs.Finishes as fi

-- the device that is next, whose request has ended
pub record Ends (c : Core) (j : Job) (node : Node) (w : Walk) : Type 0 where
  pub first : first_node c.nodes j.todo ≡ Some node
  pub walk : j.walk ≡ Some w
  pub ended : has_ended w (length node.stack) ≡ true

-- this request has ended at a device
abbrev pub ended_by : Core → Node → Minor → Bool → Job → JobMove
ended_by c node minor bad p = moves (state_label node minor bad) (ended c node minor bad) p

-- While no request is on its way --------------------------------------------------------

pub data RebalanceAct (c : Core) (r : Job) : Stage → JobMove → Type 0 where
  searches : (found : Found) (budget : ℕ) → IsAnswer (re.group_problem c r).fixed (re.group_problem c r).movers budget found → RebalanceAct c r Stage.Searching (re.searched c r found)
  sticks : RebalanceAct c r Stage.Stuck (re.stuck c r)
  commits : RebalanceAct c r Stage.Committing (re.commit_step c r)
  failed : (node : Node) → first_node c.nodes r.todo ≡ Some node → RebalanceAct c r Stage.Failed (re.failed c r node)
  closes : RebalanceAct c r Stage.Ending (re.close c r)

pub data RemovalAct (c : Core) (o : Job) : Stage → JobMove → Type 0 where
  -- a handle to it is open, or it waits to be finished
  declines : (node : Node) → first_node c.nodes o.todo ≡ Some node → RemovalAct c o Stage.Next (rm.declines c o node)
  leaves : (node : Node) → first_node c.nodes o.todo ≡ Some node → has o.set node.parent ≡ true → RemovalAct c o Stage.Settling (rm.leaves c o node (Label.Leave node.path) (Beside.Left node.path node.born))
  ejects : (node : Node) → first_node c.nodes o.todo ≡ Some node → RemovalAct c o Stage.Settling (rm.leaves c o node (Label.Ejected node.path) (Beside.Ejected node.path node.born))
  disables : (node : Node) → first_node c.nodes o.todo ≡ Some node → has o.set node.parent ≡ false → (node.serial == o.target) ≡ true → RemovalAct c o Stage.Settling (rm.remains c o node Problem.Disabled (Beside.Disabled node.path))
  remains : (node : Node) (problem : Problem) → first_node c.nodes o.todo ≡ Some node → has o.set node.parent ≡ false → NotTwelve problem → RemovalAct c o Stage.Settling (rm.remains c o node problem Beside.On)
  closes : RemovalAct c o Stage.Ending (rm.close c o)

-- a related device remains at the end of a surprise removal
abbrev pub held : Core → Job → Node → JobMove
held c o node = moves (Label.Trouble node.path Problem.Held) (set_problem node.serial (Some Problem.Held) c) (su.finish_on o (rest o.todo))

pub data SurpriseAct (c : Core) (o : Job) (in_world : Bool) (handles : List Handle) : Stage → JobMove → Type 0 where
  lags : (node : Node) → first_node c.nodes o.todo ≡ Some node → su.stays_behind c o handles node.serial ≡ true → SurpriseAct c o in_world handles Stage.Next (su.wait c o node)
  -- it is below another of the set, or the device that is gone
  leaves : (node : Node) → first_node c.nodes o.todo ≡ Some node → (has o.set node.parent ≡ true) ⊎ (((node.serial == o.target) ≡ true) × (in_world ≡ false)) → SurpriseAct c o in_world handles Stage.Settling (su.leaves c o node)
  remains : (node : Node) → first_node c.nodes o.todo ≡ Some node → (node.serial == o.target) ≡ false → has o.set node.parent ≡ false → SurpriseAct c o in_world handles Stage.Settling (held c o node)
  -- the device is in the world again
  stays : (node : Node) → first_node c.nodes o.todo ≡ Some node → (node.serial == o.target) ≡ true → in_world ≡ true → SurpriseAct c o in_world handles Stage.Settling (su.close c o)
  closes : SurpriseAct c o in_world handles Stage.Ending (su.close c o)

pub data FinishAct (c : Core) (f : Job) (handles : List Handle) : Stage → JobMove → Type 0 where
  leaves : (node : Node) → first_node c.nodes f.todo ≡ Some node → FinishAct c f handles Stage.Leaving (fi.leave c f node)
  holds : (node : Node) → first_node c.nodes f.todo ≡ Some node → FinishAct c f handles Stage.Holding (fi.hold c f node)
  -- nobody is ready
  closes : fi.node_of_ready c.nodes (ready_device c handles) ≡ None → FinishAct c f handles Stage.Next (fi.close c f)

pub data ActStep (s : State) (o : Job) : JobMove → Type 0 where
  rebalances : (stage : Stage) (m : JobMove) → course_of o.kind ≡ Course.Rebalancing → o.stage ≡ stage → RebalanceAct s.core o stage m → ActStep s o m
  removes : (stage : Stage) (m : JobMove) → course_of o.kind ≡ Course.Removing → o.stage ≡ stage → RemovalAct s.core o stage m → ActStep s o m
  surprises : (stage : Stage) (m : JobMove) → course_of o.kind ≡ Course.Surprising → o.stage ≡ stage → SurpriseAct s.core o (ma.is_back s o Course.Surprising) s.handles stage m → ActStep s o m
  finishes : (stage : Stage) (m : JobMove) → course_of o.kind ≡ Course.Finishing → o.stage ≡ stage → FinishAct s.core o s.handles stage m → ActStep s o m

-- Where the request is the one of the stage ----------------------------------------------

pub data RebalanceStep (c : Core) (r : Job) : Stage → JobMove → Type 0 where
  agrees : (node : Node) (w : Walk) → Ends c r node w → is_bad w ≡ false → RebalanceStep c r Stage.Asking (ended_by c node Minor.QueryStop false (re.answers r node false))
  refuses : (node : Node) (w : Walk) → Ends c r node w → is_bad w ≡ true → RebalanceStep c r Stage.Asking (ended_by c node Minor.QueryStop true (re.answers r node true))
  takes_back : (node : Node) (w : Walk) → Ends c r node w → RebalanceStep c r Stage.TakingBack (ended_by c node Minor.CancelStop false (re.ask_on r (those (re.is_not_above c.nodes node.serial) (rest r.todo))))
  cancels : (node : Node) (w : Walk) → Ends c r node w → RebalanceStep c r Stage.Cancelling (ended_by c node Minor.CancelStop false (re.cancel_on r (rest r.todo)))
  stops : (node : Node) (w : Walk) → Ends c r node w → RebalanceStep c r Stage.Stopping (ended_by c node Minor.Stop false (re.stop_on r (rest r.todo)))
  restarts : (node : Node) (w : Walk) → Ends c r node w → is_bad w ≡ false → RebalanceStep c r Stage.Restarting (ended_by c node Minor.Start false (re.after_restart c r node false))
  fails : (node : Node) (w : Walk) → Ends c r node w → is_bad w ≡ true → RebalanceStep c r Stage.Restarting (ended_by c node Minor.Start true (re.after_restart c r node true))
  acts : (stage : Stage) (m : JobMove) → RebalanceAct c r stage m → RebalanceStep c r stage m

pub data RemovalStep (c : Core) (o : Job) : Stage → JobMove → Type 0 where
  agrees : (node : Node) (w : Walk) → Ends c o node w → is_bad w ≡ false → RemovalStep c o Stage.Asking (ended_by c node Minor.QueryRemove false (rm.answers c o node false))
  refuses : (node : Node) (w : Walk) → Ends c o node w → is_bad w ≡ true → RemovalStep c o Stage.Asking (ended_by c node Minor.QueryRemove true (rm.answers c o node true))
  takes_back : (node : Node) (w : Walk) → Ends c o node w → RemovalStep c o Stage.TakingBack (ended_by c node Minor.CancelRemove false (rm.cancel_on o o.agreed))
  cancels : (node : Node) (w : Walk) → Ends c o node w → RemovalStep c o Stage.Cancelling (ended_by c node Minor.CancelRemove false (rm.cancel_on o (rest o.todo)))
  removes : (node : Node) (w : Walk) → Ends c o node w → RemovalStep c o Stage.Removing (ended_by c node Minor.Remove false (stands o o.todo Stage.Settling))
  acts : (stage : Stage) (m : JobMove) → RemovalAct c o stage m → RemovalStep c o stage m

pub data SurpriseStep (c : Core) (o : Job) (in_world : Bool) (handles : List Handle) : Stage → JobMove → Type 0 where
  tells : (node : Node) (w : Walk) → Ends c o node w → SurpriseStep c o in_world handles Stage.Telling (ended_by c node Minor.SurpriseRemoval false (su.tell_on o (rest o.todo)))
  removes : (node : Node) (w : Walk) → Ends c o node w → SurpriseStep c o in_world handles Stage.Removing (ended_by c node Minor.Remove false (stands o o.todo Stage.Settling))
  acts : (stage : Stage) (m : JobMove) → SurpriseAct c o in_world handles stage m → SurpriseStep c o in_world handles stage m

pub data FinishStep (c : Core) (f : Job) (in_world : Bool) (handles : List Handle) : Stage → JobMove → Type 0 where
  removes : (node : Node) (w : Walk) → Ends c f node w → FinishStep c f in_world handles Stage.Removing (ended_by c node Minor.Remove false (fi.settle_on f (fi.is_leaving c.nodes node in_world) node.problem))
  acts : (stage : Stage) (m : JobMove) → FinishAct c f handles stage m → FinishStep c f in_world handles stage m

abbrev pub reply : Core → Node → Walk → Answer
reply c node w = rack_reply (AskWhat.Irp w.minor) node.path c.rack (next_driver node w)

-- the next driver of a walk is asked: nodes and relations stay, and the walk of the operation goes on by the answer
abbrev pub asking : State → Job → Node → Walk → Step
asking s o node w = ma.job_lifted s (jobs.asks o (asked s.core node w))

pub record Asks (s : State) (o : Job) (node : Node) (w : Walk) : Type 0 where
  pub first : first_node s.core.nodes o.todo ≡ Some node
  pub walk : o.walk ≡ Some w
  pub waits : w.waits ≡ false
  pub more : Ascending 0 s.core.nodes → has_ended w (length node.stack) ≡ false

-- whatever request is on its way
pub data JobStep (s : State) (o : Job) : Step → Type 0 where
  asks : (node : Node) (w : Walk) → Asks s o node w → JobStep s o (asking s o node w)
  ends : (node : Node) (w : Walk) (p : Job) → Ends s.core o node w → ma.after_end s.core o (ma.is_back s o (course_of o.kind)) node (is_bad w) (course_of o.kind) ≡ Some p → JobStep s o (ma.job_lifted s (jobs.ends s.core node w p))
  acts : (m : JobMove) → o.walk ≡ None → ActStep s o m → JobStep s o (ma.job_lifted s m)

-- where it is the one of the stage
pub data OperationStep (s : State) (o : Job) : Step → Type 0 where
  asks : (node : Node) (w : Walk) → Asks s o node w → OperationStep s o (asking s o node w)
  rebalances : (stage : Stage) (m : JobMove) → course_of o.kind ≡ Course.Rebalancing → o.stage ≡ stage → RebalanceStep s.core o stage m → OperationStep s o (ma.job_lifted s m)
  removes : (stage : Stage) (m : JobMove) → course_of o.kind ≡ Course.Removing → o.stage ≡ stage → RemovalStep s.core o stage m → OperationStep s o (ma.job_lifted s m)
  surprises : (stage : Stage) (m : JobMove) → course_of o.kind ≡ Course.Surprising → o.stage ≡ stage → SurpriseStep s.core o (ma.is_back s o Course.Surprising) s.handles stage m → OperationStep s o (ma.job_lifted s m)
  finishes : (stage : Stage) (m : JobMove) → course_of o.kind ≡ Course.Finishing → o.stage ≡ stage → FinishStep s.core o (ma.is_back s o Course.Finishing) s.handles stage m → OperationStep s o (ma.job_lifted s m)

-- Each step is in the list -------------------------------------------------------------

-- a step of an operation, its next device taken
pub record TakenStep (s : State) (o : Job) (step : Step) : Type 0 where
  pub now : Job
  pub turn : Turn s o now
  pub is : JobStep s now step

abbrev StepsBy : ℕ → State → Job → Option (Doing JobMove) → Type 0
StepsBy budget s o next = AllNext budget (TakenStep s o) (option_map (doing_map (ma.job_lifted s)) next)

stay : {s : State} {o : Job} {step : Step} → JobStep s o step → TakenStep s o step
stay {s} {o} {step} is = record { now = o; turn = Turn.same o; is = is }

module _ (budget : ℕ) (s : State) where
  -- a request that has not ended asks on
  module _ (o now : Job) (turn : Turn s o now) (node : Node) (w : Walk) (first : first_node s.core.nodes now.todo ≡ Some node) (walk : now.walk ≡ Some w) (waits : w.waits ≡ false) where
    walks_by : (next : Option Job) (over : Bool) → ma.after_end s.core now (ma.is_back s now (course_of now.kind)) node (is_bad w) (course_of now.kind) ≡ next → has_ended w (length node.stack) ≡ over
        → StepsBy budget s o (option_map (λ m. Does m) (if over then option_map (jobs.ends s.core node w) next else Some (jobs.asks now (asked s.core node w))))
    walks_by None true e ended = tt
    walks_by (Some p) true e ended = record { now = now; turn = turn; is = JobStep.ends node w p (record { first = first; walk = walk; ended = ended }) e }
    walks_by next false e more = record { now = now; turn = turn; is = JobStep.asks node w (record { first = first; walk = walk; waits = waits; more = λ order. more }) }

    walks_on : (next : Option Job) → ma.after_end s.core now (ma.is_back s now (course_of now.kind)) node (is_bad w) (course_of now.kind) ≡ next → StepsBy budget s o (option_map (λ m. Does m) (jobs.walks s.core now node w next))
    walks_on next e = walks_by next (has_ended w (length node.stack)) e refl

  module _ (o : Job) (none : o.walk ≡ None) where
    act : (m : JobMove) → ActStep s o m → TakenStep s o (ma.job_lifted s m)
    act m step = stay (JobStep.acts m none step)

    module _ (course : course_of o.kind ≡ Course.Rebalancing) where
      rebalance_acts : (stage : Stage) (n : Option Node) → o.stage ≡ stage → first_node s.core.nodes o.todo ≡ n → StepsBy budget s o (re.acts s.core o stage n)
      rebalance_acts Stage.Searching n is first = λ found answer. act _ (ActStep.rebalances Stage.Searching _ course is (RebalanceAct.searches found budget answer))
      rebalance_acts Stage.Stuck n is first = act _ (ActStep.rebalances Stage.Stuck _ course is RebalanceAct.sticks)
      rebalance_acts Stage.Committing n is first = act _ (ActStep.rebalances Stage.Committing _ course is RebalanceAct.commits)
      rebalance_acts Stage.Failed (Some node) is first = act _ (ActStep.rebalances Stage.Failed _ course is (RebalanceAct.failed node first))
      rebalance_acts Stage.Failed None is first = tt
      rebalance_acts Stage.Ending n is first = act _ (ActStep.rebalances Stage.Ending _ course is RebalanceAct.closes)
      rebalance_acts _ n is first = tt

    module _ (course : course_of o.kind ≡ Course.Removing) where
      removal : (stage : Stage) (m : JobMove) → o.stage ≡ stage → RemovalAct s.core o stage m → TakenStep s o (ma.job_lifted s m)
      removal stage m is step = act m (ActStep.removes stage m course is step)

      removal_settles : (node : Node) → o.stage ≡ Stage.Settling → first_node s.core.nodes o.todo ≡ Some node → TakenStep s o (ma.job_lifted s (rm.settle s.core o node))
      removal_settles node is first =
          let leaving : JobMove = rm.leaves s.core o node (Label.Leave node.path) (Beside.Left node.path node.born) in
          let ejected : JobMove = rm.leaves s.core o node (Label.Ejected node.path) (Beside.Ejected node.path node.born) in
          let disabled : JobMove = rm.remains s.core o node Problem.Disabled (Beside.Disabled node.path) in
          let for_eject : JobMove = rm.remains s.core o node Problem.HeldForEject Beside.On in
          let held_on : JobMove = rm.remains s.core o node Problem.Held Beside.On in
          let related : JobMove = if is_eject o.kind && has o.ejecting node.serial then for_eject else held_on in
          let target : JobMove = if is_eject o.kind then ejected else disabled in
          by_test (λ b. TakenStep s o (ma.job_lifted s (if b then leaving else if node.serial == o.target then target else related))) (has o.set node.parent)
          (λ inside. removal Stage.Settling leaving is (RemovalAct.leaves node first inside))
          (λ over. by_test (λ b. TakenStep s o (ma.job_lifted s (if b then target else related))) (node.serial == o.target)
          (λ is_target. by_test (λ b. TakenStep s o (ma.job_lifted s (if b then ejected else disabled))) (is_eject o.kind)
          (λ eject. removal Stage.Settling ejected is (RemovalAct.ejects node first)) (λ disable. removal Stage.Settling disabled is (RemovalAct.disables node first over is_target)))
          (λ other. by_test (λ b. TakenStep s o (ma.job_lifted s (if b then for_eject else held_on))) (is_eject o.kind && has o.ejecting node.serial)
          (λ ejecting. removal Stage.Settling for_eject is (RemovalAct.remains node Problem.HeldForEject first over tt)) (λ plain. removal Stage.Settling held_on is (RemovalAct.remains node Problem.Held first over tt))))

      removal_query : (node : Node) (refuses : Bool) → o.stage ≡ Stage.Next → first_node s.core.nodes o.todo ≡ Some node → rm.refuses_unasked s.handles node ≡ refuses → StepsBy budget s o (option_map (λ m. Does m) (rm.query s.core o node refuses))
      removal_query node true is first unasked = removal Stage.Next (rm.declines s.core o node) is (RemovalAct.declines node first)
      removal_query node false is first willing =
          walks_on o (rm.queried o) (Turn.queries o node course is none first willing) node (walk_of Minor.QueryRemove) first refl refl (Some (rm.answers s.core (rm.queried o) node false))
          (ap (λ (x : Course). ma.after_end s.core (rm.queried o) (ma.is_back s (rm.queried o) x) node false x) course)

      removal_acts : (stage : Stage) (n : Option Node) → o.stage ≡ stage → first_node s.core.nodes o.todo ≡ n → StepsBy budget s o (option_map (λ m. Does m) (rm.acts s.core o s.handles stage n))
      removal_acts Stage.Ending n is first = removal Stage.Ending (rm.close s.core o) is RemovalAct.closes
      removal_acts Stage.Next (Some node) is first = removal_query node (rm.refuses_unasked s.handles node) is first refl
      removal_acts Stage.Settling (Some node) is first = removal_settles node is first
      removal_acts Stage.Next None is first = tt
      removal_acts Stage.Settling None is first = tt
      removal_acts _ n is first = tt

  module _ (o : Job) (none : o.walk ≡ None) (course : course_of o.kind ≡ Course.Surprising) where
    surprise : (stage : Stage) (m : JobMove) → o.stage ≡ stage → SurpriseAct s.core o (ma.is_back s o Course.Surprising) s.handles stage m → JobStep s o (ma.job_lifted s m)
    surprise stage m is step = JobStep.acts m none (ActStep.surprises stage m course is step)

    surprise_settles : (node : Node) → o.stage ≡ Stage.Settling → first_node s.core.nodes o.todo ≡ Some node → JobStep s o (ma.job_lifted s (su.settle s.core o node (ma.is_back s o Course.Surprising)))
    surprise_settles node is first =
        let back : Bool = ma.is_back s o Course.Surprising in
        let target : JobMove = if back then su.close s.core o else su.leaves s.core o node in
        let related : JobMove = if has o.set node.parent then su.leaves s.core o node else held s.core o node in
        by_test (λ b. JobStep s o (ma.job_lifted s (if b then target else related))) (node.serial == o.target)
        (λ is_target. by_test (λ b. JobStep s o (ma.job_lifted s (if b then su.close s.core o else su.leaves s.core o node))) back
        (λ there. surprise Stage.Settling _ is (SurpriseAct.stays node first is_target there)) (λ gone. surprise Stage.Settling _ is (SurpriseAct.leaves node first (inr (is_target, gone)))))
        (λ other. by_test (λ b. JobStep s o (ma.job_lifted s (if b then su.leaves s.core o node else held s.core o node))) (has o.set node.parent)
        (λ inside. surprise Stage.Settling _ is (SurpriseAct.leaves node first (inl inside))) (λ over. surprise Stage.Settling _ is (SurpriseAct.remains node first other over)))

  module _ (o : Job) (none : o.walk ≡ None) (course : course_of o.kind ≡ Course.Surprising) where
    -- it does not stay behind: its drivers are removed, or without drivers it is settled
    surprise_finishes : (node : Node) (stack : List ℕ) → o.stage ≡ Stage.Next → first_node s.core.nodes o.todo ≡ Some node → su.stays_behind s.core o s.handles node.serial ≡ false → node.stack ≡ stack
        → TakenStep s o (ma.job_lifted s (su.finish_with s.core o node (ma.is_back s o Course.Surprising) stack))
    surprise_finishes node [] is first goes e =
        record { now = stands o o.todo Stage.Settling; turn = Turn.settles o node course is none first goes e; is = surprise_settles (stands o o.todo Stage.Settling) refl course node refl first }
    surprise_finishes node (d ∷ ds) is first goes e =
        record {
          now = su.removing o;
          turn = Turn.removes o node d ds course is none first goes e;
          is = JobStep.asks node (walk_of Minor.Remove) (record { first = first; walk = refl; waits = refl; more = λ order. asks_fresh Minor.Remove node.stack (λ empty. cc) });
        }

    surprise_finish : (node : Node) (behind : Bool) → o.stage ≡ Stage.Next → first_node s.core.nodes o.todo ≡ Some node → su.stays_behind s.core o s.handles node.serial ≡ behind → TakenStep s o (ma.job_lifted s (su.finish s.core o node (ma.is_back s o Course.Surprising) behind))
    surprise_finish node true is first behind = stay (surprise o none course Stage.Next _ is (SurpriseAct.lags node first behind))
    surprise_finish node false is first goes = surprise_finishes node node.stack is first goes refl

    surprise_acts : (stage : Stage) (n : Option Node) → o.stage ≡ stage → first_node s.core.nodes o.todo ≡ n → StepsBy budget s o (option_map (λ m. Does m) (su.acts s.core o (ma.is_back s o Course.Surprising) s.handles stage n))
    surprise_acts Stage.Ending n is first = stay (surprise o none course Stage.Ending _ is SurpriseAct.closes)
    surprise_acts Stage.Next (Some node) is first = surprise_finish node (su.stays_behind s.core o s.handles node.serial) is first refl
    surprise_acts Stage.Settling (Some node) is first = stay (surprise_settles o none course node is first)
    surprise_acts Stage.Next None is first = tt
    surprise_acts Stage.Settling None is first = tt
    surprise_acts _ n is first = tt

  module _ (f : Job) (none : f.walk ≡ None) (course : course_of f.kind ≡ Course.Finishing) where
    finish : (stage : Stage) (m : JobMove) → f.stage ≡ stage → FinishAct s.core f s.handles stage m → TakenStep s f (ma.job_lifted s m)
    finish stage m is step = stay (JobStep.acts m none (ActStep.finishes stage m course is step))

    finish_takes : (k : ℕ) (n : Option Node) → f.stage ≡ Stage.Next → ready_device s.core s.handles ≡ Some k → node_at k s.core.nodes ≡ n → TakenStep s f (ma.job_lifted s (fi.take s.core f n))
    finish_takes k None is ready at = finish Stage.Next (fi.close s.core f) is (FinishAct.closes (ap (λ o. fi.node_of_ready s.core.nodes o) ready ∙ at))
    finish_takes k (Some node) is ready at =
        record {
          now = fi.taken f node;
          turn = Turn.finishes f k node course is none ready at;
          is = JobStep.asks node (walk_of Minor.Remove)
              (record { first = found_self k s.core.nodes node at; walk = refl; waits = refl; more = λ order. ready_fresh s.core s.handles k node order ready at });
        }

    finish_readies : (o : Option ℕ) → f.stage ≡ Stage.Next → ready_device s.core s.handles ≡ o → TakenStep s f (ma.job_lifted s (fi.take s.core f (fi.node_of_ready s.core.nodes o)))
    finish_readies None is none_ready = finish Stage.Next (fi.close s.core f) is (FinishAct.closes (ap (λ o. fi.node_of_ready s.core.nodes o) none_ready))
    finish_readies (Some k) is some = finish_takes k (node_at k s.core.nodes) is some refl

    finish_acts : (stage : Stage) (n : Option Node) → f.stage ≡ stage → first_node s.core.nodes f.todo ≡ n → StepsBy budget s f (option_map (λ m. Does m) (fi.acts s.core f s.handles stage n))
    finish_acts Stage.Next n is first = finish_readies (ready_device s.core s.handles) is refl
    finish_acts Stage.Leaving (Some node) is first = finish Stage.Leaving (fi.leave s.core f node) is (FinishAct.leaves node first)
    finish_acts Stage.Holding (Some node) is first = finish Stage.Holding (fi.hold s.core f node) is (FinishAct.holds node first)
    finish_acts Stage.Leaving None is first = tt
    finish_acts Stage.Holding None is first = tt
    finish_acts _ n is first = tt

  acts_in : (o : Job) (course : Course) (n : Option Node) → course_of o.kind ≡ course → o.walk ≡ None → first_node s.core.nodes o.todo ≡ n → StepsBy budget s o (ma.acts s.core o (ma.is_back s o course) s.handles n course)
  acts_in o Course.Rebalancing n course none first = rebalance_acts o none course o.stage n refl first
  acts_in o Course.Removing n course none first = removal_acts o none course o.stage n refl first
  acts_in o Course.Surprising n course none first = surprise_acts o none course o.stage n refl first
  acts_in o Course.Finishing n course none first = finish_acts o none course o.stage n refl first

  job_step : (o : Job) (w : Option Walk) (n : Option Node) → o.walk ≡ w → first_node s.core.nodes o.todo ≡ n → ma.is_waiting w ≡ false → StepsBy budget s o (ma.job_step s.core o (course_of o.kind) (ma.is_back s o (course_of o.kind)) s.handles w n)
  job_step o None n walk first waits = acts_in o (course_of o.kind) n refl walk first
  job_step o (Some w) None walk first waits = tt
  job_step o (Some w) (Some node) walk first waits = walks_on o o (Turn.same o) node w first walk waits (ma.after_end s.core o (ma.is_back s o (course_of o.kind)) node (is_bad w) (course_of o.kind)) refl

operation_next : (budget : ℕ) (s : State) (o : Job) (waits : Bool) → ma.is_waiting o.walk ≡ waits → AllNext budget (TakenStep s o) (ma.operation_next s o waits)
operation_next budget s o true e = tt
operation_next budget s o false e = job_step budget s o o.walk (first_node s.core.nodes o.todo) refl refl e

pub operation_step : (settings : Settings) (s : State) (o : Job) (step : Step) → s.operation ≡ Some o → ma.IsStep settings (ma.next settings s) step → TakenStep s o step
operation_step settings s o step runs is =
    all_step (TakenStep s o) settings (ma.operation_next s o (ma.is_waiting o.walk)) step (operation_next settings.budget s o (ma.is_waiting o.walk) refl)
    (subst (λ (x : Option Job). ma.IsStep settings (ma.next_of settings s x) step) runs is)

-- Where a request is the one of the stage, the step is one of the stage ---------------------

some_own : (walk : Option Walk) (w : Walk) (minor : Minor) → walk ≡ Some w → IsOwn walk (Some minor) → w.minor ≡ minor
some_own None w minor is own = absurd (cc)
some_own (Some v) w minor is own = let e : v ≡ w = cc in let f : v.minor ≡ minor = cc in sym (ap (λ (x : Walk). x.minor) e) ∙ f

-- a request that may not fail ends well
never_bad : (w : Walk) (minor : Minor) → w.minor ≡ minor → may_fail minor ≡ false → is_bad w ≡ false
never_bad w minor is never = ap (λ m. may_fail m && w.failed) is ∙ ap (λ b. b && w.failed) never

module _ (s : State) (o : Job) (node : Node) (w : Walk) (e : Ends s.core o node w) (p : Job) where
  own_end : (minor : Minor) (bad : Bool) (q : Job) → IsOwn o.walk (Some minor) → is_bad w ≡ bad → Some q ≡ Some p → OperationStep s o (ma.job_lifted s (ended_by s.core node minor bad q)) → OperationStep s o (ma.job_lifted s (jobs.ends s.core node w p))
  own_end minor bad q own is_so same step =
      let q_is : q ≡ p = cc in
      subst (λ (x : Job). OperationStep s o (ma.job_lifted s (jobs.ends s.core node w x))) q_is
      (subst (λ (x : JobMove). OperationStep s o (ma.job_lifted s x))
      (ap (λ (m : Minor). ended_by s.core node m bad q) (sym (some_own o.walk w minor e.walk own)) ∙ ap (λ (b : Bool). ended_by s.core node w.minor b q) (sym is_so)) step)

  calm_end : (minor : Minor) (q : Job) → may_fail minor ≡ false → IsOwn o.walk (Some minor) → Some q ≡ Some p → OperationStep s o (ma.job_lifted s (ended_by s.core node minor false q)) → OperationStep s o (ma.job_lifted s (jobs.ends s.core node w p))
  calm_end minor q never own same step = own_end minor false q own (never_bad w minor (some_own o.walk w minor e.walk own) never) same step

  module _ (course : course_of o.kind ≡ Course.Rebalancing) where
    stop_answer : (bad : Bool) → o.stage ≡ Stage.Asking → IsOwn o.walk (Some Minor.QueryStop) → is_bad w ≡ bad → Some (re.answers o node bad) ≡ Some p → OperationStep s o (ma.job_lifted s (jobs.ends s.core node w p))
    stop_answer true is own bad same = own_end Minor.QueryStop true _ own bad same (OperationStep.rebalances Stage.Asking _ course is (RebalanceStep.refuses node w e bad))
    stop_answer false is own good same = own_end Minor.QueryStop false _ own good same (OperationStep.rebalances Stage.Asking _ course is (RebalanceStep.agrees node w e good))

    restart_answer : (bad : Bool) → o.stage ≡ Stage.Restarting → IsOwn o.walk (Some Minor.Start) → is_bad w ≡ bad → Some (re.after_restart s.core o node bad) ≡ Some p → OperationStep s o (ma.job_lifted s (jobs.ends s.core node w p))
    restart_answer true is own bad same = own_end Minor.Start true _ own bad same (OperationStep.rebalances Stage.Restarting _ course is (RebalanceStep.fails node w e bad))
    restart_answer false is own good same = own_end Minor.Start false _ own good same (OperationStep.rebalances Stage.Restarting _ course is (RebalanceStep.restarts node w e good))

    rebalance_end : (stage : Stage) → o.stage ≡ stage → IsOwn o.walk (asked_in Course.Rebalancing stage) → re.after_end s.core o node (is_bad w) stage ≡ Some p → OperationStep s o (ma.job_lifted s (jobs.ends s.core node w p))
    rebalance_end Stage.Asking is own same = stop_answer (is_bad w) is own refl same
    rebalance_end Stage.TakingBack is own same = calm_end Minor.CancelStop _ refl own same (OperationStep.rebalances Stage.TakingBack _ course is (RebalanceStep.takes_back node w e))
    rebalance_end Stage.Cancelling is own same = calm_end Minor.CancelStop _ refl own same (OperationStep.rebalances Stage.Cancelling _ course is (RebalanceStep.cancels node w e))
    rebalance_end Stage.Stopping is own same = calm_end Minor.Stop _ refl own same (OperationStep.rebalances Stage.Stopping _ course is (RebalanceStep.stops node w e))
    rebalance_end Stage.Restarting is own same = restart_answer (is_bad w) is own refl same
    rebalance_end _ is own same = absurd (cc)

  module _ (course : course_of o.kind ≡ Course.Removing) where
    remove_answer : (bad : Bool) → o.stage ≡ Stage.Asking → IsOwn o.walk (Some Minor.QueryRemove) → is_bad w ≡ bad → Some (rm.answers s.core o node bad) ≡ Some p → OperationStep s o (ma.job_lifted s (jobs.ends s.core node w p))
    remove_answer true is own bad same = own_end Minor.QueryRemove true _ own bad same (OperationStep.removes Stage.Asking _ course is (RemovalStep.refuses node w e bad))
    remove_answer false is own good same = own_end Minor.QueryRemove false _ own good same (OperationStep.removes Stage.Asking _ course is (RemovalStep.agrees node w e good))

    removal_end : (stage : Stage) → o.stage ≡ stage → IsOwn o.walk (asked_in Course.Removing stage) → rm.after_end s.core o node (is_bad w) stage ≡ Some p → OperationStep s o (ma.job_lifted s (jobs.ends s.core node w p))
    removal_end Stage.Asking is own same = remove_answer (is_bad w) is own refl same
    removal_end Stage.TakingBack is own same = calm_end Minor.CancelRemove _ refl own same (OperationStep.removes Stage.TakingBack _ course is (RemovalStep.takes_back node w e))
    removal_end Stage.Cancelling is own same = calm_end Minor.CancelRemove _ refl own same (OperationStep.removes Stage.Cancelling _ course is (RemovalStep.cancels node w e))
    removal_end Stage.Removing is own same = calm_end Minor.Remove _ refl own same (OperationStep.removes Stage.Removing _ course is (RemovalStep.removes node w e))
    removal_end _ is own same = absurd (cc)

  surprise_end : course_of o.kind ≡ Course.Surprising → (stage : Stage) → o.stage ≡ stage → IsOwn o.walk (asked_in Course.Surprising stage) → su.after_end o stage ≡ Some p → OperationStep s o (ma.job_lifted s (jobs.ends s.core node w p))
  surprise_end course Stage.Telling is own same = calm_end Minor.SurpriseRemoval _ refl own same (OperationStep.surprises Stage.Telling _ course is (SurpriseStep.tells node w e))
  surprise_end course Stage.Removing is own same = calm_end Minor.Remove _ refl own same (OperationStep.surprises Stage.Removing _ course is (SurpriseStep.removes node w e))
  surprise_end course _ is own same = absurd (cc)

  finish_end : course_of o.kind ≡ Course.Finishing → (stage : Stage) → o.stage ≡ stage → IsOwn o.walk (asked_in Course.Finishing stage) → fi.after_end s.core o node (ma.is_back s o Course.Finishing) stage ≡ Some p → OperationStep s o (ma.job_lifted s (jobs.ends s.core node w p))
  finish_end course Stage.Removing is own same = calm_end Minor.Remove _ refl own same (OperationStep.finishes Stage.Removing _ course is (FinishStep.removes node w e))
  finish_end course _ is own same = absurd (cc)

  end_in : (course : Course) → course_of o.kind ≡ course → IsOwn o.walk (asked_in course o.stage) → ma.after_end s.core o (ma.is_back s o course) node (is_bad w) course ≡ Some p → OperationStep s o (ma.job_lifted s (jobs.ends s.core node w p))
  end_in Course.Rebalancing course own same = rebalance_end course o.stage refl own same
  end_in Course.Removing course own same = removal_end course o.stage refl own same
  end_in Course.Surprising course own same = surprise_end course o.stage refl own same
  end_in Course.Finishing course own same = finish_end course o.stage refl own same

act_step : (s : State) (o : Job) (m : JobMove) → ActStep s o m → OperationStep s o (ma.job_lifted s m)
act_step s o _ (ActStep.rebalances stage m course is step) = OperationStep.rebalances stage m course is (RebalanceStep.acts stage m step)
act_step s o _ (ActStep.removes stage m course is step) = OperationStep.removes stage m course is (RemovalStep.acts stage m step)
act_step s o _ (ActStep.surprises stage m course is step) = OperationStep.surprises stage m course is (SurpriseStep.acts stage m step)
act_step s o _ (ActStep.finishes stage m course is step) = OperationStep.finishes stage m course is (FinishStep.acts stage m step)

pub own_step : (s : State) (o : Job) (step : Step) → OperationFits (Some o) s.core.nodes → JobStep s o step → OperationStep s o step
own_step s o _ fits (JobStep.asks node w a) = OperationStep.asks node w a
own_step s o _ fits (JobStep.ends node w p e same) = end_in s o node w e p (course_of o.kind) refl (fits_own (course_of o.kind) o s.core.nodes fits) same
own_step s o _ fits (JobStep.acts m none step) = act_step s o m step
