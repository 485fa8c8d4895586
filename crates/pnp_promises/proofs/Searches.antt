-- What a search costs: where a budget is spent, more was to be tried.
use Rattle.std.proofs.Common.{ℕ, ◌<◌, ◌≤◌, ◌≡◌, List, [], ◌∷◌, Option, Some, None, refl, sym, subst, arith, nat_le, Bool, true, false}
use Rattle.std.proofs.lemmas.Bool.Decides.{nat_tests}
use Rattle.std.specs.Option.{option_map}
use Rattle.resource_reqs.specs.Resources.{Reqs, Res}
use Rattle.resource_reqs.specs.Spelling.{IsAnswer}
use Rattle.resource_reqs.specs.Spelling.Answer.{assignment, no_fit, spent}
use Rattle.resource_reqs.proofs.Fitting.{plan_of}
use Rattle.pnp_labels.specs.Texts.{Text}
use Rattle.pnp_model.specs.Cores.{node_at}
use Rattle.pnp_model.specs.Frames.{first_node}
use Rattle.pnp_model.specs.Records.{Activity, Course, Found, Job, Node, Phase, SearchProblem, Settings, Stage, State, Step, Walk, course_of, doing_map}
use Rattle.pnp_model.specs.Records.Phase.{Adding, Searching}
use Rattle.pnp_model.specs.Jobs.{JobMove}
use Rattle.pnp_model.specs.Machine as ma
use Rattle.pnp_model.specs.Rebalances as re
use Rattle.pnp_model.specs.Starts as st
use Rattle.pnp_laws.specs.Effects.{Acting, IsSearch, Turn}
use Rattle.pnp_laws.proofs.IdleSteps.{ActivityStep, MachineStep, TaskStep, machine_step}
use Rattle.pnp_laws.proofs.Stages.{ActStep, FinishAct, JobStep, RebalanceAct, RemovalAct, SurpriseAct}
use Rattle.pnp_promises.specs.Searches.{SearchesKeepTheBudgetLaw, Costs, Exceeds, IsSought, Tries, Within}

-- By the answer of a search ------------------------------------------------------------------------

module _ (fixed : List Res) (movers : List Reqs) (budget : ℕ) where
  -- an answer within the budget
  tries_within : (found : Found) → IsAnswer fixed movers budget found → (found ≡ spent → ⊥) → (n : ℕ) × Tries fixed movers n × (n ≤ budget)
  tries_within (assignment plan) (a, is, spells) other = (is.count, Tries.finds a is.count is.least is.counted, is.within)
  tries_within no_fit (none, some) other = (some.0, Tries.fails some.0 none some.1, some.2)
  tries_within spent is other = absurd (other refl)

  -- each answer within the budget is one, so a spent one needs more
  tries_more : IsAnswer fixed movers budget spent → (n : ℕ) → Tries fixed movers n → budget < n
  tries_more (no_plan, some) n tries = by_test (nat_le n budget) refl tries
    where
      within : n ≤ budget → Tries fixed movers n → ⊥
      within l (Tries.finds a _ least counted) = let plan = plan_of fixed movers a least.complete in no_plan plan.0 (a, record { least = least; count = n; counted = counted; within = l }, plan.1)
      within l (Tries.fails _ none numbers) = some (none, (n, numbers, l))

      by_test : (b : Bool) → nat_le n budget ≡ b → Tries fixed movers n → budget < n
      by_test true e tries = absurd (within (grind (arith, nat_tests)) tries)
      by_test false e tries = grind (arith, nat_tests)

module _ (settings : Settings) (s : State) where
  abbrev P : Step → Type 0
  P step = Costs settings s step.label

  within : (path : Text) (problem : SearchProblem) → IsSought s path problem → (found : Found) → IsAnswer problem.fixed problem.movers settings.budget found → (found ≡ spent → ⊥) → Within settings.budget s path
  within path problem sought found is other = let cost = tries_within problem.fixed problem.movers settings.budget found is other in record { problem = problem; sought = sought; tried = cost.0; tries = cost.1; few = cost.2 }

  exceeds : (path : Text) (problem : SearchProblem) → IsSought s path problem → IsAnswer problem.fixed problem.movers settings.budget spent → Exceeds settings.budget s path
  exceeds path problem sought is = record { problem = problem; sought = sought; more = tries_more problem.fixed problem.movers settings.budget is }

  found_alone : (n : Node) → s.operation ≡ None → node_at n.serial s.core.nodes ≡ Some n → (found : Found) → IsAnswer (st.own_problem s.core n).fixed (st.own_problem s.core n).movers settings.budget found → P (ma.start_lifted s n.serial (st.searched s.core n found))
  found_alone n none at (assignment plan) is = within _ (st.own_problem s.core n) (IsSought.alone n none at refl) (assignment plan) is (λ e. cc)
  found_alone n none at no_fit is = within _ (st.own_problem s.core n) (IsSought.alone n none at refl) no_fit is (λ e. cc)
  found_alone n none at spent is = exceeds _ (st.own_problem s.core n) (IsSought.alone n none at refl) is

  found_together : (o : Job) → s.operation ≡ Some o → course_of o.kind ≡ Course.Rebalancing → (found : Found) → IsAnswer (re.group_problem s.core o).fixed (re.group_problem s.core o).movers settings.budget found → P (ma.job_lifted s (re.searched s.core o found))
  found_together o runs course (assignment plan) is = within _ (re.group_problem s.core o) (IsSought.together o runs course refl) (assignment plan) is (λ e. cc)
  found_together o runs course no_fit is = within _ (re.group_problem s.core o) (IsSought.together o runs course refl) no_fit is (λ e. cc)
  found_together o runs course spent is = exceeds _ (re.group_problem s.core o) (IsSought.together o runs course refl) is

  -- The searches of starts ---------------------------------------------------------------------------

  module _ (step : Step) (is : ma.IsStep settings (ma.next settings s) step) where
    alone : (n : Node) (phase : Phase) → node_at n.serial s.core.nodes ≡ Some n → Acting s n.serial phase → IsSearch phase → P step
    alone n phase at acts search = by_phase phase search acts.is
      where
        idle : ma.IsStep settings (ma.idle_next settings s (Some acts.activity)) step
        idle =
            let one : ma.IsStep settings (ma.next_of settings s None) step = subst (λ (x : Option Job). ma.IsStep settings (ma.next_of settings s x) step) acts.none is in
            subst (λ (x : Option Activity). ma.IsStep settings (ma.idle_next settings s x) step) acts.ready one

        there : node_at acts.activity.serial s.core.nodes ≡ Some n
        there = subst (λ (i : ℕ). node_at i s.core.nodes ≡ Some n) (sym acts.own) at

        doing : ma.IsStep settings (Some (doing_map (ma.start_lifted s n.serial) (st.act s.core n acts.activity.phase))) step
        doing = subst (λ (x : Option Node). ma.IsStep settings (ma.activity_next s acts.activity x) step) there idle

        by_phase : (phase : Phase) → IsSearch phase → acts.activity.phase ≡ phase → P step
        by_phase (Adding []) search e =
            let found : ma.IsStep settings (Some (doing_map (ma.start_lifted s n.serial) (st.act s.core n (Adding [])))) step = subst (λ (x : Phase). ma.IsStep settings (Some (doing_map (ma.start_lifted s n.serial) (st.act s.core n x))) step) e doing in
            subst P (sym found.2) (found_alone n acts.none at found.0 found.1)
        by_phase Searching search e =
            let found : ma.IsStep settings (Some (doing_map (ma.start_lifted s n.serial) (st.act s.core n Searching))) step = subst (λ (x : Phase). ma.IsStep settings (Some (doing_map (ma.start_lifted s n.serial) (st.act s.core n x))) step) e doing in
            subst P (sym found.2) (found_alone n acts.none at found.0 found.1)
        by_phase (Adding (d ∷ ds)) search e = absurd search
        by_phase (Phase.Starting w) search e = absurd search
        by_phase (Phase.Removing w) search e = absurd search
        by_phase (Phase.Due problem) search e = absurd search

    -- The search of an operation -----------------------------------------------------------------------

    together : (o : Job) → s.operation ≡ Some o → o.walk ≡ None → course_of o.kind ≡ Course.Rebalancing → o.stage ≡ Stage.Searching → P step
    together o runs idle course stage =
        let one : ma.IsStep settings (ma.operation_next s o (ma.is_waiting o.walk)) step = subst (λ (x : Option Job). ma.IsStep settings (ma.next_of settings s x) step) runs is in
        let two : ma.IsStep settings (ma.operation_next s o false) step = subst (λ (x : Option Walk). ma.IsStep settings (ma.operation_next s o (ma.is_waiting x)) step) idle one in
        let three : ma.IsStep settings (option_map (doing_map (ma.job_lifted s)) (ma.acts s.core o (ma.is_back s o (course_of o.kind)) s.handles (first_node s.core.nodes o.todo) (course_of o.kind))) step =
        subst (λ (x : Option Walk). ma.IsStep settings (option_map (doing_map (ma.job_lifted s)) (ma.job_step s.core o (course_of o.kind) (ma.is_back s o (course_of o.kind)) s.handles x (first_node s.core.nodes o.todo))) step) idle two in
        let four : ma.IsStep settings (option_map (doing_map (ma.job_lifted s)) (ma.acts s.core o (ma.is_back s o Course.Rebalancing) s.handles (first_node s.core.nodes o.todo) Course.Rebalancing)) step =
        subst (λ (x : Course). ma.IsStep settings (option_map (doing_map (ma.job_lifted s)) (ma.acts s.core o (ma.is_back s o x) s.handles (first_node s.core.nodes o.todo) x)) step) course three in
        let found : ma.IsStep settings (option_map (doing_map (ma.job_lifted s)) (re.acts s.core o Stage.Searching (first_node s.core.nodes o.todo))) step =
        subst (λ (x : Stage). ma.IsStep settings (option_map (doing_map (ma.job_lifted s)) (re.acts s.core o x (first_node s.core.nodes o.todo))) step) stage four in
        subst P (sym found.2) (found_together o runs course found.0 found.1)

  -- Each step ----------------------------------------------------------------------------------------------

  by_rebalance : (o p : Job) (stage : Stage) (m : JobMove) → s.operation ≡ Some o → Turn s o p → p.walk ≡ None → course_of p.kind ≡ Course.Rebalancing → p.stage ≡ stage → RebalanceAct s.core p stage m → ma.IsStep settings (ma.next settings s) (ma.job_lifted s m) → P (ma.job_lifted s m)
  by_rebalance o _ _ _ runs (Turn.same _) idle course stage (RebalanceAct.searches found budget answer) is = together (ma.job_lifted s (re.searched s.core o found)) is o runs idle course stage
  by_rebalance _ _ _ _ runs (Turn.queries o n c next none at willing) idle course stage act is = absurd (cc)
  by_rebalance _ _ _ _ runs (Turn.removes o n d ds c next none at goes full) idle course stage act is = absurd (cc)
  by_rebalance _ _ _ _ runs (Turn.settles o n c next none at goes empty) idle course stage act is = absurd (cc)
  by_rebalance _ _ _ _ runs (Turn.finishes f k n c next none ready at) idle course stage act is = absurd (cc)
  by_rebalance o _ _ _ runs (Turn.same _) idle course stage RebalanceAct.sticks is = tt
  by_rebalance o _ _ _ runs (Turn.same _) idle course stage RebalanceAct.commits is = tt
  by_rebalance o _ _ _ runs (Turn.same _) idle course stage (RebalanceAct.failed node first) is = tt
  by_rebalance o _ _ _ runs (Turn.same _) idle course stage RebalanceAct.closes is = tt

  by_removal : (p : Job) (stage : Stage) (m : JobMove) → RemovalAct s.core p stage m → P (ma.job_lifted s m)
  by_removal p _ _ (RemovalAct.declines node first) = tt
  by_removal p _ _ (RemovalAct.leaves node first inside) = tt
  by_removal p _ _ (RemovalAct.ejects node first) = tt
  by_removal p _ _ (RemovalAct.disables node first over target) = tt
  by_removal p _ _ (RemovalAct.remains node problem first over other) = tt
  by_removal p _ _ RemovalAct.closes = tt

  by_surprise : (p : Job) (back : Bool) (stage : Stage) (m : JobMove) → SurpriseAct s.core p back s.handles stage m → P (ma.job_lifted s m)
  by_surprise p back _ _ (SurpriseAct.lags node first behind) = tt
  by_surprise p back _ _ (SurpriseAct.leaves node first why) = tt
  by_surprise p back _ _ (SurpriseAct.remains node first other over) = tt
  by_surprise p back _ _ (SurpriseAct.stays node first target there) = tt
  by_surprise p back _ _ SurpriseAct.closes = tt

  by_finish : (p : Job) (stage : Stage) (m : JobMove) → FinishAct s.core p s.handles stage m → P (ma.job_lifted s m)
  by_finish p _ _ (FinishAct.leaves node first) = tt
  by_finish p _ _ (FinishAct.holds node first) = tt
  by_finish p _ _ (FinishAct.closes none) = tt

  by_job : (o p : Job) (step : Step) → s.operation ≡ Some o → Turn s o p → JobStep s p step → ma.IsStep settings (ma.next settings s) step → P step
  by_job o p _ runs turn (JobStep.asks node w asks) is = tt
  by_job o p _ runs turn (JobStep.ends node w q ends after) is = tt
  by_job o p _ runs turn (JobStep.acts m idle (ActStep.rebalances stage _ course at act)) is = by_rebalance o p stage m runs turn idle course at act is
  by_job o p _ runs turn (JobStep.acts m idle (ActStep.removes stage _ course at act)) is = by_removal p stage m act
  by_job o p _ runs turn (JobStep.acts m idle (ActStep.surprises stage _ course at act)) is = by_surprise p _ stage m act
  by_job o p _ runs turn (JobStep.acts m idle (ActStep.finishes stage _ course at act)) is = by_finish p stage m act

  by_task : (step : Step) → TaskStep s step → P step
  by_task _ (TaskStep.skips kind k j first other) = tt
  by_task _ (TaskStep.misses k first none) = tt
  by_task _ (TaskStep.told node first at state) = tt
  by_task _ (TaskStep.lists k node first) = tt
  by_task _ (TaskStep.finds_gone node child e) = tt
  by_task _ (TaskStep.joins node d at up e) = tt
  by_task _ (TaskStep.troubles node problem bare other) = tt
  by_task _ (TaskStep.installs node rank driver drivers bare chosen) = tt
  by_task _ (TaskStep.begins kind node first alone at why) = tt

  by_start : (node : Node) (phase : Phase) (m : st.StartMove) → node_at node.serial s.core.nodes ≡ Some node → Acting s node.serial phase → ActivityStep s.core node phase m → ma.IsStep settings (ma.next settings s) (ma.start_lifted s node.serial m)
      → P (ma.start_lifted s node.serial m)
  by_start node _ _ at acts (ActivityStep.fits phase plan budget search answer) is = alone (ma.start_lifted s node.serial (st.searched s.core node (assignment plan))) is node phase at acts search
  by_start node _ _ at acts (ActivityStep.unplaced phase search) is = alone (ma.start_lifted s node.serial (st.searched s.core node no_fit)) is node phase at acts search
  by_start node _ _ at acts (ActivityStep.tires phase search) is = alone (ma.start_lifted s node.serial (st.searched s.core node spent)) is node phase at acts search
  by_start node _ _ at acts (ActivityStep.adds d ds) is = tt
  by_start node _ _ at acts (ActivityStep.refused d ds) is = tt
  by_start node _ _ at acts (ActivityStep.asks_start w waits more) is = tt
  by_start node _ _ at acts (ActivityStep.fails w ended bad) is = tt
  by_start node _ _ at acts (ActivityStep.starts w ended good) is = tt
  by_start node _ _ at acts (ActivityStep.asks_remove w waits more) is = tt
  by_start node _ _ at acts (ActivityStep.strips w ended) is = tt
  by_start node _ _ at acts (ActivityStep.empty problem e) is = tt
  by_start node _ _ at acts (ActivityStep.undoes problem d ds e) is = tt

  by_machine : (step : Step) → MachineStep s step → ma.IsStep settings (ma.next settings s) step → P step
  by_machine step (MachineStep.operates o _ runs taken) is = by_job o taken.now step runs taken.turn taken.is is
  by_machine _ (MachineStep.starts node phase m at acts act) is = by_start node phase m at acts act is
  by_machine step (MachineStep.does _ none task) is = by_task step task

pub searches_keep_the_budget : SearchesKeepTheBudgetLaw
searches_keep_the_budget settings rack entries s label t run goes =
    by_machine settings s (record { label = label; state = t }) (machine_step settings s (record { label = label; state = t }) goes) goes
