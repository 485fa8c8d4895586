-- Rebalances and changes under other words.
use Rattle.std.proofs.Common.{ℕ, ◌≡◌, Bool, true, false, not, List, [], ◌∷◌, length, map, Option, Some, None, refl, sym, ap, ap₂, ◌∙◌, if◌then◌else◌}
use Rattle.std.specs.Prelude.{option_map, reverse}
use mathlib.Core.Path.{fun_ext}
use Rattle.resource_reqs.specs.Resources.{Res, Reqs}
use Rattle.resource_reqs.specs.Spelling.Answer.{assignment, no_fit, spent}
use Rattle.pnp_labels.specs.declared.label.Label.{Label}
use Rattle.pnp_labels.specs.declared.label.OpEnd.{OpEnd}
use Rattle.pnp_labels.specs.declared.label.OpKind.{OpKind}
use Rattle.pnp_labels.specs.declared.states.Problem.{Problem}
use Rattle.pnp_labels.specs.declared.words.Minor.{Minor}
use Rattle.pnp_model.specs.Cores.{core_of, node_at, serials_of}
use Rattle.pnp_model.specs.Frames.{ended, rest}
use Rattle.pnp_model.specs.Jobs.{Beside, JobMove, each_gets, job_of, moves, stands}
use Rattle.pnp_model.specs.Keyed.{those}
use Rattle.pnp_model.specs.Rebalances as rebalances
use Rattle.pnp_model.specs.Rebalances.{ask_on, cancel_on, cancelled, committed, group_problem, has_refused, is_asked, is_not_above, movers, others, plan_of, reqs_after, reqs_of, reqs_or, restart_on, startable, stop_on, target_reqs}
use Rattle.pnp_model.specs.Records.{Core, Doing, Found, Job, Node, SearchProblem, Stage, doing_map}
use Rattle.pnp_model.specs.Records.Doing.{Does, Searches}
use Rattle.pnp_model.specs.Records.Stage.{Asking, TakingBack, Searching, Cancelling, Stuck, Stopping, Committing, Restarting, Failed, Ending}
use Rattle.pnp_model.specs.Tests.{has}
use Rattle.pnp_model.specs.Trees.{stands_up}
use Rattle.pnp_pairs.specs.Renamed as renamed
use Rattle.pnp_pairs.specs.Renamed.{Renaming}
use Rattle.pnp_pairs.proofs.Asks.{changed_same, ended_same}
use Rattle.pnp_pairs.proofs.Jobs.{beside, each_same, either_job, job_move}
use Rattle.pnp_pairs.proofs.Maps.{those_map}
use Rattle.pnp_pairs.proofs.Trees.{above_same, at, fixed_same, serials_same, stands_same}

module _ (r : Renaming) where
  -- What comes next ---------------------------------------------------------------

  cancel_same : (j : Job) (todo : List ℕ) → cancel_on (renamed.job r j) todo ≡ renamed.job r (cancel_on j todo)
  cancel_same j todo = each_same r Minor.CancelStop Cancelling j todo (stands j [] (cancelled j.wanted))

  ask_on_same : (j : Job) (todo : List ℕ) → ask_on (renamed.job r j) todo ≡ renamed.job r (ask_on j todo)
  ask_on_same j todo =
      ap (each_gets Minor.QueryStop Asking (renamed.job r j) todo)
      (either_job r (has_refused j) (cancel_on j j.agreed) (stands j [] Searching) _ _ (cancel_same j j.agreed) refl)
      ∙ each_same r Minor.QueryStop Asking j todo (if has_refused j then cancel_on j j.agreed else stands j [] Searching)

  stop_same : (j : Job) (todo : List ℕ) → stop_on (renamed.job r j) todo ≡ renamed.job r (stop_on j todo)
  stop_same j todo = each_same r Minor.Stop Stopping j todo (stands j [] Committing)

  startable_same : (ns : List Node) (ks : List ℕ) → startable (renamed.nodes r ns) ks ≡ startable ns ks
  startable_same ns [] = refl
  startable_same ns (k ∷ ks) =
      ap₂ (λ (b : Bool) (t : List ℕ). if b then k ∷ ks else t) (stands_same r ns k) (startable_same ns ks)

  restart_same : (ns : List Node) (j : Job) (todo : List ℕ) → restart_on (renamed.nodes r ns) (renamed.job r j) todo ≡ renamed.job r (restart_on ns j todo)
  restart_same ns j todo =
      ap (λ (ks : List ℕ). each_gets Minor.Start Restarting (renamed.job r j) ks (renamed.job r (stands j [] Ending))) (startable_same ns todo)
      ∙ each_same r Minor.Start Restarting j (startable ns todo) (stands j [] Ending)

  pub begun_same : (c : Core) (kind : OpKind) (n : Node) (wanted : Option Reqs) → rebalances.begun_with (renamed.core r c) kind (renamed.node r n) wanted ≡ renamed.job r (rebalances.begun_with c kind n wanted)
  begun_same c kind n wanted =
      let j : Job = record (job_of kind n) { wanted = wanted } in
      ap (λ (ks : List ℕ). ask_on (renamed.job r j) (reverse ks))
      (ap serials_of (those_map (renamed.node r) is_asked is_asked (λ m. refl) c.nodes) ∙ serials_same r (those is_asked c.nodes))
      ∙ ask_on_same j (reverse (serials_of (those is_asked c.nodes)))

  -- After a request ---------------------------------------------------------------

  answers_same : (j : Job) (n : Node) (bad : Bool) → rebalances.answers (renamed.job r j) (renamed.node r n) bad ≡ renamed.job r (rebalances.answers j n bad)
  answers_same j n true = refl
  answers_same j n false = ask_on_same (record j { agreed = n.serial ∷ j.agreed }) (rest j.todo)

  after_restart_same : (c : Core) (j : Job) (n : Node) (bad : Bool) → rebalances.after_restart (renamed.core r c) (renamed.job r j) (renamed.node r n) bad ≡ renamed.job r (rebalances.after_restart c j n bad)
  after_restart_same c j n true = refl
  after_restart_same c j n false =
      ap (λ (x : Core). restart_on x.nodes (renamed.job r j) (rest j.todo)) (ended_same r c n Minor.Start false)
      ∙ restart_same (ended c n Minor.Start false).nodes j (rest j.todo)

  not_above_same : (ns : List Node) (k j : ℕ) → is_not_above (renamed.nodes r ns) k j ≡ is_not_above ns k j
  not_above_same ns k j = ap (λ (ks : List ℕ). not (has ks j)) (above_same r ns k)

  pub after_same : (c : Core) (j : Job) (n : Node) (bad : Bool) (stage : Stage) → rebalances.after_end (renamed.core r c) (renamed.job r j) (renamed.node r n) bad stage ≡ option_map (renamed.job r) (rebalances.after_end c j n bad stage)
  after_same c j n bad Asking = ap (λ (x : Job). Some x) (answers_same j n bad)
  after_same c j n bad TakingBack =
      ap (λ (f : ℕ → Bool). Some (ask_on (renamed.job r j) (those f (rest j.todo)))) (fun_ext (λ k. not_above_same c.nodes n.serial k))
      ∙ ap (λ (x : Job). Some x) (ask_on_same j (those (is_not_above c.nodes n.serial) (rest j.todo)))
  after_same c j n bad Cancelling = ap (λ (x : Job). Some x) (cancel_same j (rest j.todo))
  after_same c j n bad Stopping = ap (λ (x : Job). Some x) (stop_same j (rest j.todo))
  after_same c j n bad Restarting = ap (λ (x : Job). Some x) (after_restart_same c j n bad)
  after_same c j n bad _ = refl

  -- The search --------------------------------------------------------------------

  reqs_same : (o : Option Node) → reqs_of (option_map (renamed.node r) o) ≡ reqs_of o
  reqs_same None = refl
  reqs_same (Some n) = refl

  reqs_at : (ns : List Node) (k : ℕ) → reqs_of (node_at k (renamed.nodes r ns)) ≡ reqs_of (node_at k ns)
  reqs_at ns k = ap reqs_of (at r k ns) ∙ reqs_same (node_at k ns)

  group_same : (c : Core) (j : Job) → group_problem (renamed.core r c) (renamed.job r j) ≡ group_problem c j
  group_same c j =
      ap₂ (λ (fixed : List Res) (more : List Reqs). record { fixed = fixed; movers = more }) (fixed_same r c (movers j))
      (ap₂ (λ (x : Reqs) (xs : List Reqs). x ∷ xs) (ap (reqs_or j.wanted) (reqs_at c.nodes j.target))
      (ap (λ (f : ℕ → Reqs). map f (others j)) (fun_ext (λ k. reqs_at c.nodes k))))

  searched_same : (c : Core) (j : Job) (found : Found) → rebalances.searched (renamed.core r c) (renamed.job r j) found ≡ job_move r (rebalances.searched c j found)
  searched_same c j (assignment plan) =
      ap (λ (x : Job). moves (Label.Fits (r.path j.path)) (renamed.core r c) x) (stop_same (record j { found = assignment plan }) (reverse j.agreed))
  searched_same c j no_fit = ap (λ (x : Job). moves (Label.NoFit (r.path j.path)) (renamed.core r c) x) (cancel_same (record j { found = no_fit }) j.agreed)
  searched_same c j spent = ap (λ (x : Job). moves (Label.Spent (r.path j.path)) (renamed.core r c) x) (cancel_same (record j { found = spent }) j.agreed)

  searches_same : (c : Core) (j : Job) → Searches (group_problem (renamed.core r c) (renamed.job r j)) (rebalances.searched (renamed.core r c) (renamed.job r j)) ≡ doing_map (job_move r) (Searches (group_problem c j) (rebalances.searched c j))
  searches_same c j =
      ap₂ (λ (problem : SearchProblem) (by_answer : Found → JobMove). Searches problem by_answer) (group_same c j) (fun_ext (λ found. searched_same c j found))

  -- What is done then -------------------------------------------------------------

  stuck_same : (c : Core) (j : Job) → rebalances.stuck (renamed.core r c) (renamed.job r j) ≡ job_move r (rebalances.stuck c j)
  stuck_same c j =
      ap (λ (x : Core). moves (Label.Trouble (r.path j.path) (rebalances.trouble_of j.found)) x (renamed.job r (stands j [] Ending))) (changed_same r j.target _ _ c (λ m. refl))

  committed_same : (wanted : Option Reqs) (target : ℕ) (ks : List ℕ) (plan : List (List Res)) (n : Node) → committed wanted target ks plan (renamed.node r n) ≡ renamed.node r (committed wanted target ks plan n)
  committed_same None target ks plan n = refl
  committed_same (Some wanted) target ks plan n = refl

  commit_nodes : (f : Node → Node) (ns : List Node) → ((n : Node) → f (renamed.node r n) ≡ renamed.node r (f n)) → map f (renamed.nodes r ns) ≡ renamed.nodes r (map f ns)
  commit_nodes f [] e = refl
  commit_nodes f (n ∷ ns) e = ap₂ (λ (x : Node) (xs : List Node). x ∷ xs) (e n) (commit_nodes f ns e)

  commit_same : (c : Core) (j : Job) → rebalances.commit (renamed.core r c) (renamed.job r j) ≡ renamed.core r (rebalances.commit c j)
  commit_same c j =
      ap (λ (ns : List Node). core_of ns c.relations (renamed.rack r c.rack) c.reserved)
      (commit_nodes (committed j.wanted j.target (movers j) (plan_of j.found)) c.nodes (committed_same j.wanted j.target (movers j) (plan_of j.found)))

  commit_step_same : (c : Core) (j : Job) → rebalances.commit_step (renamed.core r c) (renamed.job r j) ≡ job_move r (rebalances.commit_step c j)
  commit_step_same c j =
      ap₂ (λ (x : Core) (k : Job). moves (Label.Commit (length (movers j))) x k) (commit_same c j) (restart_same c.nodes j j.agreed)

  failed_same : (c : Core) (j : Job) (n : Node) → rebalances.failed (renamed.core r c) (renamed.job r j) (renamed.node r n) ≡ job_move r (rebalances.failed c j n)
  failed_same c j n =
      ap₂ (λ (x : Core) (k : Job). record { label = Label.Trouble (r.path n.path) Problem.FailedStart; core = x; frame = k; beside = Beside.FailedRestart n.serial })
      (changed_same r n.serial _ _ c (λ m. refl)) (restart_same c.nodes j (rest j.todo))

  end_is : (found : Found) → renamed.op_end r (rebalances.end_of found) ≡ rebalances.end_of found
  end_is (assignment plan) = refl
  end_is no_fit = refl
  end_is spent = refl

  result_same : (found : Found) (b : Bool) → renamed.op_end r (rebalances.result found b) ≡ rebalances.result found b
  result_same found true = refl
  result_same found false = end_is found

  over_by : (b : Bool) → (if b then Beside.OverStart else Beside.Over) ≡ beside r (if b then Beside.OverStart else Beside.Over)
  over_by true = refl
  over_by false = refl

  over_same : (c : Core) (j : Job) (found : Found) (wanted : Option Reqs) → rebalances.over (renamed.core r c) (renamed.job r j) found wanted ≡ beside r (rebalances.over c j found wanted)
  over_same c j (assignment plan) None = ap (λ (b : Bool). if b then Beside.OverStart else Beside.Over) (stands_same r c.nodes j.target) ∙ over_by (stands_up c.nodes j.target)
  over_same c j no_fit None = refl
  over_same c j spent None = refl
  over_same c j (assignment plan) (Some wanted) = refl
  over_same c j no_fit (Some wanted) = refl
  over_same c j spent (Some wanted) = refl

  close_same : (c : Core) (j : Job) → rebalances.close (renamed.core r c) (renamed.job r j) ≡ job_move r (rebalances.close c j)
  close_same c j =
      ap₂ (λ (x : OpEnd) (y : Beside). record { label = Label.End j.kind (r.path j.path) x; core = renamed.core r c; frame = renamed.job r j; beside = y })
      (sym (result_same j.found (has_refused j))) (over_same c j j.found j.wanted)

  pub acts_same : (c : Core) (j : Job) (stage : Stage) (o : Option Node) → rebalances.acts (renamed.core r c) (renamed.job r j) stage (option_map (renamed.node r) o) ≡ option_map (doing_map (job_move r)) (rebalances.acts c j stage o)
  acts_same c j Searching o = ap (λ (d : Doing JobMove). Some d) (searches_same c j)
  acts_same c j Stuck o = ap (λ (m : JobMove). Some (Does m)) (stuck_same c j)
  acts_same c j Committing o = ap (λ (m : JobMove). Some (Does m)) (commit_step_same c j)
  acts_same c j Failed (Some n) = ap (λ (m : JobMove). Some (Does m)) (failed_same c j n)
  acts_same c j Failed None = refl
  acts_same c j Ending o = ap (λ (m : JobMove). Some (Does m)) (close_same c j)
  acts_same c j _ o = refl
