-- Each step of a rebalance keeps the tree and what is due.
use Rattle.std.proofs.Common.{ℕ, ◌≡◌, ◌≢◌, inl, inr, Bool, true, false, List, [], ◌∷◌, length, Option, Some, None, refl, sym, ap, ◌∙◌, subst, arith, reverse, if◌then◌else◌}
use Rattle.std.specs.Option.{option_map}
use Rattle.std.proofs.lemmas.Bool.{cases_eq}
use Rattle.std.proofs.lemmas.Bool.Decides.{nat_tests}
use Rattle.resource_reqs.specs.Spelling.Answer.{assignment, no_fit, spent}
use Rattle.resource_reqs.specs.Resources.{Reqs}
use Rattle.pnp_model.specs.Keyed.{changed_first, those}
use Rattle.pnp_model.specs.Tests.{has}
use Rattle.pnp_model.specs.Records.{Node, Task, State, Found, Duty, Core, Course, Job, Stage, course_of}
use Rattle.pnp_model.specs.Cores.{is_node, node_at, with_state, with_problem}
use Rattle.pnp_model.specs.Trees.{stands_up}
use Rattle.pnp_model.specs.Frames.{first_node, rest}
use Rattle.pnp_model.specs.Jobs.{Beside, JobMove, closes, each_gets, stands}
use Rattle.pnp_model.specs.Machine.{job_lifted}
use Rattle.pnp_model.specs.Rebalances.{after_restart, answers, cancelled, has_refused, ask_on, cancel_on, stop_on, startable, is_not_above, searched, trouble_of, stuck, committed, movers, plan_of, commit_step, failed, over, result}
use Rattle.pnp_model.specs.Diagram.{Row}
use Rattle.pnp_model.specs.Diagram.Row.{query_stop, query_stop_bad, cancel_stop_refused, cancel_stop, stop, restart, restart_bad}
use Rattle.pnp_labels.specs.declared.states.DevState.{DevState}
use Rattle.pnp_labels.specs.declared.words.Minor.{Minor}
use Rattle.pnp_labels.specs.declared.states.Problem.{Problem}
use Rattle.pnp_labels.specs.declared.label.OpKind.{OpKind}
use Rattle.pnp_labels.specs.declared.label.Label.{Label}
use Rattle.pnp_labels.specs.declared.label.OpEnd.{OpEnd}
use Rattle.pnp_labels.specs.declared.states.DevState.TheVariants.{Started, StopPending, Stopped}
use Rattle.pnp_laws.specs.Kept.{Good, Each, RebalanceKeeps, stopped_state, is_calm, is_idle}
use Rattle.pnp_laws.specs.Due.{leads, is_due}
use Rattle.pnp_laws.proofs.Lookups.{node_changed_same, some_same, node_from, map_from}
use Rattle.pnp_laws.proofs.Lists.{head_found, head_has, rest_has}
use Rattle.pnp_laws.proofs.OpSteps.{stopped_calm, target_there}
use Rattle.pnp_laws.proofs.RebalanceSteps.{head_started, head_pending, head_stopping, head_stopped, rootless_head}
use Rattle.pnp_laws.proofs.Aboves.{due_more}
use Rattle.pnp_laws.specs.Rebalanced.{Rising}
use Rattle.pnp_laws.proofs.Tolds.{told_walked}
use Rattle.pnp_laws.proofs.Standing.{Told, DueBut, waiting, rebalance_waiting, OrderKept, Stands, Sound, StageKept, Ordered, RebalanceThere, AllThere, keep, waits_by}
use Rattle.pnp_laws.proofs.Theres.{goes_on, rest_there, those_there, reverse_there, startable_there, more_there, same_there, same_goes}
use Rattle.pnp_laws.proofs.TreeChanges.{Alike, same_changed, same_mapped, nodes_same, tree_same}
use Rattle.pnp_laws.proofs.Sounds.{LeadsMore, leads_same, leads_first, due_still, due_same, due_changed, sound_same, sound_walk}
use Rattle.pnp_laws.proofs.Stages.{RebalanceAct, RebalanceStep, ended_by}
use Rattle.pnp_laws.proofs.SoundOps.{Work, same_state, op_walk, op_still, problem_alike}
use Rattle.pnp_laws.proofs.Restarts.{ordered_agreed, ordered_fewer, rising_rest, rising_startable, due_restart}
use Rattle.pnp_laws.proofs.SoundRemovals.{started_stays}

-- What comes next, by what is still to do ----------------------------------------------------------

order_cancelled : (r : Job) → course_of r.kind ≡ Course.Rebalancing → (wanted : Option Reqs) (c : Core) → StageKept (Some (stands r [] (cancelled wanted))) c
order_cancelled r course None c = keep Course.Rebalancing (stands r [] (cancelled None)) c course (tt, tt)
order_cancelled r course (Some wanted) c = keep Course.Rebalancing (stands r [] (cancelled (Some wanted))) c course (tt, tt)

waits_cancelled : (r : Job) → course_of r.kind ≡ Course.Rebalancing → (wanted : Option Reqs) → waiting (Some (stands r [] (cancelled wanted))) ≡ []
waits_cancelled r course None = waits_by Course.Rebalancing (stands r [] (cancelled None)) course
waits_cancelled r course (Some wanted) = waits_by Course.Rebalancing (stands r [] (cancelled (Some wanted))) course

order_cancel_on : (r : Job) → course_of r.kind ≡ Course.Rebalancing → (ks : List ℕ) (c : Core) → AllThere ks c.nodes → StageKept (Some (cancel_on r ks)) c
order_cancel_on r course [] c there = order_cancelled r course r.wanted c
order_cancel_on r course (k ∷ ks) c there = keep Course.Rebalancing _ c course (tt, goes_on k ks c.nodes there)

waits_cancel_on : (r : Job) → course_of r.kind ≡ Course.Rebalancing → (ks : List ℕ) → waiting (Some (cancel_on r ks)) ≡ []
waits_cancel_on r course [] = waits_cancelled r course r.wanted
waits_cancel_on r course (k ∷ ks) = waits_by Course.Rebalancing (cancel_on r (k ∷ ks)) course

order_search_on : (r : Job) → course_of r.kind ≡ Course.Rebalancing → (refused : Bool) (c : Core) → Rising r.agreed → AllThere r.agreed c.nodes → StageKept (Some (if refused then cancel_on r r.agreed else stands r [] Stage.Searching)) c
order_search_on r course false c g all = keep Course.Rebalancing _ c course (g, all)
order_search_on r course true c g all = order_cancel_on r course r.agreed c all

waits_search_on : (r : Job) → course_of r.kind ≡ Course.Rebalancing → (refused : Bool) → waiting (Some (if refused then cancel_on r r.agreed else stands r [] Stage.Searching)) ≡ []
waits_search_on r course false = waits_by Course.Rebalancing (stands r [] Stage.Searching) course
waits_search_on r course true = waits_cancel_on r course r.agreed

pub order_ask_on : (r : Job) → course_of r.kind ≡ Course.Rebalancing → (ks : List ℕ) (c : Core) → Ordered ks r.agreed → AllThere ks c.nodes → AllThere r.agreed c.nodes → StageKept (Some (ask_on r ks)) c
order_ask_on r course [] c g there all = order_search_on r course (has_refused r) c g.rising all
order_ask_on r course (k ∷ ks) c g there all = keep Course.Rebalancing _ c course (g, (goes_on k ks c.nodes there, all))

pub waits_ask_on : (r : Job) → course_of r.kind ≡ Course.Rebalancing → (ks : List ℕ) → waiting (Some (ask_on r ks)) ≡ []
waits_ask_on r course [] = waits_search_on r course (has_refused r)
waits_ask_on r course (k ∷ ks) = waits_by Course.Rebalancing (ask_on r (k ∷ ks)) course

order_stop_on : (r : Job) → course_of r.kind ≡ Course.Rebalancing → (ks : List ℕ) (c : Core) → Rising r.agreed → AllThere ks c.nodes → AllThere r.agreed c.nodes → StageKept (Some (stop_on r ks)) c
order_stop_on r course [] c g there all = keep Course.Rebalancing _ c course (g, all)
order_stop_on r course (k ∷ ks) c g there all = keep Course.Rebalancing _ c course (g, (goes_on k ks c.nodes there, all))

waits_stop_on : (r : Job) → course_of r.kind ≡ Course.Rebalancing → (ks : List ℕ) → waiting (Some (stop_on r ks)) ≡ r.agreed
waits_stop_on r course [] = waits_by Course.Rebalancing (stop_on r []) course
waits_stop_on r course (k ∷ ks) = waits_by Course.Rebalancing (stop_on r (k ∷ ks)) course

-- `restarts r ks` gives each of them a START walk
abbrev restarts : Job → List ℕ → Job
restarts r ks = each_gets Minor.Start Stage.Restarting r ks (stands r [] Stage.Ending)

order_restart_from : (r : Job) → course_of r.kind ≡ Course.Rebalancing → (ks : List ℕ) (c : Core) → Rising ks → AllThere ks c.nodes → StageKept (Some (restarts r ks)) c
order_restart_from r course [] c g there = keep Course.Rebalancing _ c course (tt, tt)
order_restart_from r course (k ∷ ks) c g there = keep Course.Rebalancing _ c course (g, goes_on k ks c.nodes there)

waits_restart_from : (r : Job) → course_of r.kind ≡ Course.Rebalancing → (ks : List ℕ) → waiting (Some (restarts r ks)) ≡ ks
waits_restart_from r course [] = waits_by Course.Rebalancing (restarts r []) course
waits_restart_from r course (k ∷ ks) = waits_by Course.Rebalancing (restarts r (k ∷ ks)) course

due_wider : (rest next : List ℕ) (tasks : List Task) (nodes : List Node) → ((k : ℕ) → has rest k ≡ true → has next k ≡ true) → DueBut rest tasks nodes → DueBut next tasks nodes
due_wider rest next tasks nodes wider due = due_still rest next tasks tasks nodes nodes refl (leads_same tasks) wider due

now_at : (j : ℕ) (f : Node → Node) (node : Node) (nodes : List Node) → ((x : Node) → (f x).serial ≡ x.serial) → node_at j nodes ≡ Some node → node_at j (changed_first (is_node j) f nodes) ≡ Some (f node)
now_at j f node nodes keeps at = node_changed_same j f nodes keeps ∙ ap (option_map f) at

-- The steps -----------------------------------------------------------------------------------------

nothing_has : (agreed : List ℕ) (k : ℕ) → has [] k ≡ true → has agreed k ≡ true
nothing_has agreed k h = absurd (cc)

-- all are calm while those that were stopped are started again
all_calm : (todo : List ℕ) (nodes : List Node) → Each (stopped_state todo) nodes → Each (λ k x. is_calm x) nodes
all_calm todo nodes each k n at = by_test (has todo k) refl
  where
    by_test : (b : Bool) → has todo k ≡ b → is_calm n.state ≡ true
    by_test true e = stopped_calm n.state (let here = each k n at in grind (arith))
    by_test false e = let here = each k n at in grind (arith)

not_root : (s : State) (next : ℕ) (p : Option Job) → Good next s.core.nodes [] p → (k : ℕ) (n : Node) → node_at k s.core.nodes ≡ Some n → n.state ≡ Stopped → k ≢ 0
not_root s next p good k n at e = λ z. let root = (good.stacks k n at).root z in cc

pub commits_alike : (serials : List ℕ) (r : Job) (n : Node) → Alike n (committed r.wanted r.target serials (plan_of r.found) n)
commits_alike serials r n = record { serial = refl; parent = refl; path = refl; born = refl; idle = λ h. h; bare = λ h. h }

-- the states of others as the head is started again
rest_calm : (todo : List ℕ) (nodes : List Node) → Each (stopped_state todo) nodes → (j : ℕ) (f : Node → Node) (node : Node) → ((x : Node) → (f x).serial ≡ x.serial) → node_at j nodes ≡ Some node → is_calm (f node).state ≡ true → Each (λ k x. is_calm x) (changed_first (is_node j) f nodes)
rest_calm todo nodes each j f node keeps at calm k m there =
    elim (node_from j k f nodes m keeps there) [
      | inl (e, (y, q, r)) ↦
          let at_k = subst (λ (i : ℕ). node_at i nodes ≡ Some node) e at in
          let one : node ≡ y = some_same (node_at k nodes) node y at_k q in
          subst (λ (x : Node). is_calm x.state ≡ true) (sym r) (subst (λ (x : Node). is_calm (f x).state ≡ true) one calm)
      | inr (d, q) ↦ all_calm todo nodes each k m q
    ]

first_leads : (k : ℕ) (tasks : List Task) → has (leads (record { kind = Duty.Begins OpKind.Surprise; serial = k } ∷ tasks)) k ≡ true
first_leads k tasks = grind (arith, nat_tests)

-- a device with a leading task is due
own_due : (tasks : List Task) (nodes : List Node) (k : ℕ) → has (leads tasks) k ≡ true → is_due tasks nodes k ≡ true
own_due tasks nodes k h = grind (arith, nat_tests)

module _ (s : State) (r : Job) (course : course_of r.kind ≡ Course.Rebalancing) (good : Good s.next_serial s.core.nodes [] (Some r)) (told : Told s.core) (h : Stands s) where
  re_work : (node : Node) → first_node s.core.nodes r.todo ≡ Some node → has r.todo 0 ≡ false → Work s node r.todo
  re_work node first rootless =
      let found = head_found s.core.nodes r.todo node first in
      record { head = found.0; at = found.1; up = rootless_head node.serial r.todo found.0 rootless; order = good.serials; stacks = good.stacks }

  re_searched : (found : Found) → OrderKept r Stage.Searching → RebalanceThere r Stage.Searching s.core.nodes → DueBut [] s.tasks s.core.nodes → Sound s (job_lifted s (searched s.core r found))
  re_searched (assignment plan) order there due =
      op_still s _ _ r.agreed tt refl refl refl refl (λ same. order_stop_on (record r { found = assignment plan }) course (reverse r.agreed) _ order (reverse_there r.agreed s.core.nodes there) there) (waits_stop_on (record r { found = assignment plan }) course (reverse r.agreed))
      (due_wider [] r.agreed s.tasks s.core.nodes (nothing_has r.agreed) due) h
  re_searched no_fit order there due = op_still s _ _ [] tt refl refl refl refl (λ same. order_cancel_on (record r { found = no_fit }) course r.agreed _ there) (waits_cancel_on (record r { found = no_fit }) course r.agreed) due h
  re_searched spent order there due = op_still s _ _ [] tt refl refl refl refl (λ same. order_cancel_on (record r { found = spent }) course r.agreed _ there) (waits_cancel_on (record r { found = spent }) course r.agreed) due h

  re_closes : (found : Found) (wanted : Option Reqs) (end : OpEnd) → DueBut [] s.tasks s.core.nodes → Sound s (job_lifted s (closes s.core r end (over s.core r found wanted)))
  re_closes (assignment plan) None end due = by_test (stands_up s.core.nodes r.target)
    where
      by_test : (up : Bool) → Sound s (job_lifted s (closes s.core r end (if up then Beside.OverStart else Beside.Over)))
      by_test true = op_still s _ _ [] tt refl refl refl refl (λ same. tt) refl due h
      by_test false = op_still s _ _ [] tt refl refl refl refl (λ same. tt) refl due h
  re_closes no_fit None end due = op_still s _ _ [] tt refl refl refl refl (λ same. tt) refl due h
  re_closes spent None end due = op_still s _ _ [] tt refl refl refl refl (λ same. tt) refl due h
  re_closes (assignment plan) (Some wanted) end due = op_still s _ _ [] tt refl refl refl refl (λ same. tt) refl due h
  re_closes no_fit (Some wanted) end due = op_still s _ _ [] tt refl refl refl refl (λ same. tt) refl due h
  re_closes spent (Some wanted) end due = op_still s _ _ [] tt refl refl refl refl (λ same. tt) refl due h

  pub sound_rebalance : (stage : Stage) (m : JobMove) → RebalanceKeeps r stage s.core.nodes → OrderKept r stage → RebalanceThere r stage s.core.nodes → DueBut (rebalance_waiting r stage) s.tasks s.core.nodes → RebalanceStep s.core r stage m → Sound s (job_lifted s m)
  sound_rebalance stage m keeps order there due (RebalanceStep.agrees node w e ok) =
      let work = re_work node e.first keeps.rootless in
      let state = head_started r.todo r.agreed node.serial node.state (head_has node.serial r.todo work.head) (keeps.each node.serial node work.at) in
      op_walk s _ node r.todo [] Minor.QueryStop false Started StopPending work state refl refl refl refl (λ q. absurd (cc)) (λ q. cc) (λ q. cc) query_stop
      (λ same. order_ask_on (record r { agreed = node.serial ∷ r.agreed }) course (rest r.todo) _ (ordered_agreed node.serial r.todo r.agreed work.head order)
      (same_there (rest r.todo) s.core _ same (rest_there r.todo s.core.nodes there.0.there))
      (more_there node.serial r.agreed (with_state StopPending node) _ (now_at node.serial (with_state StopPending) node s.core.nodes (λ x. refl) work.at) (same_there r.agreed s.core _ same there.1))) (waits_ask_on (record r { agreed = node.serial ∷ r.agreed }) course (rest r.todo)) due h
  sound_rebalance stage m keeps order there due (RebalanceStep.refuses node w e bad) =
      let work = re_work node e.first keeps.rootless in
      let state = head_started r.todo r.agreed node.serial node.state (head_has node.serial r.todo work.head) (keeps.each node.serial node work.at) in
      op_walk s _ node r.todo [] Minor.QueryStop true Started node.state work state refl refl refl refl (λ q. ap is_idle (sym state) ∙ q) (started_stays node.state state).0 (started_stays node.state state).1 (subst (λ (x : DevState). Row Started Minor.QueryStop true x) (sym state) query_stop_bad)
      (λ same. keep Course.Rebalancing _ _ course (order, (same_goes r.todo s.core _ same there.0, same_there r.agreed s.core _ same there.1))) (waits_by Course.Rebalancing (answers r node true) course) due h
  sound_rebalance stage m keeps order there due (RebalanceStep.takes_back node w e) =
      let work = re_work node e.first keeps.rootless in
      let state = head_started r.todo r.agreed node.serial node.state (head_has node.serial r.todo work.head) (keeps.each node.serial node work.at) in
      let more = those (is_not_above s.core.nodes node.serial) (rest r.todo) in
      op_walk s _ node r.todo [] Minor.CancelStop false Started Started work state refl refl refl refl (λ q. absurd (cc)) (λ q. cc) (λ q. cc) cancel_stop_refused
      (λ same. order_ask_on r course more _ (ordered_fewer (is_not_above s.core.nodes node.serial) node.serial r.todo r.agreed work.head order)
      (same_there more s.core _ same (those_there (is_not_above s.core.nodes node.serial) (rest r.todo) s.core.nodes (rest_there r.todo s.core.nodes there.0.there)))
      (same_there r.agreed s.core _ same there.1)) (waits_ask_on r course more) due h
  sound_rebalance stage m keeps order there due (RebalanceStep.acts _ _ (RebalanceAct.searches found budget answer)) = re_searched found order there due
  sound_rebalance stage m keeps order there due (RebalanceStep.cancels node w e) =
      let work = re_work node e.first keeps.rootless in
      let state = head_pending r.todo node.serial node.state (head_has node.serial r.todo work.head) (keeps.each node.serial node work.at) in
      op_walk s _ node r.todo [] Minor.CancelStop false StopPending Started work state refl refl refl refl (λ q. absurd (cc)) (λ q. cc) (λ q. cc) cancel_stop
      (λ same. order_cancel_on r course (rest r.todo) _ (same_there (rest r.todo) s.core _ same (rest_there r.todo s.core.nodes there.there))) (waits_cancel_on r course (rest r.todo)) due h
  sound_rebalance stage m keeps order there due (RebalanceStep.acts _ _ RebalanceAct.sticks) =
      let there = target_there r.wanted r.target s.core.nodes keeps.waits in
      let node = there.0 in
      let at = there.1 in
      let f = with_problem (Some (trouble_of r.found)) in
      let t = (job_lifted s (stuck s.core r)).state in
      let same = same_changed s.core t.core r.target f node refl refl (λ x. refl) at (problem_alike node (Some (trouble_of r.found))) in
      sound_same s t (Label.Trouble r.path (trouble_of r.found)) tt same refl h.up (keep Course.Rebalancing (stands r [] Stage.Ending) t.core course (tt, tt))
      (subst (λ (x : List ℕ). DueBut x s.tasks t.core.nodes) (sym (waits_by Course.Rebalancing (stands r [] Stage.Ending) course))
      (due_changed [] [] s.tasks s.tasks s.core.nodes t.core.nodes r.target f node refl (λ x. refl) at (nodes_same s.core t.core same) (leads_same s.tasks) (λ q. inl q) (λ k q. inl q) due)) h
  sound_rebalance stage m keeps order there due (RebalanceStep.stops node w e) =
      let work = re_work node e.first keeps.rootless in
      let here = head_has node.serial r.todo work.head in
      let state = head_stopping r.todo r.agreed node.serial node.state here (keeps.each node.serial node work.at) in
      let t = (job_lifted s (ended_by s.core node Minor.Stop false (stop_on r (rest r.todo)))).state in
      let same = same_state s t node r.todo Stopped work refl refl (λ q. absurd (cc)) (λ q. absurd (cc)) in
      sound_walk s t node Minor.Stop false Stopped refl same refl work.at (λ q. cc) (subst (λ (x : DevState). Row x Minor.Stop false Stopped) (sym state) stop) h.up
      (order_stop_on r course (rest r.todo) t.core order (same_there (rest r.todo) s.core t.core same (rest_there r.todo s.core.nodes there.0.there)) (same_there r.agreed s.core t.core same there.1))
      (subst (λ (ks : List ℕ). DueBut ks s.tasks t.core.nodes) (sym (waits_stop_on r course (rest r.todo)))
      (due_changed r.agreed r.agreed s.tasks s.tasks s.core.nodes t.core.nodes node.serial (with_state Stopped) node refl (λ x. refl) work.at (nodes_same s.core t.core same) (leads_same s.tasks)
      (λ q. inr (keeps.asks node.serial here)) (λ k q. inl q) due)) h
  sound_rebalance stage m keeps order there due (RebalanceStep.acts _ _ RebalanceAct.commits) =
      let f = committed r.wanted r.target (movers r) (plan_of r.found) in
      let t = (job_lifted s (commit_step s.core r)).state in
      let same = same_mapped s.core t.core f refl refl (commits_alike (movers r) r) in
      let ks = startable s.core.nodes r.agreed in
      let now = due_restart s.tasks s.core r.agreed h.tree.root h.tree.rooted h.tree.idle told (all_calm r.agreed s.core.nodes keeps.each) (not_root s s.next_serial _ good) order due in
      sound_same s t (Label.Commit (length (movers r))) tt same refl h.up (order_restart_from r course ks t.core (rising_startable s.core.nodes r.agreed order) (same_there ks s.core t.core same (startable_there s.core.nodes r.agreed s.core.nodes there)))
      (subst (λ (x : List ℕ). DueBut x s.tasks t.core.nodes) (sym (waits_restart_from r course ks))
      (due_same ks ks s.tasks s.tasks s.core.nodes t.core.nodes (nodes_same s.core t.core same) (leads_same s.tasks)
      (λ k n m was at stopped.
      let old = map_from k f s.core.nodes m (λ x. refl) at in
      let one : old.0 ≡ n = some_same (node_at k s.core.nodes) old.0 n old.1 was in
      inl (ap (λ (x : Node). x.state) (sym one) ∙ sym (ap (λ (x : Node). x.state) old.2) ∙ stopped))
      (λ k m at stopped q. inr q) now)) h
  sound_rebalance stage m keeps order there due (RebalanceStep.fails node w e bad) =
      let work = re_work node e.first keeps.rootless in
      let state = head_stopped r.todo node.serial node.state (head_has node.serial r.todo work.head) (keeps.each node.serial node work.at) in
      let t = (job_lifted s (ended_by s.core node Minor.Start true (after_restart s.core r node true))).state in
      let same = same_state s t node r.todo node.state work refl refl (λ q. q) (λ q. q) in
      sound_walk s t node Minor.Start true node.state refl same refl work.at (λ q. let z = state in cc) (subst (λ (x : DevState). Row x Minor.Start true x) (sym state) restart_bad) h.up (keep Course.Rebalancing (stands r r.todo Stage.Failed) t.core course (order, same_goes r.todo s.core t.core same there))
      (subst (λ (x : List ℕ). DueBut x s.tasks t.core.nodes) (sym (waits_by Course.Rebalancing (stands r r.todo Stage.Failed) course))
      (due_changed r.todo r.todo s.tasks s.tasks s.core.nodes t.core.nodes node.serial (with_state node.state) node refl (λ x. refl) work.at (nodes_same s.core t.core same) (leads_same s.tasks) (λ q. inl q) (λ k q. inl q) due)) h
  sound_rebalance stage m keeps order there due (RebalanceStep.restarts node w e ok) =
      let work = re_work node e.first keeps.rootless in
      let state = head_stopped r.todo node.serial node.state (head_has node.serial r.todo work.head) (keeps.each node.serial node work.at) in
      let t = (job_lifted s (ended_by s.core node Minor.Start false (after_restart s.core r node false))).state in
      let same = same_state s t node r.todo Started work refl refl (λ q. absurd (cc)) (λ q. absurd (cc)) in
      let tree = tree_same s.next_serial s.core t.core same h.tree in
      let ks = rest r.todo in
      let left : DueBut ks s.tasks t.core.nodes =
      due_changed r.todo ks s.tasks s.tasks s.core.nodes t.core.nodes node.serial (with_state Started) node refl (λ x. refl) work.at (nodes_same s.core t.core same) (leads_same s.tasks) (λ q. absurd (cc))
      (λ k q. elim (cases_eq node.serial k) [ inl e ↦ inr (e, λ z. absurd (cc)) | inr d ↦ inl (rest_has node.serial k r.todo work.head d ∙ q) ]) due in
      let up : (k : ℕ) (n : Node) → node_at k t.core.nodes ≡ Some n → n.state ≡ Stopped → k ≢ 0 =
      λ k n at e. elim (node_from node.serial k (with_state Started) s.core.nodes n (λ x. refl) at) [
        | inl (q, (y, z, u)) ↦ absurd (let v = ap (λ (x : Node). x.state) u in cc)
        | inr (d, q) ↦ not_root s s.next_serial _ good k n q e
      ] in
      let told_now = told_walked s.core node.serial Started node told work.at (λ q. let z = state in cc) (λ q. cc) in
      let now = due_restart s.tasks t.core ks tree.root tree.rooted tree.idle told_now (rest_calm r.todo s.core.nodes keeps.each node.serial (with_state Started) node (λ x. refl) work.at refl) up (rising_rest r.todo order) left in
      sound_walk s t node Minor.Start false Started refl same refl work.at (λ q. cc) (subst (λ (x : DevState). Row x Minor.Start false Started) (sym state) restart) h.up
      (order_restart_from r course (startable t.core.nodes ks) t.core (rising_startable t.core.nodes ks (rising_rest r.todo order)) (startable_there t.core.nodes ks t.core.nodes (same_there ks s.core t.core same (rest_there r.todo s.core.nodes there.there))))
      (subst (λ (x : List ℕ). DueBut x s.tasks t.core.nodes) (sym (waits_restart_from r course (startable t.core.nodes ks))) now) h
  sound_rebalance stage m keeps order there due (RebalanceStep.acts _ _ (RebalanceAct.failed node first)) =
      let work = re_work node first keeps.rootless in
      let t = (job_lifted s (failed s.core r node)).state in
      let f = with_problem (Some Problem.FailedStart) in
      let same = same_changed s.core t.core node.serial f node refl refl (λ x. refl) work.at (problem_alike node (Some Problem.FailedStart)) in
      let ks = rest r.todo in
      let more : LeadsMore s.tasks t.tasks = leads_first s.tasks (record { kind = Duty.Begins OpKind.Surprise; serial = node.serial }) refl in
      let left : DueBut ks t.tasks s.core.nodes =
      λ k n at stopped.
      elim (due k n at stopped) [
        | inl q ↦ inl (due_more s.tasks t.tasks s.core.nodes s.core.nodes k more refl q)
        | inr q ↦ elim (cases_eq node.serial k) [
          | inl e ↦ inl (own_due t.tasks s.core.nodes k (subst (λ (i : ℕ). has (leads t.tasks) i ≡ true) e (first_leads node.serial s.tasks)))
          | inr d ↦ inr (rest_has node.serial k r.todo work.head d ∙ q)
        ]
      ] in
      let now = due_restart t.tasks s.core ks h.tree.root h.tree.rooted h.tree.idle told (all_calm r.todo s.core.nodes keeps.each) (not_root s s.next_serial _ good) (rising_rest r.todo order) left in
      let todo = startable s.core.nodes ks in
      sound_same s t (Label.Trouble node.path Problem.FailedStart) tt same refl (work.up, h.up)
      (order_restart_from r course todo t.core (rising_startable s.core.nodes ks (rising_rest r.todo order)) (same_there todo s.core t.core same (startable_there s.core.nodes ks s.core.nodes (rest_there r.todo s.core.nodes there.there))))
      (subst (λ (x : List ℕ). DueBut x t.tasks t.core.nodes) (sym (waits_restart_from r course todo))
      (due_changed todo todo t.tasks t.tasks s.core.nodes t.core.nodes node.serial f node refl (λ x. refl) work.at (nodes_same s.core t.core same) (leads_same t.tasks) (λ q. inl q) (λ k q. inl q) now)) h
  sound_rebalance stage m keeps order there due (RebalanceStep.acts _ _ RebalanceAct.closes) = re_closes r.found r.wanted (result r.found (has_refused r)) due
