-- In each state of a run without an operation, who was stopped, and who holds something and is not up, is due to go.
use Rattle.std.proofs.Common.{ℕ, ◌≡◌, ◌≢◌, ◌⊎◌, inl, inr, Bool, true, false, List, [], ◌∷◌, drop, map, Option, Some, None, refl, sym, ap, ◌∙◌, subst, arith}
use Rattle.std.specs.Option.{is_some, option_map}
use Rattle.resource_reqs.specs.Resources.{Reqs}
use Rattle.std.proofs.lemmas.Bool.{cases_eq}
use Rattle.std.proofs.lemmas.Bool.Decides.{nat_tests}
use Rattle.pnp_labels.specs.declared.label.Label.{Label}
use Rattle.pnp_labels.specs.declared.label.OpKind.{OpKind}
use Rattle.pnp_labels.specs.declared.states.DevState.TheVariants.{NoStack, NotStarted, SurpriseRemoved}
use Rattle.pnp_model.specs.Events.{answer_of}
use Rattle.pnp_model.specs.Cores.{bare, node_at, serials_of}
use Rattle.pnp_model.specs.Diagram.{FollowsDiagram}
use Rattle.pnp_model.specs.Laws.{DependentsFirst, Reaches}
use Rattle.pnp_model.specs.Rebalances.{committed, movers, plan_of}
use Rattle.pnp_model.specs.Records.{Activity, Course, Driver, Duty, Job, Node, Settings, Stage, State, Step, Task, course_of}
use Rattle.pnp_model.specs.Runs.{Entry, Goes, opening, printed}
use Rattle.pnp_model.specs.Runs.Entry.{Happens, Did, Declines}
use Rattle.pnp_model.specs.States.{activity_at, entered, new_child}
use Rattle.pnp_model.specs.Tests.{has}
use Rattle.pnp_model.specs.Trees.{above, children, is_child, leaving, set_of, stands_up}
use Rattle.pnp_laws.specs.Due.{is_due, leads}
use Rattle.pnp_laws.specs.Effects.{AnswerEffect, Closes, ClosesIn, ClosesRebalance, CommandEffect, NodeEffect, OpEffect, OperationEffect, Running, TaskEffect, TasksEffect, to_leave}
use Rattle.pnp_laws.specs.Kept.{Ascending, OperationFits, RebalanceKeeps, SurpriseKeeps}
use Rattle.pnp_laws.specs.Reached.{IsReached}
use Rattle.pnp_laws.specs.Strays.{IsStray, NobodyIsForgottenLaw}
use Rattle.pnp_laws.specs.Words.{spared, spared_in}
use Rattle.pnp_laws.proofs.Aboves.{due_below, due_more, is_above_in}
use Rattle.pnp_laws.proofs.Closures.{closed_keeps, those_serial}
use Rattle.pnp_laws.proofs.Due.{below_in_set}
use Rattle.pnp_laws.proofs.EffectViews.{alters_keeps}
use Rattle.pnp_laws.proofs.EffectsOf.{effect_goes}
use Rattle.pnp_laws.proofs.EffectsOfOperations.{begun_spared, completed_work, rebalance_runs, turn_work}
use Rattle.pnp_laws.proofs.Finishes.{leaving_all, set_is_closed}
use Rattle.pnp_laws.proofs.Finishing.{head_bare}
use Rattle.pnp_laws.proofs.Lists.{HeadIs, has_cases, head_found, rest_has}
use Rattle.pnp_laws.proofs.Lookups.{entered_same, left_from, left_same, map_from, node_at-map, own_serial, some_same}
use Rattle.pnp_laws.proofs.OpSteps.{change_up}
use Rattle.pnp_laws.proofs.Reaching.{kept, reached_on}
use Rattle.pnp_laws.proofs.Restarts.{above_told, over_stopped}
use Rattle.pnp_laws.proofs.Runs.{root_is}
use Rattle.pnp_laws.proofs.RunsStand.{Kept, dependents_go_first, every_run_follows, reaches_kept}
use Rattle.pnp_laws.proofs.RunsWhole.{reached_is_whole}
use Rattle.pnp_laws.proofs.Sounds.{LeadsMore, leads_first, leads_pushed, leads_same, due_less}
use Rattle.pnp_laws.proofs.Standing.{AllTold, DueBut, SurpriseOrder, SurpriseTold, ToldKept, waiting, kept_by, told_by}
use Rattle.pnp_laws.proofs.SurpriseSteps.{last_alone}
use Rattle.pnp_laws.proofs.TreeChanges.{SameNodes, above_same, nodes_kept}
use Rattle.pnp_laws.proofs.TreeMoves.{Childless, above_joined, above_left}
use Rattle.pnp_laws.proofs.Turns.{running_good}
use Rattle.pnp_laws.proofs.TurnsKept.{running_stage, running_told}
use Rattle.pnp_laws.proofs.StrayMoves.{From, Seen, from, none_from, over_none, spared_by, unplaced_now}
use Rattle.pnp_laws.proofs.FitsBy.{fits_by, rebalance_fits}

-- Who stands above -----------------------------------------------------------------------------------

nodes_mapped : (old new : List Node) (f : Node → Node) → new ≡ map f old → ((x : Node) → (f x).serial ≡ x.serial) → ((x : Node) → (f x).parent ≡ x.parent) → SameNodes old new
nodes_mapped old new f is serial parent =
    record {
      from = λ k m at.
          let was = map_from k f old m serial (subst (λ (x : List Node). node_at k x ≡ Some m) is at) in
          (was.0, was.1, ap (λ (z : Node). z.parent) was.2 ∙ parent was.0);
      to = λ k n at. (f n, subst (λ (x : List Node). node_at k x ≡ Some (f n)) (sym is) (node_at-map k f old serial ∙ ap (option_map f) at));
    }

childless : (j : ℕ) (nodes : List Node) → Ascending 0 nodes → children j nodes ≡ [] → Childless j nodes
childless j nodes order none i m at up parent =
    let own = own_serial i m nodes at in
    let child : is_child j m ≡ true = grind (arith, nat_tests) in
    let there = those_serial 0 (is_child j) nodes i m order at child in
    let h = subst (λ (ns : List Node). has (serials_of ns) i ≡ true) none there in
    cc

pub above_stays : (s : State) (label : Label) (t : State) → Kept s → DependentsFirst label s.core t.core → FollowsDiagram label s.core.nodes t.core.nodes → NodeEffect s label t
    → (k : ℕ) (n m : Node) → node_at k s.core.nodes ≡ Some n → node_at k t.core.nodes ≡ Some m → above t.core.nodes k ≡ above s.core.nodes k
above_stays s label t kept first follows (NodeEffect.same a b) k n m at now = ap (λ (x : List Node). above x k) a
above_stays s label t kept first follows (NodeEffect.changed j f alters a b) k n m at now =
    above_same s.core.nodes t.core.nodes (nodes_kept s.core.nodes t.core.nodes j f a (alters_keeps s label t j f alters).serial (alters_keeps s label t j f alters).parent) k
above_stays s label t kept first follows (NodeEffect.stripped node w there request ends prints a b) k n m at now =
    above_same s.core.nodes t.core.nodes (nodes_kept s.core.nodes t.core.nodes node.serial bare a (λ x. refl) (λ x. refl)) k
above_stays s label t kept first follows (NodeEffect.commits r runs course is a b) k n m at now =
    above_same s.core.nodes t.core.nodes (nodes_mapped s.core.nodes t.core.nodes (committed r.wanted r.target (movers r) (plan_of r.found)) a (λ x. refl) (λ x. refl)) k
above_stays s label t kept first follows (NodeEffect.joins node d none there up joining is) k n m at now =
    ap (λ (x : Step). above x.state.core.nodes k) is ∙ above_joined k s.core (new_child node.serial d s) kept.stands.tree.rooted kept.stands.tree.root k n at
above_stays s label t kept first follows (NodeEffect.left node o runs head a b) k n m at now =
    let there = (head_found s.core.nodes (to_leave o) node head).1 in
    let gone : node_at node.serial t.core.nodes ≡ None = subst (λ (x : List Node). node_at node.serial x ≡ None) (sym a) (left_same 0 node.serial s.core.nodes kept.good.serials) in
    let alone = childless node.serial s.core.nodes kept.good.serials (first.childless node.serial node there gone) in
    let up : node.serial ≢ 0 = λ z. let root = (kept.good.stacks node.serial node there).root z in let none = follows.leaves node.serial node there gone in cc in
    let apart = (left_from node.serial k s.core.nodes m kept.good.serials (subst (λ (x : List Node). node_at k x ≡ Some m) a now)).0 in
    ap (λ (x : List Node). above x k) a ∙ above_left k node.serial s.core alone kept.stands.tree.root up k apart
above_stays s label t kept first follows (NodeEffect.related r related a b) k n m at now = ap (λ (x : List Node). above x k) a

-- Who is due -------------------------------------------------------------------------------------------

command_leads : (s t : State) → CommandEffect s t → LeadsMore s.tasks t.tasks
command_leads s t (CommandEffect.same e) = subst (λ (ts : List Task). LeadsMore s.tasks ts) (sym e) (leads_same s.tasks)
command_leads s t (CommandEffect.lists k e) = subst (λ (ts : List Task). LeadsMore s.tasks ts) (sym e) (leads_pushed s.tasks (record { kind = Duty.Listing; serial = k }))
command_leads s t (CommandEffect.starts path n found e) = subst (λ (ts : List Task). LeadsMore s.tasks ts) (sym e) (leads_pushed s.tasks (record { kind = Duty.Starting; serial = n.serial }))
command_leads s t (CommandEffect.finishes n path found state e) = subst (λ (ts : List Task). LeadsMore s.tasks ts) (sym e) (leads_pushed s.tasks (record { kind = Duty.Begins OpKind.Finish; serial = n.serial }))
command_leads s t (CommandEffect.begins kind n path found up e) = subst (λ (ts : List Task). LeadsMore s.tasks ts) (sym e) (leads_pushed s.tasks (record { kind = Duty.Begins kind; serial = n.serial }))

-- it is due, or the operation that runs is to see to it
abbrev IsSeen : State → ℕ → Type 0
IsSeen s k = (is_due s.tasks s.core.nodes k ≡ true) ⊎ (has (spared_by s.operation) k ≡ true)

-- a device that is NotStarted before and after a step
module _ (s t : State) (was : Kept s) (now : Kept t) (k : ℕ) (n m : Node) (at : node_at k s.core.nodes ≡ Some n) (there : node_at k t.core.nodes ≡ Some m) (waits : n.state ≡ NotStarted) (still_waits : m.state ≡ NotStarted) (over : above t.core.nodes k ≡ above s.core.nodes k) where
  up : k ≢ 0
  up z = let root = (was.good.stacks k n at).root z in cc

  due_on : LeadsMore s.tasks t.tasks → is_due s.tasks s.core.nodes k ≡ true → IsSeen t k
  due_on leads h = inl (due_more s.tasks t.tasks s.core.nodes t.core.nodes k leads over h)

  -- what is not there has nothing below it
  none_below_it : (j : ℕ) → node_at j s.core.nodes ≡ None → has (k ∷ above s.core.nodes k) j ≡ true → ⊥
  none_below_it j gone h =
      elim (has_cases k j (above s.core.nodes k) h) [
        | inl e ↦ let own = subst (λ (i : ℕ). node_at i s.core.nodes ≡ Some n) e at in cc
        | inr q ↦ let higher = is_above_in k s.core k j n was.stands.tree.root was.stands.tree.rooted at up q in let found = higher.there.1 in cc
      ]

  -- what stands below a device leaves with it
  leaves_with : (j : ℕ) (node : Node) → node_at j s.core.nodes ≡ Some node → has (k ∷ above s.core.nodes k) j ≡ true → has (leaving s.core j) k ≡ true
  leaves_with j node at_j h =
      let tree = was.stands.tree in
      let in_set = closed_keeps s.core (j ∷ []) j node was.good.serials at_j (own_has j) in
      leaving_all tree.rank s.core j k was.good.serials tree.ranked
      (elim (has_cases k j (above s.core.nodes k) h) [
        | inl e ↦ subst (λ (x : ℕ). has (set_of s.core j) x ≡ true) (sym e) in_set
        | inr q ↦ below_in_set k s.core k j n (set_is_closed s.core j node was.good.serials at_j) in_set at tree.root tree.rooted (omega arith) q up
      ])
    where
      own_has : (j : ℕ) → has (j ∷ []) j ≡ true
      own_has j = grind (arith, nat_tests)

  -- neither it nor a device above it was told that it has gone
  not_told : s.operation ≡ None → (j : ℕ) (node : Node) → node_at j s.core.nodes ≡ Some node → node.state ≡ SurpriseRemoved → has (k ∷ above s.core.nodes k) j ≡ true → ⊥
  not_told none j node at_j gone h =
      elim (has_cases k j (above s.core.nodes k) h) [
        | inl e ↦ let same = some_same (node_at k s.core.nodes) n node at (subst (λ (i : ℕ). node_at i s.core.nodes ≡ Some node) (sym e) at_j) in let state = ap (λ (x : Node). x.state) same in cc
        | inr q ↦
            let tree = was.stands.tree in
            let told = subst (λ (x : Option Job). ToldKept x s.core) none was.waits.told in
            above_told k s.core k j n tree.root tree.rooted told at (λ e. cc) q node at_j gone
      ]

  due_task : TaskEffect s t → is_due s.tasks s.core.nodes k ≡ true → IsSeen t k
  due_task (TaskEffect.same e) h = due_on (subst (λ (ts : List Task). LeadsMore s.tasks ts) (sym e) (leads_same s.tasks)) h
  due_task (TaskEffect.appended task origin e) h = due_on (subst (λ (ts : List Task). LeadsMore s.tasks ts) (sym e) (leads_pushed s.tasks task)) h
  due_task (TaskEffect.joins next e) h = due_on (subst (λ (ts : List Task). LeadsMore s.tasks ts) (sym e) (leads_pushed s.tasks (record { kind = Duty.Starting; serial = s.next_serial }))) h
  due_task (TaskEffect.dropped task none first surprises e) h =
      elim (due_less s.tasks task s.core.nodes k first h) [
        | inl q ↦ inl (due_more (drop 1 s.tasks) t.tasks s.core.nodes t.core.nodes k (subst (λ (ts : List Task). LeadsMore (drop 1 s.tasks) ts) (sym e) (leads_same (drop 1 s.tasks))) over q)
        | inr (surprise, below) ↦ elim (surprises surprise) [
          | inl gone ↦ absurd (none_below_it task.serial gone below)
          | inr rest ↦ elim rest [
            | inl (node, found, told) ↦ absurd (not_told none task.serial node found told below)
            | inr (node, found, begun) ↦
                let own = own_serial task.serial node s.core.nodes found in
                let leaves = subst (λ (i : ℕ). has (leaving s.core i) k ≡ true) (sym own) (leaves_with task.serial node found below) in
                inr (subst (λ (o : Option Job). has (spared_by o) k ≡ true) (sym begun) (subst (λ (ks : List ℕ). has ks k ≡ true) (sym (begun_spared s.core node)) leaves))
          ]
        ]
      ]
  due_task (TaskEffect.put_first node r runs course is first e) h =
      due_on (subst (λ (ts : List Task). LeadsMore s.tasks ts) (sym e) (leads_first s.tasks (record { kind = Duty.Begins OpKind.Surprise; serial = node.serial }) refl)) h

  -- who is left when a surprise removal ends has no drivers, or stayed behind
  left_bare : (behind : List ℕ) → AllTold behind s.core.nodes → (has behind k ≡ false → n.state ≡ NoStack) → ⊥
  left_bare behind stayed bare = by_test (has behind k) refl
    where
      by_test : (b : Bool) → has behind k ≡ b → ⊥
      by_test true e = let state = stayed k n e at in cc
      by_test false e = let state = bare e in cc

  surprise_ends : (o : Job) → Running s o → course_of o.kind ≡ Course.Surprising → ClosesIn s o t Course.Surprising → has o.set k ≡ true → ⊥
  surprise_ends o runs course (inl is) in_set =
      let stage = kept_by Course.Surprising o s.core course (running_stage s o runs was) in
      let told = subst (λ (x : Stage). SurpriseTold s.core o x) is (told_by Course.Surprising o s.core course (running_told s o runs was)) in
      left_bare o.behind told.stayed (λ none. (subst (λ (x : Stage). SurpriseOrder s.core o x) is stage.0).bare k n at in_set refl none)
  surprise_ends o runs course (inr (is, node, first, last)) in_set =
      let stage = kept_by Course.Surprising o s.core course (running_stage s o runs was) in
      let told = subst (λ (x : Stage). SurpriseTold s.core o x) is (told_by Course.Surprising o s.core course (running_told s o runs was)) in
      let order = (subst (λ (x : Stage). SurpriseOrder s.core o x) is stage.0).0 in
      let keeps = subst (λ (x : Stage). SurpriseKeeps o x s.core.nodes) is (fits_by Course.Surprising o s.core.nodes course (running_good s o runs was.good).fits) in
      let head = (head_found s.core.nodes o.todo node first).0 in
      let none = last_alone o.target o.todo (subst (λ (i : ℕ). HeadIs i o.todo) last head) keeps.ends in
      elim (cases_eq node.serial k) [
        | inl q ↦ let state = head_bare o.todo k n.state (subst (λ (i : ℕ). HeadIs i o.todo) q head) (keeps.each k n at) in cc
        | inr d ↦ left_bare o.behind told.stayed (order.bare k n at in_set (sym (rest_has node.serial k o.todo head d) ∙ ap (λ (ks : List ℕ). has ks k) none))
      ]

  -- who stands below a device that is not up is below one that is Stopped, which is due
  below_down : t.operation ≡ None → stands_up t.core.nodes k ≡ false → is_due t.tasks t.core.nodes k ≡ true
  below_down none down =
      let tree = now.stands.tree in
      let calm = subst (λ (x : Option Job). OperationFits x t.core.nodes) none now.good.fits in
      let told = subst (λ (x : Option Job). ToldKept x t.core) none now.waits.told in
      let high = over_stopped t.core k m tree.root tree.rooted tree.idle calm told (λ e. cc) there up down in
      elim (subst (λ (x : Option Job). DueBut (waiting x) t.tasks t.core.nodes) none now.stands.due high.0 high.1 high.4 high.5) [
        | inl q ↦ due_below t.tasks t.core k high.0 m tree.root tree.rooted there up high.2 q
        | inr q ↦ absurd (cc)
      ]

  module _ (idle : activity_at k s.activities ≡ None) (still : activity_at k t.activities ≡ None) where
    rebalance_ends : (r : Job) → Running s r → course_of r.kind ≡ Course.Rebalancing → t.operation ≡ None → ClosesIn s r t Course.Rebalancing → has (r.target ∷ []) k ≡ true → IsSeen t k
    rebalance_ends r running course none closes h = by_end r.wanted refl closes (target_is h)
      where
        runs : s.operation ≡ Some r
        runs = rebalance_runs s r course running

        target_is : has (r.target ∷ []) k ≡ true → r.target ≡ k
        target_is q = elim (has_cases r.target k [] q) [ inl e ↦ e | inr none ↦ absurd (cc) ]

        fits : RebalanceKeeps r r.stage s.core.nodes
        fits = rebalance_fits s r was.good runs course

        by_end : (wanted : Option Reqs) → r.wanted ≡ wanted → ClosesRebalance s r t wanted → r.target ≡ k → IsSeen t k
        by_end (Some wanted) changes closed own = absurd (change_up r.wanted r.target s.core.nodes n (ap is_some changes) fits.waits (subst (λ (i : ℕ). node_at i s.core.nodes ≡ Some n) (sym own) at) waits)
        by_end None plain (inl (phase, e)) own =
            let new : Activity = record { serial = r.target; phase = phase } in
            let found : activity_at r.target (entered new s.activities) ≡ Some new = entered_same new s.activities (subst (λ (i : ℕ). activity_at i s.activities ≡ None) (sym own) idle) in
            absurd (let here = subst (λ (i : ℕ). activity_at i t.activities ≡ Some new) own (subst (λ (x : List Activity). activity_at r.target x ≡ Some new) (sym e) found) in cc)
        by_end None plain (inr down) own = inl (below_down none (subst (λ (i : ℕ). stands_up t.core.nodes i ≡ false) own down))

    ends_spared : (o : Job) → Running s o → t.operation ≡ None → Closes s o t → has (spared o) k ≡ true → IsSeen t k
    ends_spared o running none closes h = by_course (course_of o.kind) refl closes h
      where
        by_course : (course : Course) → course_of o.kind ≡ course → ClosesIn s o t course → has (spared_in o course) k ≡ true → IsSeen t k
        by_course Course.Rebalancing course closes h = rebalance_ends o running course none closes h
        by_course Course.Surprising course closes h = absurd (surprise_ends o running course closes h)
        by_course Course.Removing course closes h = absurd (cc)
        by_course Course.Finishing course closes h = absurd (cc)

    spared_on : (label : Label) → OpEffect s label t → has (spared_by s.operation) k ≡ true → IsSeen t k
    spared_on label (OpEffect.idles none after prints) h = absurd (let q = subst (λ (x : Option Job). has (spared_by x) k ≡ true) none h in cc)
    spared_on label (OpEffect.begins kind node none alone found fits is) h = absurd (let q = subst (λ (x : Option Job). has (spared_by x) k ≡ true) none h in cc)
    spared_on label (OpEffect.goes o p runs after work prints) h =
        inr (subst (λ (x : Option Job). has (spared_by x) k ≡ true) (sym after)
        (subst (λ (ks : List ℕ). has ks k ≡ true) (sym work.spared) (subst (λ (x : Option Job). has (spared_by x) k ≡ true) runs h)))
    spared_on label (OpEffect.ends o result runs after prints by closes) h =
        ends_spared o runs after closes
        (subst (λ (ks : List ℕ). has ks k ≡ true) (sym (turn_work s runs.before o runs.turn).spared) (subst (λ (x : Option Job). has (spared_by x) k ≡ true) runs.runs h))

    spared_after : (label : Label) → AnswerEffect s label t → has (spared_by s.operation) k ≡ true → IsSeen t k
    spared_after label (AnswerEffect.stays word nodes acts after) h = inr (subst (λ (x : Option Job). has (spared_by x) k ≡ true) (sym after) h)
    spared_after label (AnswerEffect.answers word nodes j a ok found acts after) h = inr (subst (λ (x : Option Job). has (spared_by x) k ≡ true) (sym after) h)
    spared_after label (AnswerEffect.answered word nodes acts ok o runs after) h =
        inr (subst (λ (x : Option Job). has (spared_by x) k ≡ true) (sym after)
        (subst (λ (ks : List ℕ). has ks k ≡ true) (sym (completed_work (answer_of ok) o).spared) (subst (λ (x : Option Job). has (spared_by x) k ≡ true) runs h)))

    seen_on : (entry : Entry) → TasksEffect s entry t → OperationEffect s entry t → IsSeen s k → IsSeen t k
    seen_on (Happens event label) tasks operation (inl h) = due_on (command_leads s t tasks) h
    seen_on (Happens event label) tasks operation (inr h) = spared_after label operation h
    seen_on (Did label) tasks operation (inl h) = due_task tasks h
    seen_on (Did label) tasks operation (inr h) = spared_on label operation h
    seen_on (Declines label) tasks operation (inl h) = due_task tasks h
    seen_on (Declines label) tasks operation (inr h) = spared_on label operation h

-- In each state of a run -------------------------------------------------------------------------------

seen_goes : (settings : Settings) (rack : List Driver) (s : State) (entry : Entry) (t : State) → IsReached settings rack s → Seen s → Goes settings s entry t → Seen t
seen_goes settings rack s entry t (entries, run) old goes =
    let was = reaches_kept settings rack entries s run in
    let (more, later) = reached_on settings rack s entry t (entries, run) goes in
    let now = reaches_kept settings rack more t later in
    let whole = reached_is_whole settings rack s (entries, run) in
    let effect = effect_goes settings s entry t goes in
    let first = dependents_go_first settings rack entries s entry t run goes in
    let follows = (every_run_follows settings rack entries s entry t run goes).0 in
    let carry : (k : ℕ) (n m : Node) → node_at k s.core.nodes ≡ Some n → node_at k t.core.nodes ≡ Some m → n.state ≡ NotStarted → m.state ≡ NotStarted → activity_at k s.activities ≡ None → activity_at k t.activities ≡ None → IsSeen s k → IsSeen t k =
    λ k n m at there waits still_waits idle still seen.
    seen_on s t was now k n m at there waits still_waits (above_stays s (printed entry) t was first follows effect.nodes k n m at there) idle still entry effect.tasks effect.operation seen in
    let by_from : (k : ℕ) (m : Node) → node_at k t.core.nodes ≡ Some m → IsStray t k m → activity_at k s.activities ≡ None → From s t k m → IsSeen t k =
    λ k m there stray idle came.
    elim came [
      | From.unchanged n at state holds ↦ carry k n m at there (state stray.waits) stray.waits idle stray.idle (old.strays k n at (record { waits = state stray.waits; holds = λ e. stray.holds (holds ∙ e); idle = idle }))
      | From.emptied none ↦ absurd (stray.holds none)
      | From.placed a found past ↦ absurd (let none = stray.idle in cc)
      | From.moved o n runs at waits ↦ let own = waits stray.waits in carry k n m at there own.0 stray.waits idle stray.idle (inr (subst (λ (x : Option Job). has (spared_by x) k ≡ true) (sym runs) own.1))
    ] in
    record {
      unplaced = unplaced_now s (printed entry) t was.good whole effect.nodes effect.activities old;
      strays = λ k m there stray.
          elim (none_from s (printed entry) t was.good whole effect.activities k stray.idle) [
            | inl idle ↦ by_from k m there stray idle (from s (printed entry) t was.good whole effect.nodes k m there)
            | inr (phase, acts, over) ↦ absurd (over_none s (printed entry) t was.good whole effect.nodes effect.activities old k m phase there stray.waits stray.holds acts over)
          ];
    }

opening_seen : (rack : List Driver) → Seen (opening rack)
opening_seen rack =
    record {
      unplaced = λ k a n at h there. absurd (cc);
      strays = λ k n at stray. absurd (let up = ap (λ (x : Node). x.state) (root_is k n at).0 in let waits = stray.waits in cc);
    }

-- each state of a run is so, also within operations
pub each_stray_is_seen : (settings : Settings) (rack : List Driver) (entries : List Entry) (s : State) → Reaches settings rack entries s → Seen s
each_stray_is_seen settings rack entries s run = kept Seen settings rack (seen_goes settings rack) (opening_seen rack) s (entries, run)

pub nobody_is_forgotten : NobodyIsForgottenLaw
nobody_is_forgotten settings rack entries s run none =
    let seen = each_stray_is_seen settings rack entries s run in
    let due = subst (λ (x : Option Job). DueBut (waiting x) s.tasks s.core.nodes) none (reaches_kept settings rack entries s run).stands.due in
    record {
      stopped = λ k n at e. elim (due k n at e) [ inl q ↦ q | inr q ↦ absurd (cc) ];
      strays = λ k n at stray.
          elim (seen.strays k n at stray) [
            | inl q ↦ q
            | inr q ↦ absurd (let left = subst (λ (x : Option Job). has (spared_by x) k ≡ true) none q in cc)
          ];
    }
