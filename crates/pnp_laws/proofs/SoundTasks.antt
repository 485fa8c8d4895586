-- Each task keeps the tree and what is due; where an operation begins, what it needs of the tree is there.
use Rattle.std.proofs.Common.{ℕ, drop, ◌≡◌, ◌≢◌, ◌==◌, inl, inr, true, false, not, List, [], ◌∷◌, Option, Some, None, refl, sym, ap, ◌∙◌, subst, arith, reverse, map}
use Rattle.std.specs.List.{slice_get}
use Rattle.std.proofs.lemmas.Bool.Decides.{nat_tests}
use Rattle.resource_reqs.specs.Resources.{Reqs}
use Rattle.pnp_model.specs.Keyed.{changed_first, those}
use Rattle.pnp_model.specs.Tests.{has, is_surprise_task}
use Rattle.pnp_model.specs.Records.{Node, Core, Device, Task, State, Step, Duty, Course, Job, Relation, course_of}
use Rattle.pnp_model.specs.Cores.{is_node, node_at, with_problem, add_node, serials_of}
use Rattle.pnp_model.specs.States.{drop_task, new_child}
use Rattle.pnp_model.specs.Trees.{above, leaving, set_of}
use Rattle.pnp_model.specs.Handles.{was_told}
use Rattle.pnp_model.specs.Tasks.{joins, join_step, begin, skip}
use Rattle.pnp_labels.specs.declared.states.Problem.{Problem}
use Rattle.pnp_labels.specs.declared.label.OpKind.{OpKind}
use Rattle.pnp_labels.specs.declared.label.Label.{Label}
use Rattle.pnp_labels.specs.declared.states.DevState.TheVariants.{NoStack, Started, Stopped, SurpriseRemoved}
use Rattle.pnp_laws.specs.Kept.{Good, is_idle}
use Rattle.pnp_laws.specs.Due.{leads}
use Rattle.pnp_laws.proofs.Lookups.{own_serial, found_self, joined_from, joined_keeps, find_passes, some_same}
use Rattle.pnp_laws.proofs.Lists.{has_cases, those_found}
use Rattle.pnp_laws.proofs.Closures.{closed_keeps}
use Rattle.pnp_laws.proofs.Due.{below_in_set}
use Rattle.pnp_laws.proofs.Aboves.{is_above_in, due_more}
use Rattle.pnp_laws.proofs.Standing.{Tree, DueBut, waiting, StageKept, Stands, Sound, TasksUp, Told}
use Rattle.pnp_laws.proofs.IdleSteps.{Bare, First, TaskStep, gone_is, joins_is}
use Rattle.pnp_laws.proofs.TreeMoves.{tree_joined, above_joined}
use Rattle.pnp_laws.proofs.Sounds.{IsPlain, LeadsMore, leads_none, leads_pushed, up_append, up_drop, due_still, sound_still, first_stays, due_less}
use Rattle.pnp_laws.proofs.SoundStarts.{stage_none, calm_still, calm_changed, plain_alike}
use Rattle.pnp_laws.proofs.Theres.{none_there, those_there, reverse_there, leaving_there}
use Rattle.pnp_laws.proofs.Finishes.{set_is_closed, leaving_all, finishes_begun}
use Rattle.pnp_laws.proofs.Restarts.{above_told, ordered_begun}
use Rattle.pnp_model.specs.Rebalances as re
use Rattle.pnp_laws.proofs.EffectsOfOperations.{rm_ask_on}
use Rattle.pnp_model.specs.Jobs.{job_of}
use Rattle.pnp_model.specs.Removals as rm
use Rattle.pnp_model.specs.Surprises as su
use Rattle.pnp_laws.proofs.SoundRebalances as sre
use Rattle.pnp_laws.proofs.SoundRemovals as srm
use Rattle.pnp_laws.proofs.Truths.{and_both}

-- the first task, which is no surprise, is dropped
pub sound_drop : (s : State) (label : Label) (task : Task) → IsPlain label → slice_get s.tasks 0 ≡ Some task → is_surprise_task task.kind ≡ false → s.operation ≡ None → Stands s → Sound s (record { label = label; state = drop_task s })
sound_drop s label task plain first kind none h =
    calm_still s _ label plain refl refl refl none none (up_drop s.tasks h.up) (leads_none s.tasks (drop 1 s.tasks) task first kind) h

-- Listing ----------------------------------------------------------------------------------------

due_joined : (next : ℕ) (tasks more : List Task) (c : Core) (new : Node) → Tree next c → new.state ≡ NoStack → LeadsMore tasks more → DueBut [] tasks c.nodes → DueBut [] more (add_node new c).nodes
due_joined next tasks more c new tree state leads due k m at stopped =
    elim (joined_from k c.nodes new m at) [
      | inl q ↦ elim (due k m q stopped) [
        | inl h ↦ inl (due_more tasks more c.nodes (add_node new c).nodes k leads (above_joined k c new tree.rooted tree.root k m q) h)
        | inr h ↦ inr h
      ]
      | inr (q, r, u) ↦ absurd (let z : m.state ≡ NoStack = ap (λ (x : Node). x.state) r ∙ state in cc)
    ]

calm_waits : (o : Option Job) → o ≡ None → waiting o ≡ []
calm_waits o e = ap waiting e

calm_none : (s : State) → s.operation ≡ None → Stands s → DueBut [] s.tasks s.core.nodes
calm_none s none h = subst (λ (ks : List ℕ). DueBut ks s.tasks s.core.nodes) (calm_waits s.operation none) h.due

sound_join : (s : State) (node : Node) (d : Device) → joins node.born s.core.nodes d ≡ true → node_at node.serial s.core.nodes ≡ Some node → node.state ≡ Started → s.operation ≡ None → Good s.next_serial s.core.nodes s.activities None → Stands s → Sound s (join_step s node d)
sound_join s node d join at up none good h =
    let t = (join_step s node d).state in
    let new = new_child node.serial d s in
    record {
      stands = record {
        tree = tree_joined s.next_serial s.core new node good.begun good.below refl at (ap is_idle up) (joins_is node.born s.core.nodes d join).2 h.tree;
        up = up_append s.tasks (record { kind = Duty.Starting; serial = s.next_serial }) tt h.up;
        stage = stage_none s.operation t.core none;
        due =
            subst (λ (ks : List ℕ). DueBut ks t.tasks t.core.nodes) (sym (calm_waits s.operation none))
            (due_joined s.next_serial s.tasks t.tasks s.core new h.tree refl (leads_pushed s.tasks (record { kind = Duty.Starting; serial = s.next_serial })) (calm_none s none h));
      };
      walked = tt;
      first = first_stays (Label.Join s.next_serial d.path) s.core t.core tt (λ k n there gone. let stays = joined_keeps k s.core.nodes new n there in cc);
      births = λ no_join. absurd no_join;
      stays = λ no_leave k n there gone. let stays = joined_keeps k s.core.nodes new n there in cc;
    }

-- the task to start a device is dropped, and its problem set or cleared
sound_started : (s t : State) (label : Label) (node : Node) (problem : Option Problem) → IsPlain label → t.core.nodes ≡ changed_first (is_node node.serial) (with_problem problem) s.core.nodes → t.core.relations ≡ s.core.relations → t.next_serial ≡ s.next_serial → t.operation ≡ s.operation → t.tasks ≡ drop 1 s.tasks → s.operation ≡ None → Bare s node → Stands s → Sound s (record { label = label; state = t })
sound_started s t label node problem plain a b next op tasks none bare h =
    calm_changed s t label (with_problem problem) node plain a b next (op ∙ none) none (λ x. refl) bare.at (plain_alike (with_problem problem) node refl refl refl refl refl) (λ e. e)
    (subst (λ (ts : List Task). TasksUp ts) (sym tasks) (up_drop s.tasks h.up)) (leads_none s.tasks t.tasks (record { kind = Duty.Starting; serial = node.serial }) bare.first refl) h

-- Beginning an operation -----------------------------------------------------------------------------

-- the lead of a surprise goes: those that were due by it alone are the device and what stands below it
due_dropped : (tasks : List Task) (k : ℕ) (rest : List ℕ) (nodes : List Node) → slice_get tasks 0 ≡ Some (record { kind = Duty.Begins OpKind.Surprise; serial = k }) → ((i : ℕ) (n : Node) → node_at i nodes ≡ Some n → n.state ≡ Stopped → has (i ∷ above nodes i) k ≡ true → has rest i ≡ true) →
    DueBut [] tasks nodes → DueBut rest (drop 1 tasks) nodes
due_dropped tasks k rest nodes first below due i n at stopped =
    elim (due i n at stopped) [
      | inl h ↦ elim (due_less tasks (record { kind = Duty.Begins OpKind.Surprise; serial = k }) nodes i first h) [ inl q ↦ inl q | inr (kind, q) ↦ inr (below i n at stopped q) ]
      | inr h ↦ absurd (cc)
    ]

up_stopped : (s : State) → Good s.next_serial s.core.nodes s.activities None → (k : ℕ) (n : Node) → node_at k s.core.nodes ≡ Some n → n.state ≡ Stopped → k ≢ 0
up_stopped s good k n at e = λ z. let root = (good.stacks k n at).root z in cc

-- a device that is not there has nothing below it
none_below_it : (s : State) (k : ℕ) → node_at k s.core.nodes ≡ None → Good s.next_serial s.core.nodes s.activities None → Stands s → (i : ℕ) (n : Node) → node_at i s.core.nodes ≡ Some n → n.state ≡ Stopped → has (i ∷ above s.core.nodes i) k ≡ true → has [] i ≡ true
none_below_it s k gone good h i n at stopped below =
    elim (has_cases i k (above s.core.nodes i) below) [
      | inl e ↦ absurd (let there = subst (λ (x : ℕ). node_at x s.core.nodes ≡ Some n) e at in cc)
      | inr q ↦ absurd (let over = is_above_in i s.core i k n h.tree.root h.tree.rooted at (up_stopped s good i n at stopped) q in let there = over.there.1 in cc)
    ]

sound_no_surprise : (s : State) (k : ℕ) (label : Label) → IsPlain label → node_at k s.core.nodes ≡ None → slice_get s.tasks 0 ≡ Some (record { kind = Duty.Begins OpKind.Surprise; serial = k }) → s.operation ≡ None → Good s.next_serial s.core.nodes s.activities None → Stands s → Sound s (record { label = label; state = drop_task s })
sound_no_surprise s k label plain gone first none good h =
    sound_still s _ label plain refl refl refl (up_drop s.tasks h.up) (stage_none s.operation s.core none)
    (subst (λ (ks : List ℕ). DueBut ks (drop 1 s.tasks) s.core.nodes) (sym (calm_waits s.operation none))
    (due_dropped s.tasks k [] s.core.nodes first (none_below_it s k gone good h) (calm_none s none h))) h

-- an operation begins, whose task is no surprise
sound_begin : (s : State) (kind : OpKind) (node : Node) (o : Job) (task : Task) → slice_get s.tasks 0 ≡ Some task → is_surprise_task task.kind ≡ false → s.operation ≡ None → StageKept (Some o) s.core → waiting (Some o) ≡ [] → Stands s → Sound s (begin s kind node o)
sound_begin s kind node o task first surprise none stage waits h =
    sound_still s _ (Label.Begin kind node.path) tt refl refl refl (up_drop s.tasks h.up) stage
    (subst (λ (ks : List ℕ). DueBut ks (drop 1 s.tasks) s.core.nodes) (sym waits)
    (due_still [] [] s.tasks (drop 1 s.tasks) s.core.nodes s.core.nodes refl (leads_none s.tasks (drop 1 s.tasks) task first surprise) (λ k q. q) (calm_none s none h))) h

sound_rebalance : (s : State) (kind : OpKind) (node : Node) (wanted : Option Reqs) → course_of kind ≡ Course.Rebalancing → First s (Duty.Begins kind) node.serial → is_surprise_task (Duty.Begins kind) ≡ false → s.operation ≡ None → Good s.next_serial s.core.nodes s.activities None → Stands s
    → Sound s (begin s kind node (re.begun_with s.core kind node wanted))
sound_rebalance s kind node wanted course first surprise none good h =
    let r : Job = record (job_of kind node) { wanted = wanted } in
    let ks = reverse (serials_of (those re.is_asked s.core.nodes)) in
    sound_begin s kind node _ _ first surprise none
    (sre.order_ask_on r course ks s.core (ordered_begun re.is_asked s.core.nodes good.serials)
    (reverse_there (serials_of (those re.is_asked s.core.nodes)) s.core.nodes (λ i q. let f = those_found 0 re.is_asked s.core.nodes i good.serials q in (f.0, f.1)))
    (none_there s.core.nodes))
    (sre.waits_ask_on r course ks) h

sound_removal : (s : State) (kind : OpKind) (node : Node) (task : Task) → course_of kind ≡ Course.Removing → slice_get s.tasks 0 ≡ Some task → is_surprise_task task.kind ≡ false → node_at node.serial s.core.nodes ≡ Some node → s.operation ≡ None → Good s.next_serial s.core.nodes s.activities None → Stands s →
    Sound s (begin s kind node (rm.begun_removal s.core kind node))
sound_removal s kind node task course first surprise at none good h =
    let set = leaving s.core node.serial in
    let o : Job = record (job_of kind node) { set = set; ejecting = map (λ (r : Relation). r.member) (those (rm.is_ejecting set) s.core.relations) } in
    let asked = those (λ k. rm.is_queried_node (node_at k s.core.nodes)) set in
    sound_begin s kind node _ task first surprise none
    (srm.order_ask_on s.core.nodes o course asked s.core (finishes_begun s.next_serial s.core node.serial node good.serials h.tree at)
    (those_there (λ k. rm.is_queried_node (node_at k s.core.nodes)) set s.core.nodes (leaving_there s.next_serial s.core node.serial node good.serials h.tree at))
    (leaving_there s.next_serial s.core node.serial node good.serials h.tree at)) (srm.removal_waits o _ course (rm_ask_on s.core.nodes o asked)) h

-- what stands below the device of a surprise is in its set
below_it : (s : State) (k : ℕ) (node : Node) → node_at k s.core.nodes ≡ Some node → Good s.next_serial s.core.nodes s.activities None → Stands s → (i : ℕ) (n : Node) → node_at i s.core.nodes ≡ Some n → n.state ≡ Stopped → has (i ∷ above s.core.nodes i) k ≡ true → has (leaving s.core k) i ≡ true
below_it s k node at_k good h i n at stopped below =
    let own : has (k ∷ []) k ≡ true = grind (arith, nat_tests) in
    let in_set = closed_keeps s.core (k ∷ []) k node good.serials at_k own in
    leaving_all h.tree.rank s.core k i good.serials h.tree.ranked
    (elim (has_cases i k (above s.core.nodes i) below) [
      | inl e ↦ subst (λ (x : ℕ). has (set_of s.core k) x ≡ true) (sym e) in_set
      | inr q ↦ below_in_set i s.core i k n (set_is_closed s.core k node good.serials at_k) in_set at h.tree.root h.tree.rooted (omega arith) q (up_stopped s good i n at stopped)
    ])

sound_surprise : (s : State) (node : Node) (k : ℕ) → slice_get s.tasks 0 ≡ Some (record { kind = Duty.Begins OpKind.Surprise; serial = k }) → node_at k s.core.nodes ≡ Some node → s.operation ≡ None → Good s.next_serial s.core.nodes s.activities None → Stands s →
    Sound s (begin s OpKind.Surprise node (su.begun_surprise s.core node))
sound_surprise s node k first at none good h =
    let own = own_serial k node s.core.nodes at in
    let set = leaving s.core node.serial in
    let o : Job = record (job_of OpKind.Surprise node) { set = set; told = those (λ k. was_told (node_at k s.core.nodes)) set } in
    let told = those (λ k. su.is_told_node (node_at k s.core.nodes)) set in
    sound_still s _ (Label.Begin OpKind.Surprise node.path) tt refl refl refl (up_drop s.tasks h.up)
    (srm.order_tell_on o refl told s.core refl (finishes_begun s.next_serial s.core node.serial node good.serials h.tree (found_self k s.core.nodes node at))
    (those_there (λ k. su.is_told_node (node_at k s.core.nodes)) set s.core.nodes (leaving_there s.next_serial s.core node.serial node good.serials h.tree (found_self k s.core.nodes node at)))
    (leaving_there s.next_serial s.core node.serial node good.serials h.tree (found_self k s.core.nodes node at))
    (leaving_all h.tree.rank s.core node.serial node.serial good.serials h.tree.ranked (closed_keeps s.core (node.serial ∷ []) node.serial node good.serials (found_self k s.core.nodes node at) (grind (arith, nat_tests)))))
    (subst (λ (ks : List ℕ). DueBut ks (drop 1 s.tasks) s.core.nodes) (sym (srm.waits_tell_on o refl told))
    (due_dropped s.tasks k set s.core.nodes first
    (λ i n there stopped below. subst (λ (x : ℕ). has (leaving s.core x) i ≡ true) (sym own) (below_it s k node at good h i n there stopped below)) (calm_none s none h))) h

-- a device that waits to be finished has no Stopped device below it
none_below_told : (s : State) (node : Node) (k : ℕ) → node_at k s.core.nodes ≡ Some node → node.state ≡ SurpriseRemoved → Told s.core → Stands s → (i : ℕ) (n : Node) → node_at i s.core.nodes ≡ Some n → n.state ≡ Stopped → has (i ∷ above s.core.nodes i) k ≡ true → has [] i ≡ true
none_below_told s node k at state told h i n there stopped below =
    elim (has_cases i k (above s.core.nodes i) below) [
      | inl e ↦ absurd (
          let one = some_same (node_at k s.core.nodes) node n at (subst (λ (x : ℕ). node_at x s.core.nodes ≡ Some n) e there) in
          let other = subst (λ (x : Node). x.state ≡ SurpriseRemoved) one state in
          cc)
      | inr q ↦ absurd (above_told i s.core i k n h.tree.root h.tree.rooted told there (λ z. cc) q node at state)
    ]

-- the surprise of a device that was told already is dropped
sound_told : (s : State) (node : Node) → First s (Duty.Begins OpKind.Surprise) node.serial → node_at node.serial s.core.nodes ≡ Some node → node.state ≡ SurpriseRemoved → s.operation ≡ None → Told s.core → Stands s → Sound s (skip (Duty.Begins OpKind.Surprise) node.serial s)
sound_told s node first at state none told h =
    sound_still s _ _ tt refl refl refl (up_drop s.tasks h.up) (stage_none s.operation s.core none)
    (subst (λ (ks : List ℕ). DueBut ks (drop 1 s.tasks) s.core.nodes) (sym (calm_waits s.operation none))
    (due_dropped s.tasks node.serial [] s.core.nodes first (none_below_told s node node.serial at state told h) (calm_none s none h))) h

-- The cases ------------------------------------------------------------------------------------

pub sound_task : (s : State) (step : Step) → s.operation ≡ None → Good s.next_serial s.core.nodes s.activities None → Told s.core → Stands s → TaskStep s step → Sound s step
sound_task s _ none good told h (TaskStep.skips kind k j first calm) = sound_drop s _ _ tt first calm none h
sound_task s _ none good told h (TaskStep.misses k first gone) = sound_no_surprise s k _ tt gone first none good h
sound_task s _ none good told h (TaskStep.told node first at state) = sound_told s node first at state none told h
sound_task s _ none good told h (TaskStep.lists k node first) = sound_drop s _ _ tt first refl none h
sound_task s _ none good told h (TaskStep.finds_gone node child gone) =
    let is = (gone_is s node.serial child good.serials gone).1 in
    let up = (and_both (child.parent == node.serial) (not (child.serial == 0)) is).1 in
    calm_still s _ _ tt refl refl refl none none (up_append s.tasks (record { kind = Duty.Begins OpKind.Surprise; serial = child.serial }) (grind (arith, nat_tests)) h.up) (leads_pushed s.tasks _) h
sound_task s _ none good told h (TaskStep.joins node d at up below) = sound_join s node d (find_passes (joins node.born s.core.nodes) s.world d below) at up none good h
sound_task s _ none good told h (TaskStep.troubles node problem b fine) = sound_started s _ (Label.Trouble node.path problem) node (Some problem) tt refl refl refl refl refl none b h
sound_task s _ none good told h (TaskStep.installs node rank driver drivers b chosen) = sound_started s _ _ node None tt refl refl refl refl refl none b h
sound_task s _ none good told h (TaskStep.begins OpKind.Rebalance node first alone at fits) = sound_rebalance s OpKind.Rebalance node None refl first refl none good h
sound_task s _ none good told h (TaskStep.begins OpKind.Disable node first alone at fits) = sound_removal s OpKind.Disable node _ refl first refl at none good h
sound_task s _ none good told h (TaskStep.begins OpKind.Eject node first alone at fits) = sound_removal s OpKind.Eject node _ refl first refl at none good h
sound_task s _ none good told h (TaskStep.begins OpKind.Surprise node first alone at fits) = sound_surprise s node node.serial first at none good h
sound_task s _ none good told h (TaskStep.begins OpKind.Finish node first alone at fits) = sound_begin s OpKind.Finish node _ _ first refl none (tt, tt) refl h
sound_task s _ none good told h (TaskStep.begins OpKind.Change node first alone at fits) = sound_rebalance s OpKind.Change node (Some _) refl first refl none good h
