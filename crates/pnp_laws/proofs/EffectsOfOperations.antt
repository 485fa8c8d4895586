-- What a step of an operation does.
use Rattle.std.proofs.lemmas.Bool.Decides.{nat_tests}
use Rattle.std.proofs.Common.{ℕ, ◌≡◌, ◌⊎◌, inl, inr, Bool, true, false, ◌&&◌, List, [], ◌∷◌, ◌++◌, length, map, reverse, Option, Some, None, refl, ap, ◌∙◌, arith, ◌==◌, sym, subst, if◌then◌else◌}
use Rattle.resource_reqs.specs.Resources.{Res, Reqs}
use Rattle.resource_reqs.specs.Spelling.Answer.{assignment, no_fit, spent}
use Rattle.pnp_labels.specs.Texts.{Text}
use Rattle.pnp_labels.specs.declared.states.Problem.{Problem}
use Rattle.pnp_labels.specs.declared.words.Answer.{Answer}
use Rattle.pnp_labels.specs.declared.words.Minor.{Minor}
use Rattle.pnp_labels.specs.declared.label.OpKind.{OpKind}
use Rattle.pnp_labels.specs.declared.label.OpEnd.{OpEnd}
use Rattle.pnp_labels.specs.declared.label.Label.{Label}
use Rattle.pnp_model.specs.Cores.{is_node, node_at, serials_of, stack_of}
use Rattle.pnp_model.specs.Frames.{ended, first_node, rest, state_label}
use Rattle.pnp_model.specs.Keyed.{those, without_first}
use Rattle.pnp_model.specs.Records.{Core, Course, Duty, Found, Handle, Job, Node, Phase, Relation, Stage, State, Step, Task, Walk, course_of}
use Rattle.pnp_model.specs.Runs.Entry.{Did}
use Rattle.pnp_model.specs.States.{begin_activity, device_born, relist, set_operation, unplug, with_core}
use Rattle.pnp_model.specs.Trees.{leaving, stands_up}
use Rattle.pnp_model.specs.Handles.{was_told}
use Rattle.pnp_model.specs.Walks.{after, has_ended, is_bad, may_fail, walk_of}
use Rattle.pnp_laws.specs.Words.{IsBeside, NoVeto, EndsBy, is_removal, joined, spared}
use Rattle.pnp_laws.specs.Effects.{ActivityEffect, Alters, Closes, ClosesIn, ClosesRebalance, Conflicts, DriverEffect, Effect, Enters, HandleEffect, IsUnasked, JoinEffect, NodeEffect, OpEffect, Origin, PathEffect, RangeEffect, Request, Running, SameWork, TaskEffect, Turn, WindowEffect, WorldEffect, begun, ends_bad, leaving_in, required, to_leave}
use Rattle.pnp_laws.proofs.EffectsOfStarts.{Changes, Steps, asks, inside, lasting, quiet_label, same_handles, same_paths, same_windows, still, strips, walks}
use Rattle.pnp_laws.proofs.Finishing.{Listed, relist_only}
use Rattle.pnp_laws.proofs.Lists.{head_found}
use Rattle.pnp_laws.proofs.Stages.{ActStep, Asks, Ends, FinishAct, JobStep, RebalanceAct, RemovalAct, SurpriseAct, TakenStep, asking, reply}
use Rattle.pnp_model.specs.Jobs as jobs
use Rattle.pnp_model.specs.Jobs.{Beside, JobMove, each_gets, job_of, moves, stands}
use Rattle.pnp_model.specs.Events as ev
use Rattle.pnp_model.specs.Machine as ma
use Rattle.pnp_model.specs.Rebalances as re
use Rattle.pnp_model.specs.Removals as rm
use Rattle.pnp_model.specs.Surprises as su
use Rattle.pnp_model.specs.Finishes as fi

-- Kind and path stay ------------------------------------------------------------------

-- the same kind, for the same device, and the same devices refused
pub record SameFrame (r p : Job) : Type 0 where
  pub work : SameWork r p
  pub target : p.target ≡ r.target
  pub refused : p.refused ≡ r.refused

-- so it is where each of some devices gets a request
pub each_same : (minor : Minor) (stage : Stage) (j over : Job) (ks : List ℕ) → SameFrame j over → SameFrame j (each_gets minor stage j ks over)
each_same minor stage j over [] same = same
each_same minor stage j over (k ∷ ks) same = record { work = record { kind = refl; path = refl; spared = refl; wanted = refl }; target = refl; refused = refl }

pub re_cancel_on : (r : Job) (ks : List ℕ) → SameFrame r (re.cancel_on r ks)
re_cancel_on r ks = each_same Minor.CancelStop Stage.Cancelling r (stands r [] (re.cancelled r.wanted)) ks (record { work = record { kind = refl; path = refl; spared = refl; wanted = refl }; target = refl; refused = refl })

re_search_on : (r : Job) (refused : Bool) → SameFrame r (if refused then re.cancel_on r r.agreed else stands r [] Stage.Searching)
re_search_on r false = record { work = record { kind = refl; path = refl; spared = refl; wanted = refl }; target = refl; refused = refl }
re_search_on r true = re_cancel_on r r.agreed

pub re_ask_on : (r : Job) (ks : List ℕ) → SameFrame r (re.ask_on r ks)
re_ask_on r ks = each_same Minor.QueryStop Stage.Asking r (if re.has_refused r then re.cancel_on r r.agreed else stands r [] Stage.Searching) ks (re_search_on r (re.has_refused r))

pub re_stop_on : (r : Job) (ks : List ℕ) → SameFrame r (re.stop_on r ks)
re_stop_on r ks = each_same Minor.Stop Stage.Stopping r (stands r [] Stage.Committing) ks (record { work = record { kind = refl; path = refl; spared = refl; wanted = refl }; target = refl; refused = refl })

pub re_restart : (r : Job) (ks : List ℕ) → SameFrame r (each_gets Minor.Start Stage.Restarting r ks (stands r [] Stage.Ending))
re_restart r ks = each_same Minor.Start Stage.Restarting r (stands r [] Stage.Ending) ks (record { work = record { kind = refl; path = refl; spared = refl; wanted = refl }; target = refl; refused = refl })

rm_finish_with : (o : Job) (todo stack : List ℕ) → SameWork o (rm.finish_with o todo stack)
rm_finish_with o todo [] = record { kind = refl; path = refl; spared = refl; wanted = refl }
rm_finish_with o todo (d ∷ ds) = record { kind = refl; path = refl; spared = refl; wanted = refl }

pub rm_finish_on : (nodes : List Node) (o : Job) (ks : List ℕ) → SameWork o (rm.finish_on nodes o ks)
rm_finish_on nodes o [] = record { kind = refl; path = refl; spared = refl; wanted = refl }
rm_finish_on nodes o (k ∷ ks) = rm_finish_with o (k ∷ ks) (stack_of (node_at k nodes))

pub rm_ask_on : (nodes : List Node) (o : Job) (ks : List ℕ) → SameWork o (rm.ask_on nodes o ks)
rm_ask_on nodes o [] = rm_finish_on nodes o o.set
rm_ask_on nodes o (k ∷ ks) = record { kind = refl; path = refl; spared = refl; wanted = refl }

pub rm_cancel_on : (o : Job) (ks : List ℕ) → SameWork o (rm.cancel_on o ks)
rm_cancel_on o ks = (each_same Minor.CancelRemove Stage.Cancelling o (stands o [] Stage.Ending) ks (record { work = record { kind = refl; path = refl; spared = refl; wanted = refl }; target = refl; refused = refl })).work

pub su_finish_on : (o : Job) (ks : List ℕ) → SameFrame o (su.finish_on o ks)
su_finish_on o [] = record { work = record { kind = refl; path = refl; spared = refl; wanted = refl }; target = refl; refused = refl }
su_finish_on o (k ∷ ks) = record { work = record { kind = refl; path = refl; spared = refl; wanted = refl }; target = refl; refused = refl }

pub su_tell_on : (o : Job) (ks : List ℕ) → SameWork o (su.tell_on o ks)
su_tell_on o ks = (each_same Minor.SurpriseRemoval Stage.Telling o (su.finish_on o o.set) ks (su_finish_on o o.set)).work

pub fi_settle_on : (f : Job) (leaving : Bool) (problem : Option Problem) → SameWork f (fi.settle_on f leaving problem)
fi_settle_on f true problem = record { kind = refl; path = refl; spared = refl; wanted = refl }
fi_settle_on f false None = record { kind = refl; path = refl; spared = refl; wanted = refl }
fi_settle_on f false (Some problem) = record { kind = refl; path = refl; spared = refl; wanted = refl }

-- The operation that begins is of its kind and for its device

abbrev BegunFor : OpKind → Node → Job → Type 0
BegunFor kind node o = (o.kind ≡ kind) × (o.path ≡ node.path)

removal_work : (c : Core) (kind : OpKind) (node : Node) (set : List ℕ) → BegunFor kind node (rm.begun_with c kind node set)
removal_work c kind node set =
    let work = rm_ask_on c.nodes (record (job_of kind node) { set = set; ejecting = map (λ (r : Relation). r.member) (those (rm.is_ejecting set) c.relations) }) (those (λ k. rm.is_queried_node (node_at k c.nodes)) set) in
    (work.kind, work.path)

rebalance_work : (c : Core) (kind : OpKind) (node : Node) (wanted : Option Reqs) → BegunFor kind node (re.begun_with c kind node wanted)
rebalance_work c kind node wanted =
    let work = (re_ask_on (record (job_of kind node) { wanted = wanted }) (reverse (serials_of (those re.is_asked c.nodes)))).work in
    (work.kind, work.path)

abbrev surprise_begins : Core → Node → Job
surprise_begins c node =
    record (job_of OpKind.Surprise node) { set = leaving c node.serial; told = those (λ k. was_told (node_at k c.nodes)) (leaving c node.serial) }

surprise_work : (c : Core) (node : Node) → SameWork (surprise_begins c node) (su.begun_surprise c node)
surprise_work c node = su_tell_on (surprise_begins c node) (those (λ k. su.is_told_node (node_at k c.nodes)) (leaving c node.serial))

pub begun_work : (s : State) (kind : OpKind) (node : Node) → BegunFor kind node (begun s kind node)
begun_work s OpKind.Rebalance node = rebalance_work s.core OpKind.Rebalance node None
begun_work s OpKind.Disable node = removal_work s.core OpKind.Disable node (leaving s.core node.serial)
begun_work s OpKind.Eject node = removal_work s.core OpKind.Eject node (leaving s.core node.serial)
begun_work s OpKind.Surprise node = let work = surprise_work s.core node in (work.kind, work.path)
begun_work s OpKind.Finish node = (refl, refl)
begun_work s OpKind.Change node = rebalance_work s.core OpKind.Change node (Some (required s node (device_born node.born s.world)))

-- A surprise removal begins for the device with all that depends on it
pub begun_spared : (c : Core) (node : Node) → spared (su.begun_surprise c node) ≡ leaving c node.serial
begun_spared c node = (surprise_work c node).spared

own_number : (j k : ℕ) → (j == k) ≡ true → j ≡ k
own_number j k h = grind (arith, nat_tests)

-- An operation that runs, its next device taken -------------------------------------------

pub turn_work : (s : State) (o p : Job) → Turn s o p → SameWork o p
turn_work s o _ (Turn.same p) = record { kind = refl; path = refl; spared = refl; wanted = refl }
turn_work s _ _ (Turn.queries o node course is none first asked) = record { kind = refl; path = refl; spared = refl; wanted = refl }
turn_work s _ _ (Turn.removes o node d ds course is none first goes stack) = record { kind = refl; path = refl; spared = refl; wanted = refl }
turn_work s _ _ (Turn.settles o node course is none first goes stack) = record { kind = refl; path = refl; spared = refl; wanted = refl }
turn_work s _ _ (Turn.finishes f k node course is none ready at) = record { kind = refl; path = refl; spared = refl; wanted = refl }

work_after : (a b c : Job) → SameWork a b → SameWork b c → SameWork a c
work_after a b c h g =
    record { kind = g.kind ∙ h.kind; path = g.path ∙ h.path; spared = g.spared ∙ h.spared; wanted = g.wanted ∙ h.wanted }

-- a rebalance takes no turn, and no removal turns to one that settles
pub turns_from : (s : State) (p : Job) (r : Job) → course_of r.kind ≡ Course.Rebalancing → Turn s p r → p ≡ r
turns_from s _ r course (Turn.same _) = refl
turns_from s _ _ course (Turn.queries o node other is none first asked) = absurd (cc)
turns_from s _ _ course (Turn.removes o node d ds other is none first goes stack) = absurd (cc)
turns_from s _ _ course (Turn.settles o node other is none first goes stack) = absurd (cc)
turns_from s _ _ course (Turn.finishes f k node other is none ready at) = absurd (cc)

pub rebalance_stays : (s : State) (r : Job) (p : Job) → course_of r.kind ≡ Course.Rebalancing → Turn s r p → p ≡ r
rebalance_stays s r _ course (Turn.same _) = refl
rebalance_stays s _ _ course (Turn.queries o node other is none first asked) = absurd (cc)
rebalance_stays s _ _ course (Turn.removes o node d ds other is none first goes stack) = absurd (cc)
rebalance_stays s _ _ course (Turn.settles o node other is none first goes stack) = absurd (cc)
rebalance_stays s _ _ course (Turn.finishes f k node other is none ready at) = absurd (cc)

pub rebalance_step_is : (s : State) (r : Job) (step : Step) → course_of r.kind ≡ Course.Rebalancing → TakenStep s r step → JobStep s r step
rebalance_step_is s r step course taken = subst (λ (x : Job). JobStep s x step) (rebalance_stays s r taken.now course taken.turn) taken.is

pub turns_settling : (s : State) (p : Job) (o : Job) → course_of o.kind ≡ Course.Removing → o.stage ≡ Stage.Settling → Turn s p o → p ≡ o
turns_settling s _ o course is (Turn.same _) = refl
turns_settling s _ _ course is (Turn.queries o node other next none first asked) = absurd (cc)
turns_settling s _ _ course is (Turn.removes o node d ds other next none first goes stack) = absurd (cc)
turns_settling s _ _ course is (Turn.settles o node other next none first goes stack) = absurd (cc)
turns_settling s _ _ course is (Turn.finishes f k node other next none ready at) = absurd (cc)

pub as_it_runs : (s : State) (o : Job) → s.operation ≡ Some o → Running s o
as_it_runs s o runs = record { before = o; runs = runs; turn = Turn.same o }

pub rebalance_runs : (s : State) (r : Job) → course_of r.kind ≡ Course.Rebalancing → Running s r → s.operation ≡ Some r
rebalance_runs s r course h = h.runs ∙ ap Some (turns_from s h.before r course h.turn)

pub settling_runs : (s : State) (o : Job) → course_of o.kind ≡ Course.Removing → o.stage ≡ Stage.Settling → Running s o → s.operation ≡ Some o
settling_runs s o course is h = h.runs ∙ ap Some (turns_settling s h.before o course is h.turn)

module _ (s : State) (o : Job) (running : Running s o) where
  -- it goes on
  goes : (label : Label) (t : State) (p : Job) → t.operation ≡ Some p → SameWork o p → IsBeside label → OpEffect s label t
  goes label t p now work beside = OpEffect.goes running.before p running.runs now (work_after running.before o p (turn_work s running.before o running.turn) work) (inl beside)

  -- it goes on
  on : (label : Label) (t : State) (p : Job) → t.world ≡ s.world → t.next_born ≡ s.next_born → lasting t ≡ lasting s → t.core.reserved ≡ s.core.reserved → t.next_serial ≡ s.next_serial → t.activities ≡ s.activities
      → t.operation ≡ Some p → SameWork o p → IsBeside label → joined label ≡ 0 → Changes s label t → TaskEffect s t → Steps s (record { label = label; state = t })
  on label t p world born last ranges serial activities now work beside quiet nodes tasks =
      inside s label t world born last ranges serial quiet nodes (goes label t p now work beside) (ActivityEffect.same activities) tasks

  closes : (label : Label) (t : State) (result : OpEnd) → t.world ≡ s.world → t.next_born ≡ s.next_born → lasting t ≡ lasting s → t.core ≡ s.core → t.next_serial ≡ s.next_serial → t.tasks ≡ s.tasks → t.operation ≡ None
      → label ≡ Label.End o.kind o.path result → EndsBy (is_removal (course_of o.kind)) result → IsUnasked label → joined label ≡ 0 → Closes s o t → ActivityEffect s t → Steps s (record { label = label; state = t })
  closes label t result world born last core serial tasks now is by unasked quiet over activities =
      inside s label t world born last (ap (λ (c : Core). c.reserved) core) serial quiet (still s label t unasked (ap (λ (c : Core). c.rack) core) (NodeEffect.same (ap (λ (c : Core). c.nodes) core) (ap (λ (c : Core). c.relations) core))) (OpEffect.ends o result running now is by over) activities (TaskEffect.same tasks)

-- a device leaves, and the node above it may be listed again
module _ (s u : State) (o p : Job) (running : Running s o) (node : Node) (first : first_node s.core.nodes (to_leave o) ≡ Some node) (label : Label) (beside : IsBeside label) (unasked : IsUnasked label) (quiet : joined label ≡ 0)
    (work : SameWork o p) (now : u.operation ≡ Some p) (world : WorldEffect s (Did label) u) (last : lasting u ≡ lasting s) (serial : u.next_serial ≡ s.next_serial)
    (activities : u.activities ≡ s.activities) (tasks : u.tasks ≡ s.tasks) (nodes : u.core.nodes ≡ without_first (is_node node.serial) s.core.nodes) (relations : u.core.relations ≡ s.core.relations) (ranges : u.core.reserved ≡ s.core.reserved) (rack : u.core.rack ≡ s.core.rack) where
  by_world : (t : State) → t.world ≡ u.world → t.next_born ≡ u.next_born → WorldEffect s (Did label) u → WorldEffect s (Did label) t
  by_world t a b (WorldEffect.same c d) = WorldEffect.same (a ∙ c) (b ∙ d)
  by_world t a b (WorldEffect.plugged d plug c e) = WorldEffect.plugged d plug (a ∙ c) (b ∙ e)
  by_world t a b (WorldEffect.changed n path reqs label at up is there event c d) = WorldEffect.changed n path reqs label at up is there event (a ∙ c) (b ∙ d)
  by_world t a b (WorldEffect.unplugged born unplug c d) = WorldEffect.unplugged born unplug (a ∙ c) (b ∙ d)

  listed : (t : State) → Listed u.tasks t.tasks → TaskEffect s t
  listed t (inl e) = TaskEffect.same (e ∙ tasks)
  listed t (inr (k, e)) = TaskEffect.appended (record { kind = Duty.Listing; serial = k }) (Origin.lists k) (e ∙ ap (λ (ts : List Task). ts ++ record { kind = Duty.Listing; serial = k } ∷ []) tasks)

  leaves : (path : Text) (born : ℕ) → Effect s (Did label) (relist path born u)
  leaves path born =
      let only = relist_only path born u in
      record {
        nodes = NodeEffect.left node o running first (ap (λ (c : Core). c.nodes) only.core ∙ nodes) (ap (λ (c : Core). c.relations) only.core ∙ relations);
        drivers = DriverEffect.same unasked (ap (λ (c : Core). c.rack) only.core ∙ rack);
        ranges = RangeEffect.same (ap (λ (c : Core). c.reserved) only.core ∙ ranges);
        operation = goes s o running label (relist path born u) p (only.operation ∙ now) work beside;
        activities = ActivityEffect.same (only.activities ∙ activities);
        tasks = listed (relist path born u) only.tasks;
        world = by_world (relist path born u) only.world only.births world;
        paths = PathEffect.same (only.paths ∙ same_paths s u last);
        windows = WindowEffect.same (only.windows ∙ same_windows s u last);
        handles = HandleEffect.same (only.handles ∙ same_handles s u last);
        joins = JoinEffect.none (quiet_label label quiet);
        serial = let e = only.serial in omega arith;
      }

-- A request ends --------------------------------------------------------------------------

ended_reserved : (c : Core) (node : Node) (minor : Minor) (bad : Bool) → (ended c node minor bad).reserved ≡ c.reserved
ended_reserved c node Minor.Start bad = refl
ended_reserved c node Minor.QueryRemove bad = refl
ended_reserved c node Minor.Remove bad = refl
ended_reserved c node Minor.CancelRemove bad = refl
ended_reserved c node Minor.Stop bad = refl
ended_reserved c node Minor.QueryStop bad = refl
ended_reserved c node Minor.CancelStop bad = refl
ended_reserved c node Minor.SurpriseRemoval bad = refl

-- only a request that may fail ends badly
bad_twice : (may failed : Bool) → (may && (may && failed)) ≡ (may && failed)
bad_twice true failed = refl
bad_twice false failed = refl

module _ (s : State) (node : Node) (at : node_at node.serial s.core.nodes ≡ Some node) (w : Walk) (over : has_ended w (length node.stack) ≡ true) (p : Job) where
  ended_changes : (minor : Minor) (bad : Bool) → Request s node minor w → ends_bad minor w ≡ bad
      → Changes s (state_label node minor bad) (set_operation (Some p) (with_core (ended s.core node minor bad) s))
  ended_changes Minor.Start bad request verdict = walks s node Minor.Start w bad at request (λ q. cc) over verdict _ _ refl refl refl refl
  ended_changes Minor.QueryRemove bad request verdict = walks s node Minor.QueryRemove w bad at request (λ q. cc) over verdict _ _ refl refl refl refl
  ended_changes Minor.Remove bad request verdict = strips s node w at request over _ _ refl refl refl refl
  ended_changes Minor.CancelRemove bad request verdict = walks s node Minor.CancelRemove w bad at request (λ q. cc) over verdict _ _ refl refl refl refl
  ended_changes Minor.Stop bad request verdict = walks s node Minor.Stop w bad at request (λ q. cc) over verdict _ _ refl refl refl refl
  ended_changes Minor.QueryStop bad request verdict = walks s node Minor.QueryStop w bad at request (λ q. cc) over verdict _ _ refl refl refl refl
  ended_changes Minor.CancelStop bad request verdict = walks s node Minor.CancelStop w bad at request (λ q. cc) over verdict _ _ refl refl refl refl
  ended_changes Minor.SurpriseRemoval bad request verdict = walks s node Minor.SurpriseRemoval w bad at request (λ q. cc) over verdict _ _ refl refl refl refl

module _ (c : Core) (o : Job) (node : Node) (p : Job) where
  -- how the operation stands then, it is the same
  by_end : (q : Job) → SameWork o q → Some q ≡ Some p → SameWork o p
  by_end q work e = let same : q ≡ p = cc in subst (λ (x : Job). SameWork o x) same work

  stop_answers : (bad : Bool) → SameWork o (re.answers o node bad)
  stop_answers true = record { kind = refl; path = refl; spared = refl; wanted = refl }
  stop_answers false = let work = (re_ask_on (record o { agreed = node.serial ∷ o.agreed }) (rest o.todo)).work in record { kind = work.kind; path = work.path; spared = work.spared; wanted = work.wanted }

  after_restart : (bad : Bool) → SameWork o (re.after_restart c o node bad)
  after_restart true = record { kind = refl; path = refl; spared = refl; wanted = refl }
  after_restart false = (re_restart o (re.startable (ended c node Minor.Start false).nodes (rest o.todo))).work

  remove_answers : (bad : Bool) → SameWork o (rm.answers c o node bad)
  remove_answers true = record { kind = refl; path = refl; spared = refl; wanted = refl }
  remove_answers false = let work = rm_ask_on c.nodes (record o { agreed = node.serial ∷ o.agreed }) (rest o.todo) in record { kind = work.kind; path = work.path; spared = work.spared; wanted = work.wanted }

  after_rebalance : (bad : Bool) (stage : Stage) → re.after_end c o node bad stage ≡ Some p → SameWork o p
  after_rebalance bad Stage.Asking e = by_end _ (stop_answers bad) e
  after_rebalance bad Stage.TakingBack e = by_end _ (re_ask_on o (those (re.is_not_above c.nodes node.serial) (rest o.todo))).work e
  after_rebalance bad Stage.Cancelling e = by_end _ (re_cancel_on o (rest o.todo)).work e
  after_rebalance bad Stage.Stopping e = by_end _ (re_stop_on o (rest o.todo)).work e
  after_rebalance bad Stage.Restarting e = by_end _ (after_restart bad) e
  after_rebalance bad _ e = absurd (cc)

  after_removal : (bad : Bool) (stage : Stage) → rm.after_end c o node bad stage ≡ Some p → SameWork o p
  after_removal bad Stage.Asking e = by_end _ (remove_answers bad) e
  after_removal bad Stage.TakingBack e = by_end _ (rm_cancel_on o o.agreed) e
  after_removal bad Stage.Cancelling e = by_end _ (rm_cancel_on o (rest o.todo)) e
  after_removal bad Stage.Removing e = by_end _ (record { kind = refl; path = refl; spared = refl; wanted = refl }) e
  after_removal bad _ e = absurd (cc)

  after_surprise : (stage : Stage) → su.after_end o stage ≡ Some p → SameWork o p
  after_surprise Stage.Telling e = by_end _ (su_tell_on o (rest o.todo)) e
  after_surprise Stage.Removing e = by_end _ (record { kind = refl; path = refl; spared = refl; wanted = refl }) e
  after_surprise _ e = absurd (cc)

  after_finish : (back : Bool) (stage : Stage) → fi.after_end c o node back stage ≡ Some p → SameWork o p
  after_finish back Stage.Removing e = by_end _ (fi_settle_on o (fi.is_leaving c.nodes node back) node.problem) e
  after_finish back _ e = absurd (cc)

  after_work : (back bad : Bool) (course : Course) → ma.after_end c o back node bad course ≡ Some p → SameWork o p
  after_work back bad Course.Rebalancing e = after_rebalance bad o.stage e
  after_work back bad Course.Removing e = after_removal bad o.stage e
  after_work back bad Course.Surprising e = after_surprise o.stage e
  after_work back bad Course.Finishing e = after_finish back o.stage e

ends_effect : (s : State) (o : Job) (running : Running s o) (node : Node) (w : Walk) (p : Job) → Ends s.core o node w → ma.after_end s.core o (ma.is_back s o (course_of o.kind)) node (is_bad w) (course_of o.kind) ≡ Some p
    → Steps s (ma.job_lifted s (jobs.ends s.core node w p))
ends_effect s o running node w p e after =
    on s o running _ _ p refl refl refl (ended_reserved s.core node w.minor (is_bad w)) refl refl refl (after_work s.core o node p (ma.is_back s o (course_of o.kind)) (is_bad w) (course_of o.kind) after) tt refl
    (ended_changes s node (head_found s.core.nodes o.todo node e.first).1 w e.ended p w.minor (is_bad w) (Request.operates w (record { operation = o; runs = running; first = e.first; walk = e.walk })) (bad_twice (may_fail w.minor) w.failed))
    (TaskEffect.same refl)

-- An ask leaves all but the walk -----------------------------------------------------------

pub completed_work : (answer : Answer) (o : Job) → SameWork o (ev.completed answer o)
completed_work answer o = record { kind = refl; path = refl; spared = refl; wanted = refl }

asks_effect : (s : State) (o : Job) (running : Running s o) (node : Node) (w : Walk) → Asks s o node w → Steps s (asking s o node w)
asks_effect s o running node w a =
    on s o running _ _ (record o { walk = Some (after w (reply s.core node w)) }) refl refl refl refl refl refl refl (record { kind = refl; path = refl; spared = refl; wanted = refl }) tt refl
    (asks s node w (head_found s.core.nodes o.todo node a.first).1 a.more _ _ _ refl refl refl refl) (TaskEffect.same refl)

-- Rebalance -----------------------------------------------------------------------------

module _ (s : State) (o : Job) (running : Running s o) where
  -- the operation goes on, and nothing is to be done beside
  job_on : (label : Label) (c : Core) (p : Job) → c.reserved ≡ s.core.reserved → SameWork o p → IsBeside label → joined label ≡ 0
      → Changes s label (set_operation (Some p) (with_core c s)) → Steps s (ma.job_lifted s (moves label c p))
  job_on label c p ranges work beside quiet nodes =
      on s o running label _ p refl refl refl ranges refl refl refl work beside quiet nodes (TaskEffect.same refl)

module _ (s : State) (r : Job) (running : Running s r) (course : course_of r.kind ≡ Course.Rebalancing) where
  runs : s.operation ≡ Some r
  runs = rebalance_runs s r course running

  re_searches : (found : Found) → Steps s (ma.job_lifted s (re.searched s.core r found))
  re_searches (assignment plan) =
      let work = (re_stop_on (record r { found = assignment plan }) (reverse r.agreed)).work in
      job_on s r running _ _ _ refl (record { kind = work.kind; path = work.path; spared = work.spared; wanted = work.wanted }) tt refl (still s _ _ tt refl (NodeEffect.same refl refl))
  re_searches no_fit =
      let work = (re_cancel_on (record r { found = no_fit }) r.agreed).work in
      job_on s r running _ _ _ refl (record { kind = work.kind; path = work.path; spared = work.spared; wanted = work.wanted }) tt refl (still s _ _ tt refl (NodeEffect.same refl refl))
  re_searches spent =
      let work = (re_cancel_on (record r { found = spent }) r.agreed).work in
      job_on s r running _ _ _ refl (record { kind = work.kind; path = work.path; spared = work.spared; wanted = work.wanted }) tt refl (still s _ _ tt refl (NodeEffect.same refl refl))

  -- where nothing is found, problem 12 is printed, or that the budget is spent
  stuck_label : r.stage ≡ Stage.Stuck → (found : Found) → IsBeside (Label.Trouble r.path (re.trouble_of found)) ⊎ Conflicts r (Label.Trouble r.path (re.trouble_of found))
  stuck_label is (assignment plan) = inr (course, is, refl)
  stuck_label is no_fit = inr (course, is, refl)
  stuck_label is spent = inl tt

  -- no end of a rebalance is a veto
  no_veto : (result : OpEnd) → NoVeto result → EndsBy (is_removal (course_of r.kind)) result
  no_veto result h = subst (λ (x : Course). EndsBy (is_removal x) result) (sym course) h

  module _ (is : r.stage ≡ Stage.Ending) where
    over : (t : State) (wanted : Option Reqs) → r.wanted ≡ wanted → ClosesRebalance s r t wanted → Closes s r t
    over t wanted e h = subst (λ (x : Course). ClosesIn s r t x) (sym course) (subst (λ (x : Option Reqs). ClosesRebalance s r t x) (sym e) h)

    -- after a change nothing begins
    changed : (wanted : Reqs) (result : OpEnd) → r.wanted ≡ Some wanted → NoVeto result → Steps s (ma.job_lifted s (jobs.closes s.core r result Beside.Over))
    changed wanted result e by = closes s r running _ _ result refl refl refl refl refl refl refl refl (no_veto result by) tt refl (over (set_operation None s) (Some wanted) e tt) (ActivityEffect.same refl)

    closes_moved : (plan : List (List Res)) (result : OpEnd) (up : Bool) → r.wanted ≡ None → stands_up s.core.nodes r.target ≡ up → r.found ≡ assignment plan → NoVeto result
        → Steps s (ma.job_lifted s (jobs.closes s.core r result (if up then Beside.OverStart else Beside.Over)))
    closes_moved plan result true plain up found by =
        closes s r running _ _ result refl refl refl refl refl refl refl refl (no_veto result by) tt refl (over (begin_activity r.target (Phase.Starting (walk_of Minor.Start)) (set_operation None s)) None plain (inl (_, refl)))
        (ActivityEffect.enters r.target (Phase.Starting (walk_of Minor.Start)) (Enters.restarts r plan runs course plain is refl found refl) refl)
    closes_moved plan result false plain down found by =
        closes s r running _ _ result refl refl refl refl refl refl refl refl (no_veto result by) tt refl (over (set_operation None s) None plain (inr down)) (ActivityEffect.same refl)

    closes_undone : (result : OpEnd) → r.wanted ≡ None → NoVeto result → Steps s (ma.job_lifted s (jobs.closes s.core r result Beside.OverUndo))
    closes_undone result plain by =
        closes s r running _ _ result refl refl refl refl refl refl refl refl (no_veto result by) tt refl (over (begin_activity r.target (Phase.Removing (walk_of Minor.Remove)) (set_operation None s)) None plain (inl (_, refl)))
        (ActivityEffect.enters r.target (Phase.Removing (walk_of Minor.Remove)) (Enters.undoes r runs course plain refl) refl)

    re_closes : (found : Found) (wanted : Option Reqs) (result : OpEnd) → r.found ≡ found → r.wanted ≡ wanted → NoVeto result → Steps s (ma.job_lifted s (jobs.closes s.core r result (re.over s.core r found wanted)))
    re_closes (assignment plan) None result e plain by = closes_moved plan result (stands_up s.core.nodes r.target) plain refl e by
    re_closes no_fit None result e plain by = closes_undone result plain by
    re_closes spent None result e plain by = closes_undone result plain by
    re_closes (assignment plan) (Some wanted) result e changes by = changed wanted result changes by
    re_closes no_fit (Some wanted) result e changes by = changed wanted result changes by
    re_closes spent (Some wanted) result e changes by = changed wanted result changes by

  found_end : (found : Found) (refused : Bool) → NoVeto (re.result found refused)
  found_end found true = tt
  found_end (assignment plan) false = tt
  found_end no_fit false = tt
  found_end spent false = tt

  rebalance_effect : (stage : Stage) (m : JobMove) → r.stage ≡ stage → RebalanceAct s.core r stage m → Steps s (ma.job_lifted s m)
  rebalance_effect stage m is (RebalanceAct.searches found budget answer) = re_searches found
  rebalance_effect stage m is RebalanceAct.sticks =
      inside s _ _ refl refl refl refl refl refl (still s _ _ tt refl (NodeEffect.changed r.target _ (Alters.troubled r.target (Some (re.trouble_of r.found))) refl refl))
      (OpEffect.goes r (stands r [] Stage.Ending) runs refl (record { kind = refl; path = refl; spared = refl; wanted = refl }) (stuck_label is r.found))
      (ActivityEffect.same refl) (TaskEffect.same refl)
  rebalance_effect stage m is RebalanceAct.commits =
      job_on s r running _ _ _ refl (re_restart r (re.startable s.core.nodes r.agreed)).work tt refl (still s _ _ tt refl (NodeEffect.commits r runs course is refl refl))
  rebalance_effect stage m is (RebalanceAct.failed node first) =
      on s r running _ _ (re.restart_on s.core.nodes r (rest r.todo)) refl refl refl refl refl refl refl (re_restart r (re.startable s.core.nodes (rest r.todo))).work tt refl
      (still s _ _ tt refl (NodeEffect.changed node.serial _ (Alters.troubled node.serial (Some Problem.FailedStart)) refl refl)) (TaskEffect.put_first node r runs course is first refl)
  rebalance_effect stage m is RebalanceAct.closes = re_closes is r.found r.wanted (re.result r.found (re.has_refused r)) refl refl (found_end r.found (re.has_refused r))

-- Removal -------------------------------------------------------------------------------

module _ (s : State) (o : Job) (running : Running s o) (course : course_of o.kind ≡ Course.Removing) where
  settles : o.stage ≡ Stage.Settling → (node : Node) → first_node s.core.nodes o.todo ≡ Some node → first_node s.core.nodes (to_leave o) ≡ Some node
  settles is node first = subst (λ (x : Stage). first_node s.core.nodes (leaving_in x o.todo) ≡ Some node) (sym is) first

  removal_effect : (stage : Stage) (m : JobMove) → o.stage ≡ stage → RemovalAct s.core o stage m → Steps s (ma.job_lifted s m)
  removal_effect stage m is (RemovalAct.declines node first) =
      let work = rm_cancel_on (record o { refused = node.serial ∷ o.refused }) o.agreed in
      job_on s o running _ _ (rm.cancel_on (record o { refused = node.serial ∷ o.refused }) o.agreed) refl (record { kind = work.kind; path = work.path; spared = work.spared; wanted = work.wanted }) tt refl (still s _ _ tt refl (NodeEffect.same refl refl))
  removal_effect stage m is (RemovalAct.leaves node first inside) =
      let m = rm.leaves s.core o node (Label.Leave node.path) (Beside.Left node.path node.born) in
      leaves s (set_operation (Some m.frame) (with_core m.core s)) o m.frame running node (settles is node first) (Label.Leave node.path) tt tt refl
      (rm_finish_on s.core.nodes o (rest o.todo)) refl (WorldEffect.same refl refl) refl refl refl refl refl refl refl refl node.path node.born
  removal_effect stage m is (RemovalAct.ejects node first) =
      let m = rm.leaves s.core o node (Label.Ejected node.path) (Beside.Ejected node.path node.born) in
      leaves s (unplug node.born (set_operation (Some m.frame) (with_core m.core s))) o m.frame running node (settles is node first) (Label.Ejected node.path) tt tt refl
      (rm_finish_on s.core.nodes o (rest o.todo)) refl (WorldEffect.unplugged node.born (node, o, settling_runs s o course is running, course, is, first, refl) refl refl) refl refl refl refl refl refl refl refl node.path node.born
  removal_effect stage m is (RemovalAct.disables node first over target) =
      record {
        nodes = NodeEffect.changed node.serial _ (Alters.troubled node.serial (Some Problem.Disabled)) refl refl;
        drivers = DriverEffect.same tt refl;
        ranges = RangeEffect.same refl;
        operation = goes s o running _ _ (rm.finish_on s.core.nodes o (rest o.todo)) refl (rm_finish_on s.core.nodes o (rest o.todo)) tt;
        activities = ActivityEffect.same refl;
        tasks = TaskEffect.same refl;
        world = WorldEffect.same refl refl;
        paths = PathEffect.disables o node (settling_runs s o course is running) course first refl refl;
        windows = WindowEffect.same refl;
        handles = HandleEffect.same refl;
        joins = JoinEffect.none tt;
        serial = omega arith;
      }
  removal_effect stage m is (RemovalAct.remains node problem first over other) =
      job_on s o running _ _ _ refl (rm_finish_on s.core.nodes o (rest o.todo)) other refl (still s _ _ tt refl (NodeEffect.changed node.serial _ (Alters.troubled node.serial (Some problem)) refl refl))
  removal_effect stage m is RemovalAct.closes =
      closes s o running _ _ (rm.end_of s.core o.refused) refl refl refl refl refl refl refl refl (subst (λ (x : Course). EndsBy (is_removal x) (rm.end_of s.core o.refused)) (sym course) tt) tt refl
      (subst (λ (x : Course). ClosesIn s o (set_operation None s) x) (sym course) tt) (ActivityEffect.same refl)

-- Surprise ------------------------------------------------------------------------------

surprise_end : (behind : List ℕ) → NoVeto (su.end_of behind)
surprise_end [] = tt
surprise_end (k ∷ ks) = tt

module _ (s : State) (o : Job) (running : Running s o) (course : course_of o.kind ≡ Course.Surprising) where
  su_closes : ClosesIn s o (set_operation None s) Course.Surprising → Steps s (ma.job_lifted s (su.close s.core o))
  su_closes over =
      closes s o running _ _ (su.end_of o.behind) refl refl refl refl refl refl refl refl (subst (λ (x : Course). EndsBy (is_removal x) (su.end_of o.behind)) (sym course) (surprise_end o.behind)) tt refl
      (subst (λ (x : Course). ClosesIn s o (set_operation None s) x) (sym course) over) (ActivityEffect.same refl)

  surprise_effect : (in_world : Bool) (handles : List Handle) (stage : Stage) (m : JobMove) → o.stage ≡ stage → SurpriseAct s.core o in_world handles stage m → Steps s (ma.job_lifted s m)
  surprise_effect in_world handles stage m is (SurpriseAct.lags node first behind) =
      let work = (su_finish_on (record o { behind = node.serial ∷ o.behind }) (rest o.todo)).work in
      job_on s o running _ _ (su.finish_on (record o { behind = node.serial ∷ o.behind }) (rest o.todo)) refl (record { kind = work.kind; path = work.path; spared = work.spared; wanted = work.wanted }) tt refl (still s _ _ tt refl (NodeEffect.same refl refl))
  surprise_effect in_world handles stage m is (SurpriseAct.leaves node first why) =
      let m = su.leaves s.core o node in
      leaves s (set_operation (Some m.frame) (with_core m.core s)) o m.frame running node (subst (λ (x : Stage). first_node s.core.nodes (leaving_in x o.todo) ≡ Some node) (sym is) first) (Label.Leave node.path) tt tt refl
      (su_finish_on o (rest o.todo)).work refl (WorldEffect.same refl refl) refl refl refl refl refl refl refl refl node.path node.born
  surprise_effect in_world handles stage m is (SurpriseAct.remains node first other over) =
      job_on s o running _ _ _ refl (su_finish_on o (rest o.todo)).work tt refl (still s _ _ tt refl (NodeEffect.changed node.serial _ (Alters.troubled node.serial (Some Problem.Held)) refl refl))
  surprise_effect in_world handles stage m is (SurpriseAct.stays node first target back) = su_closes (inr (is, node, first, own_number node.serial o.target target))
  surprise_effect in_world handles stage m is SurpriseAct.closes = su_closes (inl is)

-- Finish --------------------------------------------------------------------------------

module _ (s : State) (f : Job) (running : Running s f) (course : course_of f.kind ≡ Course.Finishing) where
  finish_effect : (handles : List Handle) (stage : Stage) (m : JobMove) → f.stage ≡ stage → FinishAct s.core f handles stage m → Steps s (ma.job_lifted s m)
  finish_effect handles stage m is (FinishAct.leaves node first) =
      let m = fi.leave s.core f node in
      leaves s (set_operation (Some m.frame) (with_core m.core s)) f m.frame running node (subst (λ (x : Stage). first_node s.core.nodes (leaving_in x f.todo) ≡ Some node) (sym is) first) (Label.Leave node.path) tt tt refl
      (record { kind = refl; path = refl; spared = refl; wanted = refl }) refl (WorldEffect.same refl refl) refl refl refl refl refl refl refl refl node.path node.born
  finish_effect handles stage m is (FinishAct.holds node first) =
      job_on s f running _ _ _ refl (record { kind = refl; path = refl; spared = refl; wanted = refl }) tt refl (still s _ _ tt refl (NodeEffect.changed node.serial _ (Alters.troubled node.serial (Some Problem.Held)) refl refl))
  finish_effect handles stage m is (FinishAct.closes none) =
      closes s f running _ _ OpEnd.Done refl refl refl refl refl refl refl refl (subst (λ (x : Course). EndsBy (is_removal x) OpEnd.Done) (sym course) tt) tt refl (subst (λ (x : Course). ClosesIn s f (set_operation None s) x) (sym course) tt) (ActivityEffect.same refl)

-- All operations ------------------------------------------------------------------------

act_effect : (s : State) (o : Job) (m : JobMove) → Running s o → ActStep s o m → Steps s (ma.job_lifted s m)
act_effect s o _ running (ActStep.rebalances stage m course is x) = rebalance_effect s o running course stage m is x
act_effect s o _ running (ActStep.removes stage m course is x) = removal_effect s o running course stage m is x
act_effect s o _ running (ActStep.surprises stage m course is x) = surprise_effect s o running course (ma.is_back s o Course.Surprising) s.handles stage m is x
act_effect s o _ running (ActStep.finishes stage m course is x) = finish_effect s o running course s.handles stage m is x

by_operation : (s : State) (o : Job) (step : Step) → Running s o → JobStep s o step → Steps s step
by_operation s o _ running (JobStep.asks node w a) = asks_effect s o running node w a
by_operation s o _ running (JobStep.ends node w p e after) = ends_effect s o running node w p e after
by_operation s o _ running (JobStep.acts m none step) = act_effect s o m running step

pub operation_effect : (s : State) (o : Job) (step : Step) → s.operation ≡ Some o → TakenStep s o step → Steps s step
operation_effect s o step runs taken = by_operation s taken.now step (record { before = o; runs = runs; turn = taken.turn }) taken.is
