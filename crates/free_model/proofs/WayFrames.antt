-- The steps of operations with other answers.
use Rattle.std.proofs.Common.{ℕ, ◌≡◌, Bool, true, false, List, [], ◌∷◌, length, Option, Some, None, refl, sym, subst, if◌then◌else◌}
use Rattle.std.specs.Prelude.{◌==◌, ◌&&◌, option_map}
use Rattle.resource_reqs.specs.Spelling.Answer.{assignment, no_fit, spent}
use Rattle.pnp_model.specs.Tests.{has, is_eject}
use Rattle.pnp_model.specs.Cores.{set_rack}
use Rattle.pnp_model.specs.Walks.{walk_of, has_ended, is_bad}
use Rattle.pnp_model.specs.Frames.{asked, ended}
use Rattle.pnp_model.specs.Jobs as jobs
use Rattle.pnp_model.specs.Jobs.{JobMove}
use Rattle.pnp_model.specs.Machine.{acts, after_end, job_step}
use Rattle.pnp_model.specs.Records.{Node, Core, Driver, Handle, Walk, Found, Job, Course, Stage, course_of}
use Rattle.pnp_model.specs.Records.Doing.{Does}
use Rattle.pnp_labels.specs.declared.words.Minor.{Minor}
use Rattle.pnp_labels.specs.declared.words.Minor.TheVariants.{Start, QueryRemove, Remove, CancelRemove, Stop, QueryStop, CancelStop, SurpriseRemoval}
use Rattle.pnp_model.specs.Rebalances as rebalances
use Rattle.pnp_model.specs.Removals as removals
use Rattle.pnp_model.specs.Removals.{refuses_unasked}
use Rattle.pnp_model.specs.Surprises as surprises
use Rattle.pnp_model.specs.Surprises.{stays_behind}
use Rattle.pnp_model.specs.Finishes as finishes
use Rattle.pnp_model.specs.Finishes.{node_of_ready}
use Rattle.pnp_model.specs.Handles.{ready_device}
use Rattle.free_model.specs.Shapes.{faces}
use Rattle.free_model.proofs.Alikes.{Alike, rests, does, searches}
use Rattle.free_model.proofs.Alikes.{stays_same, ready_same}
use Rattle.free_model.specs.Asks.{acts_query, job_query, next_removal, next_surprise, query, ready_query, stack_query, walk_query}
use Rattle.free_model.proofs.Ways.{WayMove, way_ask}
use Rattle.free_model.proofs.WayOps.{plain, by_ask, Forks}

-- A request that is on its way -----------------------------------------------------------

-- its end changes no book
ended_rack : (c : Core) (node : Node) (minor : Minor) (bad : Bool) → (ended c node minor bad).rack ≡ c.rack
ended_rack c node Start bad = refl
ended_rack c node QueryRemove bad = refl
ended_rack c node Remove bad = refl
ended_rack c node CancelRemove bad = refl
ended_rack c node Stop bad = refl
ended_rack c node QueryStop bad = refl
ended_rack c node CancelStop bad = refl
ended_rack c node SurpriseRemoval bad = refl

ended_with : (c : Core) (other : List Driver) (node : Node) (minor : Minor) (bad : Bool) → ended (set_rack other c) node minor bad ≡ set_rack other (ended c node minor bad)
ended_with c other node Start bad = refl
ended_with c other node QueryRemove bad = refl
ended_with c other node Remove bad = refl
ended_with c other node CancelRemove bad = refl
ended_with c other node Stop bad = refl
ended_with c other node QueryStop bad = refl
ended_with c other node CancelStop bad = refl
ended_with c other node SurpriseRemoval bad = refl

ends : (c : Core) (other : List Driver) (node : Node) (w : Walk) (next : Job) → WayMove None c.rack other (jobs.ends c node w next) (jobs.ends (set_rack other c) node w next)
ends c other node w next =
    subst (λ (x : Core). WayMove None c.rack other (jobs.ends c node w next) (record (jobs.ends c node w next) { core = x })) (sym (ended_with c other node w.minor (is_bad w)))
    (plain c.rack other (jobs.ends c node w next) (ended_rack c node w.minor (is_bad w)))

asks : (c : Core) (t : List Driver) (e : faces t ≡ faces c.rack) (j : Job) (node : Node) (w : Walk) → WayMove (Some (query node w)) c.rack t (jobs.asks j (asked c node w)) (jobs.asks j (asked (set_rack t c) node w))
asks c t e j node w = by_ask (Some (query node w)) c.rack t (jobs.asks j) _ _ (λ z. refl) (λ z. refl) (λ other. refl) (way_ask c t node w e)

module _ (c : Core) (t : List Driver) (e : faces t ≡ faces c.rack) (j : Job) (node : Node) (w : Walk) where
  walked : (next : Option Job) (over : Bool) → Alike (WayMove (walk_query node w over) c.rack t)
      (option_map (λ m. Does m) (if over then option_map (jobs.ends c node w) next else Some (jobs.asks j (asked c node w))))
      (option_map (λ m. Does m) (if over then option_map (jobs.ends (set_rack t c) node w) next else Some (jobs.asks j (asked (set_rack t c) node w))))
  walked None true = rests
  walked (Some next) true = does _ _ (ends c t node w next)
  walked next false = does _ _ (asks c t e j node w)

-- Rebalances -----------------------------------------------------------------------------

searched : (c : Core) (other : List Driver) (r : Job) (found : Found) → WayMove None c.rack other (rebalances.searched c r found) (rebalances.searched (set_rack other c) r found)
searched c other r (assignment plan) = plain c.rack other (rebalances.searched c r (assignment plan)) refl
searched c other r no_fit = plain c.rack other (rebalances.searched c r no_fit) refl
searched c other r spent = plain c.rack other (rebalances.searched c r spent) refl

way_rebalance : (c : Core) (handles : List Handle) (r : Job) (stage : Stage) (n : Option Node) → Forks (acts_query c handles r Course.Rebalancing stage n) c (λ (x : Core). rebalances.acts x r stage n)
way_rebalance c handles r Stage.Searching n t e = searches _ _ _ (searched c _ r)
way_rebalance c handles r Stage.Stuck n t e = does _ _ (plain c.rack _ (rebalances.stuck c r) refl)
way_rebalance c handles r Stage.Committing n t e = does _ _ (plain c.rack _ (rebalances.commit_step c r) refl)
way_rebalance c handles r Stage.Ending n t e = does _ _ (plain c.rack _ (rebalances.close c r) refl)
way_rebalance c handles r Stage.Failed (Some node) t e = does _ _ (plain c.rack _ (rebalances.failed c r node) refl)
way_rebalance c handles r Stage.Failed None t e = rests
way_rebalance c handles r _ n t e = rests

-- Removals -------------------------------------------------------------------------------

-- which of two moves it is does not depend on books
either : (rack other : List Driver) (b : Bool) (x y v w : JobMove) → WayMove None rack other x v → WayMove None rack other y w → WayMove None rack other (if b then x else y) (if b then v else w)
either rack other true x y v w holds fails = holds
either rack other false x y v w holds fails = fails

settle : (c : Core) (other : List Driver) (o : Job) (node : Node) → WayMove None c.rack other (removals.settle c o node) (removals.settle (set_rack other c) o node)
settle c other o node =
    either c.rack other (has o.set node.parent) _ _ _ _ (plain c.rack other _ refl)
    (either c.rack other (node.serial == o.target) _ _ _ _
    (either c.rack other (is_eject o.kind) _ _ _ _ (plain c.rack other _ refl) (plain c.rack other _ refl))
    (either c.rack other (is_eject o.kind && has o.ejecting node.serial) _ _ _ _ (plain c.rack other _ refl) (plain c.rack other _ refl)))

-- does it refuse unasked?
rem_next : (c : Core) (t : List Driver) (e : faces t ≡ faces c.rack) (o : Job) (node : Node) (refuses : Bool) → Alike (WayMove (next_removal node refuses) c.rack t) (option_map (λ m. Does m) (removals.query c o node refuses)) (option_map (λ m. Does m) (removals.query (set_rack t c) o node refuses))
rem_next c t e o node true = does _ _ (plain c.rack t (removals.declines c o node) refl)
rem_next c t e o node false =
    let w : Walk = walk_of Minor.QueryRemove in
    walked c t e (removals.queried o) node w (Some (removals.answers c (removals.queried o) node false)) (has_ended w (length node.stack))

way_removal : (c : Core) (handles : List Handle) (o : Job) (stage : Stage) (n : Option Node) → Forks (acts_query c handles o Course.Removing stage n) c (λ (x : Core). option_map (λ m. Does m) (removals.acts x o handles stage n))
way_removal c handles o Stage.Ending n t e = does _ _ (plain c.rack _ (removals.close c o) refl)
way_removal c handles o Stage.Next (Some node) t e = rem_next c t e o node (refuses_unasked handles node)
way_removal c handles o Stage.Settling (Some node) t e = does _ _ (settle c _ o node)
way_removal c handles o Stage.Next None t e = rests
way_removal c handles o Stage.Settling None t e = rests
way_removal c handles o _ n t e = rests

-- Surprises ------------------------------------------------------------------------------

sur_settle : (c : Core) (other : List Driver) (o : Job) (node : Node) (in_world : Bool) → WayMove None c.rack other (surprises.settle c o node in_world) (surprises.settle (set_rack other c) o node in_world)
sur_settle c other o node in_world =
    either c.rack other (node.serial == o.target) _ _ _ _
    (either c.rack other in_world _ _ _ _ (plain c.rack other (surprises.close c o) refl) (plain c.rack other (surprises.leaves c o node) refl))
    (either c.rack other (has o.set node.parent) _ _ _ _ (plain c.rack other (surprises.leaves c o node) refl) (plain c.rack other _ refl))

-- has it drivers?
sur_with : (c : Core) (t : List Driver) (e : faces t ≡ faces c.rack) (o : Job) (node : Node) (in_world : Bool) (stack : List ℕ) → WayMove (stack_query node stack) c.rack t (surprises.finish_with c o node in_world stack) (surprises.finish_with (set_rack t c) o node in_world stack)
sur_with c t e o node in_world [] = sur_settle c t (jobs.stands o o.todo Stage.Settling) node in_world
sur_with c t e o node in_world (d ∷ ds) = asks c t e (surprises.removing o) node (walk_of Minor.Remove)

-- does it stay behind?
sur_next : (c : Core) (t : List Driver) (e : faces t ≡ faces c.rack) (o : Job) (node : Node) (in_world stays : Bool) → WayMove (next_surprise node stays) c.rack t (surprises.finish c o node in_world stays) (surprises.finish (set_rack t c) o node in_world stays)
sur_next c t e o node in_world true = plain c.rack t (surprises.wait c o node) refl
sur_next c t e o node in_world false = sur_with c t e o node in_world node.stack

way_surprise : (c : Core) (handles : List Handle) (o : Job) (in_world : Bool) (stage : Stage) (n : Option Node) → Forks (acts_query c handles o Course.Surprising stage n) c (λ (x : Core). option_map (λ m. Does m) (surprises.acts x o in_world handles stage n))
way_surprise c handles o in_world Stage.Ending n t e = does _ _ (plain c.rack _ (surprises.close c o) refl)
way_surprise c handles o in_world Stage.Next (Some node) t e =
    does _ _
    (subst (λ (b : Bool). WayMove (next_surprise node (stays_behind c o handles node.serial)) c.rack t (surprises.finish c o node in_world (stays_behind c o handles node.serial)) (surprises.finish (set_rack t c) o node in_world b)) (sym (stays_same c t o handles node.serial))
    (sur_next c t e o node in_world (stays_behind c o handles node.serial)))
way_surprise c handles o in_world Stage.Settling (Some node) t e = does _ _ (sur_settle c _ o node in_world)
way_surprise c handles o in_world Stage.Next None t e = rests
way_surprise c handles o in_world Stage.Settling None t e = rests
way_surprise c handles o in_world _ n t e = rests

-- Finishes -------------------------------------------------------------------------------

-- is one ready?
fin_take : (c : Core) (t : List Driver) (e : faces t ≡ faces c.rack) (f : Job) (n : Option Node) → WayMove (ready_query n) c.rack t (finishes.take c f n) (finishes.take (set_rack t c) f n)
fin_take c t e f None = plain c.rack t (finishes.close c f) refl
fin_take c t e f (Some node) = asks c t e (finishes.taken f node) node (walk_of Minor.Remove)

fin_next : (c : Core) (t : List Driver) (e : faces t ≡ faces c.rack) (f : Job) (handles : List Handle) → WayMove (ready_query (node_of_ready c.nodes (ready_device c handles))) c.rack t (finishes.take c f (node_of_ready c.nodes (ready_device c handles))) (finishes.take (set_rack t c) f (node_of_ready c.nodes (ready_device (set_rack t c) handles)))
fin_next c t e f handles =
    subst (λ (k : Option ℕ). WayMove (ready_query (node_of_ready c.nodes (ready_device c handles))) c.rack t (finishes.take c f (node_of_ready c.nodes (ready_device c handles))) (finishes.take (set_rack t c) f (node_of_ready c.nodes k))) (sym (ready_same c t handles))
    (fin_take c t e f (node_of_ready c.nodes (ready_device c handles)))

way_finish : (c : Core) (handles : List Handle) (f : Job) (stage : Stage) (n : Option Node) → Forks (acts_query c handles f Course.Finishing stage n) c (λ (x : Core). option_map (λ m. Does m) (finishes.acts x f handles stage n))
way_finish c handles f Stage.Next n t e = does _ _ (fin_next c t e f handles)
way_finish c handles f Stage.Leaving (Some node) t e = does _ _ (plain c.rack _ (finishes.leave c f node) refl)
way_finish c handles f Stage.Holding (Some node) t e = does _ _ (plain c.rack _ (finishes.hold c f node) refl)
way_finish c handles f Stage.Leaving None t e = rests
way_finish c handles f Stage.Holding None t e = rests
way_finish c handles f _ n t e = rests

-- All of them ----------------------------------------------------------------------------

way_acts : (c : Core) (j : Job) (in_world : Bool) (handles : List Handle) (n : Option Node) (course : Course) → Forks (acts_query c handles j course j.stage n) c (λ (x : Core). acts x j in_world handles n course)
way_acts c j in_world handles n Course.Rebalancing t e = way_rebalance c handles j j.stage n t e
way_acts c j in_world handles n Course.Removing t e = way_removal c handles j j.stage n t e
way_acts c j in_world handles n Course.Surprising t e = way_surprise c handles j in_world j.stage n t e
way_acts c j in_world handles n Course.Finishing t e = way_finish c handles j j.stage n t e

pub way_job : (c : Core) (j : Job) (in_world : Bool) (handles : List Handle) (w : Option Walk) (n : Option Node) → Forks (job_query c handles j w n) c (λ (x : Core). job_step x j (course_of j.kind) in_world handles w n)
way_job c j in_world handles None n t e = way_acts c j in_world handles n (course_of j.kind) t e
way_job c j in_world handles (Some w) None t e = rests
way_job c j in_world handles (Some w) (Some node) t e = walked c t e j node w (after_end c j in_world node (is_bad w) (course_of j.kind)) (has_ended w (length node.stack))
