-- What the steps of all operations share: a walk that ended, an ask, a device that stays or leaves.
use Rattle.std.proofs.Common.{ℕ, ◌≡◌, ◌≢◌, ◌⊎◌, inl, inr, Bool, true, false, List, [], ◌∷◌, ◌++◌, Option, Some, refl, sym, ap, ◌∙◌, subst}
use Rattle.pnp_model.specs.Keyed.{changed_first}
use Rattle.pnp_model.specs.Records.{Node, Core, Task, State, Duty}
use Rattle.pnp_model.specs.Cores.{is_node, node_at, with_state, with_problem, strip, drop_node}
use Rattle.pnp_model.specs.Diagram.{Row}
use Rattle.pnp_labels.specs.declared.states.DevState.{DevState}
use Rattle.pnp_labels.specs.declared.words.Minor.{Minor}
use Rattle.pnp_labels.specs.declared.states.Problem.{Problem}
use Rattle.pnp_labels.specs.declared.label.Label.{Label}
use Rattle.pnp_labels.specs.declared.states.DevState.TheVariants.{NoStack, Stopped}
use Rattle.pnp_laws.specs.Kept.{Ascending, is_idle}
use Rattle.pnp_laws.proofs.Lookups.{node_from, Ascending-changed}
use Rattle.pnp_laws.proofs.Lists.{HeadIs}
use Rattle.pnp_laws.proofs.Finishing.{Listed, StacksFit}
use Rattle.pnp_laws.proofs.Standing.{IsNoLeave, TasksUp, DutyUp, DueBut, waiting, StageKept, Stands, Sound, IsFree}
use Rattle.pnp_laws.proofs.TreeChanges.{Alike, SameTree, same_still, same_changed, nodes_same}
use Rattle.pnp_laws.proofs.TreeMoves.{Childless}
use Rattle.pnp_laws.proofs.SoundStarts.{child_hangs, no_dependents}
use Rattle.pnp_laws.proofs.Sounds.{IsPlain, LeadsMore, leads_same, leads_pushed, up_append, due_still, due_changed, due_stripped, due_left, sound_same, sound_still, sound_walk, sound_strip, sound_left}

-- the device of a step, which stands first of what is to do
pub record Work (s : State) (node : Node) (todo : List ℕ) : Type 0 where
  pub head : HeadIs node.serial todo
  pub at : node_at node.serial s.core.nodes ≡ Some node
  pub up : node.serial ≢ 0
  pub order : Ascending 0 s.core.nodes
  pub stacks : StacksFit s.core.nodes

state_alike : (node : Node) (y : DevState) → (is_idle y ≡ true → is_idle node.state ≡ true) → (y ≡ NoStack → node.state ≡ NoStack) → Alike node (with_state y node)
state_alike node y idle bare = record { serial = refl; parent = refl; path = refl; born = refl; idle = idle; bare = bare }

pub same_state : (s t : State) (node : Node) (todo : List ℕ) (y : DevState) → Work s node todo → t.core.nodes ≡ changed_first (is_node node.serial) (with_state y) s.core.nodes → t.core.relations ≡ s.core.relations →
    (is_idle y ≡ true → is_idle node.state ≡ true) → (y ≡ NoStack → node.state ≡ NoStack) → SameTree s.core t.core
same_state s t node todo y w a b idle bare = same_changed s.core t.core node.serial (with_state y) node a b (λ x. refl) w.at (state_alike node y idle bare)

pub now_ascending : (s t : State) (node : Node) (todo : List ℕ) (f : Node → Node) → Work s node todo → t.core.nodes ≡ changed_first (is_node node.serial) f s.core.nodes → ((x : Node) → (f x).serial ≡ x.serial) → Ascending 0 t.core.nodes
now_ascending s t node todo f w a keeps = subst (λ (x : List Node). Ascending 0 x) (sym a) (Ascending-changed 0 node.serial f s.core.nodes keeps w.order)

-- a walk ended, after which the device is not Stopped
pub op_walk : (s t : State) (node : Node) (todo rest : List ℕ) (minor : Minor) (bad : Bool) (x y : DevState) → Work s node todo → node.state ≡ x → t.core.nodes ≡ changed_first (is_node node.serial) (with_state y) s.core.nodes → t.core.relations ≡ s.core.relations → t.next_serial ≡ s.next_serial → t.tasks ≡ s.tasks →
    (is_idle y ≡ true → is_idle x ≡ true) → y ≢ NoStack → y ≢ Stopped → Row x minor bad y → (SameTree s.core t.core → StageKept t.operation t.core) → waiting t.operation ≡ rest → DueBut rest s.tasks s.core.nodes →
    Stands s → Sound s (record { label = Label.State node.path y; state = t })
op_walk s t node todo rest minor bad x y w e a b next tasks idle full stopped row stage waits due h =
    let same = same_state s t node todo y w a b (λ q. ap is_idle e ∙ idle q) (λ q. absurd (full q)) in
    sound_walk s t node minor bad y a same next w.at full (subst (λ (z : DevState). Row z minor bad y) (sym e) row) (subst (λ (ts : List Task). TasksUp ts) (sym tasks) h.up) (stage same)
    (subst (λ (ks : List ℕ). DueBut ks t.tasks t.core.nodes) (sym waits)
    (due_changed rest rest s.tasks t.tasks s.core.nodes t.core.nodes node.serial (with_state y) node a (λ z. refl) w.at (nodes_same s.core t.core same) (subst (λ (ts : List Task). LeadsMore s.tasks ts) (sym tasks) (leads_same s.tasks))
    (λ q. absurd (stopped q)) (λ k q. inl q) due)) h

-- no node changes
pub op_still : (s t : State) (label : Label) (rest : List ℕ) → IsPlain label → t.core.nodes ≡ s.core.nodes → t.core.relations ≡ s.core.relations → t.next_serial ≡ s.next_serial → t.tasks ≡ s.tasks → (SameTree s.core t.core → StageKept t.operation t.core) → waiting t.operation ≡ rest → DueBut rest s.tasks s.core.nodes →
    Stands s → Sound s (record { label = label; state = t })
op_still s t label rest plain a b next tasks stage waits due h =
    sound_still s t label plain a b next (subst (λ (ts : List Task). TasksUp ts) (sym tasks) h.up) (stage (same_still s.core t.core a b))
    (subst (λ (ks : List ℕ). DueBut ks t.tasks t.core.nodes) (sym waits)
    (due_still rest rest s.tasks t.tasks s.core.nodes t.core.nodes a (subst (λ (ts : List Task). LeadsMore s.tasks ts) (sym tasks) (leads_same s.tasks)) (λ k q. q) due)) h

-- the head stays, with a problem

pub problem_alike : (node : Node) (problem : Option Problem) → Alike node (with_problem problem node)
problem_alike node problem = record { serial = refl; parent = refl; path = refl; born = refl; idle = λ h. h; bare = λ h. h }

pub op_trouble : (s t : State) (node : Node) (todo rest : List ℕ) (label : Label) (problem : Option Problem) → Work s node todo → IsPlain label → t.core.nodes ≡ changed_first (is_node node.serial) (with_problem problem) s.core.nodes → t.core.relations ≡ s.core.relations → t.next_serial ≡ s.next_serial → t.tasks ≡ s.tasks →
    (SameTree s.core t.core → StageKept t.operation t.core) → waiting t.operation ≡ rest → DueBut rest s.tasks s.core.nodes → Stands s → Sound s (record { label = label; state = t })
op_trouble s t node todo rest label problem w plain a b next tasks stage waits due h =
    let same = same_changed s.core t.core node.serial (with_problem problem) node a b (λ x. refl) w.at (problem_alike node problem) in
    sound_same s t label plain same next (subst (λ (ts : List Task). TasksUp ts) (sym tasks) h.up) (stage same)
    (subst (λ (ks : List ℕ). DueBut ks t.tasks t.core.nodes) (sym waits)
    (due_changed rest rest s.tasks t.tasks s.core.nodes t.core.nodes node.serial (with_problem problem) node a (λ z. refl) w.at (nodes_same s.core t.core same) (subst (λ (ts : List Task). LeadsMore s.tasks ts) (sym tasks) (leads_same s.tasks))
    (λ q. inl q) (λ k q. inl q) due)) h

-- where a node with a problem came from
pub was_troubled : (j : ℕ) (problem : Option Problem) (old new : List Node) → new ≡ changed_first (is_node j) (with_problem problem) old → (k : ℕ) (m : Node) → node_at k new ≡ Some m → (n : Node) × (node_at k old ≡ Some n) × (m.parent ≡ n.parent) × (m.state ≡ n.state)
was_troubled j problem old new e k m at =
    elim (node_from j k (with_problem problem) old m (λ x. refl) (subst (λ (x : List Node). node_at k x ≡ Some m) e at)) [
      | inl (q, (y, there, r)) ↦ (y, there, ap (λ (x : Node). x.parent) r, ap (λ (x : Node). x.state) r)
      | inr (d, there) ↦ (m, there, refl, refl)
    ]

-- Listing again adds tasks at the end ---------------------------------------------------------------

pub record MoreTasks (tasks more : List Task) : Type 0 where
  pub up : TasksUp tasks → TasksUp more
  pub leads : LeadsMore tasks more

pub more_same : (tasks : List Task) → MoreTasks tasks tasks
more_same tasks = record { up = λ h. h; leads = leads_same tasks }

pub more_pushed : (tasks : List Task) (task : Task) → (task.kind ≡ Duty.Listing) ⊎ (task.kind ≡ Duty.Starting) → MoreTasks tasks (tasks ++ task ∷ [])
more_pushed tasks task shared =
    record {
      up = λ h. up_append tasks task (elim shared [
        | inl e ↦ subst (λ (d : Duty). DutyUp d task.serial) (sym e) tt
        | inr e ↦ subst (λ (d : Duty). DutyUp d task.serial) (sym e) tt
      ]) h;
      leads = leads_pushed tasks task;
    }

pub more_listed : (tasks more : List Task) → Listed tasks more → MoreTasks tasks more
more_listed tasks more (inl e) = subst (λ (ts : List Task). MoreTasks tasks ts) (sym e) (more_same tasks)
more_listed tasks more (inr (k, e)) = subst (λ (ts : List Task). MoreTasks tasks ts) (sym e) (more_pushed tasks (record { kind = Duty.Listing; serial = k }) (inl refl))

-- The head, on which nothing hangs ----------------------------------------------------------------

pub free_childless : (c : Core) (k : ℕ) → IsFree c k → Childless k c.nodes
free_childless c k free i m at up e = free i m at (child_hangs c k i m at up e)

-- it lost its drivers
pub op_strip : (s t : State) (node : Node) (todo rest : List ℕ) → Work s node todo → IsFree s.core node.serial → t.core ≡ strip node.serial s.core → t.next_serial ≡ s.next_serial → t.tasks ≡ s.tasks → Row node.state Minor.Remove false NoStack →
    StageKept t.operation t.core → waiting t.operation ≡ rest → DueBut rest s.tasks s.core.nodes → Stands s → Sound s (record { label = Label.State node.path NoStack; state = t })
op_strip s t node todo rest w free is next tasks row stage waits due h =
    sound_strip s t node is next w.at row (free_childless s.core node.serial free)
    (λ j m dep there. absurd (no_dependents s.core node.serial w.order free j dep))
    (subst (λ (ts : List Task). TasksUp ts) (sym tasks) h.up) stage
    (subst (λ (ks : List ℕ). DueBut ks t.tasks t.core.nodes) (sym waits)
    (due_stripped rest s.tasks t.tasks s.core t.core node.serial node is w.at (subst (λ (ts : List Task). LeadsMore s.tasks ts) (sym tasks) (leads_same s.tasks)) due)) h

-- it left
pub op_left : (s t : State) (node : Node) (todo rest : List ℕ) (label : Label) → Work s node todo → IsPlain label → (IsNoLeave label → ⊥) → IsFree s.core node.serial → t.core ≡ drop_node node.serial s.core → t.next_serial ≡ s.next_serial → MoreTasks s.tasks t.tasks →
    StageKept t.operation t.core → waiting t.operation ≡ rest → DueBut rest s.tasks s.core.nodes → Stands s → Sound s (record { label = label; state = t })
op_left s t node todo rest label w plain leaves free is next tasks stage waits due h =
    let alone = free_childless s.core node.serial free in
    sound_left s t label node plain leaves is next w.order alone (tasks.up h.up) stage
    (subst (λ (ks : List ℕ). DueBut ks t.tasks t.core.nodes) (sym waits)
    (due_left rest s.tasks t.tasks s.core t.core node.serial is w.order alone h.tree.root w.up tasks.leads due)) h
