-- Each step of a start keeps the tree and what is due, and dependents go first.
use Rattle.std.proofs.Common.{ℕ, ◌≡◌, ◌≢◌, ◌==◌, inl, Bool, true, false, not, ◌&&◌, List, [], ◌∷◌, ◌++◌, Option, Some, None, refl, sym, ap, ◌∙◌, subst, arith}
use Rattle.std.specs.List.{list_any}
use Rattle.std.proofs.lemmas.Bool.Decides.{nat_tests}
use Rattle.pnp_model.specs.Keyed.{changed_first}
use Rattle.pnp_model.specs.Tests.{has}
use Rattle.pnp_model.specs.Records.{Node, Core, Phase, State, Duty, Task, Job}
use Rattle.pnp_model.specs.Cores.{is_node, node_at, with_state, with_problem, with_stack, with_holds, stacked, strip}
use Rattle.pnp_model.specs.Trees.{dependents, direct, hangs_on}
use Rattle.pnp_model.specs.Starts.{StartMove, own_part}
use Rattle.pnp_model.specs.States.{end_activity, with_core}
use Rattle.pnp_model.specs.Machine.{start_lifted}
use Rattle.pnp_model.specs.Diagram.{Row}
use Rattle.pnp_model.specs.Diagram.Row.{start, start_bad, remove}
use Rattle.pnp_labels.specs.declared.states.DevState.{DevState}
use Rattle.pnp_labels.specs.declared.words.Minor.{Minor}
use Rattle.pnp_labels.specs.declared.label.Label.{Label}
use Rattle.pnp_labels.specs.declared.label.OpKind.{OpKind}
use Rattle.pnp_labels.specs.declared.states.DevState.TheVariants.{NoStack, Started, Stopped}
use Rattle.pnp_laws.specs.Kept.{Ascending, Fits, is_idle}
use Rattle.pnp_laws.proofs.IdleSteps.{ActivityStep}
use Rattle.pnp_laws.proofs.Lists.{those_found}
use Rattle.pnp_laws.proofs.Lookups.{own_serial}
use Rattle.pnp_laws.proofs.StartSteps.{stacked_idle}
use Rattle.pnp_laws.proofs.Closures.{closed_within, hangs_some}
use Rattle.pnp_laws.proofs.Standing.{TasksUp, waiting, StageKept, Stands, Sound}
use Rattle.pnp_laws.proofs.TreeChanges.{Alike, same_changed, nodes_same}
use Rattle.pnp_laws.proofs.Sounds.{IsPlain, LeadsMore, leads_same, leads_pushed, up_append, due_still, due_changed, due_stripped, sound_still, sound_same, sound_walk, sound_strip}
use Rattle.pnp_laws.proofs.Truths.{or_left}
use Rattle.pnp_model.specs.Starts as st
use Rattle.pnp_model.specs.Jobs.{stands}
use Rattle.pnp_laws.proofs.FitsBy.{fit}

-- no operation runs

pub stage_none : (o : Option Job) (c : Core) → o ≡ None → StageKept o c
stage_none o c e = subst (λ (x : Option Job). StageKept x c) (sym e) tt

pub calm_due : (o p : Option Job) → o ≡ None → p ≡ None → (k : ℕ) → has (waiting o) k ≡ true → has (waiting p) k ≡ true
calm_due o p e f k h = absurd (let g = subst (λ (x : Option Job). has (waiting x) k ≡ true) e h in cc)

-- no node changes
pub calm_still : (s t : State) (label : Label) → IsPlain label → t.core.nodes ≡ s.core.nodes → t.core.relations ≡ s.core.relations → t.next_serial ≡ s.next_serial → t.operation ≡ None → s.operation ≡ None → TasksUp t.tasks → LeadsMore s.tasks t.tasks →
    Stands s → Sound s (record { label = label; state = t })
calm_still s t label plain a b next now none up leads stands =
    sound_still s t label plain a b next up (stage_none t.operation t.core now)
    (due_still (waiting s.operation) (waiting t.operation) s.tasks t.tasks s.core.nodes t.core.nodes a leads (calm_due s.operation t.operation none now) stands.due) stands

-- one node changes, and does not become Stopped
pub calm_changed : (s t : State) (label : Label) (f : Node → Node) (node : Node) → IsPlain label → t.core.nodes ≡ changed_first (is_node node.serial) f s.core.nodes → t.core.relations ≡ s.core.relations → t.next_serial ≡ s.next_serial → t.operation ≡ None → s.operation ≡ None →
    ((x : Node) → (f x).serial ≡ x.serial) → node_at node.serial s.core.nodes ≡ Some node → Alike node (f node) → ((f node).state ≡ Stopped → node.state ≡ Stopped) → TasksUp t.tasks → LeadsMore s.tasks t.tasks →
    Stands s → Sound s (record { label = label; state = t })
calm_changed s t label f node plain a b next now none keeps at alike state up leads stands =
    let same = same_changed s.core t.core node.serial f node a b keeps at alike in
    sound_same s t label plain same next up (stage_none t.operation t.core now)
    (due_changed (waiting s.operation) (waiting t.operation) s.tasks t.tasks s.core.nodes t.core.nodes node.serial f node a keeps at (nodes_same s.core t.core same) leads (λ e. inl (state e))
    (λ k h. inl (calm_due s.operation t.operation none now k h)) stands.due) stands

-- a walk ended, and the device keeps its drivers
calm_walk : (s t : State) (node : Node) (minor : Minor) (bad : Bool) (y : DevState) → t.core.nodes ≡ changed_first (is_node node.serial) (with_state y) s.core.nodes → t.core.relations ≡ s.core.relations → t.next_serial ≡ s.next_serial → t.operation ≡ None → s.operation ≡ None →
    node_at node.serial s.core.nodes ≡ Some node → (is_idle y ≡ true → is_idle node.state ≡ true) → (y ≡ Stopped → ⊥) → y ≢ NoStack → Row node.state minor bad y → TasksUp t.tasks → LeadsMore s.tasks t.tasks →
    Stands s → Sound s (record { label = Label.State node.path y; state = t })
calm_walk s t node minor bad y a b next now none at idle stopped full row up leads stands =
    let same = same_changed s.core t.core node.serial (with_state y) node a b (λ x. refl) at (record { serial = refl; parent = refl; path = refl; born = refl; idle = idle; bare = λ q. absurd (full q) }) in
    sound_walk s t node minor bad y a same next at full row up (stage_none t.operation t.core now)
    (due_changed (waiting s.operation) (waiting t.operation) s.tasks t.tasks s.core.nodes t.core.nodes node.serial (with_state y) node a (λ x. refl) at (nodes_same s.core t.core same) leads (λ e. absurd (stopped e))
    (λ k h. inl (calm_due s.operation t.operation none now k h)) stands.due) stands

-- a device on which nothing hangs

pub child_hangs : (c : Core) (k j : ℕ) (m : Node) → node_at j c.nodes ≡ Some m → j ≢ 0 → m.parent ≡ k → hangs_on c (k ∷ []) m ≡ true
child_hangs c k j m at up e =
    let own = own_serial j m c.nodes at in
    or_left (has (k ∷ []) m.parent && not (m.serial == 0)) (list_any (λ r. r.member == m.serial && has (k ∷ []) r.owner) c.relations) (grind (arith, nat_tests))

pub no_dependents : (c : Core) (k : ℕ) → Ascending 0 c.nodes → ((j : ℕ) (m : Node) → node_at j c.nodes ≡ Some m → hangs_on c (k ∷ []) m ≡ true → ⊥) → (j : ℕ) → has (dependents c k) j ≡ true → ⊥
no_dependents c k order none j h =
    let all : has [] j ≡ true =
    closed_within c (direct c k) [] order
    (λ i m at g. absurd (let some = hangs_some c [] m g in let no = some.1 in cc))
    (λ i g. absurd (let f = those_found 0 (hangs_on c (k ∷ [])) c.nodes i order g in none i f.0 f.1 f.2))
    j h in
    cc

-- The cases ------------------------------------------------------------------------------------

pub plain_alike : (f : Node → Node) (node : Node) → (f node).serial ≡ node.serial → (f node).parent ≡ node.parent → (f node).path ≡ node.path → (f node).state ≡ node.state → (f node).born ≡ node.born → Alike node (f node)
plain_alike f node a b c d e = record { serial = a; parent = b; path = c; born = e; idle = λ h. ap is_idle (sym d) ∙ h; bare = λ h. sym d ∙ h }

module _ (s : State) (node : Node) (none : s.operation ≡ None) (at : node_at node.serial s.core.nodes ≡ Some node) (up : node.serial ≢ 0) (h : Stands s) where
  -- the start goes on
  goes : (label : Label) (c : Core) (phase : Phase) → IsPlain label → c.nodes ≡ s.core.nodes → c.relations ≡ s.core.relations → Sound s (start_lifted s node.serial (st.goes label c phase))
  goes label c phase plain nodes relations = calm_still s _ label plain nodes relations refl none none h.up (leads_same s.tasks) h

  -- a field changes that nothing here speaks of
  sets : (t : State) (label : Label) (f : Node → Node) → IsPlain label → t.core.nodes ≡ changed_first (is_node node.serial) f s.core.nodes → t.core.relations ≡ s.core.relations → t.next_serial ≡ s.next_serial → t.operation ≡ s.operation → t.tasks ≡ s.tasks
      → ((x : Node) → (f x).serial ≡ x.serial) → (f node).parent ≡ node.parent → (f node).path ≡ node.path → (f node).state ≡ node.state → (f node).born ≡ node.born → Sound s (record { label = label; state = t })
  sets t label f plain a b next op tasks keeps parent path state born =
      calm_changed s t label f node plain a b next (op ∙ none) none keeps at (plain_alike f node (keeps node) parent path state born) (λ e. sym state ∙ e)
      (subst (λ (ts : List Task). TasksUp ts) (sym tasks) h.up) (subst (λ (ts : List Task). LeadsMore s.tasks ts) (sym tasks) (leads_same s.tasks)) h

  pub sound_act : (phase : Phase) (m : StartMove) → Fits phase node.state → Ascending 0 s.core.nodes → ActivityStep s.core node phase m → Sound s (start_lifted s node.serial m)
  sound_act _ _ idle order (ActivityStep.adds d ds) =
      calm_changed s _ _ (with_stack (node.stack ++ d ∷ []) (stacked node.state)) node tt refl refl refl none none (λ x. refl) at (record { serial = refl; parent = refl; path = refl; born = refl; idle = λ q. idle; bare = λ e. absurd (let q = stacked_idle node.state idle in cc) })
      (λ e. absurd (let q = stacked_idle node.state idle in cc)) h.up (leads_same s.tasks) h
  sound_act _ _ idle order (ActivityStep.refused d ds) = goes _ _ _ tt refl refl
  sound_act _ _ fit order (ActivityStep.fits phase plan budget search answer) = sets _ (Label.Assign node.path (own_part plan)) (with_holds (own_part plan)) tt refl refl refl refl refl (λ x. refl) refl refl refl refl
  sound_act _ _ fit order (ActivityStep.unplaced phase search) =
      calm_still s _ _ tt refl refl refl none none (up_append s.tasks (record { kind = Duty.Begins OpKind.Rebalance; serial = node.serial }) up h.up) (leads_pushed s.tasks _) h
  sound_act _ _ fit order (ActivityStep.tires phase search) = goes _ _ _ tt refl refl
  sound_act _ _ fit order (ActivityStep.asks_start w waits more) = goes _ _ _ tt refl refl
  sound_act _ _ fit order (ActivityStep.fails w ended bad) =
      calm_walk s _ node Minor.Start true node.state refl refl refl none none at (λ q. q) (λ q. cc) (λ q. cc) (subst (λ (x : DevState). Row x Minor.Start true x) (sym fit) start_bad) h.up (leads_same s.tasks) h
  sound_act _ _ fit order (ActivityStep.starts w ended well) =
      calm_walk s _ node Minor.Start false Started refl refl refl none none at (λ q. absurd (cc)) (λ q. cc) (λ q. cc) (subst (λ (x : DevState). Row x Minor.Start false Started) (sym fit) start)
      (up_append s.tasks (record { kind = Duty.Listing; serial = node.serial }) tt h.up) (leads_pushed s.tasks _) h
  sound_act _ _ fit order (ActivityStep.asks_remove w waits more) = goes _ _ _ tt refl refl
  sound_act _ _ fit order (ActivityStep.strips w ended) =
      let t = end_activity node.serial (with_core (strip node.serial s.core) s) in
      let free : (j : ℕ) (m : Node) → node_at j s.core.nodes ≡ Some m → hangs_on s.core (node.serial ∷ []) m ≡ true → ⊥ = h.tree.idle node.serial node at (ap is_idle fit) in
      sound_strip s t node refl refl at (subst (λ (x : DevState). Row x Minor.Remove false NoStack) (sym fit) remove)
      (λ i m there d p. free i m there (child_hangs s.core node.serial i m there d p))
      (λ j m dep there. absurd (no_dependents s.core node.serial order free j dep))
      h.up (stage_none s.operation t.core none)
      (due_stripped (waiting s.operation) s.tasks s.tasks s.core t.core node.serial node refl at (leads_same s.tasks) h.due) h
  sound_act _ _ idle order (ActivityStep.empty problem bare) = sets _ (Label.Trouble node.path problem) (with_problem (Some problem)) tt refl refl refl refl refl (λ x. refl) refl refl refl refl
  sound_act _ _ idle order (ActivityStep.undoes problem d ds stack) = sets _ (Label.Trouble node.path problem) (with_problem (Some problem)) tt refl refl refl refl refl (λ x. refl) refl refl refl refl
