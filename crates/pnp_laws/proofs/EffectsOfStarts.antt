-- What a step does where no operation runs.
use Rattle.std.proofs.Common.{ℕ, ◌≡◌, ◌≢◌, ◌⊎◌, inl, inr, Bool, true, false, List, [], ◌∷◌, length, Some, None, refl, ap, ◌∙◌, arith}
use Rattle.pnp_labels.specs.Texts.{Text}
use Rattle.pnp_labels.specs.declared.states.Problem.{Problem}
use Rattle.pnp_labels.specs.declared.words.AskWhat.{AskWhat}
use Rattle.pnp_labels.specs.declared.words.Minor.{Minor}
use Rattle.pnp_labels.specs.declared.label.OpKind.{OpKind}
use Rattle.pnp_labels.specs.declared.label.Label.{Label}
use Rattle.pnp_labels.specs.declared.label.Shown.{Shown}
use Rattle.pnp_model.specs.Books.{name_of, rack_after}
use Rattle.pnp_model.specs.Cores.{bare, forget, is_node, node_at, with_state}
use Rattle.pnp_model.specs.Frames.{next_driver}
use Rattle.pnp_model.specs.Keyed.{changed_first, without_first}
use Rattle.pnp_model.specs.Machine.{start_lifted}
use Rattle.pnp_model.specs.Records.{Core, Duty, Handle, Node, Phase, State, Step, Walk, Window}
use Rattle.pnp_model.specs.Records.Phase.{Adding, Starting, Removing, Due}
use Rattle.pnp_model.specs.Runs.Entry.{Did}
use Rattle.pnp_model.specs.Starts.{adding}
use Rattle.pnp_model.specs.States.{drop_task, is_activity, set_phase, with_core}
use Rattle.pnp_model.specs.Tasks.{begin}
use Rattle.pnp_model.specs.Walks.{has_ended, state_after, walk_of}
use Rattle.pnp_laws.specs.Kept.{Ascending}
use Rattle.pnp_laws.specs.Words.{IsBeside, IsNoJoin, joined}
use Rattle.pnp_laws.specs.Effects.{ActivityEffect, Acting, Alters, Assigned, BeginsFor, DriverEffect, Effect, Enters, HandleEffect, IsUnasked, JoinEffect, NodeEffect, OpEffect, Origin, Owes, PathEffect, PhaseStep, RangeEffect, Request, TaskEffect, WindowEffect, WorldEffect, begun, ends_bad, Over, Surprises}
use Rattle.pnp_laws.proofs.IdleSteps.{ActivityStep, First, TaskStep}
use Rattle.pnp_laws.proofs.Stages.{reply}
use Rattle.pnp_model.specs.Starts as st
use Rattle.pnp_laws.proofs.FitsBy.{after_minor}

abbrev pub Steps : State → Step → Type 0
Steps s step = Effect s (Did step.label) step.state

-- nodes, relations and rack
abbrev pub Changes : State → Label → State → Type 0
Changes s label t = NodeEffect s label t × DriverEffect s (Did label) t

pub still : (s : State) (label : Label) (t : State) → IsUnasked label → t.core.rack ≡ s.core.rack → NodeEffect s label t → Changes s label t
still s label t unasked rack nodes = (nodes, DriverEffect.same unasked rack)

-- a driver is asked
pub asks : (s : State) (node : Node) (w : Walk) → node_at node.serial s.core.nodes ≡ Some node → (Ascending 0 s.core.nodes → has_ended w (length node.stack) ≡ false) → (label : Label) (shown : Shown) (t : State)
    → label ≡ Label.Asked w.minor node.path (name_of s.core.rack (next_driver node w)) shown → t.core.rack ≡ rack_after (AskWhat.Irp w.minor) node.path s.core.rack (next_driver node w)
    → t.core.nodes ≡ s.core.nodes → t.core.relations ≡ s.core.relations → Changes s label t
asks s node w at on label shown t prints rack nodes relations = (NodeEffect.same nodes relations, DriverEffect.asked node w shown at on prints rack)

-- the walk of a request ends
pub walks : (s : State) (node : Node) (minor : Minor) (w : Walk) (bad : Bool) → node_at node.serial s.core.nodes ≡ Some node → Request s node minor w → minor ≢ Minor.Remove → has_ended w (length node.stack) ≡ true
    → ends_bad minor w ≡ bad → (label : Label) (t : State) → label ≡ Label.State node.path (state_after minor bad node.state) → t.core.rack ≡ s.core.rack
    → t.core.nodes ≡ changed_first (is_node node.serial) (with_state (state_after minor bad node.state)) s.core.nodes → t.core.relations ≡ s.core.relations → Changes s label t
walks s node minor w bad at request other ends verdict label t prints rack nodes relations =
    (NodeEffect.changed node.serial _ (Alters.walked node minor w bad at request other ends verdict prints) nodes relations, DriverEffect.ended node minor w bad at request ends verdict prints rack)

-- a REMOVE walk ends
pub strips : (s : State) (node : Node) (w : Walk) → node_at node.serial s.core.nodes ≡ Some node → Request s node Minor.Remove w → has_ended w (length node.stack) ≡ true
    → (label : Label) (t : State) → label ≡ Label.State node.path (state_after Minor.Remove false node.state) → t.core.rack ≡ s.core.rack
    → t.core.nodes ≡ changed_first (is_node node.serial) bare s.core.nodes → t.core.relations ≡ forget node.serial s.core.relations → Changes s label t
strips s node w at request ends label t prints rack nodes relations =
    (NodeEffect.stripped node w at request ends prints nodes relations, DriverEffect.ended node Minor.Remove w false at request ends refl prints rack)

pub quiet_label : (label : Label) → joined label ≡ 0 → IsNoJoin label
quiet_label (Label.Join k path) e = absurd (cc)
quiet_label _ e = tt

-- what only events change, and the end of a disable
abbrev pub lasting : State → List Text × List Window × List Handle
lasting s = (s.disabled, s.windows, s.handles)

pub same_paths : (s t : State) → lasting t ≡ lasting s → t.disabled ≡ s.disabled
same_paths s t e = ap (λ (x : List Text × List Window × List Handle). x.0) e

pub same_windows : (s t : State) → lasting t ≡ lasting s → t.windows ≡ s.windows
same_windows s t e = ap (λ (x : List Text × List Window × List Handle). x.1) e

pub same_handles : (s t : State) → lasting t ≡ lasting s → t.handles ≡ s.handles
same_handles s t e = ap (λ (x : List Text × List Window × List Handle). x.2) e

-- world, ranges, paths, windows, handles and serials stay
pub inside : (s : State) (label : Label) (t : State) → t.world ≡ s.world → t.next_born ≡ s.next_born → lasting t ≡ lasting s → t.core.reserved ≡ s.core.reserved → t.next_serial ≡ s.next_serial → joined label ≡ 0
    → Changes s label t → OpEffect s label t → ActivityEffect s t → TaskEffect s t → Effect s (Did label) t
inside s label t world born last ranges serial quiet (nodes, drivers) operation activities tasks =
    record {
      nodes = nodes;
      drivers = drivers;
      ranges = RangeEffect.same ranges;
      operation = operation;
      activities = activities;
      tasks = tasks;
      world = WorldEffect.same world born;
      paths = PathEffect.same (same_paths s t last);
      windows = WindowEffect.same (same_windows s t last);
      handles = HandleEffect.same (same_handles s t last);
      joins = JoinEffect.none (quiet_label label quiet);
      serial = omega arith;
    }

-- Tasks --------------------------------------------------------------------------------

module _ (s : State) (none : s.operation ≡ None) where
  -- the first task is dropped, and nothing else happens
  drops : (label : Label) (kind : Duty) (k : ℕ) → First s kind k → IsBeside label → IsUnasked label → joined label ≡ 0 → Surprises s (record { kind = kind; serial = k }) (drop_task s) → Steps s (record { label = label; state = drop_task s })
  drops label kind k first beside unasked quiet surprises =
      inside s label (drop_task s) refl refl refl refl refl quiet (still s _ _ unasked refl (NodeEffect.same refl refl)) (OpEffect.idles none none (inl beside)) (ActivityEffect.same refl) (TaskEffect.dropped _ none first surprises refl)

  -- an operation begins
  begins : (kind : OpKind) (node : Node) → First s (Duty.Begins kind) node.serial → s.activities ≡ [] → node_at node.serial s.core.nodes ≡ Some node → BeginsFor s kind node
      → Surprises s (record { kind = Duty.Begins kind; serial = node.serial }) (begin s kind node (begun s kind node)).state → Steps s (begin s kind node (begun s kind node))
  begins kind node first alone at fits surprises =
      inside s _ _ refl refl refl refl refl refl (still s _ _ tt refl (NodeEffect.same refl refl)) (OpEffect.begins kind node none alone at fits refl) (ActivityEffect.same refl) (TaskEffect.dropped _ none first surprises refl)

  pub task_effect : (step : Step) → TaskStep s step → Steps s step
  task_effect _ (TaskStep.skips kind k j first calm) = drops _ kind k first tt tt refl (λ is. absurd (cc))
  task_effect _ (TaskStep.misses k first gone) = drops _ _ k first tt tt refl (λ is. inl gone)
  task_effect _ (TaskStep.told node first at state) = drops _ _ node.serial first tt tt refl (λ is. inr (inl (node, at, state)))
  task_effect _ (TaskStep.lists k node first) = drops _ _ k first tt tt refl (λ is. absurd (cc))
  task_effect _ (TaskStep.finds_gone node child gone) =
      inside s _ _ refl refl refl refl refl refl (still s _ _ tt refl (NodeEffect.same refl refl)) (OpEffect.idles none none (inl tt)) (ActivityEffect.same refl)
      (TaskEffect.appended (record { kind = Duty.Begins OpKind.Surprise; serial = child.serial }) (Origin.surprises node.serial child gone) refl)
  task_effect _ (TaskStep.joins node d at up e) =
      record {
        nodes = NodeEffect.joins node d none at up e refl;
        drivers = DriverEffect.same tt refl;
        ranges = RangeEffect.same refl;
        operation = OpEffect.idles none none (inl tt);
        activities = ActivityEffect.same refl;
        tasks = TaskEffect.joins refl refl;
        world = WorldEffect.same refl refl;
        paths = PathEffect.same refl;
        windows = WindowEffect.same refl;
        handles = HandleEffect.same refl;
        joins = JoinEffect.joins node d none at up e refl;
        serial = refl;
      }
  task_effect _ (TaskStep.troubles node problem b fine) =
      inside s _ _ refl refl refl refl refl refl (still s _ _ tt refl (NodeEffect.changed node.serial _ (Alters.troubled node.serial (Some problem)) refl refl)) (OpEffect.idles none none (inl fine)) (ActivityEffect.same refl)
      (TaskEffect.dropped _ none b.first (λ is. absurd (cc)) refl)
  task_effect _ (TaskStep.installs node rank driver drivers b chosen) =
      inside s _ _ refl refl refl refl refl refl (still s _ _ tt refl (NodeEffect.changed node.serial _ (Alters.troubled node.serial None) refl refl)) (OpEffect.idles none none (inl tt))
      (ActivityEffect.enters node.serial (adding drivers) (Enters.installs drivers chosen refl refl) refl) (TaskEffect.dropped _ none b.first (λ is. absurd (cc)) refl)
  task_effect _ (TaskStep.begins OpKind.Surprise node first alone at fits) = begins OpKind.Surprise node first alone at fits (λ is. inr (inr (node, at, refl)))
  task_effect _ (TaskStep.begins kind node first alone at fits) = begins kind node first alone at fits (λ is. absurd (cc))

-- Starts ---------------------------------------------------------------------------------

module _ (s : State) (node : Node) (at : node_at node.serial s.core.nodes ≡ Some node) where
  -- the start goes on
  goes : (label : Label) (c : Core) (old new : Phase) → c.reserved ≡ s.core.reserved → IsBeside label ⊎ Owes s label → joined label ≡ 0 → Acting s node.serial old → Changes s label (set_phase node.serial new (with_core c s))
      → PhaseStep s node.serial (set_phase node.serial new (with_core c s)) old new → Steps s (start_lifted s node.serial (st.goes label c new))
  goes label c old new ranges prints quiet acts nodes step =
      inside s label _ refl refl refl ranges refl quiet nodes (OpEffect.idles acts.none acts.none prints) (ActivityEffect.goes node.serial old new step refl) (TaskEffect.same refl)

  -- it ends
  ends : (t : State) (label : Label) (old : Phase) → t.world ≡ s.world → t.next_born ≡ s.next_born → lasting t ≡ lasting s → t.core.reserved ≡ s.core.reserved → t.next_serial ≡ s.next_serial → t.operation ≡ s.operation → t.activities ≡ without_first (is_activity node.serial) s.activities
      → IsBeside label ⊎ Owes s label → joined label ≡ 0 → Acting s node.serial old → Changes s label t → Over s node.serial t old → TaskEffect s t → Steps s (record { label = label; state = t })
  ends t label old world born last ranges serial now over prints quiet acts nodes is tasks =
      inside s label t world born last ranges serial quiet nodes (OpEffect.idles acts.none (now ∙ acts.none) prints) (ActivityEffect.ends node.serial old acts is over) tasks

  owes : (problem : Problem) → Acting s node.serial (Due problem) → Owes s (Label.Trouble node.path problem)
  owes problem acts = record { activity = acts.activity; ready = acts.ready; problem = problem; is = acts.is; path = node.path; prints = refl }

  pub start_effect : (phase : Phase) (m : st.StartMove) → Acting s node.serial phase → ActivityStep s.core node phase m → Steps s (start_lifted s node.serial m)
  start_effect _ _ acts (ActivityStep.adds d ds) =
      goes _ _ (Adding (d ∷ ds)) (adding ds) refl (inl tt) refl acts (NodeEffect.changed node.serial _ (Alters.stacks node d ds _ at acts refl) refl refl, DriverEffect.added node d ds acts refl refl refl) (PhaseStep.added d ds acts)
  start_effect _ _ acts (ActivityStep.refused d ds) =
      goes _ _ (Adding (d ∷ ds)) (Due Problem.FailedAdd) refl (inl tt) refl acts (NodeEffect.same refl refl, DriverEffect.refused node d ds acts refl refl) (PhaseStep.fails (Adding (d ∷ ds)) Problem.FailedAdd acts tt)
  start_effect phase _ acts (ActivityStep.fits _ plan budget search answer) =
      let part : Assigned s node plan = record { at = at; budget = budget; answer = answer } in
      goes _ _ phase (Starting (walk_of Minor.Start)) refl (inl tt) refl acts (still s _ _ tt refl (NodeEffect.changed node.serial _ (Alters.assigned node phase plan acts search part refl) refl refl))
      (PhaseStep.fits phase node plan acts search part refl refl)
  start_effect phase _ acts (ActivityStep.unplaced _ search) =
      ends _ _ phase refl refl refl refl refl refl refl (inl tt) refl acts (still s _ _ tt refl (NodeEffect.same refl refl)) (Over.unplaced phase search refl)
      (TaskEffect.appended (record { kind = Duty.Begins OpKind.Rebalance; serial = node.serial }) (Origin.needs node.serial phase acts) refl)
  start_effect phase _ acts (ActivityStep.tires _ search) =
      goes _ _ phase (Due Problem.Budget) refl (inl tt) refl acts (still s _ _ tt refl (NodeEffect.same refl refl)) (PhaseStep.fails phase Problem.Budget acts tt)
  start_effect _ _ acts (ActivityStep.asks_start w waits more) = goes _ _ (Starting w) (Starting _) refl (inl tt) refl acts (asks s node w at (λ order. more) _ _ _ refl refl refl refl) (PhaseStep.asked w _ acts (after_minor w (reply s.core node w)) refl)
  start_effect _ _ acts (ActivityStep.fails w ended bad) =
      goes _ _ (Starting w) (Due Problem.FailedStart) refl (inl tt) refl acts (walks s node Minor.Start w true at (Request.starts w acts) (λ e. cc) ended bad _ _ refl refl refl refl) (PhaseStep.fails (Starting w) Problem.FailedStart acts tt)
  start_effect _ _ acts (ActivityStep.starts w ended well) =
      ends _ _ (Starting w) refl refl refl refl refl refl refl (inl tt) refl acts (walks s node Minor.Start w false at (Request.starts w acts) (λ e. cc) ended well _ _ refl refl refl refl) (Over.up w refl)
      (TaskEffect.appended (record { kind = Duty.Listing; serial = node.serial }) (Origin.lists node.serial) refl)
  start_effect _ _ acts (ActivityStep.asks_remove w waits more) = goes _ _ (Removing w) (Removing _) refl (inl tt) refl acts (asks s node w at (λ order. more) _ _ _ refl refl refl refl) (PhaseStep.undoes (Removing w) _ acts (λ own. ap Some (after_minor w (reply s.core node w)) ∙ own))
  start_effect _ _ acts (ActivityStep.strips w ended) =
      ends _ _ (Removing w) refl refl refl refl refl refl refl (inl tt) refl acts (strips s node w at (Request.undoes w acts) ended _ _ refl refl refl refl) (Over.stripped w refl) (TaskEffect.same refl)
  start_effect _ _ acts (ActivityStep.empty problem none_left) =
      ends _ _ (Due problem) refl refl refl refl refl refl refl (inr (owes problem acts)) refl acts (still s _ _ tt refl (NodeEffect.changed node.serial _ (Alters.troubled node.serial (Some problem)) refl refl))
      (Over.empty problem node at none_left refl) (TaskEffect.same refl)
  start_effect _ _ acts (ActivityStep.undoes problem d ds some_left) =
      goes _ _ (Due problem) (Removing (walk_of Minor.Remove)) refl (inr (owes problem acts)) refl acts (still s _ _ tt refl (NodeEffect.changed node.serial _ (Alters.troubled node.serial (Some problem)) refl refl)) (PhaseStep.undoes (Due problem) _ acts (λ own. refl))
