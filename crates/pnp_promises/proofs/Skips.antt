-- A start that is skipped is of a device that is being started, or has drivers; and a rebalance, of one that is being started, or is not NotStarted.
use Rattle.std.proofs.Common.{ℕ, ◌+◌, ◌≡◌, Bool, true, false, List, [], ◌∷◌, length, nat_le, Option, Some, None, refl, sym, ap, subst, ◌∙◌}
use Rattle.std.specs.List.{find, slice_get}
use Rattle.resource_reqs.specs.Spelling.Answer.{assignment, no_fit, spent}
use Rattle.pnp_labels.specs.Texts.{Text}
use Rattle.pnp_labels.specs.declared.label.Label.{Label}
use Rattle.pnp_labels.specs.declared.label.OpKind.{OpKind}
use Rattle.pnp_labels.specs.declared.states.DevState.{DevState}
use Rattle.pnp_labels.specs.declared.states.DevState.TheVariants.{NoStack, NotStarted}
use Rattle.pnp_labels.specs.declared.states.Problem.{Problem}
use Rattle.pnp_labels.specs.declared.words.AskWhat.{AskWhat}
use Rattle.pnp_labels.specs.declared.words.Answer.{Answer}
use Rattle.pnp_labels.specs.declared.words.Answer.TheVariants.{Ok, Fail, Pend}
use Rattle.pnp_model.specs.Books.{driver_named, rack_reply}
use Rattle.pnp_model.specs.Cores.{node_at, set_problem}
use Rattle.pnp_model.specs.Frames.{core_after}
use Rattle.pnp_model.specs.Machine as ma
use Rattle.pnp_model.specs.Records.{Activity, Choice, Duty, Found, Job, Node, Phase, Settings, State, Step, Task, Walk, doing_map}
use Rattle.pnp_model.specs.Starts as st
use Rattle.pnp_model.specs.States.{activity_at}
use Rattle.pnp_model.specs.Tasks as tk
use Rattle.pnp_model.specs.Tests.{has_same}
use Rattle.pnp_model.specs.Walks.{has_ended, is_bad}
use Rattle.pnp_laws.proofs.Lookups.{own_serial, some_same}
use Rattle.pnp_laws.proofs.Passing.{AllBy, AllNext, all_step}

-- the task is none for a device that would need it
pub record Spares (s : State) (task : Task) : Type 0 where
  pub starts : task.kind ≡ Duty.Starting → (n : Node) → node_at task.serial s.core.nodes ≡ Some n → activity_at task.serial s.activities ≡ None → n.state ≡ NoStack → ⊥
  pub rooms : task.kind ≡ Duty.Begins OpKind.Rebalance → (n : Node) → node_at task.serial s.core.nodes ≡ Some n → activity_at task.serial s.activities ≡ None → n.state ≡ NotStarted → ⊥

abbrev pub IsSkip : Label → Type 0
IsSkip (Label.Skip kind k) = Unit {0}
IsSkip _ = ⊥

module _ (settings : Settings) (s : State) (none : s.operation ≡ None) (task : Task) where
  abbrev P : Step → Type 0
  P step = IsSkip step.label → Spares s task

  -- Starts print something else

  module _ (node : Node) where
    abbrev Q : st.StartMove → Type 0
    Q m = P (ma.start_lifted s node.serial m)

    adds : (d : ℕ) (ds : List ℕ) (answer : Answer) → Q (st.add_driver (core_after s.core AskWhat.Add node.path d) node d ds answer)
    adds d ds Ok skip = absurd skip
    adds d ds Fail skip = absurd skip
    adds d ds Pend skip = absurd skip

    searches : (found : Found) → Q (st.searched s.core node found)
    searches (assignment plan) skip = absurd skip
    searches spent skip = absurd skip
    searches no_fit skip = absurd skip

    ends : (bad : Bool) → Q (st.end_start s.core node bad)
    ends true skip = absurd skip
    ends false skip = absurd skip

    starts : (w : Walk) (over : Bool) → Q (st.start_on s.core node w over)
    starts w true = ends (is_bad w)
    starts w false = λ skip. absurd skip

    removes : (w : Walk) (over : Bool) → Q (st.remove_on s.core node w over)
    removes w true skip = absurd skip
    removes w false skip = absurd skip

    undoes : (problem : Problem) (stack : List ℕ) → Q (st.undo (set_problem node.serial (Some problem) s.core) node problem stack)
    undoes problem [] skip = absurd skip
    undoes problem (d ∷ ds) skip = absurd skip

    acts_on : (phase : Phase) → AllBy settings.budget P (doing_map (ma.start_lifted s node.serial) (st.act s.core node phase))
    acts_on (Phase.Adding []) = λ found answer. searches found
    acts_on (Phase.Adding (d ∷ ds)) = adds d ds (rack_reply AskWhat.Add node.path s.core.rack d)
    acts_on Phase.Searching = λ found answer. searches found
    acts_on (Phase.Starting w) = starts w (has_ended w (length node.stack))
    acts_on (Phase.Removing w) = removes w (has_ended w (length node.stack))
    acts_on (Phase.Due problem) = undoes problem node.stack

  activity_next : (a : Activity) (o : Option Node) → AllNext settings.budget P (ma.activity_next s a o)
  activity_next a None = tt
  activity_next a (Some node) = acts_on node a.phase

  -- Tasks

  no_node : node_at task.serial s.core.nodes ≡ None → Spares s task
  no_node gone = record { starts = λ e n at idle bare. absurd (cc); rooms = λ e n at idle waits. absurd (cc) }

  other_kind : (kind : Duty) → task.kind ≡ kind → (kind ≡ Duty.Starting → ⊥) → (kind ≡ Duty.Begins OpKind.Rebalance → ⊥) → Spares s task
  other_kind kind is a b = record { starts = λ e n at idle bare. absurd (a (sym is ∙ e)); rooms = λ e n at idle waits. absurd (b (sym is ∙ e)) }

  module _ (is : task.kind ≡ Duty.Starting) (node : Node) (at : node_at task.serial s.core.nodes ≡ Some node) where
    installs_named : (rank : ℕ) (lower : Option (List ℕ)) (driver : Option ℕ) (upper : Option (List ℕ)) → P (tk.install_named s node rank lower driver upper)
    installs_named rank (Some lower) (Some driver) (Some upper) skip = absurd skip
    installs_named rank (Some lower) (Some driver) None skip = absurd skip
    installs_named rank (Some lower) None upper skip = absurd skip
    installs_named rank None driver upper skip = absurd skip

    installs_few : (choice : Choice) (service : Text) (few : Bool) → P (tk.install_few s node choice service few)
    installs_few choice service true = installs_named choice.rank (tk.numbered s.core.rack choice.lower) (driver_named service s.core.rack) (tk.numbered s.core.rack choice.upper)
    installs_few choice service false = λ skip. absurd skip

    installs_service : (choice : Choice) (o : Option Text) → P (tk.install_service s node choice o)
    installs_service choice None = λ skip. absurd skip
    installs_service choice (Some service) = installs_few choice service (nat_le (length choice.lower + 1 + length choice.upper) 16)

    installs_best : (o : Option Choice) → P (tk.install_best s node o)
    installs_best None = λ skip. absurd skip
    installs_best (Some choice) = installs_service choice choice.service

    enabled : (disabled : Bool) → P (tk.start_enabled settings s node disabled)
    enabled true = λ skip. absurd skip
    enabled false = installs_best (settings.best node.hw node.compat)

    busy : (a : Activity) → activity_at node.serial s.activities ≡ Some a → Spares s task
    busy a e =
        record {
          starts = λ q n there idle bare. absurd (let own = own_serial task.serial node s.core.nodes at in let same = subst (λ (i : ℕ). activity_at i s.activities ≡ Some a) own e in cc);
          rooms = λ q n there idle waits. absurd (cc);
        }

    starts_idle : (o : Option Activity) → activity_at node.serial s.activities ≡ o → P (tk.start_idle settings s node o)
    starts_idle (Some a) e = λ skip. busy a e
    starts_idle None e = enabled (has_same node.path s.disabled)

    driven : (x : DevState) → node.state ≡ x → (x ≡ NoStack → ⊥) → Spares s task
    driven x e other =
        record {
          starts = λ q n there idle bare. other (sym e ∙ ap (λ (z : Node). z.state) (some_same (node_at task.serial s.core.nodes) node n at there) ∙ bare);
          rooms = λ q n there idle waits. absurd (cc);
        }

    starts_bare : (x : DevState) → node.state ≡ x → P (tk.start_bare settings s node x)
    starts_bare NoStack e = starts_idle (activity_at node.serial s.activities) refl
    starts_bare _ e = λ skip. driven _ e (λ q. cc)

  start_step : task.kind ≡ Duty.Starting → (o : Option Node) → node_at task.serial s.core.nodes ≡ o → P (tk.start_step settings s task.serial o)
  start_step is None e = λ skip. no_node e
  start_step is (Some node) e = starts_bare is node e node.state refl

  module _ (is : task.kind ≡ Duty.Begins OpKind.Rebalance) (node : Node) (at : node_at task.serial s.core.nodes ≡ Some node) where
    rebalances_idle : (o : Option Activity) → activity_at node.serial s.activities ≡ o → P (tk.rebalance_idle s node o)
    rebalances_idle (Some a) e = λ skip.
        record {
          starts = λ q n there idle bare. absurd (cc);
          rooms = λ q n there idle waits. absurd (let own = own_serial task.serial node s.core.nodes at in let same = subst (λ (i : ℕ). activity_at i s.activities ≡ Some a) own e in cc);
        }
    rebalances_idle None e = λ skip. absurd skip

    rebalances : (x : DevState) → node.state ≡ x → P (tk.rebalance_task s node x)
    rebalances NotStarted e = rebalances_idle (activity_at node.serial s.activities) refl
    rebalances _ e = λ skip.
        record {
          starts = λ q n there idle bare. absurd (cc);
          rooms = λ q n there idle waits. absurd (let same = some_same (node_at task.serial s.core.nodes) node n at there in let state = ap (λ (z : Node). z.state) same in cc);
        }

  rebalance_step : task.kind ≡ Duty.Begins OpKind.Rebalance → (o : Option Node) → node_at task.serial s.core.nodes ≡ o → P (tk.begin_step s OpKind.Rebalance task.serial o)
  rebalance_step is None e = λ skip. no_node e
  rebalance_step is (Some node) e = rebalances is node e node.state refl

  -- a task of another kind tells nothing
  any_of : (o : Option (Rattle.pnp_model.specs.Records.Doing Step)) → Spares s task → AllNext settings.budget P o
  any_of None h = tt
  any_of (Some (Rattle.pnp_model.specs.Records.Doing.Does step)) h = λ skip. h
  any_of (Some (Rattle.pnp_model.specs.Records.Doing.Searches problem by_answer)) h = λ found answer skip. h

  alone : (activities : List Activity) → task.kind ≡ Duty.Begins OpKind.Rebalance → AllNext settings.budget P (ma.begin_alone s OpKind.Rebalance task.serial activities)
  alone [] is = rebalance_step is (node_at task.serial s.core.nodes) refl
  alone (a ∷ activities) is = tt

  does : (kind : Duty) → task.kind ≡ kind → AllNext settings.budget P (ma.task_of settings s kind task.serial)
  does Duty.Starting is = start_step is (node_at task.serial s.core.nodes) refl
  does (Duty.Begins OpKind.Rebalance) is = alone s.activities is
  does Duty.Listing is = any_of (ma.task_of settings s Duty.Listing task.serial) (other_kind Duty.Listing is (λ e. cc) (λ e. cc))
  does (Duty.Begins OpKind.Disable) is = any_of (ma.task_of settings s (Duty.Begins OpKind.Disable) task.serial) (other_kind (Duty.Begins OpKind.Disable) is (λ e. cc) (λ e. cc))
  does (Duty.Begins OpKind.Eject) is = any_of (ma.task_of settings s (Duty.Begins OpKind.Eject) task.serial) (other_kind (Duty.Begins OpKind.Eject) is (λ e. cc) (λ e. cc))
  does (Duty.Begins OpKind.Surprise) is = any_of (ma.task_of settings s (Duty.Begins OpKind.Surprise) task.serial) (other_kind (Duty.Begins OpKind.Surprise) is (λ e. cc) (λ e. cc))
  does (Duty.Begins OpKind.Finish) is = any_of (ma.task_of settings s (Duty.Begins OpKind.Finish) task.serial) (other_kind (Duty.Begins OpKind.Finish) is (λ e. cc) (λ e. cc))
  does (Duty.Begins OpKind.Change) is = any_of (ma.task_of settings s (Duty.Begins OpKind.Change) task.serial) (other_kind (Duty.Begins OpKind.Change) is (λ e. cc) (λ e. cc))

  idle_next : slice_get s.tasks 0 ≡ Some task → (o : Option Activity) → AllNext settings.budget P (ma.idle_next settings s o)
  idle_next first (Some a) = activity_next a (node_at a.serial s.core.nodes)
  idle_next first None = subst (λ (x : Option Task). AllNext settings.budget P (ma.task_next settings s x)) (sym first) (does task.kind refl)

  -- so the first task is, where it is skipped
  pub skipped_spares : slice_get s.tasks 0 ≡ Some task → (step : Step) → ma.IsStep settings (ma.next settings s) step → IsSkip step.label → Spares s task
  skipped_spares first step is =
      all_step P settings (ma.next_of settings s None) step (idle_next first (find ma.is_ready s.activities)) (subst (λ (x : Option Job). ma.IsStep settings (ma.next_of settings s x) step) none is)
