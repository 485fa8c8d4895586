-- What the lines of tasks and starts mean.
use Rattle.std.proofs.Common.{ℕ, ◌+◌, ◌≡◌, ◌⊎◌, ◌==◌, ◌&&◌, inl, inr, Bool, true, false, not, List, [], ◌∷◌, length, nat_le, Option, Some, None, Contains, refl, sym, ap, subst, ◌∙◌, arith, cond}
use Rattle.std.proofs.lemmas.Bool.Decides.{nat_tests}
use Rattle.std.specs.List.{find, list_any, slice_get}
use Rattle.std.specs.Option.{option_map}
use Rattle.resource_reqs.specs.Spelling.{IsAnswer}
use Rattle.resource_reqs.specs.Spelling.Answer.{assignment, no_fit, spent}
use Rattle.resource_reqs.proofs.Answering.{no_fit_means}
use Rattle.resource_reqs.proofs.Counts.{contains_cons, contains_nil}
use Rattle.pnp_labels.specs.Texts.{Text}
use Rattle.pnp_labels.specs.declared.label.OpKind.{OpKind}
use Rattle.pnp_labels.specs.declared.states.DevState.{DevState}
use Rattle.pnp_labels.specs.declared.states.DevState.TheVariants.{NoStack, NotStarted, Started, SurpriseRemoved}
use Rattle.pnp_labels.specs.declared.states.Problem.{Problem}
use Rattle.pnp_labels.specs.declared.words.Answer.{Answer}
use Rattle.pnp_labels.specs.declared.words.Answer.TheVariants.{Ok, Fail, Pend}
use Rattle.pnp_labels.specs.declared.words.AskWhat.{AskWhat}
use Rattle.pnp_labels.specs.declared.words.Minor.{Minor}
use Rattle.pnp_model.specs.Books.{driver_named, rack_reply}
use Rattle.pnp_model.specs.Cores.{node_at, set_problem}
use Rattle.pnp_model.specs.Frames.{core_after}
use Rattle.pnp_model.specs.Handles.{is_ready_device}
use Rattle.pnp_model.specs.Records.{Activity, Choice, Device, Duty, Found, Node, Phase, Settings, State, Step, Task, Walk, doing_map, Job}
use Rattle.pnp_model.specs.Records.Phase.{Adding, Searching, Starting, Removing, Due}
use Rattle.pnp_model.specs.Rebalances.{begun_change}
use Rattle.pnp_model.specs.States.{activity_at, device_born, is_in_world, with_phase}
use Rattle.pnp_model.specs.Tests.{has_same, is_surprise_removed}
use Rattle.pnp_model.specs.Walks.{has_ended, is_bad, walk_of}
use Rattle.pnp_laws.specs.Effects.{Acting, begun, required}
use Rattle.pnp_laws.specs.Kept.{Ascending, InOrder}
use Rattle.pnp_laws.proofs.Decides.{contains_here, contains_later}
use Rattle.pnp_laws.proofs.EffectViews.{acting_at}
use Rattle.pnp_laws.proofs.IdleSteps.{gone_is, joins_is}
use Rattle.pnp_laws.proofs.Lookups.{ended_same, find_passes, found_self, own_serial, phase_set_same}
use Rattle.pnp_laws.proofs.Passing.{AllBy, AllNext, all_step}
use Rattle.pnp_laws.proofs.Truths.{and_both, not_true}
use Rattle.pnp_model.specs.Machine as ma
use Rattle.pnp_model.specs.Starts as st
use Rattle.pnp_model.specs.Tasks as tk
use Rattle.pnp_promises.proofs.Choices.{first_choice}
use Rattle.pnp_promises.specs.Lines.{Because, IsTrouble, Means, NoneToJoin}

abbrev pub Meant : Settings → State → Step → Type 0
Meant settings s step = Means settings s step.label step.state

-- who is found is in the list, and who is not found does not pass
pub found_in : {A : Type 0} (p : A → Bool) (xs : List A) (x : A) → find p xs ≡ Some x → Contains xs x
found_in p [] x h = absurd (cc)
found_in p (y ∷ ys) x h = by_b (p y) h (found_in p ys x)
  where
    by_b : (b : Bool) → cond b (Some y) (find p ys) ≡ Some x → (find p ys ≡ Some x → Contains ys x) → Contains (y ∷ ys) x
    by_b true e more = let same : y ≡ x = cc in subst (λ z. Contains (y ∷ ys) z) same (contains_here y ys)
    by_b false e more = contains_later y ys x (more e)

pub none_passes : {A : Type 0} (p : A → Bool) (xs : List A) (x : A) → find p xs ≡ None → Contains xs x → p x ≡ false
none_passes p [] x h c = absurd (contains_nil x c)
none_passes p (y ∷ ys) x h c = by_b (p y) refl h (none_passes p ys x) (contains_cons y ys x c)
  where
    by_b : (b : Bool) → p y ≡ b → cond b (Some y) (find p ys) ≡ None → (find p ys ≡ None → Contains ys x → p x ≡ false) → (x ≡ y) ⊎ Contains ys x → p x ≡ false
    by_b true e g more where_is = absurd (cc)
    by_b false e g more (inl same) = ap p same ∙ e
    by_b false e g more (inr later) = more g later

one_or : (a b c : Bool) → (a && not b && not c) ≡ false → a ≡ true → (b ≡ true) ⊎ (c ≡ true)
one_or a true c h e = inl refl
one_or a false true h e = inr refl
one_or true false false h e = absurd (cc)
one_or false false false h e = absurd (cc)

module _ (settings : Settings) (s : State) (none : s.operation ≡ None) (order : Ascending 0 s.core.nodes) (acts_order : InOrder 0 s.activities) where
  abbrev P : Step → Type 0
  P step = Meant settings s step

  -- Listing

  nothing_joins : (node : Node) → tk.joining node.born s.core.nodes s.world ≡ None → NoneToJoin s node
  nothing_joins node none_is d there below =
      let no = none_passes (tk.joins node.born s.core.nodes) s.world d none_is there in
      one_or (d.parent == node.born) (tk.has_born d.born s.core.nodes) (tk.has_path d.path s.core.nodes) no (grind (arith, nat_tests))

  listed : (node : Node) (o : Option Node) → node_at node.serial s.core.nodes ≡ Some node → node.state ≡ Started → NoneToJoin s node → tk.gone_child s node.serial ≡ o → P (tk.gone_or_listed s node o)
  listed node None at up empty e = (node, at, refl, (up, empty))
  listed node (Some child) at up empty e =
      let gone = gone_is s node.serial child order e in
      let two = and_both (not (is_surprise_removed child.state)) (not (is_in_world s.world child.born) && not (list_any (tk.is_surprise_of child.serial) s.tasks)) gone.2 in
      let more = and_both (not (is_in_world s.world child.born)) (not (list_any (tk.is_surprise_of child.serial) s.tasks)) two.1 in
      let untold = not_true (is_surprise_removed child.state) two.0 in
      (child, gone.0, refl, (not_true (is_in_world s.world child.born) more.0, (λ told. let z = ap is_surprise_removed told in cc), refl))

  joins_or_on : (node : Node) (o : Option Device) → node_at node.serial s.core.nodes ≡ Some node → node.state ≡ Started → tk.joining node.born s.core.nodes s.world ≡ o → P (tk.join_or_on s node o)
  joins_or_on node None at up e = listed node (tk.gone_child s node.serial) at up (nothing_joins node e) refl
  joins_or_on node (Some d) at up e =
      let is = joins_is node.born s.core.nodes d (find_passes (tk.joins node.born s.core.nodes) s.world d e) in
      record {
        parent = node;
        there = at;
        up = up;
        device = d;
        of_world = found_in (tk.joins node.born s.core.nodes) s.world d e;
        below = is.0;
        new = is.1;
        path_free = is.2;
        named = refl;
        serial = refl;
        nodes = refl;
        starts = refl;
      }

  lists_up : (node : Node) (x : DevState) → node_at node.serial s.core.nodes ≡ Some node → node.state ≡ x → P (tk.list_up s node x)
  lists_up node Started at up = joins_or_on node (tk.joining node.born s.core.nodes s.world) at up refl
  lists_up node _ at down = (inr (node, at, λ up. cc), refl)

  list_step : (k : ℕ) (o : Option Node) → node_at k s.core.nodes ≡ o → P (tk.list_step s k o)
  list_step k None e = (inl e, refl)
  list_step k (Some node) e = lists_up node node.state (found_self k s.core.nodes node e) refl

  -- Starting

  module _ (node : Node) (at : node_at node.serial s.core.nodes ≡ Some node) (bare : node.state ≡ NoStack) (enabled : has_same node.path s.disabled ≡ false) where
    troubled : (problem : Problem) → Because settings s node (tk.begin_trouble s node problem).state problem → P (tk.begin_trouble s node problem)
    troubled problem because = IsTrouble.of node at refl refl because

    module _ (choice : Choice) (best : settings.best node.hw node.compat ≡ Some choice) (service : Text) (has : choice.service ≡ Some service) where
      installs_named : (lower : Option (List ℕ)) (driver : Option ℕ) (upper : Option (List ℕ)) → tk.numbered s.core.rack choice.lower ≡ lower → driver_named service s.core.rack ≡ driver → tk.numbered s.core.rack choice.upper ≡ upper → P (tk.install_named s node choice.rank lower driver upper)
      installs_named (Some lower) (Some driver) (Some upper) lower_are driver_is upper_are = (
        node,
        at,
        refl,
        record {
          enabled = enabled;
          bare = bare;
          choice = choice;
          best = best;
          own_rank = refl;
          service = service;
          has_service = has;
          lower = lower;
          own = driver;
          upper = upper;
          lower_are = lower_are;
          own_is = driver_is;
          upper_are = upper_are;
          says = refl;
          adds = refl;
          clears = refl;
        },
      )
      installs_named (Some lower) (Some driver) None a b c = troubled Problem.LoadFailed (Because.missing enabled (choice, service, best, has, inr (inr c)))
      installs_named (Some lower) None upper a b c = troubled Problem.LoadFailed (Because.missing enabled (choice, service, best, has, inr (inl b)))
      installs_named None driver upper a b c = troubled Problem.LoadFailed (Because.missing enabled (choice, service, best, has, inl a))

      installs_few : (few : Bool) → nat_le (length choice.lower + 1 + length choice.upper) 16 ≡ few → P (tk.install_few s node choice service few)
      installs_few true e = installs_named (tk.numbered s.core.rack choice.lower) (driver_named service s.core.rack) (tk.numbered s.core.rack choice.upper) refl refl refl
      installs_few false e = troubled Problem.FailedInstall (Because.unnamed enabled (inr (choice, best, inr (grind (arith, nat_tests)))))

    installs_service : (choice : Choice) (o : Option Text) → settings.best node.hw node.compat ≡ Some choice → choice.service ≡ o → P (tk.install_service s node choice o)
    installs_service choice None best e = troubled Problem.FailedInstall (Because.unnamed enabled (inr (choice, best, inl e)))
    installs_service choice (Some service) best e = installs_few choice best service e (nat_le (length choice.lower + 1 + length choice.upper) 16) refl

    installs_best : (o : Option Choice) → settings.best node.hw node.compat ≡ o → P (tk.install_best s node o)
    installs_best None e = troubled Problem.FailedInstall (Because.unnamed enabled (inl e))
    installs_best (Some choice) e = installs_service choice choice.service e refl

  module _ (node : Node) (at : node_at node.serial s.core.nodes ≡ Some node) where
    starts_enabled : (disabled : Bool) → node.state ≡ NoStack → has_same node.path s.disabled ≡ disabled → P (tk.start_enabled settings s node disabled)
    starts_enabled true bare e = IsTrouble.of node at refl refl (Because.stays_disabled e)
    starts_enabled false bare e = installs_best node at bare e (settings.best node.hw node.compat) refl

    starts_idle : (o : Option Activity) → node.state ≡ NoStack → activity_at node.serial s.activities ≡ o → P (tk.start_idle settings s node o)
    starts_idle (Some a) bare e = (inr (node, at, inr (λ q. cc)), refl)
    starts_idle None bare e = starts_enabled (has_same node.path s.disabled) bare refl

    starts_bare : (x : DevState) → node.state ≡ x → P (tk.start_bare settings s node x)
    starts_bare NoStack e = starts_idle (activity_at node.serial s.activities) e refl
    starts_bare _ e = (inr (node, at, inl (λ q. cc)), refl)

  start_step : (k : ℕ) (o : Option Node) → node_at k s.core.nodes ≡ o → P (tk.start_step settings s k o)
  start_step k None e = (inl e, refl)
  start_step k (Some node) e = starts_bare node (found_self k s.core.nodes node e) node.state refl

  -- Beginning

  module _ (alone : s.activities ≡ []) (begins : (kind : OpKind) (node : Node) → node_at node.serial s.core.nodes ≡ Some node → P (tk.begin s kind node (begun s kind node))) where
    module _ (node : Node) (at : node_at node.serial s.core.nodes ≡ Some node) where
      rebalances_idle : (o : Option Activity) → activity_at node.serial s.activities ≡ o → P (tk.rebalance_idle s node o)
      rebalances_idle (Some a) e = (inr (node, at, inr (λ q. cc)), refl)
      rebalances_idle None e = begins OpKind.Rebalance node at

      rebalances : (x : DevState) → node.state ≡ x → P (tk.rebalance_task s node x)
      rebalances NotStarted e = rebalances_idle (activity_at node.serial s.activities) refl
      rebalances _ e = (inr (node, at, inl (λ q. cc)), refl)

      disables : (disabled : Bool) → has_same node.path s.disabled ≡ disabled → P (tk.disable_task s node disabled)
      disables true e = (inr (node, at, e), refl)
      disables false e = begins OpKind.Disable node at

      surprises : (x : DevState) → node.state ≡ x → P (tk.surprise_task s node x)
      surprises SurpriseRemoved e = (inr (node, at, e), refl)
      surprises _ e = begins OpKind.Surprise node at

      finishes : (ready : Bool) → is_ready_device s.core s.handles node ≡ ready → P (tk.finish_task s node ready)
      finishes true e = begins OpKind.Finish node at
      finishes false e = (inr (node, at, e), refl)

      changes_born : (o : Option Device) → device_born node.born s.world ≡ o → P (tk.change_born s node o)
      changes_born None e = (inr (node, at, inr e), refl)
      changes_born (Some d) e =
          subst (λ (x : Option Device). P (tk.begin s OpKind.Change node (begun_change s.core node (required s node x)))) e (begins OpKind.Change node at)

      changes : (x : DevState) → node.state ≡ x → P (tk.change_task s node x)
      changes Started e = changes_born (device_born node.born s.world) refl
      changes _ e = (inr (node, at, inl (λ q. cc)), refl)

    begin_step : (kind : OpKind) (k : ℕ) (o : Option Node) → node_at k s.core.nodes ≡ o → P (tk.begin_step s kind k o)
    begin_step kind k None e = (inl e, refl)
    begin_step OpKind.Rebalance k (Some node) e = rebalances node (found_self k s.core.nodes node e) node.state refl
    begin_step OpKind.Disable k (Some node) e = disables node (found_self k s.core.nodes node e) (has_same node.path s.disabled) refl
    begin_step OpKind.Eject k (Some node) e = begins OpKind.Eject node (found_self k s.core.nodes node e)
    begin_step OpKind.Surprise k (Some node) e = surprises node (found_self k s.core.nodes node e) node.state refl
    begin_step OpKind.Finish k (Some node) e = finishes node (found_self k s.core.nodes node e) (is_ready_device s.core s.handles node) refl
    begin_step OpKind.Change k (Some node) e = changes node (found_self k s.core.nodes node e) node.state refl

  -- Starts

  module _ (node : Node) (at : node_at node.serial s.core.nodes ≡ Some node) where
    abbrev Q : st.StartMove → Type 0
    Q m = P (ma.start_lifted s node.serial m)

    adds : (d : ℕ) (ds : List ℕ) (answer : Answer) → Q (st.add_driver (core_after s.core AskWhat.Add node.path d) node d ds answer)
    adds d ds Ok = tt
    adds d ds Fail = tt
    adds d ds Pend = tt

    searches : (found : Found) → IsAnswer (st.own_problem s.core node).fixed (st.own_problem s.core node).movers settings.budget found → Q (st.searched s.core node found)
    searches (assignment plan) answer = (node, at, refl, (first_choice (st.own_problem s.core node).fixed node.reqs settings.budget plan answer, refl))
    searches spent answer = tt
    searches no_fit answer = λ idle. (node, at, refl, (((no_fit_means (st.own_problem s.core node).fixed (st.own_problem s.core node).movers settings.budget).0 answer).0, refl))

    starts : (w : Walk) (over bad : Bool) → is_bad w ≡ bad → Q (st.start_on s.core node w over)
    starts w true bad e = subst (λ (b : Bool). Q (st.end_start s.core node b)) (sym e) (by_bad bad)
      where
        by_bad : (bad : Bool) → Q (st.end_start s.core node bad)
        by_bad true = tt
        by_bad false = tt
    starts w false bad e = tt

    removes : (w : Walk) (over : Bool) → Q (st.remove_on s.core node w over)
    removes w true = tt
    removes w false = tt

    undoes : (problem : Problem) (stack : List ℕ) → Acting s node.serial (Due problem) → node.stack ≡ stack → Q (st.undo (set_problem node.serial (Some problem) s.core) node problem stack)
    undoes problem [] acts e =
        let here = acting_at s node.serial (Due problem) acts_order acts in
        IsTrouble.of node at refl refl (Because.owed problem (record { activity = here.activity; at = here.at; owes = here.is; then_what = inl (e, ended_same 0 node.serial s.activities acts_order) }))
    undoes problem (d ∷ ds) acts e =
        let here = acting_at s node.serial (Due problem) acts_order acts in
        IsTrouble.of node at refl refl
        (Because.owed problem (record {
          activity = here.activity;
          at = here.at;
          owes = here.is;
          then_what = inr ((λ q. cc), phase_set_same node.serial (Removing (walk_of Minor.Remove)) s.activities ∙ ap (option_map (with_phase (Removing (walk_of Minor.Remove)))) here.at);
        }))

    acts_on : (phase : Phase) → Acting s node.serial phase → AllBy settings.budget P (doing_map (ma.start_lifted s node.serial) (st.act s.core node phase))
    acts_on (Adding []) acts = λ found answer. searches found answer
    acts_on (Adding (d ∷ ds)) acts = adds d ds (rack_reply AskWhat.Add node.path s.core.rack d)
    acts_on Searching acts = λ found answer. searches found answer
    acts_on (Starting w) acts = starts w (has_ended w (length node.stack)) (is_bad w) refl
    acts_on (Removing w) acts = removes w (has_ended w (length node.stack))
    acts_on (Due problem) acts = undoes problem node.stack acts refl

  -- What is next

  module _ (begins : s.activities ≡ [] → (kind : OpKind) (node : Node) → node_at node.serial s.core.nodes ≡ Some node → P (tk.begin s kind node (begun s kind node))) where
    begins_alone : (kind : OpKind) (k : ℕ) (activities : List Activity) → s.activities ≡ activities → AllNext settings.budget P (ma.begin_alone s kind k activities)
    begins_alone kind k [] alone = begin_step alone (begins alone) kind k (node_at k s.core.nodes) refl
    begins_alone kind k (a ∷ activities) alone = tt

    does_task : (kind : Duty) (k : ℕ) → AllNext settings.budget P (ma.task_of settings s kind k)
    does_task Duty.Listing k = list_step k (node_at k s.core.nodes) refl
    does_task Duty.Starting k = start_step k (node_at k s.core.nodes) refl
    does_task (Duty.Begins kind) k = begins_alone kind k s.activities refl

    does_first : (o : Option Task) → AllNext settings.budget P (ma.task_next settings s o)
    does_first None = tt
    does_first (Some task) = does_task task.kind task.serial

    activity_next : (a : Activity) (o : Option Node) → find ma.is_ready s.activities ≡ Some a → node_at a.serial s.core.nodes ≡ o → AllNext settings.budget P (ma.activity_next s a o)
    activity_next a None ready e = tt
    activity_next a (Some node) ready e =
        acts_on node (found_self a.serial s.core.nodes node e) a.phase
        (record { none = none; activity = a; ready = ready; own = sym (own_serial a.serial node s.core.nodes e); is = refl })

    idle_next : (o : Option Activity) → find ma.is_ready s.activities ≡ o → AllNext settings.budget P (ma.idle_next settings s o)
    idle_next (Some a) ready = activity_next a (node_at a.serial s.core.nodes) ready refl
    idle_next None ready = does_first (slice_get s.tasks 0)

    pub idle_means : (step : Step) → ma.IsStep settings (ma.next settings s) step → P step
    idle_means step is =
        all_step P settings (ma.next_of settings s None) step (idle_next (find ma.is_ready s.activities) refl) (subst (λ (x : Option Job). ma.IsStep settings (ma.next_of settings s x) step) none is)
