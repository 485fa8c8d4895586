-- Where no operation runs and all that is under way is of some devices, a step is of one of them.
use Rattle.std.proofs.Common.{ℕ, ◌+◌, ◌≡◌, ◌≢◌, ◌⊎◌, ◌==◌, inl, inr, Bool, true, false, not, List, [], ◌∷◌, ◌++◌, length, nat_le, drop, Option, Some, None, Contains, refl, sym, ap, ◌∙◌, subst, arith, cond}
use Rattle.std.specs.List.{find, slice_get}
use Rattle.std.proofs.lemmas.Bool.Decides.{nat_tests}
use Rattle.std.proofs.lemmas.List.Elements.{Contains-append_cases}
use Rattle.resource_reqs.specs.Spelling.Answer.{assignment, no_fit, spent}
use Rattle.resource_reqs.proofs.Counts.{contains_cons, contains_nil}
use Rattle.pnp_labels.specs.Texts.{Text}
use Rattle.pnp_labels.specs.declared.label.OpKind.{OpKind}
use Rattle.pnp_labels.specs.declared.states.DevState.{DevState}
use Rattle.pnp_labels.specs.declared.states.DevState.TheVariants.{NoStack, NotStarted, Started, SurpriseRemoved}
use Rattle.pnp_labels.specs.declared.states.Problem.{Problem}
use Rattle.pnp_labels.specs.declared.words.Answer.{Answer}
use Rattle.pnp_labels.specs.declared.words.Answer.TheVariants.{Ok, Fail, Pend}
use Rattle.pnp_labels.specs.declared.words.AskWhat.{AskWhat}
use Rattle.pnp_model.specs.Books.{driver_named, rack_reply}
use Rattle.pnp_model.specs.Cores.{bare, is_node, node_at, set_problem, stacked, with_holds, with_problem, with_stack, with_state}
use Rattle.pnp_model.specs.Frames.{core_after}
use Rattle.pnp_model.specs.Keyed.{changed_first, put_before, without_first}
use Rattle.pnp_model.specs.Records.{Activity, Choice, Device, Duty, Found, Job, Node, Phase, Settings, State, Step, Task, Walk, doing_map}
use Rattle.pnp_model.specs.Records.Phase.{Adding, Searching, Starting, Removing, Due}
use Rattle.pnp_model.specs.Machine as ma
use Rattle.pnp_model.specs.Starts as st
use Rattle.pnp_model.specs.States.{activity_at, device_born, is_above, is_activity, new_child, with_phase}
use Rattle.pnp_model.specs.Tasks as tk
use Rattle.pnp_model.specs.Tests.{has_same}
use Rattle.pnp_model.specs.Walks.{has_ended, is_bad}
use Rattle.pnp_model.specs.Handles.{is_ready_device}
use Rattle.pnp_laws.specs.Kept.{Ascending}
use Rattle.pnp_laws.proofs.Decides.{contains_here, contains_later}
use Rattle.pnp_laws.proofs.IdleSteps.{gone_is}
use Rattle.pnp_laws.proofs.Lookups.{first_is, found_self, joined_from, joined_keeps, node_changed_other, own_serial}
use Rattle.pnp_laws.proofs.Passing.{AllBy, AllNext, all_step}
use Rattle.pnp_laws.proofs.Truths.{and_both}
use Rattle.pnp_promises.proofs.LinesIdle.{found_in}
use Rattle.pnp_pairs.specs.Parts.{AreAtWork, IsApart, IsLocal, NamesMine, named}

-- Lists ---------------------------------------------------------------------------------------------------------

pub in_dropped : {A : Type 0} (xs : List A) (x : A) → Contains (drop 1 xs) x → Contains xs x
in_dropped [] x c = absurd (contains_nil x c)
in_dropped (y ∷ ys) x c = contains_later y ys x c

pub in_changed : {A : Type 0} (P : A → Type 0) (test : A → Bool) (f : A → A) → ((x : A) → P x → P (f x)) → (xs : List A) → ((x : A) → Contains xs x → P x) → (x : A) → Contains (changed_first test f xs) x → P x
in_changed P test f keeps [] all x c = absurd (contains_nil x c)
in_changed {A = A} P test f keeps (y ∷ ys) all x c = by_test (test y) c (in_changed P test f keeps ys (λ z d. all z (contains_later y ys z d)) x)
  where
    by_test : (b : Bool) → Contains (cond b (f y ∷ ys) (y ∷ changed_first test f ys)) x → (Contains (changed_first test f ys) x → P x) → P x
    by_test true d more = elim (contains_cons (f y) ys x d) [ inl e ↦ subst P (sym e) (keeps y (all y (contains_here y ys))) | inr q ↦ all x (contains_later y ys x q) ]
    by_test false d more = elim (contains_cons y (changed_first test f ys) x d) [ inl e ↦ subst P (sym e) (all y (contains_here y ys)) | inr q ↦ more q ]

in_without : {A : Type 0} (test : A → Bool) (xs : List A) (x : A) → Contains (without_first test xs) x → Contains xs x
in_without test [] x c = absurd (contains_nil x c)
in_without {A = A} test (y ∷ ys) x c = by_test (test y) c (in_without test ys x)
  where
    by_test : (b : Bool) → Contains (cond b ys (y ∷ without_first test ys)) x → (Contains (without_first test ys) x → Contains ys x) → Contains (y ∷ ys) x
    by_test true d more = contains_later y ys x d
    by_test false d more = elim (contains_cons y (without_first test ys) x d) [ inl e ↦ subst (λ (z : A). Contains (y ∷ ys) z) (sym e) (contains_here y ys) | inr q ↦ contains_later y ys x (more q) ]

in_put : {A : Type 0} (test : A → Bool) (new : A) (xs : List A) (x : A) → Contains (put_before test new xs) x → (x ≡ new) ⊎ Contains xs x
in_put test new [] x c = elim (contains_cons new [] x c) [ inl e ↦ inl e | inr q ↦ inr q ]
in_put {A = A} test new (y ∷ ys) x c = by_test (test y) c (in_put test new ys x)
  where
    by_test : (b : Bool) → Contains (cond b (new ∷ y ∷ ys) (y ∷ put_before test new ys)) x → (Contains (put_before test new ys) x → (x ≡ new) ⊎ Contains ys x) → (x ≡ new) ⊎ Contains (y ∷ ys) x
    by_test true d more = contains_cons new (y ∷ ys) x d
    by_test false d more =
        elim (contains_cons y (put_before test new ys) x d) [
          | inl e ↦ inr (subst (λ (z : A). Contains (y ∷ ys) z) (sym e) (contains_here y ys))
          | inr q ↦ elim (more q) [ inl e ↦ inl e | inr r ↦ inr (contains_later y ys x r) ]
        ]

pub in_more : {A : Type 0} (xs : List A) (new x : A) → Contains (xs ++ new ∷ []) x → (x ≡ new) ⊎ Contains xs x
in_more xs new x c = elim (Contains-append_cases xs (new ∷ []) x c) [ inl q ↦ inr q | inr q ↦ elim (contains_cons new [] x q) [ inl e ↦ inl e | inr none ↦ absurd (contains_nil x none) ] ]

-- What a step is to be ------------------------------------------------------------------------------------------

-- it names one of them, leaves all others as they are, and what is under way then is of them
pub record IsMine (mine : ℕ → Bool) (s : State) (step : Step) : Type 0 where
  pub names : NamesMine mine s step.label
  pub others : (j : ℕ) → mine j ≡ false → node_at j step.state.core.nodes ≡ node_at j s.core.nodes
  pub tasks : (task : Task) → Contains step.state.tasks task → mine task.serial ≡ true
  pub starts : (a : Activity) → Contains step.state.activities a → mine a.serial ≡ true

-- but where what begins looks at all devices
abbrev pub Mine : (ℕ → Bool) → State → Step → Type 0
Mine mine s step = IsLocal step.label → IsMine mine s step

module _ (mine : ℕ → Bool) (s : State) (apart : IsApart mine s) (work : AreAtWork mine s) (order : Ascending 0 s.core.nodes) where
  abbrev P : Step → Type 0
  P step = Mine mine s step

  -- one of them is there, with this path
  one : (n : Node) → node_at n.serial s.core.nodes ≡ Some n → mine n.serial ≡ true → (path : Text) → Some n.path ≡ Some path → (m : Node) × (node_at m.serial s.core.nodes ≡ Some m) × (m.path ≡ path) × (mine m.serial ≡ true)
  one n at own path e = let is : n.path ≡ path = cc in (n, at, is, own)

  dropped : (task : Task) → Contains (drop 1 s.tasks) task → mine task.serial ≡ true
  dropped task c = work.tasks task (in_dropped s.tasks task c)

  appended : (new : Task) → mine new.serial ≡ true → (task : Task) → Contains (s.tasks ++ new ∷ []) task → mine task.serial ≡ true
  appended new own task c = elim (in_more s.tasks new task c) [ inl e ↦ subst (λ (x : Task). mine x.serial ≡ true) (sym e) own | inr q ↦ work.tasks task q ]

  skips : (kind : Duty) (k : ℕ) → P (tk.skip kind k s)
  skips kind k local = record { names = λ path e. absurd (cc); others = λ j out. refl; tasks = dropped; starts = work.starts }

  -- a device that is not one of them is another
  other : (n : Node) → mine n.serial ≡ true → (j : ℕ) → mine j ≡ false → n.serial ≢ j
  other n own j out e = absurd (let z = ap mine e in cc)

  changed : (n : Node) → mine n.serial ≡ true → (f : Node → Node) → ((x : Node) → (f x).serial ≡ x.serial) → (j : ℕ) → mine j ≡ false → node_at j (changed_first (is_node n.serial) f s.core.nodes) ≡ node_at j s.core.nodes
  changed n own f keeps j out = node_changed_other n.serial j f s.core.nodes keeps (other n own j out)

  -- Listing

  module _ (n : Node) (at : node_at n.serial s.core.nodes ≡ Some n) (own : mine n.serial ≡ true) where
    listed : (o : Option Node) → tk.gone_child s n.serial ≡ o → P (tk.gone_or_listed s n o)
    listed None e local = record { names = one n at own; others = λ j out. refl; tasks = dropped; starts = work.starts }
    listed (Some child) e local =
        let gone = gone_is s n.serial child order e in
        let two = and_both (child.parent == n.serial) (not (child.serial == 0)) gone.1 in
        let over : (child.parent == n.serial) ≡ true = two.0 in
        let up : not (child.serial == 0) ≡ true = two.1 in
        let parent : child.parent ≡ n.serial = grind (arith, nat_tests) in
        let rises : child.serial ≢ 0 = λ z. (let q : child.serial ≡ 0 = z in grind (arith, nat_tests)) in
        let mine_too : mine child.serial ≡ true = apart.below child.serial child gone.0 rises (ap mine parent ∙ own) in
        record { names = one child gone.0 mine_too; others = λ j out. refl; tasks = appended (record { kind = Duty.Begins OpKind.Surprise; serial = child.serial }) mine_too; starts = work.starts }

    joins_or_on : (o : Option Device) → tk.joining n.born s.core.nodes s.world ≡ o → P (tk.join_or_on s n o)
    joins_or_on None e local = listed (tk.gone_child s n.serial) refl local
    joins_or_on (Some d) e local =
        let new : mine s.next_serial ≡ true = apart.later s.next_serial (omega arith) in
        record {
          names = λ path e. absurd (cc);
          others = λ j out. joined j (λ same. absurd (let z = ap mine same in cc));
          tasks = appended (record { kind = Duty.Starting; serial = s.next_serial }) new;
          starts = work.starts;
        }
      where
        joined : (j : ℕ) → s.next_serial ≢ j → node_at j (s.core.nodes ++ new_child n.serial d s ∷ []) ≡ node_at j s.core.nodes
        joined j apart_from = by_node (node_at j s.core.nodes) refl
          where
            by_node : (o : Option Node) → node_at j s.core.nodes ≡ o → node_at j (s.core.nodes ++ new_child n.serial d s ∷ []) ≡ o
            by_node (Some m) q = joined_keeps j s.core.nodes (new_child n.serial d s) m q
            by_node None q = by_new (node_at j (s.core.nodes ++ new_child n.serial d s ∷ [])) refl
              where
                by_new : (o : Option Node) → node_at j (s.core.nodes ++ new_child n.serial d s ∷ []) ≡ o → o ≡ None
                by_new None r = refl
                by_new (Some m) r =
                    elim (joined_from j s.core.nodes (new_child n.serial d s) m r) [
                      | inl w ↦ absurd (cc)
                      | inr (gone, is, serial) ↦ absurd (apart_from serial)
                    ]

    lists_up : (x : DevState) → P (tk.list_up s n x)
    lists_up Started = joins_or_on (tk.joining n.born s.core.nodes s.world) refl
    lists_up _ = skips Duty.Listing n.serial

    -- Starting

    troubled : (problem : Problem) → P (tk.begin_trouble s n problem)
    troubled problem local = record { names = one n at own; others = changed n own (with_problem (Some problem)) (λ x. refl); tasks = dropped; starts = work.starts }

    installs : (rank driver : ℕ) (drivers : List ℕ) → P (tk.install s n rank driver drivers)
    installs rank driver drivers local =
        record {
          names = one n at own;
          others = changed n own (with_problem None) (λ x. refl);
          tasks = dropped;
          starts = λ a c. (elim (in_put (is_above n.serial) (record { serial = n.serial; phase = st.adding drivers }) s.activities a c) [ inl e ↦ ap (λ (x : Activity). mine x.serial) e ∙ own | inr q ↦ work.starts a q ]);
        }

    installs_named : (rank : ℕ) (lower : Option (List ℕ)) (driver : Option ℕ) (upper : Option (List ℕ)) → P (tk.install_named s n rank lower driver upper)
    installs_named rank (Some lower) (Some driver) (Some upper) = installs rank driver (lower ++ driver ∷ upper)
    installs_named rank (Some lower) (Some driver) None = troubled Problem.LoadFailed
    installs_named rank (Some lower) None upper = troubled Problem.LoadFailed
    installs_named rank None driver upper = troubled Problem.LoadFailed

    installs_few : (choice : Choice) (service : Text) (few : Bool) → P (tk.install_few s n choice service few)
    installs_few choice service true = installs_named choice.rank (tk.numbered s.core.rack choice.lower) (driver_named service s.core.rack) (tk.numbered s.core.rack choice.upper)
    installs_few choice service false = troubled Problem.FailedInstall

    installs_service : (choice : Choice) (o : Option Text) → P (tk.install_service s n choice o)
    installs_service choice None = troubled Problem.FailedInstall
    installs_service choice (Some service) = installs_few choice service (nat_le (length choice.lower + 1 + length choice.upper) 16)

    installs_best : (o : Option Choice) → P (tk.install_best s n o)
    installs_best None = troubled Problem.FailedInstall
    installs_best (Some choice) = installs_service choice choice.service

    starts_enabled : (settings : Settings) (disabled : Bool) → P (tk.start_enabled settings s n disabled)
    starts_enabled settings true = troubled Problem.Disabled
    starts_enabled settings false = installs_best (settings.best n.hw n.compat)

    starts_idle : (settings : Settings) (o : Option Activity) → P (tk.start_idle settings s n o)
    starts_idle settings (Some a) = skips Duty.Starting n.serial
    starts_idle settings None = starts_enabled settings (has_same n.path s.disabled)

    starts_bare : (settings : Settings) (x : DevState) → P (tk.start_bare settings s n x)
    starts_bare settings NoStack = starts_idle settings (activity_at n.serial s.activities)
    starts_bare settings _ = skips Duty.Starting n.serial

    -- Beginning

    begins : (kind : OpKind) (job : Job) → P (tk.begin s kind n job)
    begins kind job local = record { names = one n at own; others = λ j out. refl; tasks = dropped; starts = work.starts }

    rebalances_idle : (o : Option Activity) → P (tk.rebalance_idle s n o)
    rebalances_idle (Some a) = skips (Duty.Begins OpKind.Rebalance) n.serial
    rebalances_idle None = begins OpKind.Rebalance _

    rebalances : (x : DevState) → P (tk.rebalance_task s n x)
    rebalances NotStarted = rebalances_idle (activity_at n.serial s.activities)
    rebalances _ = skips (Duty.Begins OpKind.Rebalance) n.serial

    disables : (disabled : Bool) → P (tk.disable_task s n disabled)
    disables true = skips (Duty.Begins OpKind.Disable) n.serial
    disables false = begins OpKind.Disable _

    surprises : (x : DevState) → P (tk.surprise_task s n x)
    surprises SurpriseRemoved = skips (Duty.Begins OpKind.Surprise) n.serial
    surprises _ = begins OpKind.Surprise _

    finishes : (ready : Bool) → P (tk.finish_task s n ready)
    finishes true = begins OpKind.Finish _
    finishes false = skips (Duty.Begins OpKind.Finish) n.serial

    changes_born : (o : Option Device) → P (tk.change_born s n o)
    changes_born None = skips (Duty.Begins OpKind.Change) n.serial
    changes_born (Some d) = begins OpKind.Change _

    changes : (x : DevState) → P (tk.change_task s n x)
    changes Started = changes_born (device_born n.born s.world)
    changes _ = skips (Duty.Begins OpKind.Change) n.serial

    begins_kind : (kind : OpKind) (k : ℕ) → P (tk.begin_step s kind k (Some n))
    begins_kind OpKind.Rebalance k = rebalances n.state
    begins_kind OpKind.Disable k = disables (has_same n.path s.disabled)
    begins_kind OpKind.Eject k = begins OpKind.Eject _
    begins_kind OpKind.Surprise k = surprises n.state
    begins_kind OpKind.Finish k = finishes (is_ready_device s.core s.handles n)
    begins_kind OpKind.Change k = changes n.state

    -- A start

    abbrev Q : st.StartMove → Type 0
    Q m = P (ma.start_lifted s n.serial m)

    -- by a move that changes this device at most, and prints its path
    by_move : (m : st.StartMove) → ((path : Text) → named m.label ≡ Some path → Some n.path ≡ Some path) → ((j : ℕ) → mine j ≡ false → node_at j m.core.nodes ≡ node_at j s.core.nodes) → Q m
    by_move m says others local = by_beside m.beside
      where
        by_beside : (beside : st.StartBeside) → IsMine mine s (record { label = m.label; state = ma.after_start n.serial m.frame beside (record s { core = m.core }) })
        by_beside st.StartBeside.On =
            record {
              names = λ path e. one n at own path (says path e);
              others = others;
              tasks = work.tasks;
              starts = in_changed (λ (a : Activity). mine a.serial ≡ true) (is_activity n.serial) (with_phase m.frame) (λ a h. h) s.activities work.starts;
            }
        by_beside st.StartBeside.Needs =
            record {
              names = λ path e. one n at own path (says path e);
              others = others;
              tasks = appended (record { kind = Duty.Begins OpKind.Rebalance; serial = n.serial }) own;
              starts = λ a c. work.starts a (in_without (is_activity n.serial) s.activities a c);
            }
        by_beside st.StartBeside.Up =
            record {
              names = λ path e. one n at own path (says path e);
              others = others;
              tasks = appended (record { kind = Duty.Listing; serial = n.serial }) own;
              starts = λ a c. work.starts a (in_without (is_activity n.serial) s.activities a c);
            }
        by_beside st.StartBeside.Over =
            record { names = λ path e. one n at own path (says path e); others = others; tasks = work.tasks; starts = λ a c. work.starts a (in_without (is_activity n.serial) s.activities a c) }

    adds : (d : ℕ) (ds : List ℕ) (answer : Answer) → Q (st.add_driver (core_after s.core AskWhat.Add n.path d) n d ds answer)
    adds d ds Ok = by_move (st.add_driver (core_after s.core AskWhat.Add n.path d) n d ds Ok) (λ path e. e) (changed n own (with_stack (n.stack ++ d ∷ []) (stacked n.state)) (λ x. refl))
    adds d ds Fail = by_move (st.add_driver (core_after s.core AskWhat.Add n.path d) n d ds Fail) (λ path e. e) (λ j out. refl)
    adds d ds Pend = by_move (st.add_driver (core_after s.core AskWhat.Add n.path d) n d ds Pend) (λ path e. e) (λ j out. refl)

    searches : (found : Found) → Q (st.searched s.core n found)
    searches (assignment plan) = by_move (st.searched s.core n (assignment plan)) (λ path e. e) (changed n own (with_holds (st.own_part plan)) (λ x. refl))
    searches spent = by_move (st.searched s.core n spent) (λ path e. e) (λ j out. refl)
    searches no_fit = by_move (st.searched s.core n no_fit) (λ path e. e) (λ j out. refl)

    starts_on : (w : Walk) (over bad : Bool) → is_bad w ≡ bad → Q (st.start_on s.core n w over)
    starts_on w true bad e = subst (λ (b : Bool). Q (st.end_start s.core n b)) (sym e) (by_bad bad)
      where
        by_bad : (bad : Bool) → Q (st.end_start s.core n bad)
        by_bad true = by_move (st.end_start s.core n true) (λ path e. e) (changed n own (with_state n.state) (λ x. refl))
        by_bad false = by_move (st.end_start s.core n false) (λ path e. e) (changed n own (with_state Started) (λ x. refl))
    starts_on w false bad e = by_move (st.start_on s.core n w false) (λ path e. e) (λ j out. refl)

    removes_on : (w : Walk) (over : Bool) → Q (st.remove_on s.core n w over)
    removes_on w true = by_move (st.remove_on s.core n w true) (λ path e. e) (changed n own bare (λ x. refl))
    removes_on w false = by_move (st.remove_on s.core n w false) (λ path e. e) (λ j out. refl)

    undoes : (problem : Problem) (stack : List ℕ) → Q (st.undo (set_problem n.serial (Some problem) s.core) n problem stack)
    undoes problem [] = by_move (st.undo (set_problem n.serial (Some problem) s.core) n problem []) (λ path e. e) (changed n own (with_problem (Some problem)) (λ x. refl))
    undoes problem (d ∷ ds) = by_move (st.undo (set_problem n.serial (Some problem) s.core) n problem (d ∷ ds)) (λ path e. e) (changed n own (with_problem (Some problem)) (λ x. refl))

    acts_on : (budget : ℕ) (phase : Phase) → AllBy budget P (doing_map (ma.start_lifted s n.serial) (st.act s.core n phase))
    acts_on budget (Adding []) = λ found answer. searches found
    acts_on budget (Adding (d ∷ ds)) = adds d ds (rack_reply AskWhat.Add n.path s.core.rack d)
    acts_on budget Searching = λ found answer. searches found
    acts_on budget (Starting w) = starts_on w (has_ended w (length n.stack)) (is_bad w) refl
    acts_on budget (Removing w) = removes_on w (has_ended w (length n.stack))
    acts_on budget (Due problem) = undoes problem n.stack

  -- What is next

  module _ (settings : Settings) where
    -- one of them, by its serial
    own_at : (k : ℕ) (n : Node) → node_at k s.core.nodes ≡ Some n → mine k ≡ true → mine n.serial ≡ true
    own_at k n e own = ap mine (own_serial k n s.core.nodes e) ∙ own

    lists : (k : ℕ) (o : Option Node) → mine k ≡ true → node_at k s.core.nodes ≡ o → P (tk.list_step s k o)
    lists k None own e = skips Duty.Listing k
    lists k (Some n) own e = lists_up n (found_self k s.core.nodes n e) (own_at k n e own) n.state

    begins_start : (k : ℕ) (o : Option Node) → mine k ≡ true → node_at k s.core.nodes ≡ o → P (tk.start_step settings s k o)
    begins_start k None own e = skips Duty.Starting k
    begins_start k (Some n) own e = starts_bare n (found_self k s.core.nodes n e) (own_at k n e own) settings n.state

    begins_one : (kind : OpKind) (k : ℕ) (o : Option Node) → mine k ≡ true → node_at k s.core.nodes ≡ o → P (tk.begin_step s kind k o)
    begins_one kind k None own e = skips (Duty.Begins kind) k
    begins_one kind k (Some n) own e = begins_kind n (found_self k s.core.nodes n e) (own_at k n e own) kind k

    begins_alone : (kind : OpKind) (k : ℕ) (activities : List Activity) → mine k ≡ true → AllNext settings.budget P (ma.begin_alone s kind k activities)
    begins_alone kind k [] own = begins_one kind k (node_at k s.core.nodes) own refl
    begins_alone kind k (a ∷ activities) own = tt

    does_task : (kind : Duty) (k : ℕ) → mine k ≡ true → AllNext settings.budget P (ma.task_of settings s kind k)
    does_task Duty.Listing k own = lists k (node_at k s.core.nodes) own refl
    does_task Duty.Starting k own = begins_start k (node_at k s.core.nodes) own refl
    does_task (Duty.Begins kind) k own = begins_alone kind k s.activities own

    does_first : (o : Option Task) → slice_get s.tasks 0 ≡ o → AllNext settings.budget P (ma.task_next settings s o)
    does_first None e = tt
    does_first (Some task) e =
        does_task task.kind task.serial (work.tasks task (subst (λ (xs : List Task). Contains xs task) (sym (first_is s.tasks task e)) (contains_here task (drop 1 s.tasks))))

    activity_next : (a : Activity) (o : Option Node) → mine a.serial ≡ true → node_at a.serial s.core.nodes ≡ o → AllNext settings.budget P (ma.activity_next s a o)
    activity_next a None own e = tt
    activity_next a (Some n) own e = acts_on n (found_self a.serial s.core.nodes n e) (own_at a.serial n e own) settings.budget a.phase

    idle_next : (o : Option Activity) → find ma.is_ready s.activities ≡ o → AllNext settings.budget P (ma.idle_next settings s o)
    idle_next (Some a) e = activity_next a (node_at a.serial s.core.nodes) (work.starts a (found_in ma.is_ready s.activities a e)) refl
    idle_next None e = does_first (slice_get s.tasks 0) refl

    -- each step from here is of one of them
    pub idle_mine : (step : Step) → ma.IsStep settings (ma.next settings s) step → P step
    idle_mine step is =
        all_step P settings (ma.next_of settings s None) step (idle_next (find ma.is_ready s.activities) refl) (subst (λ (x : Option Job). ma.IsStep settings (ma.next_of settings s x) step) work.none is)
