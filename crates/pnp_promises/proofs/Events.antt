-- What an event does, and why it is refused: the one pass over the events that the laws on events read.
use Rattle.std.proofs.Common.{ℕ, ◌+◌, ◌<◌, ◌≤◌, ◌≡◌, ◌≢◌, ◌⊎◌, ◌==◌, ◌&&◌, ◌||◌, inl, inr, Bool, true, false, not, List, [], ◌∷◌, ◌++◌, ◌∙◌, length, nat_le, nat_lt, Option, Some, None, is_some, refl, sym, ap, subst, arith}
use Rattle.std.proofs.lemmas.Bool.Decides.{nat_tests}
use Rattle.std.specs.Prelude.{is_none, if◌then◌else◌}
use Rattle.std.specs.List.{find, list_any, slice_get}
use Rattle.std.specs.Option.{option_map}
use Rattle.device_ids.specs.Folding.{same}
use Rattle.resource_reqs.specs.Resources.{Res, Reqs, clashes}
use Rattle.pnp_labels.specs.Texts.{Text}
use Rattle.pnp_labels.specs.declared.states.DevState.{DevState}
use Rattle.pnp_labels.specs.declared.states.DevState.TheVariants.{Started}
use Rattle.pnp_labels.specs.declared.words.Minor.{Minor}
use Rattle.pnp_labels.specs.declared.words.DriverKind.{DriverKind}
use Rattle.pnp_labels.specs.declared.words.RelKind.{RelKind}
use Rattle.pnp_labels.specs.declared.event.Event.{Event}
use Rattle.pnp_labels.specs.declared.event.Rule.{Rule}
use Rattle.pnp_labels.specs.declared.label.EventWord.{EventWord}
use Rattle.pnp_labels.specs.declared.label.Reason.{Reason}
use Rattle.pnp_labels.specs.declared.label.Label.{Label}
use Rattle.pnp_labels.specs.declared.deed.Deed.{Deed}
use Rattle.pnp_model.specs.Books.{is_named, is_unnamed}
use Rattle.pnp_model.specs.Frames.{held_by}
use Rattle.pnp_model.specs.Handles.{closed_with, is_handle_of}
use Rattle.pnp_model.specs.Keyed.{changed_first, without_first}
use Rattle.pnp_model.specs.Machine.{phase_walk}
use Rattle.pnp_model.specs.Records.{Activity, Device, Driver, Duty, Handle, Job, Node, Phase, State, Step, Walk}
use Rattle.pnp_model.specs.States.{activity_at, device_of, enable_path, has_below, is_activity, is_in_world, list_node, node_born, node_of, plug, unplug, with_phase, without_those}
use Rattle.pnp_model.specs.Tests.{has, has_same, is_scripted, is_started, is_surprise_removed, minor_number, same_minor}
use Rattle.pnp_model.specs.Trees.{dependents, is_child}
use Rattle.pnp_model.specs.Walks.{after}
use Rattle.pnp_model.specs.Windows.{is_window_on}
use Rattle.pnp_model.proofs.Guards.{by_found, by_test, none_if, not_not}
use Rattle.pnp_model.specs.Events as ev
use Rattle.pnp_laws.specs.Waiting.{HandlesInOrder}
use Rattle.pnp_laws.proofs.Lookups.{some_same}
use Rattle.pnp_laws.proofs.OpSteps.{is_Started, is_SurpriseRemoved}
use Rattle.pnp_laws.proofs.OpenHandles.{open_handles_fit}
use Rattle.pnp_laws.proofs.Truths.{and_both, both_true, or_cases, or_neither, not_true}
use Rattle.pnp_promises.specs.Accepted.{AcceptedIsDoneLaw, ClosedHandle, Done, GotAnswer, IsDone, OneMoreOpen, and_for, answered, with_walk}
use Rattle.pnp_promises.specs.Refusals.{AwaitsAnswer, Cause, CausesAreExactLaw, ChangesNothing, HasBelow, IsExact, IsFirst, NoneHolds, RefusedChangesNothingLaw, TheDevice, TheDriver, TheNode, causes}
use Rattle.pnp_promises.proofs.Counting.{closed_one_less, count_is, is_zero, not_zero, opened_one_more}

-- what the laws on events say of an event that leads to a step
pub record Told (s : State) (event : Event) (step : Step) : Type 0 where
  pub nothing : ChangesNothing s step.label step.state
  pub exact : IsExact s event step.label
  pub done : IsDone s event step.label step.state

refuse : (s : State) (event : Event) (word : EventWord) (reason : Reason) → IsFirst (Cause s event) (causes event) reason → Told s event (ev.refused word reason s)
refuse s event word reason first = record { nothing = refl; exact = first; done = tt }

accept : (s : State) (event : Event) (deed : Deed) (t : State) → NoneHolds (Cause s event) (causes event) → Done s event deed t → Told s event (record { label = Label.Did deed; state = t })
accept s event deed t none done = record { nothing = tt; exact = none; done = done }

-- What a test says --------------------------------------------------------------------------------

some_of : {A : Type 0} (o : Option A) → is_some o ≡ true → (a : A) × (o ≡ Some a)
some_of None h = absurd (cc)
some_of (Some a) h = (a, refl)

busy : {A : Type 0} (o : Option A) → is_some o ≡ true → o ≢ None
busy None h e = cc
busy (Some a) h e = cc

-- another cannot be there
only : {A : Type 0} (o : Option A) (P : A → Type 0) (a : A) → o ≡ Some a → (P a → ⊥) → ((b : A) × (o ≡ Some b) × P b) → ⊥
only o P a at none (b, there, p) = none (subst P (some_same o b a there at) p)

not_up : (x : DevState) → is_started x ≡ false → x ≢ Started
not_up x h e = let z = subst (λ (y : DevState). is_started y ≡ false) e h in cc

is_up : (x : DevState) → x ≡ Started → is_started x ≡ true
is_up x e = ap is_started e

not_scripted : (kind : DriverKind) → is_scripted kind ≡ false → kind ≢ DriverKind.Scripted
not_scripted kind h e = let z = subst (λ (y : DriverKind). is_scripted y ≡ false) e h in cc

-- a text is in the list just where it is found there
found_text : (path : Text) (paths : List Text) (own : Text) → find (same path) paths ≡ Some own → has_same path paths ≡ true
found_text path [] own h = absurd (cc)
found_text path (p ∷ ps) own h = by_b (same path p) h (found_text path ps own)
  where
    by_b : (b : Bool) → (if b then Some p else find (same path) ps) ≡ Some own → (find (same path) ps ≡ Some own → has_same path ps ≡ true) → (b || has_same path ps) ≡ true
    by_b true g more = refl
    by_b false g more = more g

lost_text : (path : Text) (paths : List Text) → find (same path) paths ≡ None → has_same path paths ≡ false
lost_text path [] h = refl
lost_text path (p ∷ ps) h = by_b (same path p) h (lost_text path ps)
  where
    by_b : (b : Bool) → (if b then Some p else find (same path) ps) ≡ None → (find (same path) ps ≡ None → has_same path ps ≡ false) → (b || has_same path ps) ≡ false
    by_b true g more = absurd (cc)
    by_b false g more = more g

-- who waits, and for what
minor_is : (m n : Minor) → same_minor m n ≡ true → m ≡ n
minor_is Minor.Start n h = by_n n h
  where
    by_n : (n : Minor) → same_minor Minor.Start n ≡ true → Minor.Start ≡ n
    by_n Minor.Start h = refl
    by_n _ h = absurd (cc)
minor_is Minor.QueryRemove n h = by_n n h
  where
    by_n : (n : Minor) → same_minor Minor.QueryRemove n ≡ true → Minor.QueryRemove ≡ n
    by_n Minor.QueryRemove h = refl
    by_n _ h = absurd (cc)
minor_is Minor.Remove n h = by_n n h
  where
    by_n : (n : Minor) → same_minor Minor.Remove n ≡ true → Minor.Remove ≡ n
    by_n Minor.Remove h = refl
    by_n _ h = absurd (cc)
minor_is Minor.CancelRemove n h = by_n n h
  where
    by_n : (n : Minor) → same_minor Minor.CancelRemove n ≡ true → Minor.CancelRemove ≡ n
    by_n Minor.CancelRemove h = refl
    by_n _ h = absurd (cc)
minor_is Minor.Stop n h = by_n n h
  where
    by_n : (n : Minor) → same_minor Minor.Stop n ≡ true → Minor.Stop ≡ n
    by_n Minor.Stop h = refl
    by_n _ h = absurd (cc)
minor_is Minor.QueryStop n h = by_n n h
  where
    by_n : (n : Minor) → same_minor Minor.QueryStop n ≡ true → Minor.QueryStop ≡ n
    by_n Minor.QueryStop h = refl
    by_n _ h = absurd (cc)
minor_is Minor.CancelStop n h = by_n n h
  where
    by_n : (n : Minor) → same_minor Minor.CancelStop n ≡ true → Minor.CancelStop ≡ n
    by_n Minor.CancelStop h = refl
    by_n _ h = absurd (cc)
minor_is Minor.SurpriseRemoval n h = by_n n h
  where
    by_n : (n : Minor) → same_minor Minor.SurpriseRemoval n ≡ true → Minor.SurpriseRemoval ≡ n
    by_n Minor.SurpriseRemoval h = refl
    by_n _ h = absurd (cc)

same_number : (k : ℕ) → (k == k) ≡ true
same_number k = grind (arith, nat_tests)

number_is : (k : ℕ) (o : Option ℕ) → ev.is_number k o ≡ true → o ≡ Some k
number_is k None h = absurd (cc)
number_is k (Some j) h = let e : j ≡ k = grind (arith, nat_tests) in ap Some e

waiting : (minor : Minor) (o : Option Walk) → ev.waits_for minor o ≡ true → (w : Walk) × (o ≡ Some w) × (w.waits ≡ true) × (w.minor ≡ minor)
waiting minor None h = absurd (cc)
waiting minor (Some w) h = let two = and_both w.waits (same_minor w.minor minor) h in (w, refl, two.0, minor_is w.minor minor two.1)

awaited : (minor : Minor) (o : Option Walk) (w : Walk) → o ≡ Some w → w.waits ≡ true → w.minor ≡ minor → ev.waits_for minor o ≡ true
awaited minor None w at waits is = absurd (cc)
awaited minor (Some v) w at waits is =
    let same : v ≡ w = cc in
    both_true v.waits (same_minor v.minor minor) (ap (λ (x : Walk). x.waits) same ∙ waits)
    (ap (λ (m : Minor). same_minor m minor) (ap (λ (x : Walk). x.minor) same ∙ is) ∙ same_number (minor_number minor))

answered_walk : (ok : Bool) (w : Walk) → option_map (λ v. after v (ev.answer_of ok)) (Some w) ≡ Some (answered w ok)
answered_walk true w = refl
answered_walk false w = refl

answered_phase : (ok : Bool) (w : Walk) (phase : Phase) → phase_walk phase ≡ Some w → ev.completed_phase (ev.answer_of ok) phase ≡ with_walk (answered w ok) phase
answered_phase true w (Phase.Starting v) e = let same : v ≡ w = cc in ap (λ (x : Walk). Phase.Starting (answered x true)) same
answered_phase false w (Phase.Starting v) e = let same : v ≡ w = cc in ap (λ (x : Walk). Phase.Starting (answered x false)) same
answered_phase true w (Phase.Removing v) e = let same : v ≡ w = cc in ap (λ (x : Walk). Phase.Removing (answered x true)) same
answered_phase false w (Phase.Removing v) e = let same : v ≡ w = cc in ap (λ (x : Walk). Phase.Removing (answered x false)) same
answered_phase ok w _ e = absurd (cc)

any_both : {A : Type 0} (p : A → Bool) (xs ys : List A) → list_any p (xs ++ ys) ≡ (list_any p xs || list_any p ys)
any_both p [] ys = refl
any_both p (x ∷ xs) ys = by_b (p x) (any_both p xs ys)
  where
    by_b : (b : Bool) → list_any p (xs ++ ys) ≡ (list_any p xs || list_any p ys) → (b || list_any p (xs ++ ys)) ≡ ((b || list_any p xs) || list_any p ys)
    by_b true e = refl
    by_b false e = e

module _ (s : State) where
  -- Devices of the world

  module _ (parent path : Text) (hw compat : List Text) (reqs : Reqs) where
    plug_lists : (over : Device) (o : Option Node) → node_born over.born s.core.nodes ≡ o
        → list_node o (plug (record { born = s.next_born; parent = over.born; path = path; hw = hw; compat = compat; reqs = reqs }) s)
        ≡ record s {
          world = s.world ++ record { born = s.next_born; parent = over.born; path = path; hw = hw; compat = compat; reqs = reqs } ∷ [];
          next_born = s.next_born + 1;
          tasks = and_for s.tasks Duty.Listing (node_born over.born s.core.nodes);
        }
    plug_lists over None e =
        ap (λ (x : Option Node). record s { world = s.world ++ record { born = s.next_born; parent = over.born; path = path; hw = hw; compat = compat; reqs = reqs } ∷ []; next_born = s.next_born + 1; tasks = and_for s.tasks Duty.Listing x }) (sym e)
    plug_lists over (Some n) e =
        ap (λ (x : Option Node). record s { world = s.world ++ record { born = s.next_born; parent = over.born; path = path; hw = hw; compat = compat; reqs = reqs } ∷ []; next_born = s.next_born + 1; tasks = and_for s.tasks Duty.Listing x }) (sym e)

    plugs : Told s (Event.Plug parent path hw compat reqs) (ev.plugs s parent path hw compat reqs)
    plugs =
        let event = Event.Plug parent path hw compat reqs in
        by_found (Told s event) (device_of parent s.world) _ _ (λ none. refuse s event _ _ (inl (refl, none))) (λ over there.
        let known : device_of parent s.world ≡ None → ⊥ = λ e. cc in
        by_test (Told s event) (is_some (device_of path s.world)) _ _ (λ taken. let d = some_of (device_of path s.world) taken in refuse s event _ _ (inr (known, inl (refl, (d.0, d.1, tt))))) (λ free.
        let fresh : TheDevice s path (λ d. Unit {0}) → ⊥ = λ d. let none = none_if (device_of path s.world) free in let at = d.1 in cc in
        by_test (Told s event) (not (nat_le (length s.world) 4096)) _ _ (λ full. refuse s event _ _ (inr (known, inr (fresh, inl (refl, grind (arith, nat_tests)))))) (λ room.
        let few : 4096 < length s.world → ⊥ = λ l. grind (arith, nat_tests) in
        accept s event _ _ (known, (fresh, (few, tt))) (refl, (over, there, plug_lists over (node_born over.born s.core.nodes) refl)))))

  module _ (path : Text) where
    pull_lists : (d : Device) (o : Option Node) → node_born d.parent s.core.nodes ≡ o
        → list_node o (unplug d.born s) ≡ record s { world = without_those (d.born ∷ []) s.world; tasks = and_for s.tasks Duty.Listing (node_born d.parent s.core.nodes) }
    pull_lists d None e = ap (λ (x : Option Node). record s { world = without_those (d.born ∷ []) s.world; tasks = and_for s.tasks Duty.Listing x }) (sym e)
    pull_lists d (Some n) e = ap (λ (x : Option Node). record s { world = without_those (d.born ∷ []) s.world; tasks = and_for s.tasks Duty.Listing x }) (sym e)

    pulls : Told s (Event.Pull path) (ev.pulls s path)
    pulls =
        let event = Event.Pull path in
        by_found (Told s event) (device_of path s.world) _ _ (λ none. refuse s event _ _ (inl (refl, none))) (λ d there.
        let known : device_of path s.world ≡ None → ⊥ = λ e. cc in
        by_test (Told s event) (d.born == 0) _ _ (λ root. refuse s event _ _ (inr (known, inl (refl, (d, there, is_zero d.born root))))) (λ other.
        let below : TheDevice s path (λ x. x.born ≡ 0) → ⊥ = only (device_of path s.world) (λ x. x.born ≡ 0) d there (not_zero d.born other) in
        accept s event _ _ (known, (below, tt)) (d, there, (refl, pull_lists d (node_born d.parent s.core.nodes) refl))))

  module _ (path : Text) (res : Res) where
    below_by : (d : Device) (o : Option Node) → node_born d.born s.core.nodes ≡ o → (has_below d.born s.world ≡ true) ⊎ (ev.has_children s.core.nodes o ≡ true) → HasBelow s d
    below_by d o e (inl world) = inl world
    below_by d None e (inr none) = absurd (cc)
    below_by d (Some n) e (inr tree) = inr (n, e, tree)

    bare_by : (d : Device) (o : Option Node) → node_born d.born s.core.nodes ≡ o → has_below d.born s.world ≡ false → ev.has_children s.core.nodes o ≡ false → HasBelow s d → ⊥
    bare_by d o e world tree (inl h) = cc
    bare_by d None e world tree (inr (n, at, h)) = cc
    bare_by d (Some m) e world tree (inr (n, at, h)) = let same = some_same (node_born d.born s.core.nodes) m n e at in let z = subst (λ (x : Node). list_any (is_child x.serial) s.core.nodes ≡ false) same tree in cc

    sets_window : Told s (Event.Window path res) (ev.sets_window s path res)
    sets_window =
        let event = Event.Window path res in
        by_found (Told s event) (device_of path s.world) _ _ (λ none. refuse s event _ _ (inl (refl, none))) (λ d there.
        let known : device_of path s.world ≡ None → ⊥ = λ e. cc in
        by_test (Told s event) (d.born == 0) _ _ (λ root. refuse s event _ _ (inr (known, inl (refl, (d, there, is_zero d.born root))))) (λ other.
        let below : TheDevice s path (λ x. x.born ≡ 0) → ⊥ = only (device_of path s.world) (λ x. x.born ≡ 0) d there (not_zero d.born other) in
        by_test (Told s event) (has_below d.born s.world || ev.has_children s.core.nodes (node_born d.born s.core.nodes)) _ _
        (λ has. refuse s event _ _ (inr (known, inr (below, inl (refl, (d, there, below_by d (node_born d.born s.core.nodes) refl (or_cases (has_below d.born s.world) (ev.has_children s.core.nodes (node_born d.born s.core.nodes)) has))))))) (λ none.
        let two = or_neither (has_below d.born s.world) (ev.has_children s.core.nodes (node_born d.born s.core.nodes)) none in
        let bare : TheDevice s path (HasBelow s) → ⊥ = only (device_of path s.world) (HasBelow s) d there (bare_by d (node_born d.born s.core.nodes) refl two.0 two.1) in
        by_test (Told s event) (list_any (is_window_on res.kind (d.born ∷ [])) s.windows) _ _ (λ has. refuse s event _ _ (inr (known, inr (below, inr (bare, inl (refl, (d, there, has))))))) (λ first.
        let only_one : TheDevice s path (λ x. list_any (is_window_on res.kind (x.born ∷ [])) s.windows ≡ true) → ⊥ =
        only (device_of path s.world) (λ x. list_any (is_window_on res.kind (x.born ∷ [])) s.windows ≡ true) d there (λ h. cc) in
        accept s event _ _ (known, (below, (bare, (only_one, tt)))) (d, there, (refl, refl))))))

  -- Drivers

  names : (name : Text) (kind : DriverKind) → Told s (Event.Name name kind) (ev.names s name kind)
  names name kind =
      let event = Event.Name name kind in
      by_test (Told s event) (is_some (find (is_named name) s.core.rack)) _ _ (λ taken. let d = some_of (find (is_named name) s.core.rack) taken in refuse s event _ _ (inl (refl, (d.0, d.1, tt)))) (λ free.
      let fresh : TheDriver s name (λ d. Unit {0}) → ⊥ = λ d. let none = none_if (find (is_named name) s.core.rack) free in let at = d.1 in cc in
      by_test (Told s event) (is_none (find (is_unnamed kind) s.core.rack)) _ _ (λ empty. refuse s event _ _ (inr (fresh, inl (refl, none_of (find (is_unnamed kind) s.core.rack) empty)))) (λ some.
      let left : find (is_unnamed kind) s.core.rack ≡ None → ⊥ = not_none (find (is_unnamed kind) s.core.rack) some in
      accept s event _ _ (fresh, (left, tt)) (refl, refl)))
    where
      none_of : (o : Option Driver) → is_none o ≡ true → o ≡ None
      none_of None h = refl
      none_of (Some d) h = absurd (cc)

      not_none : (o : Option Driver) → is_none o ≡ false → o ≡ None → ⊥
      not_none None h e = cc
      not_none (Some d) h e = cc

  teaches : (name : Text) (rule : Rule) → Told s (Event.Teach name rule) (ev.teaches s name rule)
  teaches name rule =
      let event = Event.Teach name rule in
      by_found (Told s event) (find (is_named name) s.core.rack) _ _ (λ none. refuse s event _ _ (inl (refl, none))) (λ d there.
      let known : find (is_named name) s.core.rack ≡ None → ⊥ = λ e. cc in
      by_test (Told s event) (not (is_scripted d.kind)) _ _ (λ other. refuse s event _ _ (inr (known, inl (refl, (d, there, not_scripted d.kind (not_true (is_scripted d.kind) other)))))) (λ kind.
      let learns : TheDriver s name (λ x. x.kind ≢ DriverKind.Scripted) → ⊥ = only (find (is_named name) s.core.rack) (λ x. x.kind ≢ DriverKind.Scripted) d there (λ h. h (scripted d.kind (not_not (is_scripted d.kind) kind))) in
      by_test (Told s event) (nat_le 64 (length d.book)) _ _ (λ full. refuse s event _ _ (inr (known, inr (learns, inl (refl, (d, there, grind (arith, nat_tests))))))) (λ room.
      let few : TheDriver s name (λ x. 64 ≤ length x.book) → ⊥ = only (find (is_named name) s.core.rack) (λ x. 64 ≤ length x.book) d there (λ l. grind (arith, nat_tests)) in
      accept s event _ _ (known, (learns, (few, tt))) (d, there, (refl, refl)))))
    where
      scripted : (kind : DriverKind) → is_scripted kind ≡ true → kind ≡ DriverKind.Scripted
      scripted DriverKind.Scripted h = refl
      scripted DriverKind.Steady h = absurd (cc)
      scripted DriverKind.Stubborn h = absurd (cc)

  -- Tasks

  module _ (path : Text) where
    disables : Told s (Event.Disable path) (ev.disables s path)
    disables =
        let event = Event.Disable path in
        by_found (Told s event) (node_of path s.core.nodes) _ _ (λ none. refuse s event _ _ (inl (refl, none))) (λ n at.
        let known : node_of path s.core.nodes ≡ None → ⊥ = λ e. cc in
        by_test (Told s event) (n.serial == 0) _ _ (λ root. refuse s event _ _ (inr (known, inl (refl, (n, at, is_zero n.serial root))))) (λ other.
        let below : TheNode s path (λ x. x.serial ≡ 0) → ⊥ = only (node_of path s.core.nodes) (λ x. x.serial ≡ 0) n at (not_zero n.serial other) in
        by_test (Told s event) (has_same path s.disabled) _ _ (λ already. refuse s event _ _ (inr (known, inr (below, inl (refl, already))))) (λ enabled.
        accept s event _ _ (known, (below, ((λ h. cc), tt))) (n, at, (refl, refl)))))

    start_again : (o : Option Node) → node_of path s.core.nodes ≡ o → ev.start_node o (enable_path path s) ≡ record s { disabled = without_first (same path) s.disabled; tasks = and_for s.tasks Duty.Starting (node_of path s.core.nodes) }
    start_again None e = ap (λ (x : Option Node). record s { disabled = without_first (same path) s.disabled; tasks = and_for s.tasks Duty.Starting x }) (sym e)
    start_again (Some n) e = ap (λ (x : Option Node). record s { disabled = without_first (same path) s.disabled; tasks = and_for s.tasks Duty.Starting x }) (sym e)

    enables : Told s (Event.Enable path) (ev.enables s path)
    enables =
        let event = Event.Enable path in
        by_found (Told s event) (find (same path) s.disabled) _ _ (λ none. refuse s event _ _ (inl (refl, lost_text path s.disabled none))) (λ own there.
        accept s event _ _ ((λ h. let has = found_text path s.disabled own there in cc), tt) (own, there, refl, start_again (node_of path s.core.nodes) refl))

    ejects : Told s (Event.Eject path) (ev.ejects s path)
    ejects =
        let event = Event.Eject path in
        by_found (Told s event) (node_of path s.core.nodes) _ _ (λ none. refuse s event _ _ (inl (refl, none))) (λ n at.
        let known : node_of path s.core.nodes ≡ None → ⊥ = λ e. cc in
        by_test (Told s event) (n.serial == 0) _ _ (λ root. refuse s event _ _ (inr (known, inl (refl, (n, at, is_zero n.serial root))))) (λ other.
        let below : TheNode s path (λ x. x.serial ≡ 0) → ⊥ = only (node_of path s.core.nodes) (λ x. x.serial ≡ 0) n at (not_zero n.serial other) in
        accept s event _ _ (known, (below, tt)) (n, at, (refl, refl))))

  changes : (path : Text) (reqs : Reqs) → Told s (Event.Change path reqs) (ev.changes s path reqs)
  changes path reqs =
      let event = Event.Change path reqs in
      by_found (Told s event) (node_of path s.core.nodes) _ _ (λ none. refuse s event _ _ (inl (refl, inl none))) (λ n at.
      by_test (Told s event) (not (is_in_world s.world n.born)) _ _ (λ gone. refuse s event _ _ (inl (refl, inr (n, at, not_true (is_in_world s.world n.born) gone)))) (λ there.
      let known : (node_of path s.core.nodes ≡ None) ⊎ TheNode s path (λ x. is_in_world s.world x.born ≡ false) → ⊥ =
      λ h. elim h [ inl none ↦ cc | inr gone ↦ only (node_of path s.core.nodes) (λ x. is_in_world s.world x.born ≡ false) n at (λ q. let y = not_not (is_in_world s.world n.born) there in cc) gone ] in
      by_test (Told s event) (n.serial == 0) _ _ (λ root. refuse s event _ _ (inr (known, inl (refl, (n, at, is_zero n.serial root))))) (λ other.
      let below : TheNode s path (λ x. x.serial ≡ 0) → ⊥ = only (node_of path s.core.nodes) (λ x. x.serial ≡ 0) n at (not_zero n.serial other) in
      by_test (Told s event) (not (is_started n.state)) _ _ (λ down. refuse s event _ _ (inr (known, inr (below, inl (refl, (n, at, not_up n.state (not_true (is_started n.state) down))))))) (λ up.
      let runs : TheNode s path (λ x. x.state ≢ Started) → ⊥ = only (node_of path s.core.nodes) (λ x. x.state ≢ Started) n at (λ h. h (is_Started n.state (not_not (is_started n.state) up))) in
      accept s event _ _ (known, (below, (runs, tt))) (n, at, (refl, refl))))))

  -- Handles

  opens : (path : Text) → Told s (Event.OpenHandle path) (ev.opens s path)
  opens path =
      let event = Event.OpenHandle path in
      by_found (Told s event) (node_of path s.core.nodes) _ _ (λ none. refuse s event _ _ (inl (refl, none))) (λ n at.
      let known : node_of path s.core.nodes ≡ None → ⊥ = λ e. cc in
      by_test (Told s event) (n.serial == 0) _ _ (λ root. refuse s event _ _ (inr (known, inl (refl, (n, at, is_zero n.serial root))))) (λ other.
      let below : TheNode s path (λ x. x.serial ≡ 0) → ⊥ = only (node_of path s.core.nodes) (λ x. x.serial ≡ 0) n at (not_zero n.serial other) in
      by_test (Told s event) (is_some s.operation) _ _ (λ runs. refuse s event _ _ (inr (known, inr (below, inl (refl, busy s.operation runs))))) (λ idle.
      let none = none_if s.operation idle in
      by_test (Told s event) (not (is_started n.state)) _ _ (λ down. refuse s event _ _ (inr (known, inr (below, inr ((λ h. h none), inl (refl, (n, at, not_up n.state (not_true (is_started n.state) down)))))))) (λ up.
      let runs : TheNode s path (λ x. x.state ≢ Started) → ⊥ = only (node_of path s.core.nodes) (λ x. x.state ≢ Started) n at (λ h. h (is_Started n.state (not_not (is_started n.state) up))) in
      accept s event _ _ (known, (below, ((λ h. h none), (runs, tt)))) (n, at, (refl, opened_one_more n.serial s.handles, refl))))))

  module _ (path : Text) (order : HandlesInOrder 0 s.handles) where
    closing : (n : Node) (h : Handle) → find (is_handle_of n.serial) s.handles ≡ Some h → (more due : Bool) → nat_lt 1 h.count ≡ more → (not more && is_surprise_removed n.state) ≡ due
        → OneMoreOpen n.serial (closed_with n.serial s.handles more) s.handles → ClosedHandle s n (ev.finish_due n due (ev.with_handles (closed_with n.serial s.handles more) s))
    closing n h held true false e due one =
        ClosedHandle.goes_on (inl (λ z. let c = count_is n.serial s.handles h held in let o = one.0 in grind (arith, nat_tests))) refl
    closing n h held true true e due one = absurd (cc)
    closing n h held false false e due one = ClosedHandle.goes_on (inr (λ z. let y = ap is_surprise_removed z in cc)) refl
    closing n h held false true e due one =
        ClosedHandle.last (let c = count_is n.serial s.handles h held in let o = one.0 in grind (arith, nat_tests)) (is_SurpriseRemoved n.state due) refl

    handles_of : (n : Node) (due : Bool) (handles : List Handle) → (ev.finish_due n due (ev.with_handles handles s)).handles ≡ handles
    handles_of n true handles = refl
    handles_of n false handles = refl

    closes : Told s (Event.CloseHandle path) (ev.closes s path)
    closes =
        let event = Event.CloseHandle path in
        by_found (Told s event) (node_of path s.core.nodes) _ _ (λ none. refuse s event _ _ (inl (refl, none))) (λ n at.
        let known : node_of path s.core.nodes ≡ None → ⊥ = λ e. cc in
        by_found (Told s event) (find (is_handle_of n.serial) s.handles) _ _ (λ none. refuse s event _ _ (inr (known, inl (refl, (n, at, none))))) (λ h held.
        let has : TheNode s path (λ x. find (is_handle_of x.serial) s.handles ≡ None) → ⊥ = only (node_of path s.core.nodes) (λ x. find (is_handle_of x.serial) s.handles ≡ None) n at (λ q. cc) in
        let more = nat_lt 1 h.count in
        let due = not more && is_surprise_removed n.state in
        let one = closed_one_less n.serial s.handles h more order held refl in
        accept s event _ _ (known, (has, tt))
        (n, at, (refl, subst (λ (x : List Handle). OneMoreOpen n.serial x s.handles) (sym (handles_of n due (closed_with n.serial s.handles more))) one, closing n h held more due refl refl one))))

  -- Relations and ranges

  relates : (kind : RelKind) (owner member : Text) → Told s (Event.Relate kind owner member) (ev.relates s kind owner member)
  relates kind owner member =
      let event = Event.Relate kind owner member in
      by_found (Told s event) (node_of owner s.core.nodes) _ _ (λ none. refuse s event _ _ (inl (refl, inl none))) (λ o owner_at.
      by_found (Told s event) (node_of member s.core.nodes) _ _ (λ none. refuse s event _ _ (inl (refl, inr none))) (λ m member_at.
      let known : (node_of owner s.core.nodes ≡ None) ⊎ (node_of member s.core.nodes ≡ None) → ⊥ = λ h. elim h [ inl none ↦ cc | inr none ↦ cc ] in
      let both : (P : Node → Node → Type 0) → (P o m → ⊥) → TheNode s owner (λ x. TheNode s member (λ y. P x y)) → ⊥ =
      λ P no. only (node_of owner s.core.nodes) (λ x. TheNode s member (λ y. P x y)) o owner_at (only (node_of member s.core.nodes) (λ y. P o y) m member_at no) in
      by_test (Told s event) (is_some s.operation) _ _ (λ runs. refuse s event _ _ (inr (known, inl (refl, busy s.operation runs)))) (λ idle.
      let none = none_if s.operation idle in
      by_test (Told s event) (o.serial == m.serial) _ _ (λ same_one. refuse s event _ _ (inr (known, inr ((λ h. h none), inl (refl, (o, owner_at, (m, member_at, grind (arith, nat_tests)))))))) (λ two.
      let apart = both (λ x y. x.serial ≡ y.serial) (λ e. grind (arith, nat_tests)) in
      by_test (Told s event) (list_any (ev.is_relation kind o.serial m.serial) s.core.relations) _ _ (λ has. refuse s event _ _ (inr (known, inr ((λ h. h none), inr (apart, inl (refl, (o, owner_at, (m, member_at, has)))))))) (λ new.
      let first = both (λ x y. list_any (ev.is_relation kind x.serial y.serial) s.core.relations ≡ true) (λ e. cc) in
      by_test (Told s event) (has (dependents s.core m.serial) o.serial) _ _ (λ cycle. refuse s event _ _ (inr (known, inr ((λ h. h none), inr (apart, inr (first, inl (refl, (o, owner_at, (m, member_at, cycle))))))))) (λ free.
      let acyclic = both (λ x y. has (dependents s.core y.serial) x.serial ≡ true) (λ e. cc) in
      by_test (Told s event) (not (is_started o.state && is_started m.state)) _ _ (λ down. refuse s event _ _ (inr (known, inr ((λ h. h none), inr (apart, inr (first, inr (acyclic, inl (refl, (o, owner_at, (m, member_at, one_down o.state m.state (not_true (is_started o.state && is_started m.state) down))))))))))) (λ up.
      let ups = and_both (is_started o.state) (is_started m.state) (not_not (is_started o.state && is_started m.state) up) in
      let runs = both (λ x y. (x.state ≢ Started) ⊎ (y.state ≢ Started)) (λ h. elim h [ inl a ↦ a (is_Started o.state ups.0) | inr b ↦ b (is_Started m.state ups.1) ]) in
      accept s event _ _ (known, ((λ h. h none), (apart, (first, (acyclic, (runs, tt)))))) (o, owner_at, (m, member_at, (refl, refl))))))))))
    where
      one_down : (x y : DevState) → (is_started x && is_started y) ≡ false → (x ≢ Started) ⊎ (y ≢ Started)
      one_down x y h = by_b (is_started x) refl h
        where
          by_b : (b : Bool) → is_started x ≡ b → (b && is_started y) ≡ false → (x ≢ Started) ⊎ (y ≢ Started)
          by_b true e g = inr (not_up y g)
          by_b false e g = inl (not_up x e)

  reserves : (res : Res) → Told s (Event.Reserve res) (ev.reserves s res)
  reserves res =
      let event = Event.Reserve res in
      by_test (Told s event) (is_some s.operation) _ _ (λ runs. refuse s event _ _ (inl (refl, busy s.operation runs))) (λ idle.
      let none = none_if s.operation idle in
      let split = any_both (clashes res) s.core.reserved (held_by s.core.nodes) in
      by_test (Told s event) (list_any (clashes res) (s.core.reserved ++ held_by s.core.nodes)) _ _
      (λ used. refuse s event _ _ (inr ((λ h. h none), inl (refl, or_cases (list_any (clashes res) s.core.reserved) (list_any (clashes res) (held_by s.core.nodes)) (sym split ∙ used))))) (λ free.
      let neither = or_neither (list_any (clashes res) s.core.reserved) (list_any (clashes res) (held_by s.core.nodes)) (sym split ∙ free) in
      let n0 = neither.0 in
      let n1 = neither.1 in
      accept s event _ _ ((λ h. h none), ((λ h. elim h [ inl a ↦ cc | inr b ↦ cc ]), tt)) (refl, refl)))

  -- Answers

  -- no request of the operation waits there
  abbrev NoneInOperation : ℕ → Minor → Type 0
  NoneInOperation k minor = (o : Job) (w : Walk) → s.operation ≡ Some o → slice_get o.todo 0 ≡ Some k → o.walk ≡ Some w → w.waits ≡ true → w.minor ≡ minor → ⊥

  nobody_waits : (k : ℕ) (minor : Minor) → NoneInOperation k minor → ((a : Activity) (w : Walk) → activity_at k s.activities ≡ Some a → phase_walk a.phase ≡ Some w → w.waits ≡ true → w.minor ≡ minor → ⊥) → AwaitsAnswer s k minor → ⊥
  nobody_waits k minor none idle (AwaitsAnswer.operates o w runs first walk waits is) = none o w runs first walk waits is
  nobody_waits k minor none idle (AwaitsAnswer.starts a w at walk waits is) = idle a w at walk waits is

  module _ (path : Text) (minor : Minor) (ok : Bool) (n : Node) (at : node_of path s.core.nodes ≡ Some n) where
    no_request : (AwaitsAnswer s n.serial minor → ⊥) → IsFirst (Cause s (Event.Complete path minor ok)) (causes (Event.Complete path minor ok)) Reason.NoSuchRequest
    no_request none = inl (refl, only (node_of path s.core.nodes) (λ x. AwaitsAnswer s x.serial minor) n at none)

    completes_start : NoneInOperation n.serial minor → Told s (Event.Complete path minor ok) (ev.completes_start s n minor ok)
    completes_start none =
        let event = Event.Complete path minor ok in
        by_found (Told s event) (activity_at n.serial s.activities) _ _ (λ idle. refuse s event _ _ (no_request (nobody_waits n.serial minor none (λ a w there walk waits is. cc)))) (λ a there.
        by_test (Told s event) (not (ev.waits_for minor (phase_walk a.phase))) _ _
        (λ not_so. refuse s event _ _
        (no_request (nobody_waits n.serial minor none (λ b w found walk waits is.
        let same = some_same (activity_at n.serial s.activities) b a found there in
        let so = awaited minor (phase_walk a.phase) w (subst (λ (x : Activity). phase_walk x.phase ≡ Some w) same walk) waits is in
        let no = not_true (ev.waits_for minor (phase_walk a.phase)) not_so in cc))))
        (λ so.
        let waits = waiting minor (phase_walk a.phase) (not_not (ev.waits_for minor (phase_walk a.phase)) so) in
        let w = waits.0 in
        accept s event _ _ ((λ h. h (n, at, AwaitsAnswer.starts a w there waits.1 waits.2 waits.3)), tt) (
          n,
          at,
          GotAnswer.starts a w there waits.1 waits.2 waits.3
              (ap (λ (x : Phase). record s { activities = changed_first (is_activity n.serial) (with_phase x) s.activities }) (answered_phase ok w a.phase waits.1)),
        )))

    completes_at : Told s (Event.Complete path minor ok) (ev.completes_at s n minor ok)
    completes_at =
        let event = Event.Complete path minor ok in
        by_found (Told s event) s.operation _ _ (λ none. completes_start (λ o w runs first walk waits is. cc)) (λ j runs.
        by_test (Told s event) (not (ev.operation_waits minor n.serial j)) _ _
        (λ not_so. completes_start (λ o w also first walk waits is.
        let same : o ≡ j = some_same s.operation o j also runs in
        let so = both_true (ev.is_number n.serial (slice_get j.todo 0)) (ev.waits_for minor j.walk)
        (ap (ev.is_number n.serial) (subst (λ (x : Job). slice_get x.todo 0 ≡ Some n.serial) same first) ∙ same_number n.serial)
        (awaited minor j.walk w (subst (λ (x : Job). x.walk ≡ Some w) same walk) waits is) in
        let no = not_true (ev.operation_waits minor n.serial j) not_so in cc))
        (λ so.
        let two = and_both (ev.is_number n.serial (slice_get j.todo 0)) (ev.waits_for minor j.walk) (not_not (ev.operation_waits minor n.serial j) so) in
        let waits = waiting minor j.walk two.1 in
        let w = waits.0 in
        let first = number_is n.serial (slice_get j.todo 0) two.0 in
        accept s event _ _ ((λ h. h (n, at, AwaitsAnswer.operates j w runs first waits.1 waits.2 waits.3)), tt) (
          n,
          at,
          GotAnswer.operates j w runs first waits.1 waits.2 waits.3
              (ap (λ (x : Option Walk). record s { operation = Some (record j { walk = x }) }) (ap (option_map (λ v. after v (ev.answer_of ok))) waits.1 ∙ answered_walk ok w)),
        )))

  completes : (path : Text) (minor : Minor) (ok : Bool) → Told s (Event.Complete path minor ok) (ev.completes s path minor ok)
  completes path minor ok =
      by_found (Told s (Event.Complete path minor ok)) (node_of path s.core.nodes) _ _
      (λ none. refuse s (Event.Complete path minor ok) _ _ (inl (refl, λ h. let at = h.1 in cc))) (λ n at. completes_at path minor ok n at)

pub event_told : (s : State) → HandlesInOrder 0 s.handles → (event : Event) → Told s event (ev.happens s event)
event_told s order (Event.Plug parent path hw compat reqs) = plugs s parent path hw compat reqs
event_told s order (Event.Pull path) = pulls s path
event_told s order (Event.Name name kind) = names s name kind
event_told s order (Event.Teach name rule) = teaches s name rule
event_told s order (Event.Disable path) = disables s path
event_told s order (Event.Enable path) = enables s path
event_told s order (Event.Eject path) = ejects s path
event_told s order (Event.Relate kind owner member) = relates s kind owner member
event_told s order (Event.Reserve res) = reserves s res
event_told s order (Event.Complete path minor ok) = completes s path minor ok
event_told s order (Event.OpenHandle path) = opens s path
event_told s order (Event.CloseHandle path) = closes s path order
event_told s order (Event.Change path reqs) = changes s path reqs
event_told s order (Event.Window path res) = sets_window s path res
event_told s order (Event.Watch client path agrees) = refuse s (Event.Watch client path agrees) _ _ (inl (refl, tt))
event_told s order (Event.Unwatch client path) = refuse s (Event.Unwatch client path) _ _ (inl (refl, tt))

-- The laws ------------------------------------------------------------------------------------------

pub refused_changes_nothing : RefusedChangesNothingLaw
refused_changes_nothing settings rack entries s event label t run goes =
    (subst (λ (x : Step). Told s event x) goes.1 (event_told s (open_handles_fit settings rack entries s run).order event)).nothing

pub causes_are_exact : CausesAreExactLaw
causes_are_exact settings rack entries s event label t run goes =
    (subst (λ (x : Step). Told s event x) goes.1 (event_told s (open_handles_fit settings rack entries s run).order event)).exact

pub accepted_is_done : AcceptedIsDoneLaw
accepted_is_done settings rack entries s event label t run goes =
    (subst (λ (x : Step). Told s event x) goes.1 (event_told s (open_handles_fit settings rack entries s run).order event)).done
