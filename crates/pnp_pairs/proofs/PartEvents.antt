-- What happens to devices of a part leaves it apart, and puts nobody else to work.
use Rattle.std.proofs.Common.{ℕ, ◌≤◌, ◌≡◌, ◌≢◌, ◌⊎◌, ◌==◌, ◌&&◌, ◌||◌, inl, inr, Bool, true, false, not, List, [], ◌∷◌, ◌++◌, length, nat_le, Option, Some, None, is_some, Contains, refl, sym, ap, ◌∙◌, subst, arith, cond, if◌then◌else◌}
use Rattle.std.specs.Prelude.{find, is_none, nat_lt}
use Rattle.std.specs.List.{list_any}
use Rattle.std.proofs.lemmas.Bool.Decides.{nat_tests}
use Rattle.device_ids.specs.Folding.{same}
use Rattle.resource_reqs.specs.Resources.{Reqs, clashes}
use Rattle.resource_reqs.proofs.Counts.{contains_cons, contains_nil}
use Rattle.pnp_labels.specs.Texts.{Text}
use Rattle.pnp_labels.specs.declared.deed.Deed.{Deed}
use Rattle.pnp_labels.specs.declared.event.Event.{Event}
use Rattle.pnp_labels.specs.declared.label.EventWord.{EventWord}
use Rattle.pnp_labels.specs.declared.label.OpKind.{OpKind}
use Rattle.pnp_labels.specs.declared.label.Reason.{Reason}
use Rattle.pnp_labels.specs.declared.words.Minor.{Minor}
use Rattle.pnp_labels.specs.declared.words.RelKind.{RelKind}
use Rattle.pnp_model.specs.Books.{is_named, is_unnamed}
use Rattle.pnp_model.specs.Cores.{node_at}
use Rattle.pnp_model.specs.Events as events
use Rattle.pnp_model.specs.Events.{did, happens, has_children, is_relation, operation_waits, refused, waits_for}
use Rattle.pnp_model.specs.Frames.{held_by}
use Rattle.pnp_model.specs.Handles.{closed_with, is_handle_of}
use Rattle.pnp_model.specs.Keyed.{changed_first}
use Rattle.pnp_model.specs.Machine.{phase_walk}
use Rattle.pnp_model.specs.Records.{Activity, Device, Duty, Node, Relation, State, Step, Task}
use Rattle.pnp_model.specs.States.{activity_at, append_task, device_of, enable_path, has_below, is_activity, is_in_world, list_node, node_born, node_of, plug, requires, unplug, with_core, with_phase}
use Rattle.pnp_model.specs.Tests.{has, has_same, is_scripted, is_started, is_surprise_removed}
use Rattle.pnp_model.specs.Trees.{dependents}
use Rattle.pnp_model.specs.Windows.{is_window_on}
use Rattle.pnp_model.proofs.Guards.{by_found, by_test, none_if}
use Rattle.pnp_laws.specs.Kept.{Ascending}
use Rattle.pnp_laws.proofs.Decides.{contains_here, contains_later}
use Rattle.pnp_laws.proofs.Lookups.{find_passes, node_found}
use Rattle.pnp_promises.proofs.LinesIdle.{none_passes}
use Rattle.pnp_pairs.specs.Parts.{IsApart, IsOfPart}
use Rattle.pnp_pairs.proofs.PartOperations.{in_world_still}
use Rattle.pnp_pairs.proofs.PartSteps.{in_changed, in_more}
use Rattle.pnp_pairs.proofs.SameDrivers.{same_back}

-- they stand apart, and what is under way is of them
pub record Leaves (mine : ℕ → Bool) (step : Step) : Type 0 where
  pub apart : IsApart mine step.state
  pub tasks : (task : Task) → Contains step.state.tasks task → mine task.serial ≡ true
  pub starts : (a : Activity) → Contains step.state.activities a → mine a.serial ≡ true

-- a device of the world that was there, but for what it requires
abbrev Was : List Device → Device → Type 0
Was world d = (old : Device) × Contains world old × (d.path ≡ old.path) × (d.born ≡ old.born) × (d.parent ≡ old.parent)

was_changed : (born : ℕ) (reqs : Reqs) (world : List Device) (d : Device) → Contains (changed_first (λ (x : Device). x.born == born) (requires reqs) world) d → Was world d
was_changed born reqs [] d c = absurd (contains_nil d c)
was_changed born reqs (x ∷ xs) d c = by_test_of (x.born == born) c (was_changed born reqs xs d)
  where
    later : Was xs d → Was (x ∷ xs) d
    later w = (w.0, contains_later x xs w.0 w.1, w.2, w.3, w.4)

    by_test_of : (b : Bool) → Contains (cond b (requires reqs x ∷ xs) (x ∷ changed_first (λ (y : Device). y.born == born) (requires reqs) xs)) d → (Contains (changed_first (λ (y : Device). y.born == born) (requires reqs) xs) d → Was xs d) → Was (x ∷ xs) d
    by_test_of true h more =
        elim (contains_cons (requires reqs x) xs d h) [
          | inl e ↦ (x, contains_here x xs, ap (λ (y : Device). y.path) e, ap (λ (y : Device). y.born) e, ap (λ (y : Device). y.parent) e)
          | inr q ↦ (d, contains_later x xs d q, refl, refl, refl)
        ]
    by_test_of false h more =
        elim (contains_cons x (changed_first (λ (y : Device). y.born == born) (requires reqs) xs) d h) [
          | inl e ↦ (x, contains_here x xs, ap (λ (y : Device). y.path) e, ap (λ (y : Device). y.born) e, ap (λ (y : Device). y.parent) e)
          | inr q ↦ later (more q)
        ]

-- two paths that are one but for their letters, as a test
same_two : (a b c d : Text) → a ≡ c → b ≡ d → same a b ≡ true → same c d ≡ true
same_two a b c d e q h = subst (λ (x : Text). same x d ≡ true) e (subst (λ (x : Text). same a x ≡ true) q h)

module _ (mine : ℕ → Bool) (s : State) (apart : IsApart mine s) (tasks : (task : Task) → Contains s.tasks task → mine task.serial ≡ true) (starts : (a : Activity) → Contains s.activities a → mine a.serial ≡ true) (order : Ascending 0 s.core.nodes) where
  abbrev E : Step → Type 0
  E step = Leaves mine step

  no : (word : EventWord) (reason : Reason) → E (refused word reason s)
  no word reason = record { apart = apart; tasks = tasks; starts = starts }

  -- where nobody joins or is related, and no device of the world is new
  apart_still : (t : State) → t.next_serial ≡ s.next_serial → t.core.nodes ≡ s.core.nodes → t.core.relations ≡ s.core.relations → ((d : Device) → Contains t.world d → Was s.world d) → IsApart mine t
  apart_still t next nodes relations world =
      record {
        later = λ k h. apart.later k (subst (λ (i : ℕ). i ≤ k) next h);
        below = λ k n at. apart.below k n (subst (λ (ns : List Node). node_at k ns ≡ Some n) nodes at);
        members = λ r c. apart.members r (subst (λ (rs : List Relation). Contains rs r) relations c);
        one_path = λ d e c g p. one d e (world d c) (world e g) p;
        returns = λ k j n over d at own c p other at2 under. back k j n over d (subst (λ (ns : List Node). node_at k ns ≡ Some n) nodes at) own (world d c) p other (subst (λ (ns : List Node). node_at j ns ≡ Some over) nodes at2) under;
      }
    where
      one : (d e : Device) → Was s.world d → Was s.world e → same d.path e.path ≡ true → d.born ≡ e.born
      one d e x y p = x.3 ∙ apart.one_path x.0 y.0 x.1 y.1 (same_two d.path e.path x.0.path y.0.path x.2 y.2 p) ∙ sym y.3

      back : (k j : ℕ) (n over : Node) (d : Device) → node_at k s.core.nodes ≡ Some n → mine k ≡ true → Was s.world d → same d.path n.path ≡ true → d.born ≢ n.born → node_at j s.core.nodes ≡ Some over → over.born ≡ d.parent → mine j ≡ true
      back k j n over d at own x p other at2 under =
          apart.returns k j n over x.0 at own x.1 (same_two d.path n.path x.0.path n.path x.2 refl p) (λ e. other (x.3 ∙ e)) at2 (under ∙ x.4)

  same_world : (d : Device) → Contains s.world d → Was s.world d
  same_world d c = (d, c, refl, refl, refl)

  more : (new : Task) → mine new.serial ≡ true → (task : Task) → Contains (s.tasks ++ new ∷ []) task → mine task.serial ≡ true
  more new own task c = elim (in_more s.tasks new task c) [ inl e ↦ ap (λ (x : Task). mine x.serial) e ∙ own | inr q ↦ tasks task q ]

  -- one task more, for one of them
  tasked : (kind : Duty) (n : Node) (deed : Deed) → mine n.serial ≡ true → E (did deed (append_task kind n.serial s))
  tasked kind n deed own =
      record { apart = apart_still (append_task kind n.serial s) refl refl refl same_world; tasks = more (record { kind = kind; serial = n.serial }) own; starts = starts }

  -- nodes, relations, world, tasks and starts stay
  yes : (t : State) (deed : Deed) → t.next_serial ≡ s.next_serial → t.core.nodes ≡ s.core.nodes → t.core.relations ≡ s.core.relations → t.world ≡ s.world → t.tasks ≡ s.tasks → t.activities ≡ s.activities → E (did deed t)
  yes t deed next nodes relations world the_tasks acts =
      record {
        apart = apart_still t next nodes relations (λ d c. same_world d (subst (λ (ds : List Device). Contains ds d) world c));
        tasks = λ task c. tasks task (subst (λ (xs : List Task). Contains xs task) the_tasks c);
        starts = λ a c. starts a (subst (λ (xs : List Activity). Contains xs a) acts c);
      }

  -- behind a test that refuses, and behind something that is not there
  tested : (b : Bool) (word : EventWord) (reason : Reason) (x : Step) → (b ≡ false → E x) → E (if b then refused word reason s else x)
  tested b word reason x h = by_test E b (refused word reason s) x (λ e. no word reason) h

  found : {A : Type 0} (o : Option A) (word : EventWord) (reason : Reason) (f : A → Step) → ((a : A) → o ≡ Some a → E (f a)) → E (events.unless o (refused word reason s) f)
  found o word reason f h = by_found E o (refused word reason s) f (λ e. no word reason) h

  -- the node of a birth number is listed, where it is there
  listed : (t : State) (born : ℕ) (deed : Deed) → IsApart mine t → t.core.nodes ≡ s.core.nodes → t.tasks ≡ s.tasks → t.activities ≡ s.activities
      → ((k : ℕ) (n : Node) → node_at k s.core.nodes ≡ Some n → n.born ≡ born → mine k ≡ true) → E (did deed (list_node (node_born born s.core.nodes) t))
  listed t born deed stands nodes the_tasks acts own = by_node (node_born born s.core.nodes) refl
    where
      by_node : (o : Option Node) → node_born born s.core.nodes ≡ o → E (did deed (list_node o t))
      by_node None e = record { apart = stands; tasks = λ task c. tasks task (subst (λ (xs : List Task). Contains xs task) the_tasks c); starts = λ a c. starts a (subst (λ (xs : List Activity). Contains xs a) acts c) }
      by_node (Some n) e =
          let at = (node_found (λ (x : Node). x.born == born) 0 s.core.nodes n order e).1 in
          let test : (n.born == born) ≡ true = find_passes (λ (x : Node). x.born == born) s.core.nodes n e in
          let is : n.born ≡ born = grind (arith, nat_tests) in
          record {
            apart = record { later = stands.later; below = stands.below; members = stands.members; one_path = stands.one_path; returns = stands.returns };
            tasks = λ task c. more (record { kind = Duty.Listing; serial = n.serial }) (own n.serial n at is) task (subst (λ (xs : List Task). Contains (xs ++ record { kind = Duty.Listing; serial = n.serial } ∷ []) task) the_tasks c);
            starts = λ a c. starts a (subst (λ (xs : List Activity). Contains xs a) acts c);
          }

  -- a device that is plugged below one of them
  module _ (over new : Device) (under : new.parent ≡ over.born) (free : device_of new.path s.world ≡ None) (own : (k : ℕ) (n : Node) → node_at k s.core.nodes ≡ Some n → n.born ≡ over.born → mine k ≡ true) where
    nobody : (d : Device) → Contains s.world d → same d.path new.path ≡ true → ⊥
    nobody d c h = let no_one = none_passes (λ (x : Device). same x.path new.path) s.world d free c in cc

    plugged : IsApart mine (plug new s)
    plugged =
        record {
          later = apart.later;
          below = apart.below;
          members = apart.members;
          one_path = λ d e c g p. one d e (in_more s.world new d c) (in_more s.world new e g) p;
          returns = λ k j n top d at mine_too c p other at2 below_it. elim (in_more s.world new d c) [
            | inl is ↦ own j top at2 (below_it ∙ ap (λ (x : Device). x.parent) is ∙ under)
            | inr q ↦ apart.returns k j n top d at mine_too q p other at2 below_it
          ];
        }
      where
        one : (d e : Device) → (d ≡ new) ⊎ Contains s.world d → (e ≡ new) ⊎ Contains s.world e → same d.path e.path ≡ true → d.born ≡ e.born
        one d e (inl a) (inl b) p = ap (λ (x : Device). x.born) (a ∙ sym b)
        one d e (inl a) (inr b) p = absurd (nobody e b (same_back new.path e.path (same_two d.path e.path new.path e.path (ap (λ (x : Device). x.path) a) refl p)))
        one d e (inr a) (inl b) p = absurd (nobody d a (same_two d.path e.path d.path new.path refl (ap (λ (x : Device). x.path) b) p))
        one d e (inr a) (inr b) p = apart.one_path d e a b p

  completes_start : (n : Node) (minor : Minor) (ok : Bool) → E (events.completes_start s n minor ok)
  completes_start n minor ok =
      found (activity_at n.serial s.activities) _ _ _ (λ a e.
      tested (not (waits_for minor (phase_walk a.phase))) _ _ _ (λ q.
      record {
        apart = record { later = apart.later; below = apart.below; members = apart.members; one_path = apart.one_path; returns = apart.returns };
        tasks = tasks;
        starts = in_changed (λ (x : Activity). mine x.serial ≡ true) (is_activity n.serial) (with_phase (events.completed_phase (events.answer_of ok) a.phase)) (λ x h. h) s.activities starts;
      }))

  completes : (path : Text) (minor : Minor) (ok : Bool) → E (events.completes s path minor ok)
  completes path minor ok =
      found (node_of path s.core.nodes) _ _ _ (λ n e.
      by_found E s.operation _ _ (λ q. completes_start n minor ok) (λ j q.
      by_test E (not (operation_waits minor n.serial j)) _ _ (λ r. completes_start n minor ok) (λ r. yes _ _ refl refl refl refl refl refl)))

  enabled : (path : Text) (own : Text) → ((n : Node) → node_of path s.core.nodes ≡ Some n → mine n.serial ≡ true) → E (did (Deed.Enabled own) (events.start_node (node_of path s.core.nodes) (enable_path path s)))
  enabled path own of_them = by_node (node_of path s.core.nodes) refl
    where
      by_node : (o : Option Node) → node_of path s.core.nodes ≡ o → E (did (Deed.Enabled own) (events.start_node o (enable_path path s)))
      by_node None e = yes (enable_path path s) (Deed.Enabled own) refl refl refl refl refl refl
      by_node (Some n) e =
          record {
            apart = record { later = apart.later; below = apart.below; members = apart.members; one_path = apart.one_path; returns = apart.returns };
            tasks = more (record { kind = Duty.Starting; serial = n.serial }) (of_them n e);
            starts = starts;
          }

  closed : (n : Node) (b last : Bool) → mine n.serial ≡ true → E (did (Deed.HandleClosed n.path) (events.finish_due n last (events.with_handles (closed_with n.serial s.handles b) s)))
  closed n b true own =
      record {
        apart = record { later = apart.later; below = apart.below; members = apart.members; one_path = apart.one_path; returns = apart.returns };
        tasks = more (record { kind = Duty.Begins OpKind.Finish; serial = n.serial }) own;
        starts = starts;
      }
  closed n b false own = yes (events.with_handles (closed_with n.serial s.handles b) s) (Deed.HandleClosed n.path) refl refl refl refl refl refl

  related : (kind : RelKind) (a b : Node) → (mine a.serial ≡ true → mine b.serial ≡ true) → E (did (Deed.Related kind a.path b.path) (with_core (events.add_relation (record { kind = kind; owner = a.serial; member = b.serial }) s.core) s))
  related kind a b of_them =
      let new : Relation = record { kind = kind; owner = a.serial; member = b.serial } in
      record {
        apart =
            record {
              later = apart.later;
              below = apart.below;
              members = λ r c own. elim (in_more s.core.relations new r c) [ inl e ↦ ap (λ (x : Relation). mine x.member) e ∙ of_them (ap (λ (x : Relation). mine x.owner) (sym e) ∙ own) | inr q ↦ apart.members r q own ];
              one_path = apart.one_path;
              returns = apart.returns;
            };
        tasks = tasks;
        starts = starts;
      }

  pub event_mine : (event : Event) → IsOfPart mine s event → E (happens s event)
  event_mine (Event.Plug parent path hw compat reqs) own =
      found (device_of parent s.world) _ _ _ (λ over e.
      tested (is_some (device_of path s.world)) _ _ _ (λ free.
      tested (not (nat_le (length s.world) 4096)) _ _ _ (λ room.
      let d : Device = record { born = s.next_born; parent = over.born; path = path; hw = hw; compat = compat; reqs = reqs } in
      listed (plug d s) over.born (Deed.Plugged path) (plugged over d refl (none_if (device_of path s.world) free) (λ k n at born. own over k n e at born)) refl refl refl (λ k n at born. own over k n e at born))))
  event_mine (Event.Pull path) own =
      found (device_of path s.world) _ _ _ (λ d e.
      tested (d.born == 0) _ _ _ (λ q.
      listed (unplug d.born s) d.parent (Deed.Pulled d.path) (apart_still (unplug d.born s) refl refl refl (λ x c. same_world x (in_world_still (d.born ∷ []) s.world x c))) refl refl refl (λ k n at born. own d k n e at born)))
  event_mine (Event.Name name kind) own = tested (is_some (find (is_named name) s.core.rack)) _ _ _ (λ e. tested (is_none (find (is_unnamed kind) s.core.rack)) _ _ _ (λ q. yes _ _ refl refl refl refl refl refl))
  event_mine (Event.Teach name rule) own =
      found (find (is_named name) s.core.rack) _ _ _ (λ d e. tested (not (is_scripted d.kind)) _ _ _ (λ q. tested (nat_le 64 (length d.book)) _ _ _ (λ r. yes _ _ refl refl refl refl refl refl)))
  event_mine (Event.Disable path) own = found (node_of path s.core.nodes) _ _ _ (λ n e. tested (n.serial == 0) _ _ _ (λ q. tested (has_same path s.disabled) _ _ _ (λ r. tasked _ n _ (own n e))))
  event_mine (Event.Enable path) own = found (find (same path) s.disabled) _ _ _ (λ text e. enabled path text own)
  event_mine (Event.Eject path) own = found (node_of path s.core.nodes) _ _ _ (λ n e. tested (n.serial == 0) _ _ _ (λ q. tasked _ n _ (own n e)))
  event_mine (Event.Relate kind owner member) own =
      found (node_of owner s.core.nodes) _ _ _ (λ a e. found (node_of member s.core.nodes) _ _ _ (λ b q.
      tested (is_some s.operation) _ _ _ (λ r. tested (a.serial == b.serial) _ _ _ (λ t. tested (list_any (is_relation kind a.serial b.serial) s.core.relations) _ _ _
      (λ u. tested (has (dependents s.core b.serial) a.serial) _ _ _ (λ v. tested (not (is_started a.state && is_started b.state)) _ _ _ (λ w. related kind a b (own a b e q))))))))
  event_mine (Event.Reserve res) own = tested (is_some s.operation) _ _ _ (λ e. tested (list_any (clashes res) (s.core.reserved ++ held_by s.core.nodes)) _ _ _ (λ q. yes _ _ refl refl refl refl refl refl))
  event_mine (Event.Complete path minor ok) own = completes path minor ok
  event_mine (Event.OpenHandle path) own =
      found (node_of path s.core.nodes) _ _ _ (λ n e. tested (n.serial == 0) _ _ _ (λ q. tested (is_some s.operation) _ _ _ (λ r. tested (not (is_started n.state)) _ _ _ (λ t. yes _ _ refl refl refl refl refl refl))))
  event_mine (Event.CloseHandle path) own =
      found (node_of path s.core.nodes) _ _ _ (λ n e. found (find (is_handle_of n.serial) s.handles) _ _ _ (λ h q. closed n (nat_lt 1 h.count) (not (nat_lt 1 h.count) && is_surprise_removed n.state) (own n e)))
  event_mine (Event.Change path reqs) own =
      found (node_of path s.core.nodes) _ _ _ (λ n e. tested (not (is_in_world s.world n.born)) _ _ _ (λ q. tested (n.serial == 0) _ _ _ (λ r. tested (not (is_started n.state)) _ _ _ (λ t.
      record {
        apart = apart_still (append_task (Duty.Begins OpKind.Change) n.serial (Rattle.pnp_model.specs.States.change_device n.born reqs s)) refl refl refl (was_changed n.born reqs s.world);
        tasks = more (record { kind = Duty.Begins OpKind.Change; serial = n.serial }) (own n e);
        starts = starts;
      }))))
  event_mine (Event.Window path res) own =
      found (device_of path s.world) _ _ _ (λ d e. tested (d.born == 0) _ _ _
      (λ q. tested (has_below d.born s.world || has_children s.core.nodes (node_born d.born s.core.nodes)) _ _ _ (λ r. tested (list_any (is_window_on res.kind (d.born ∷ [])) s.windows) _ _ _ (λ t. yes _ _ refl refl refl refl refl refl))))
  event_mine (Event.Watch client path agrees) own = no _ _
  event_mine (Event.Unwatch client path) own = no _ _
