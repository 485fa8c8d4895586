-- What is refused changes nothing, so a run without it is a run.
use Rattle.std.proofs.Common.{◌≡◌, Bool, true, false, not, List, [], ◌∷◌, ◌++◌, length, Option, is_some, refl, subst, if◌then◌else◌}
use Rattle.std.specs.Prelude.{◌==◌, ◌&&◌, ◌||◌, find, is_none, nat_le}
use Rattle.std.specs.List.{list_any}
use Rattle.device_ids.specs.Folding.{same}
use Rattle.resource_reqs.specs.Resources.{clashes}
use Rattle.pnp_labels.specs.Texts.{Text}
use Rattle.pnp_labels.specs.declared.deed.Deed.{Deed}
use Rattle.pnp_labels.specs.declared.event.Event.{Event}
use Rattle.pnp_labels.specs.declared.label.EventWord.{EventWord}
use Rattle.pnp_labels.specs.declared.label.Label.{Label}
use Rattle.pnp_labels.specs.declared.label.Reason.{Reason}
use Rattle.pnp_labels.specs.declared.words.Minor.{Minor}
use Rattle.pnp_model.specs.Books.{is_named, is_unnamed}
use Rattle.pnp_model.specs.Events as events
use Rattle.pnp_model.specs.Events.{did, happens, has_children, is_relation, operation_waits, refused, waits_for}
use Rattle.pnp_model.specs.Frames.{held_by}
use Rattle.pnp_model.specs.Handles.{is_handle_of}
use Rattle.pnp_model.specs.Machine.{phase_walk}
use Rattle.pnp_model.specs.Records.{Node, Settings, State, Step}
use Rattle.pnp_model.specs.Runs.{Entry, Run, opening}
use Rattle.pnp_model.specs.Runs.Entry.{Happens, Did, Declines}
use Rattle.pnp_model.specs.States.{activity_at, device_of, has_below, is_in_world, node_born, node_of}
use Rattle.pnp_model.specs.Tests.{has, has_same, is_scripted, is_started}
use Rattle.pnp_model.specs.Trees.{dependents}
use Rattle.pnp_model.specs.Windows.{is_window_on}
use Rattle.pnp_model.proofs.Guards.{by_found, by_test}
use Rattle.pnp_promises.specs.Later.{NoneDeclined}
use Rattle.pnp_pairs.specs.Struck.{StruckRunsDoTheRestLaw, RefusedLeavesNoTraceLaw, is_refused, struck}
use Rattle.pnp_pairs.proofs.OneRun.{one_run}

-- where it is refused, the state stays
record Stays (s : State) (x : Step) : Type 0 where
  pub is : is_refused x.label ≡ true → x.state ≡ s

no : (s : State) (word : EventWord) (reason : Reason) → Stays s (refused word reason s)
no s word reason = record { is = λ e. refl }

yes : (s t : State) (deed : Deed) → Stays s (did deed t)
yes s t deed = record { is = λ e. absurd (let f : false ≡ true = e in cc) }

module _ (s : State) where
  -- behind a test that refuses, and behind something that is not there
  tested : (b : Bool) (word : EventWord) (reason : Reason) (x : Step) → Stays s x → Stays s (if b then refused word reason s else x)
  tested b word reason x h = by_test (Stays s) b (refused word reason s) x (λ e. no s word reason) (λ e. h)

  found : {A : Type 0} (o : Option A) (word : EventWord) (reason : Reason) (f : A → Step) → ((a : A) → Stays s (f a)) → Stays s (events.unless o (refused word reason s) f)
  found o word reason f h = by_found (Stays s) o (refused word reason s) f (λ e. no s word reason) (λ a e. h a)

  completes_start : (n : Node) (minor : Minor) (ok : Bool) → Stays s (events.completes_start s n minor ok)
  completes_start n minor ok =
      found (activity_at n.serial s.activities) _ _ _ (λ a. tested (not (waits_for minor (phase_walk a.phase))) _ _ _ (yes s _ _))

  completes : (path : Text) (minor : Minor) (ok : Bool) → Stays s (events.completes s path minor ok)
  completes path minor ok =
      found (node_of path s.core.nodes) _ _ _ (λ n.
      by_found (Stays s) s.operation _ _ (λ e. completes_start n minor ok) (λ j e.
      by_test (Stays s) (not (operation_waits minor n.serial j)) _ _ (λ e. completes_start n minor ok) (λ e. yes s _ _)))

  stays : (event : Event) → Stays s (happens s event)
  stays (Event.Plug parent path hw compat reqs) =
      found (device_of parent s.world) _ _ _ (λ over. tested (is_some (device_of path s.world)) _ _ _ (tested (not (nat_le (length s.world) 4096)) _ _ _ (yes s _ _)))
  stays (Event.Pull path) = found (device_of path s.world) _ _ _ (λ d. tested (d.born == 0) _ _ _ (yes s _ _))
  stays (Event.Name name kind) = tested (is_some (find (is_named name) s.core.rack)) _ _ _ (tested (is_none (find (is_unnamed kind) s.core.rack)) _ _ _ (yes s _ _))
  stays (Event.Teach name rule) =
      found (find (is_named name) s.core.rack) _ _ _ (λ d. tested (not (is_scripted d.kind)) _ _ _ (tested (nat_le 64 (length d.book)) _ _ _ (yes s _ _)))
  stays (Event.Disable path) = found (node_of path s.core.nodes) _ _ _ (λ n. tested (n.serial == 0) _ _ _ (tested (has_same path s.disabled) _ _ _ (yes s _ _)))
  stays (Event.Enable path) = found (find (same path) s.disabled) _ _ _ (λ own. yes s _ _)
  stays (Event.Eject path) = found (node_of path s.core.nodes) _ _ _ (λ n. tested (n.serial == 0) _ _ _ (yes s _ _))
  stays (Event.Relate kind owner member) =
      found (node_of owner s.core.nodes) _ _ _ (λ a. found (node_of member s.core.nodes) _ _ _ (λ b.
      tested (is_some s.operation) _ _ _ (tested (a.serial == b.serial) _ _ _ (tested (list_any (is_relation kind a.serial b.serial) s.core.relations) _ _ _
      (tested (has (dependents s.core b.serial) a.serial) _ _ _ (tested (not (is_started a.state && is_started b.state)) _ _ _ (yes s _ _)))))))
  stays (Event.Reserve res) = tested (is_some s.operation) _ _ _ (tested (list_any (clashes res) (s.core.reserved ++ held_by s.core.nodes)) _ _ _ (yes s _ _))
  stays (Event.Complete path minor ok) = completes path minor ok
  stays (Event.OpenHandle path) =
      found (node_of path s.core.nodes) _ _ _ (λ n. tested (n.serial == 0) _ _ _ (tested (is_some s.operation) _ _ _ (tested (not (is_started n.state)) _ _ _ (yes s _ _))))
  stays (Event.CloseHandle path) = found (node_of path s.core.nodes) _ _ _ (λ n. found (find (is_handle_of n.serial) s.handles) _ _ _ (λ h. yes s _ _))
  stays (Event.Change path reqs) =
      found (node_of path s.core.nodes) _ _ _ (λ n. tested (not (is_in_world s.world n.born)) _ _ _ (tested (n.serial == 0) _ _ _ (tested (not (is_started n.state)) _ _ _ (yes s _ _))))
  stays (Event.Window path res) =
      found (device_of path s.world) _ _ _ (λ d. tested (d.born == 0) _ _ _
      (tested (has_below d.born s.world || has_children s.core.nodes (node_born d.born s.core.nodes)) _ _ _ (tested (list_any (is_window_on res.kind (d.born ∷ [])) s.windows) _ _ _ (yes s _ _))))
  stays (Event.Watch client path agrees) = no s _ _
  stays (Event.Unwatch client path) = no s _ _

-- an event that was refused leads where it began
refused_stays : (s t : State) (event : Event) (label : Label) → happens s event ≡ record { label = label; state = t } → is_refused label ≡ true → t ≡ s
refused_stays s t event label h e =
    let one : Stays s (record { label = label; state = t }) = subst (λ (x : Step). Stays s x) h (stays s event) in one.is e

module _ (settings : Settings) where
  striking : (old new : State) (entries : List Entry) → Run settings old entries new → Run settings old (struck entries) new
  striking old new [] h = h
  striking old new (Happens event label ∷ rest) (mid, goes, run) = by_label (is_refused label) refl
      (striking mid new rest run)
    where
      by_label : (b : Bool) → is_refused label ≡ b → Run settings mid (struck rest) new → Run settings old (if b then struck rest else Happens event label ∷ struck rest) new
      by_label true e more = subst (λ (x : State). Run settings x (struck rest) new) (refused_stays old mid event label goes.1 e) more
      by_label false e more = (mid, goes, more)
  striking old new (Did label ∷ rest) (mid, goes, run) = (mid, goes, striking mid new rest run)
  striking old new (Declines label ∷ rest) (mid, goes, run) = (mid, goes, striking mid new rest run)

none_declined : (entries : List Entry) → NoneDeclined entries → NoneDeclined (struck entries)
none_declined [] none = tt
none_declined (Happens event label ∷ rest) none = by_label (is_refused label) (none_declined rest none)
  where
    by_label : (b : Bool) → NoneDeclined (struck rest) → NoneDeclined (if b then struck rest else Happens event label ∷ struck rest)
    by_label true h = h
    by_label false h = h
none_declined (Did label ∷ rest) none = none_declined rest none
none_declined (Declines label ∷ rest) none = absurd none

pub refused_leaves_no_trace : RefusedLeavesNoTraceLaw
refused_leaves_no_trace settings rack entries s run = striking settings (opening rack) s entries run

pub only_striking : StruckRunsDoTheRestLaw
only_striking settings rack one two s t run other none free quiet rests e =
    one_run settings (opening rack) (struck one) two s t (striking settings (opening rack) s one run) other (none_declined one none) free quiet rests e
