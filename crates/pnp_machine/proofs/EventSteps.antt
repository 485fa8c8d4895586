-- What the parts of the machine do at an event, as what happens by its definition.
use Rattle.std.proofs.Common.{◌≡◌, ◌≢◌, ℕ, ◌+◌, ◌<◌, ◌≤◌, ◌==◌, Bool, true, false, cond, List, [], ◌∷◌, find, length, Option, Some, None, IsSome, is_some, Ok, Err, get_or, nat_le, not, refl, sym, ◌∙◌, ap, subst, arith, option_map, slice_get}
use Rattle.std.proofs.lemmas.Bool.Decides.{nat_tests}
use Rattle.std.specs.Prelude.{is_none}
use Rattle.std.proofs.lemmas.Option.{get_or_from_slice_get}
use Rattle.device_ids.specs.Folding.{same}
use Rattle.pnp_labels.specs.Texts.{Text}
use Rattle.pnp_labels.specs.declared.event.Event.{Event}
use Rattle.pnp_labels.specs.declared.event.Rule.{Rule}
use Rattle.pnp_labels.specs.declared.deed.Deed.{Deed}
use Rattle.pnp_labels.specs.declared.label.EventWord.{EventWord}
use Rattle.pnp_labels.specs.declared.label.Label.{Label}
use Rattle.pnp_labels.specs.declared.label.Reason.{Reason}
use Rattle.pnp_labels.specs.declared.words.DriverKind.{DriverKind}
use Rattle.pnp_model.specs.Books.{is_named, is_unnamed, name_or_none, printed_name, driver_named, name_of}
use Rattle.pnp_model.specs.Cores.{node_at, serials_of}
use Rattle.pnp_model.specs.Events.{happens, refused, with_rule}
use Rattle.pnp_model.specs.Records.{Node, Driver, Activity, Job, State, Step, Task}
use Rattle.pnp_model.specs.States.{node_of}
use Rattle.pnp_model.specs.Tests.{is_scripted}
use Rattle.pnp_model.proofs.Guards.{where_false, where_none, where_some, where_true}
use Rattle.pnp_model.proofs.Keyed.{find_from_position, find_from_none, changed_first_at}
use Rattle.driver_rack.specs.Rows.{Named, TaughtOne}
use Rattle.driver_rack.specs.declared.errors.NameError.TheVariants as NameError
use Rattle.driver_rack.specs.declared.errors.TeachError.{TeachError}
use Rattle.devnode_tree.specs.Trees.{Ascends}
use Rattle.script_bus.proofs.Unplugs.{by_bool}
use Rattle.pnp_machine.specs.Devices.{Devices}
use Rattle.pnp_machine.specs.Machines.{state_of, IsDone}

-- Drivers ------------------------------------------------------------------------------

abbrev some_driver : Driver
some_driver = record { kind = DriverKind.Steady; name = None; book = [] }

module _ (ds : Devices) (old new : List Driver) (paths : List Text) (works : List Activity) (operation : Option Job) (tasks : List Task) where
  abbrev before : State
  before = state_of ds old paths works operation tasks

  abbrev after : State
  after = state_of ds new paths works operation tasks

  rows_are : (rows : List Driver) → new ≡ rows → after ≡ state_of ds rows paths works operation tasks
  rows_are rows is = ap (λ r. state_of ds r paths works operation tasks) is

  done_by : (event : Event) (label : Label) (step : Step) → happens before event ≡ step → IsDone step label after → IsDone (happens before event) label after
  done_by event label step e h = subst (λ x. IsDone x label after) (sym e) h

  pub name_given : (kind : DriverKind) (name : Text) (k : ℕ) → Named (Ok k) kind name old new → IsDone (happens before (Event.Name name kind)) (Label.Did (Deed.Named name)) after
  name_given kind name k (free, place, is) =
      done_by (Event.Name name kind) (Label.Did (Deed.Named name)) _
      (where_false (is_some (find (is_named name) old)) _ _ (ap is_some (find_from_none (is_named name) old free))
      ∙ where_false (is_none (find (is_unnamed kind) old)) _ _ (ap is_none (find_from_position (is_unnamed kind) old k some_driver place)))
      (refl, rows_are _ is)

  pub name_taken : (kind : DriverKind) (name : Text) → Named (Err NameError.SameName) kind name old new
      → IsDone (happens before (Event.Name name kind)) (Label.Refused EventWord.Name Reason.SameName) after
  name_taken kind name ((k, at), is) =
      done_by (Event.Name name kind) (Label.Refused EventWord.Name Reason.SameName) (refused EventWord.Name Reason.SameName before)
      (where_true (is_some (find (is_named name) old)) _ _ (ap is_some (find_from_position (is_named name) old k some_driver at)))
      (refl, rows_are old is)

  pub name_none : (kind : DriverKind) (name : Text) → Named (Err NameError.RackEmpty) kind name old new
      → IsDone (happens before (Event.Name name kind)) (Label.Refused EventWord.Name Reason.RackEmpty) after
  name_none kind name (free, none, is) =
      done_by (Event.Name name kind) (Label.Refused EventWord.Name Reason.RackEmpty) (refused EventWord.Name Reason.RackEmpty before)
      (where_false (is_some (find (is_named name) old)) _ _ (ap is_some (find_from_none (is_named name) old free))
      ∙ where_true (is_none (find (is_unnamed kind) old)) _ _ (ap is_none (find_from_none (is_unnamed kind) old none)))
      (refl, rows_are old is)

  -- A driver is taught

  scripted : (kind : DriverKind) → kind ≡ DriverKind.Scripted → is_scripted kind ≡ true
  scripted kind e = rw e refl

  not_scripted : (kind : DriverKind) → kind ≢ DriverKind.Scripted → is_scripted kind ≡ false
  not_scripted DriverKind.Scripted other = absurd (other refl)
  not_scripted DriverKind.Steady other = refl
  not_scripted DriverKind.Stubborn other = refl

  module _ (name : Text) (rule : Rule) where
    abbrev teaches : Step
    teaches = happens before (Event.Teach name rule)

    pub teach_none : driver_named name old ≡ None → new ≡ old → IsDone teaches (Label.Refused EventWord.Teach Reason.NoDriver) after
    teach_none none is =
        done_by (Event.Teach name rule) (Label.Refused EventWord.Teach Reason.NoDriver) (refused EventWord.Teach Reason.NoDriver before)
        (where_none (find (is_named name) old) _ _ (find_from_none (is_named name) old none)) (refl, rows_are old is)

    module _ (k : ℕ) (d : Driver) (place : driver_named name old ≡ Some k) (was : slice_get old k ≡ Some d) where
      here : get_or old k some_driver ≡ d
      here = get_or_from_slice_get old k d some_driver was

      found : find (is_named name) old ≡ Some d
      found = find_from_position (is_named name) old k some_driver place ∙ ap Some here

      label_is : name_of old k ≡ printed_name d.name
      label_is = ap (λ o. printed_name (name_or_none o)) was

      few : (n : ℕ) → n < 64 → nat_le 64 n ≡ false
      few n h = grind (arith, nat_tests)

      many : (n : ℕ) → 64 ≤ n → nat_le 64 n ≡ true
      many n h = grind (arith, nat_tests)

      pub teach_done : TaughtOne d k rule (Ok tt) old new → IsDone teaches (Label.Did (Deed.Taught (name_of old k))) after
      teach_done (kind, room, is) =
          let changed = changed_first_at (is_named name) (with_rule rule) old k (with_rule rule d) some_driver place (ap (with_rule rule) (sym here)) in
          done_by (Event.Teach name rule) (Label.Did (Deed.Taught (name_of old k))) _
          (where_some (find (is_named name) old) d _ _ found ∙ where_false (not (is_scripted d.kind)) _ _ (ap not (scripted d.kind kind))
          ∙ where_false (nat_le 64 (length d.book)) _ _ (few (length d.book) room))
          (ap (λ (p : Text). Label.Did (Deed.Taught p)) label_is, rows_are _ (is ∙ changed))

      pub teach_not : TaughtOne d k rule (Err TeachError.NotTeachable) old new → IsDone teaches (Label.Refused EventWord.Teach Reason.NotTeachable) after
      teach_not (kind, is) =
          done_by (Event.Teach name rule) (Label.Refused EventWord.Teach Reason.NotTeachable) (refused EventWord.Teach Reason.NotTeachable before)
          (where_some (find (is_named name) old) d _ _ found ∙ where_true (not (is_scripted d.kind)) _ _ (ap not (not_scripted d.kind kind)))
          (refl, rows_are old is)

      pub teach_full : TaughtOne d k rule (Err TeachError.BookFull) old new → IsDone teaches (Label.Refused EventWord.Teach Reason.BookFull) after
      teach_full (kind, full, is) =
          done_by (Event.Teach name rule) (Label.Refused EventWord.Teach Reason.BookFull) (refused EventWord.Teach Reason.BookFull before)
          (where_some (find (is_named name) old) d _ _ found ∙ where_false (not (is_scripted d.kind)) _ _ (ap not (scripted d.kind kind))
          ∙ where_true (nat_le 64 (length d.book)) _ _ (many (length d.book) full))
          (refl, rows_are old is)

-- Nodes by their paths ---------------------------------------------------------------------

-- serials ascend, so a node that is found is found again by its serial
pub found_serial : (p : Node → Bool) (lo : ℕ) (nodes : List Node) (n : Node) → Ascends lo (serials_of nodes) → find p nodes ≡ Some n
    → (lo ≤ n.serial) × (node_at n.serial nodes ≡ Some n)
found_serial p lo [] n asc h = absurd (cc)
found_serial p lo (x ∷ nodes) n asc h =
    by_bool (λ b. cond b (Some x) (find p nodes) ≡ Some n → (lo ≤ n.serial) × (node_at n.serial (x ∷ nodes) ≡ Some n)) (p x)
    (λ e h.
    let same : x ≡ n = cc in
    let self : (x.serial == x.serial) ≡ true = grind (arith, nat_tests) in
    subst (λ (y : Node). (lo ≤ y.serial) × (node_at y.serial (x ∷ nodes) ≡ Some y)) same (asc.0, ap (λ b. cond b (Some x) (node_at x.serial nodes)) self))
    (λ e h.
    let more = found_serial p (x.serial + 1) nodes n asc.1 h in
    let up : x.serial + 1 ≤ n.serial = more.0 in
    let apart : (x.serial == n.serial) ≡ false = grind (arith, nat_tests) in
    let low : lo ≤ x.serial = asc.0 in
    (omega arith, ap (λ b. cond b (Some x) (node_at n.serial nodes)) apart ∙ more.1))
    h

-- the node of a path, by its serial
pub record FoundAt (path : Text) (k : ℕ) (nodes : List Node) : Type 0 where
  pub node : Node
  pub found : node_of path nodes ≡ Some node
  pub own : node.serial ≡ k
  pub at : node_at k nodes ≡ Some node

pub found_at : (path : Text) (k : ℕ) (nodes : List Node) → Ascends 0 (serials_of nodes) → Some k ≡ option_map (λ n. n.serial) (node_of path nodes) → FoundAt path k nodes
found_at path k nodes asc h = by_found (node_of path nodes) refl h
  where
    by_found : (o : Option Node) → node_of path nodes ≡ o → Some k ≡ option_map (λ n. n.serial) o → FoundAt path k nodes
    by_found None e h = absurd (cc)
    by_found (Some n) e h =
        let own : n.serial ≡ k = cc in
        record { node = n; found = e; own = own; at = subst (λ i. node_at i nodes ≡ Some n) own (found_serial (λ m. same m.path path) 0 nodes n asc e).1 }

-- a node of a path is there by its serial
pub is_there : (p : Node → Bool) (k : ℕ) (nodes : List Node) → Some k ≡ option_map (λ n. n.serial) (find p nodes) → IsSome (node_at k nodes)
is_there p k [] h = absurd (cc)
is_there p k (x ∷ nodes) h =
    by_bool (λ b. IsSome (cond b (Some x) (node_at k nodes))) (x.serial == k)
    (λ e. refl)
    (λ e.
    by_bool (λ b. Some k ≡ option_map (λ n. n.serial) (cond b (Some x) (find p nodes)) → IsSome (node_at k nodes)) (p x)
    (λ f g. absurd (let own : x.serial ≡ k = cc in let yes : (x.serial == k) ≡ true = grind (arith, nat_tests) in cc))
    (λ f g. is_there p k nodes g)
    h)
