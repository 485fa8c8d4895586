-- Events of clients, as what happens by the definition.
use Rattle.std.proofs.Common.{ℕ, ◌≡◌, Bool, true, false, cond, List, [], ◌∷◌, Option, Some, None, find, is_some, refl, sym, ap, ◌∙◌, subst, arith, option_map}
use Rattle.std.specs.List.{list_any}
use Rattle.std.proofs.lemmas.Bool.Decides.{nat_tests}
use Rattle.std.proofs.lemmas.Slice.Eq.{bytes_eq-Decides}
use Rattle.pnp_labels.specs.Texts.{Text}
use Rattle.pnp_labels.specs.declared.deed.Deed.{Deed}
use Rattle.pnp_labels.specs.declared.label.EventWord.{EventWord}
use Rattle.pnp_labels.specs.declared.label.Label.{Label}
use Rattle.pnp_labels.specs.declared.label.Reason.{Reason}
use Rattle.pnp_model.specs.Cores.{node_at, serials_of}
use Rattle.pnp_model.specs.Keyed.{put_before, without_first}
use Rattle.pnp_model.specs.Records.{Node, Job}
use Rattle.pnp_model.specs.States.{node_of}
use Rattle.pnp_model.specs.Tests.{is_started}
use Rattle.devnode_tree.specs.Trees.{Ascends}
use Rattle.pnp_machine.proofs.EventSteps.{FoundAt, found_at}
use Rattle.pnp_machine.specs.Managers.{Manager}
use Rattle.notify_front.specs.Fronts.{Answered, Front, Hand, Registration, comes_after, is_of, unwatch_at, unwatch_idle, unwatch_old, watch_at, watch_idle, watch_new, watch_up}
use Rattle.notify_front.specs.Desks.{Desk, IsAnswered, front_of}
use Rattle.notify_front.proofs.DeskMoves.{desk_of}

-- Who is found ---------------------------------------------------------------------------

by_bool : (P : Bool → Type 0) (b : Bool) → (b ≡ true → P true) → (b ≡ false → P false) → P b
by_bool P true f g = f refl
by_bool P false f g = g refl

found_none : {A : Type 0} (p : A → Bool) (xs : List A) → list_any p xs ≡ false → find p xs ≡ None
found_none p [] h = refl
found_none p (x ∷ xs) h = grind (arith, found_none p xs)

-- one that passes
record Passes {A : Type 0} (p : A → Bool) (xs : List A) : Type 0 where
  one : A
  found : find p xs ≡ Some one
  passes : p one ≡ true

found_some : {A : Type 0} (p : A → Bool) (xs : List A) → list_any p xs ≡ true → Passes p xs
found_some p [] h = absurd (cc)
found_some {A} p (x ∷ xs) h =
    by_test (p x) refl (found_some p xs)
  where
    by_test : (b : Bool) → p x ≡ b → (list_any p xs ≡ true → Passes p xs) → Passes p (x ∷ xs)
    by_test true e more = record { one = x; found = ap (λ b. cond b (Some x) (find p xs)) e; passes = e }
    by_test false e more =
        let rest = more (grind (arith)) in
        record { one = rest.one; found = ap (λ b. cond b (Some x) (find p xs)) e ∙ rest.found; passes = rest.passes }

-- it is of this client on this device
record IsSame (client : Text) (k : ℕ) (r : Registration) : Type 0 where
  client_is : r.client ≡ client
  device_is : r.device ≡ k

same_of : (client : Text) (k : ℕ) (r : Registration) → is_of client k r ≡ true → IsSame client k r
same_of client k r h = record { client_is = grind (arith, nat_tests, bytes_eq-Decides r.client client); device_is = grind (arith, nat_tests) }

-- the node of a path, by its serial
record Found (path : Text) (k : ℕ) (nodes : List Node) : Type 0 where
  node : Node
  is : node_of path nodes ≡ Some node
  own : node.serial ≡ k

found_of : (path : Text) (k : ℕ) (nodes : List Node) → Some k ≡ option_map (λ n. n.serial) (node_of path nodes) → Found path k nodes
found_of path k nodes h = by_found (node_of path nodes) refl h
  where
    by_found : (o : Option Node) → node_of path nodes ≡ o → Some k ≡ option_map (λ n. n.serial) o → Found path k nodes
    by_found None e h = absurd (cc)
    by_found (Some n) e h = record { node = n; is = e; own = cc }

none_if : (o : Option Job) → is_some o ≡ false → o ≡ None
none_if None e = refl
none_if (Some o) e = absurd (cc)

-- Events -----------------------------------------------------------------------------------

-- the desk before, by its parts, where no operation runs and the path is that of a node
module _ (m : Manager) (rs : List Registration) (h : Hand) (d : Desk) (is : desk_of m rs h ≡ d) (client path : Text) (k : ℕ)
    (found : Some k ≡ option_map (λ n. n.serial) (node_of path m.state.core.nodes)) (idle : is_some m.state.operation ≡ false) where
  abbrev f : Front
  f = front_of (desk_of m rs h)

  abbrev Watched : Bool → Label → Front → Type 0
  Watched agrees label g = IsAnswered (watch_at (front_of d) client agrees (node_of path d.manager.state.core.nodes)) label g

  abbrev Unwatched : Label → Front → Type 0
  Unwatched label g = IsAnswered (unwatch_at (front_of d) client (node_of path d.manager.state.core.nodes)) label g

  watched : (agrees : Bool) (label : Label) (g : Front) (a : Answered) → watch_at f client agrees (node_of path m.state.core.nodes) ≡ a → IsAnswered a label g → Watched agrees label g
  watched agrees label g a e done =
      subst (λ (x : Desk). IsAnswered (watch_at (front_of x) client agrees (node_of path x.manager.state.core.nodes)) label g) is (subst (λ (x : Answered). IsAnswered x label g) (sym e) done)

  unwatched : (label : Label) (g : Front) (a : Answered) → unwatch_at f client (node_of path m.state.core.nodes) ≡ a → IsAnswered a label g → Unwatched label g
  unwatched label g a e done =
      subst (λ (x : Desk). IsAnswered (unwatch_at (front_of x) client (node_of path x.manager.state.core.nodes)) label g) is (subst (λ (x : Answered). IsAnswered x label g) (sym e) done)

  as_before : front_of d ≡ f
  as_before = ap (λ (x : Desk). front_of x) (sym is)

  watch_is : (agrees : Bool) (n : Node) → node_of path m.state.core.nodes ≡ Some n → watch_at f client agrees (node_of path m.state.core.nodes) ≡ watch_up f client n agrees (is_started n.state)
  watch_is agrees n at = ap (watch_at f client agrees) at ∙ ap (watch_idle f client n agrees) (none_if m.state.operation idle)

  unwatch_is : (n : Node) → node_of path m.state.core.nodes ≡ Some n → n.serial ≡ k → unwatch_at f client (node_of path m.state.core.nodes) ≡ unwatch_old f client n (find (is_of client k) rs)
  unwatch_is n at own =
      ap (unwatch_at f client) at ∙ ap (unwatch_idle f client n) (none_if m.state.operation idle) ∙ ap (λ i. unwatch_old f client n (find (is_of client i) rs)) own

  -- the client is not registered
  pub unwatch_absent : list_any (is_of client k) rs ≡ false → Unwatched (Label.Refused EventWord.Unwatch Reason.NoWatch) (front_of d)
  unwatch_absent none =
      let n = found_of path k m.state.core.nodes found in
      unwatched (Label.Refused EventWord.Unwatch Reason.NoWatch) (front_of d) (unwatch_old f client n.node None)
      (unwatch_is n.node n.is n.own ∙ ap (unwatch_old f client n.node) (found_none (is_of client k) rs none)) (refl, as_before)

  -- the node, by the tree
  module _ (order : Ascends 0 (serials_of m.state.core.nodes)) (x : Node) (at : Some x ≡ node_at k m.state.core.nodes) where
    n : FoundAt path k m.state.core.nodes
    n = found_at path k m.state.core.nodes order found

    node_is : n.node ≡ x
    node_is = let own = n.at in cc

    here : node_of path m.state.core.nodes ≡ Some x
    here = n.found ∙ ap Some node_is

    own : x.serial ≡ k
    own = ap (λ (y : Node). y.serial) (sym node_is) ∙ n.own

    pub watch_down : (agrees : Bool) → is_started x.state ≡ false → Watched agrees (Label.Refused EventWord.Watch Reason.NotStarted) (front_of d)
    watch_down agrees down =
        watched agrees (Label.Refused EventWord.Watch Reason.NotStarted) (front_of d) (watch_up f client x agrees false) (watch_is agrees x here ∙ ap (watch_up f client x agrees) down) (refl, as_before)

    module _ (agrees : Bool) (up : is_started x.state ≡ true) where
      up_is : (b : Bool) → list_any (is_of client k) rs ≡ b → watch_at f client agrees (node_of path m.state.core.nodes) ≡ watch_new f client x agrees b
      up_is b e = watch_is agrees x here ∙ ap (watch_up f client x agrees) up ∙ ap (λ i. watch_new f client x agrees (list_any (is_of client i) rs)) own ∙ ap (watch_new f client x agrees) e

      pub watch_same : list_any (is_of client k) rs ≡ true → Watched agrees (Label.Refused EventWord.Watch Reason.SameWatch) (front_of d)
      watch_same same = watched agrees (Label.Refused EventWord.Watch Reason.SameWatch) (front_of d) (watch_new f client x agrees true) (up_is true same) (refl, as_before)

      pub watch_done : (deed : Deed) (rs' : List Registration) → list_any (is_of client k) rs ≡ false → deed ≡ Deed.Watched client x.path →
          rs' ≡ put_before (comes_after k) (record { client = client; device = k; path = x.path; agrees = agrees }) rs → Watched agrees (Label.Did deed) (front_of (desk_of m rs' h))
      watch_done deed rs' new spelled put =
          watched agrees (Label.Did deed) (front_of (desk_of m rs' h)) (watch_new f client x agrees false) (up_is false new) (
            ap (λ (d : Deed). Label.Did d) spelled,
            ap (λ (l : List Registration). front_of (desk_of m l h))
                (put ∙ ap (λ i. put_before (comes_after i) (record { client = client; device = i; path = x.path; agrees = agrees }) rs) (sym own)),
          )

    pub unwatch_done : (deed : Deed) (rs' : List Registration) → list_any (is_of client k) rs ≡ true → deed ≡ Deed.Unwatched client x.path → rs' ≡ without_first (is_of client k) rs →
        Unwatched (Label.Did deed) (front_of (desk_of m rs' h))
    unwatch_done deed rs' old spelled left =
        let r = found_some (is_of client k) rs old in
        let same = same_of client k r.one r.passes in
        unwatched (Label.Did deed) (front_of (desk_of m rs' h)) (unwatch_old f client x (Some r.one)) (unwatch_is x here own ∙ ap (unwatch_old f client x) r.found) (
          ap (λ (d : Deed). Label.Did d) spelled,
          ap (λ (l : List Registration). front_of (desk_of m l h))
              (left ∙ ap (λ c. without_first (is_of c k) rs) (sym same.client_is) ∙ ap (λ i. without_first (is_of r.one.client i) rs) (sym same.device_is)),
        )
