-- What holds of a state or a step whatever books the drivers have, and what holds of an event that teaches, which changes books alone.
use Rattle.std.proofs.Common.{ℕ, ◌≡◌, true, false, not, List, [], ◌∷◌, Option, Some, None, inl, inr, slice_get, option_map, refl, sym, ap, ◌∙◌, subst}
use Rattle.std.specs.Prelude.{nat_le, find, length}
use Rattle.std.proofs.lemmas.Option.{slice_get-map}
use Rattle.pnp_labels.specs.Texts.{Text}
use Rattle.pnp_labels.specs.declared.event.Event.{Event}
use Rattle.pnp_labels.specs.declared.event.Rule.{Rule}
use Rattle.pnp_labels.specs.declared.label.Label.{Label}
use Rattle.pnp_labels.specs.declared.states.DevState.{DevState}
use Rattle.pnp_model.specs.Books.{is_named, name_or_none}
use Rattle.pnp_model.specs.Cores.{node_at, set_rack}
use Rattle.pnp_model.specs.Diagram.{Change, FollowsDiagram, Walked}
use Rattle.pnp_model.specs.Events as happenings
use Rattle.pnp_model.specs.Laws.{DependentsFirst}
use Rattle.pnp_model.specs.Records.{Core, Driver, Node, State, Step, Walk}
use Rattle.pnp_model.specs.Tests.{has, is_scripted}
use Rattle.pnp_laws.specs.Facts.{Facts, IsAdrift}
use Rattle.pnp_laws.specs.Keys.{IsAcyclic, Keyed}
use Rattle.pnp_laws.specs.Listed.{IsHopelessBy}
use Rattle.pnp_laws.specs.Stacks.{AllNamed, HasName, NamesDriver, StacksFit}
use Rattle.pnp_laws.specs.Strays.{NobodyForgotten}
use Rattle.pnp_laws.specs.Told.{IsWalkOf, StatesTold}
use Rattle.pnp_laws.specs.Waiting.{DependentsTold, OpenHandles}
use Rattle.pnp_model.proofs.Guards.{by_found, by_test}
use Rattle.free_model.specs.Frees.{with_rack}
use Rattle.free_model.specs.Shapes.{Face, face, faces}
use Rattle.free_model.proofs.Alikes.{dependents_same}

-- Who depends on whom ------------------------------------------------------------------------

pub told_same : (c : Core) (r : List Driver) → DependentsTold (set_rack r c) → DependentsTold c
told_same c r h k n at gone j m below there = h k n at gone j m (ap (λ (ks : List ℕ). has ks j) (dependents_same c r k) ∙ below) there

pub acyclic_same : (c : Core) (r : List Driver) → IsAcyclic (set_rack r c) → IsAcyclic c
acyclic_same c r h k = ap (λ (ks : List ℕ). has ks k) (sym (dependents_same c r k)) ∙ h k

pub first_same : (label : Label) (c d : Core) (r t : List Driver) → DependentsFirst label (set_rack r c) (set_rack t d) → DependentsFirst label c d
first_same label c d r t h =
    record {
      bare = λ path is k n at named j m below there. h.bare path is k n at named j m (ap (λ (ks : List ℕ). has ks j) (dependents_same c r k) ∙ below) there;
      childless = h.childless;
    }

-- Where books are not looked at ------------------------------------------------------------------

pub handles_same : (s : State) (r : List Driver) → OpenHandles (with_rack r s) → OpenHandles s
handles_same s r h = record { held = h.held; order = h.order }

pub keyed_same : (s : State) (r : List Driver) → Keyed (with_rack r s) → Keyed s
keyed_same s r h = record { serials = h.serials; births = h.births; paths = h.paths; parents = h.parents }

pub nobody_same : (s : State) (r : List Driver) → NobodyForgotten (with_rack r s) → NobodyForgotten s
nobody_same s r h =
    record { stopped = h.stopped; strays = λ k n at stray. h.strays k n at (record { waits = stray.waits; holds = stray.holds; idle = stray.idle }) }

adrift_same : (s : State) (r : List Driver) (k : ℕ) (n : Node) → IsAdrift s k n → IsAdrift (with_rack r s) k n
adrift_same s r k n (inl stopped) = inl stopped
adrift_same s r k n (inr stray) = inr (record { waits = stray.waits; holds = stray.holds; idle = stray.idle })

pub facts_same : (s : State) (r : List Driver) → Facts (with_rack r s) → Facts s
facts_same s r h =
    record {
      ends = h.ends;
      unstarted = h.unstarted;
      childless = h.childless;
      alone = h.alone;
      adrift = λ k n at adrift. h.adrift k n at (adrift_same s r k n adrift);
      none = λ quiet k n at adrift. h.none quiet k n at (adrift_same s r k n adrift);
    }

pub hopeless_same : (s : State) (r : List Driver) (path : Text) → IsHopelessBy (with_rack r s) path → IsHopelessBy s path
hopeless_same s r path h =
    record { frame = h.frame; runs = h.runs; course = h.course; plain = h.plain; node = h.node; there = h.there; named = h.named; movers = h.movers; free = h.free; none = h.none }

-- the request that is on its way
pub walk_same : (s : State) (r : List Driver) (k : ℕ) (w : Walk) → IsWalkOf (with_rack r s) k w → IsWalkOf s k w
walk_same s r k w (IsWalkOf.operates o runs at on) = IsWalkOf.operates o runs at on
walk_same s r k w (IsWalkOf.starts a none at on) = IsWalkOf.starts a none at on

-- Names of drivers ------------------------------------------------------------------------------

abbrev name_in_face : Option Face → Option Text
name_in_face None = None
name_in_face (Some f) = f.name

by_face : (rack : List Driver) (d : ℕ) → name_or_none (slice_get rack d) ≡ name_in_face (slice_get (faces rack) d)
by_face rack d = by_get (slice_get rack d) ∙ ap name_in_face (sym (slice_get-map face rack d))
  where
    by_get : (o : Option Driver) → name_or_none o ≡ name_in_face (option_map face o)
    by_get None = refl
    by_get (Some x) = refl

module _ (a b : List Driver) (shown : faces a ≡ faces b) where
  name_same : (d : ℕ) (name : Text) → HasName a d name → HasName b d name
  name_same d name h = by_face b d ∙ ap (λ (fs : List Face). name_in_face (slice_get fs d)) (sym shown) ∙ sym (by_face a d) ∙ h

  pub all_named_same : (ds : List ℕ) → AllNamed a ds → AllNamed b ds
  all_named_same [] h = tt
  all_named_same (d ∷ ds) ((name, named), more) = ((name, name_same d name named), all_named_same ds more)

  pub names_same : (label : Label) → NamesDriver label a → NamesDriver label b
  names_same (Label.Asked minor path name said) (d, named) = (d, name_same d name named)
  names_same (Label.Add path name ok) (d, named) = (d, name_same d name named)
  names_same _ h = tt

pub stacks_same : (s : State) (r : List Driver) → faces r ≡ faces s.core.rack → StacksFit (with_rack r s) → StacksFit s
stacks_same s r shown h =
    record { few = h.few; named = λ k n at. all_named_same r s.core.rack shown n.stack (h.named k n at); empty = h.empty }

-- Teaching ----------------------------------------------------------------------------------------

-- what is printed where an event is taken or refused
abbrev pub IsTakenOr : Label → Type 0
IsTakenOr (Label.Did deed) = Unit {0}
IsTakenOr (Label.Refused word reason) = Unit {0}
IsTakenOr _ = ⊥

pub teaching_says : (s : State) (name : Text) (rule : Rule) → IsTakenOr (happenings.happens s (Event.Teach name rule)).label
teaching_says s name rule =
    let P : Step → Type 0 = λ x. IsTakenOr x.label in
    by_found P (find (is_named name) s.core.rack) _ _ (λ none. tt) (λ driver there.
    by_test P (not (is_scripted driver.kind)) _ _ (λ e. tt) (λ kind.
    by_test P (nat_le 64 (length driver.book)) _ _ (λ e. tt) (λ room. tt)))

-- a state stays as it is
stays : (label : Label) (a : DevState) → Change label a a
stays (Label.Add path driver true) a = inl refl
stays (Label.Add path driver false) a = refl
stays (Label.State path state) a = inl refl
stays _ a = refl

one_node : (k : ℕ) (n m : Node) (nodes : List Node) → node_at k nodes ≡ Some n → node_at k nodes ≡ Some m → m ≡ n
one_node k n m nodes at there = let both : Some m ≡ Some n = sym there ∙ at in cc

-- where such a line is printed and the nodes stay as they are
module _ (label : Label) (says : IsTakenOr label) (s t : State) (same : t.core.nodes ≡ s.core.nodes) where
  before : (k : ℕ) (m : Node) → node_at k t.core.nodes ≡ Some m → node_at k s.core.nodes ≡ Some m
  before k m there = ap (node_at k) (sym same) ∙ there

  still_there : (k : ℕ) (n : Node) → node_at k s.core.nodes ≡ Some n → node_at k t.core.nodes ≡ None → ⊥
  still_there k n at gone = let bad : Some n ≡ None = sym at ∙ ap (node_at k) (sym same) ∙ gone in absurd (cc)

  pub still_follows : FollowsDiagram label s.core.nodes t.core.nodes
  still_follows =
      record {
        stays = λ k n m at there. subst (λ (x : Node). Change label n.state x.state) (sym (one_node k n m s.core.nodes at (before k m there))) (stays label n.state);
        joins = λ k m none there. absurd (let bad : None ≡ Some m = sym none ∙ before k m there in cc);
        leaves = λ k n at gone. absurd (still_there k n at gone);
      }

  pub still_walked : Walked label s.core.nodes t.core.nodes
  still_walked = by_label label says
    where
      by_label : (l : Label) → IsTakenOr l → Walked l s.core.nodes t.core.nodes
      by_label (Label.State path state) h = absurd h
      by_label _ h = tt

  pub still_told : StatesTold label s t
  still_told =
      record {
        alone = λ k n m at there. inl (ap (λ (x : Node). x.state) (one_node k n m s.core.nodes at (before k m there)));
        walked = λ path state is k n at named. absurd (subst IsTakenOr is says);
      }

  pub still_first : DependentsFirst label s.core t.core
  still_first =
      record {
        bare = λ path is k n at named j m below there. absurd (subst IsTakenOr is says);
        childless = λ k n at gone. absurd (still_there k n at gone);
      }

  pub still_names : NamesDriver label t.core.rack
  still_names = by_label label says
    where
      by_label : (l : Label) → IsTakenOr l → NamesDriver l t.core.rack
      by_label (Label.Asked minor path name shown) h = absurd h
      by_label (Label.Add path name ok) h = absurd h
      by_label _ h = tt
