-- What comes through to a device stays as it is: nodes keep their births and parents, and a window is set only where nothing is below.
use Rattle.std.proofs.Common.{ℕ, ◌≡◌, ◌≢◌, ◌<◌, ◌==◌, ◌&&◌, inl, inr, Bool, true, false, cond, List, [], ◌∷◌, ◌++◌, Option, Some, None, refl, sym, ap, ap₂, ◌∙◌, subst, arith}
use Rattle.std.specs.List.{list_any}
use Rattle.std.proofs.Math.Path.{fun_ext}
use Rattle.std.proofs.lemmas.Bool.{cases_eq}
use Rattle.std.proofs.lemmas.Bool.Decides.{nat_tests}
use Rattle.resource_reqs.specs.Resources.{Res, same_kind}
use Rattle.resource_reqs.specs.declared.kind.Kind.{Kind}
use Rattle.pnp_labels.specs.declared.label.Label.{Label}
use Rattle.pnp_model.specs.Cores.{node_at}
use Rattle.pnp_model.specs.Diagram.{FollowsDiagram}
use Rattle.pnp_model.specs.Events.{has_children}
use Rattle.pnp_model.specs.Keyed.{those}
use Rattle.pnp_model.specs.Laws.{DependentsFirst}
use Rattle.pnp_model.specs.Records.{Core, Device, Driver, Node, Settings, State, Window}
use Rattle.pnp_model.specs.Runs.{Entry, Goes, printed}
use Rattle.pnp_model.specs.States.{new_child, node_born}
use Rattle.pnp_model.specs.Tests.{has}
use Rattle.pnp_model.specs.Trees.{above, is_child}
use Rattle.pnp_model.specs.Windows.{birth_of, births, is_window_on, narrowed, room}
use Rattle.pnp_laws.specs.Effects.{NodeEffect, WindowEffect, Windowed}
use Rattle.pnp_laws.specs.Keys.{BirthsApart}
use Rattle.pnp_laws.specs.Reached.{IsReached}
use Rattle.pnp_laws.proofs.Aboves.{is_above_in}
use Rattle.pnp_laws.proofs.Due.{RootIsOwn}
use Rattle.pnp_laws.proofs.EffectViews.{Origin, origin}
use Rattle.pnp_laws.proofs.EffectsOf.{effect_goes}
use Rattle.pnp_laws.proofs.JoinMachine.{reaches_born}
use Rattle.pnp_laws.proofs.Joins.{any_from}
use Rattle.pnp_laws.proofs.Lists.{cons_here, cons_there, has_cases}
use Rattle.pnp_laws.proofs.Lookups.{find_passes, node_found, own_serial, some_same}
use Rattle.pnp_laws.proofs.Ranks.{Rooted}
use Rattle.pnp_laws.proofs.Reaching.{reached_on}
use Rattle.pnp_laws.proofs.RunsStand.{Kept, dependents_go_first, every_run_follows, reaches_kept}
use Rattle.pnp_laws.proofs.RunsStrays.{above_stays}

-- Where a node comes from --------------------------------------------------------------------------

-- it was there, with the same birth and parent; or it joined
data From (s : State) (k : ℕ) (m : Node) : Type 0 where
  was : (n : Node) → node_at k s.core.nodes ≡ Some n → m.born ≡ n.born → m.parent ≡ n.parent → From s k m
  joined : (node : Node) (d : Device) → node_at k s.core.nodes ≡ None → s.next_serial ≡ k → m ≡ new_child node.serial d s → From s k m

by_origin : (s : State) (label : Label) (t : State) (k : ℕ) (m : Node) → Origin s label t k m → From s k m
by_origin s label t k _ (Origin.was n at) = From.was n at refl refl
by_origin s label t k _ (Origin.walked n minor w bad at request other ends verdict prints) = From.was n at refl refl
by_origin s label t k _ (Origin.troubled n problem at) = From.was n at refl refl
by_origin s label t k _ (Origin.stacks n d ds name at acts prints) = From.was n at refl refl
by_origin s label t k _ (Origin.assigned n phase plan at acts search part now) = From.was n at refl refl
by_origin s label t k _ (Origin.stripped n w at request prints) = From.was n at refl refl
by_origin s label t k _ (Origin.commits r n runs course is at) = From.was n at refl refl
by_origin s label t k _ (Origin.joins node d below gone own) = From.joined node d gone own refl

-- Births ------------------------------------------------------------------------------------------

births_alike : (old new : List Node) (ks : List ℕ) → ((j : ℕ) → has ks j ≡ true → birth_of (node_at j new) ≡ birth_of (node_at j old)) → births new ks ≡ births old ks
births_alike old new [] same = refl
births_alike old new (k ∷ ks) same = ap₂ (λ (xs ys : List ℕ). xs ++ ys) (same k (cons_here k ks)) (births_alike old new ks (λ j h. same j (cons_there k ks j h)))

-- whose birth number it is
abbrev IsBirthOf : List Node → List ℕ → ℕ → Type 0
IsBirthOf nodes ks b = (j : ℕ) × (n : Node) × (has ks j ≡ true) × (node_at j nodes ≡ Some n) × (n.born ≡ b)

birth_first : (nodes : List Node) (k : ℕ) (ks : List ℕ) (b : ℕ) (o : Option Node) → node_at k nodes ≡ o → (has (births nodes ks) b ≡ true → IsBirthOf nodes ks b) → has (birth_of o ++ births nodes ks) b ≡ true → IsBirthOf nodes (k ∷ ks) b
birth_first nodes k ks b None e later h = let more = later h in (more.0, more.1, cons_there k ks more.0 more.2, more.3, more.4)
birth_first nodes k ks b (Some n) e later h =
    elim (has_cases n.born b (births nodes ks) h) [
      | inl is ↦ (k, n, cons_here k ks, e, is)
      | inr rest ↦ let more = later rest in (more.0, more.1, cons_there k ks more.0 more.2, more.3, more.4)
    ]

birth_from : (nodes : List Node) (ks : List ℕ) (b : ℕ) → has (births nodes ks) b ≡ true → IsBirthOf nodes ks b
birth_from nodes [] b h = absurd (cc)
birth_from nodes (k ∷ ks) b h = birth_first nodes k ks b (node_at k nodes) refl (birth_from nodes ks b) h

-- a device, or one above it, is there
on_path : (c : Core) → Rooted c → RootIsOwn c.nodes → (k j : ℕ) (m : Node) → node_at k c.nodes ≡ Some m → has (k ∷ above c.nodes k) j ≡ true → (n : Node) × (node_at j c.nodes ≡ Some n)
on_path c rooted root k j m at h =
    elim (has_cases k j (above c.nodes k) h) [
      | inl e ↦ (m, subst (λ (i : ℕ). node_at i c.nodes ≡ Some m) e at)
      | inr over ↦ elim (cases_eq k 0) [
        | inl z ↦ absurd (let none = subst (λ (i : ℕ). has (above c.nodes i) j ≡ true) z over in cc)
        | inr up ↦ (is_above_in k c k j m root rooted at up over).there
      ]
    ]

-- a parent, or a device above it, has a child
has_child : (c : Core) → Rooted c → RootIsOwn c.nodes → (k j : ℕ) (m : Node) → node_at k c.nodes ≡ Some m → k ≢ 0 → has (m.parent ∷ above c.nodes m.parent) j ≡ true
    → (i : ℕ) × (x : Node) × (node_at i c.nodes ≡ Some x) × (x.parent ≡ j) × (i ≢ 0)
has_child c rooted root k j m at up h =
    elim (has_cases m.parent j (above c.nodes m.parent) h) [
      | inl e ↦ (k, m, at, e, up)
      | inr over ↦ elim (cases_eq m.parent 0) [
        | inl z ↦ absurd (let none = subst (λ (i : ℕ). has (above c.nodes i) j ≡ true) z over in cc)
        | inr high ↦ let parent = rooted k m at up in (is_above_in m.parent c m.parent j parent.1.0 root rooted parent.1.1 high over).child
      ]
    ]

-- A window is set ----------------------------------------------------------------------------------

born_there : (b : ℕ) (nodes : List Node) (k : ℕ) (n : Node) → node_at k nodes ≡ Some n → n.born ≡ b → node_born b nodes ≡ None → ⊥
born_there b [] k n at own none = cc
born_there b (x ∷ xs) k n at own none =
    elim (cases_eq x.serial k) [
      | inl e ↦ let is : x ≡ n = grind (arith, nat_tests) in let same = ap (λ (z : Node). z.born) is ∙ own in grind (arith, nat_tests)
      | inr d ↦ born_there b xs k n (grind (arith, nat_tests)) own (grind (arith, nat_tests))
    ]

child_found : (i : ℕ) (nodes : List Node) (x : Node) (j : ℕ) → node_at i nodes ≡ Some x → x.parent ≡ j → i ≢ 0 → list_any (is_child j) nodes ≡ true
child_found i nodes x j at parent up =
    let own = own_serial i x nodes at in
    any_from (is_child j) nodes i x at (grind (arith, nat_tests))

-- who has a child is seen to have one, by its birth number
childless_not : (s : State) (b j i : ℕ) (n x : Node) → BirthsApart s.core.nodes → ((m : Node) → node_born b s.core.nodes ≡ Some m → node_at m.serial s.core.nodes ≡ Some m) → node_at j s.core.nodes ≡ Some n → n.born ≡ b
    → node_at i s.core.nodes ≡ Some x → x.parent ≡ j → i ≢ 0 → has_children s.core.nodes (node_born b s.core.nodes) ≡ false → ⊥
childless_not s b j i n x apart found at own there parent up none = by_found (node_born b s.core.nodes) refl
  where
    by_found : (o : Option Node) → node_born b s.core.nodes ≡ o → ⊥
    by_found None e = born_there b s.core.nodes j n at own e
    by_found (Some m) e =
        let born : m.born ≡ b = let passes = find_passes (λ (z : Node). z.born == b) s.core.nodes m e in grind (arith, nat_tests) in
        let same : m.serial ≡ j = apart m.serial j m n (found m e) at (born ∙ sym own) in
        let child = child_found i s.core.nodes x m.serial there (parent ∙ sym same) up in
        let not_one = subst (λ (o : Option Node). has_children s.core.nodes o ≡ false) e none in
        cc

-- those that pass are the same where what is new does not
those_pushed : (test : Window → Bool) (ws : List Window) (w : Window) → test w ≡ false → those test (ws ++ w ∷ []) ≡ those test ws
those_pushed test [] w e = ap (λ (b : Bool). cond b (w ∷ []) []) e
those_pushed test (x ∷ ws) w e = ap (λ (xs : List Window). cond (test x) (x ∷ xs) xs) (those_pushed test ws w e)

not_on : (kind : Kind) (bs : List ℕ) (w : Window) → has bs w.born ≡ false → is_window_on kind bs w ≡ false
not_on kind bs w none = neither (same_kind w.res.kind kind) (has bs w.born) none
  where
    neither : (a b : Bool) → b ≡ false → (a && b) ≡ false
    neither true b e = e
    neither false b e = refl

-- A step or an event -------------------------------------------------------------------------------

module _ (s : State) (entry : Entry) (t : State) (was : Kept s) (now : Kept t) (nodes : NodeEffect s (printed entry) t) where
  came : (k : ℕ) (m : Node) → node_at k t.core.nodes ≡ Some m → From s k m
  came k m at = by_origin s (printed entry) t k m (origin s (printed entry) t was.good.serials k m nodes at)

  same_born : (j : ℕ) (n m : Node) → node_at j s.core.nodes ≡ Some n → From s j m → m.born ≡ n.born
  same_born j n m at (From.was x there born parent) = born ∙ ap (λ (z : Node). z.born) (some_same (node_at j s.core.nodes) x n there at)
  same_born j n m at (From.joined node d gone own is) = absurd (cc)

  -- the parent of a node was there
  parent_was : (k : ℕ) (m : Node) → node_at k t.core.nodes ≡ Some m → k ≢ 0 → (x : Node) × (node_at m.parent s.core.nodes ≡ Some x)
  parent_was k m at up = by_parent (came m.parent over.1.0 over.1.1)
    where
      over : (m.parent < k) × ((p : Node) × (node_at m.parent t.core.nodes ≡ Some p))
      over = now.stands.tree.rooted k m at up

      not_new : s.next_serial ≡ m.parent → From s k m → ⊥
      not_new own (From.was n there born parent) = let below = was.good.below k n there in let low = over.0 in omega arith
      not_new own (From.joined node d gone new is) = let low = over.0 in omega arith

      by_parent : From s m.parent over.1.0 → (x : Node) × (node_at m.parent s.core.nodes ≡ Some x)
      by_parent (From.was x there born parent) = (x, there)
      by_parent (From.joined node d gone own is) = absurd (not_new own (came k m at))

  module _ (first : DependentsFirst (printed entry) s.core t.core) (follows : FollowsDiagram (printed entry) s.core.nodes t.core.nodes) where
    births_stay : (p : ℕ) (x y : Node) → node_at p s.core.nodes ≡ Some x → node_at p t.core.nodes ≡ Some y → births t.core.nodes (p ∷ above t.core.nodes p) ≡ births s.core.nodes (p ∷ above s.core.nodes p)
    births_stay p x y at there =
        let same = above_stays s (printed entry) t was first follows nodes p x y at there in
        ap (λ (ks : List ℕ). births t.core.nodes (p ∷ ks)) same
        ∙ births_alike s.core.nodes t.core.nodes (p ∷ above s.core.nodes p) (λ j h.
        let old = on_path s.core was.stands.tree.rooted was.stands.tree.root p j x at h in
        let new = on_path t.core now.stands.tree.rooted now.stands.tree.root p j y there (subst (λ (ks : List ℕ). has (p ∷ ks) j ≡ true) (sym same) h) in
        ap birth_of new.1 ∙ ap (λ (b : ℕ). b ∷ []) (same_born j old.0 new.0 old.1 (came j new.0 new.1)) ∙ sym (ap birth_of old.1))

    module _ (apart : BirthsApart s.core.nodes) (k : ℕ) (m : Node) (at : node_at k t.core.nodes ≡ Some m) (up : k ≢ 0) where
      over_births : births t.core.nodes (m.parent ∷ above t.core.nodes m.parent) ≡ births s.core.nodes (m.parent ∷ above s.core.nodes m.parent)
      over_births = let old = parent_was k m at up in let new = (now.stands.tree.rooted k m at up).1 in births_stay m.parent old.0 new.0 old.1 new.1

      -- the device of a new window is not above
      not_above : (d : Device) (res : Res) → Windowed s entry d res → t.core ≡ s.core → has (births s.core.nodes (m.parent ∷ above s.core.nodes m.parent)) d.born ≡ false
      not_above d res windowed core = by_test (has (births s.core.nodes (m.parent ∷ above s.core.nodes m.parent)) d.born) refl
        where
          was_at : node_at k s.core.nodes ≡ Some m
          was_at = subst (λ (c : Core). node_at k c.nodes ≡ Some m) core at

          by_test : (b : Bool) → has (births s.core.nodes (m.parent ∷ above s.core.nodes m.parent)) d.born ≡ b → b ≡ false
          by_test false h = refl
          by_test true h =
              let over = birth_from s.core.nodes (m.parent ∷ above s.core.nodes m.parent) d.born h in
              let child = has_child s.core was.stands.tree.rooted was.stands.tree.root k over.0 m was_at up over.2 in
              absurd (childless_not s d.born over.0 child.0 over.1 child.1 apart (λ x e. (node_found (λ n. n.born == d.born) 0 s.core.nodes x was.good.serials e).1)
              over.3 over.4 child.2 child.3 child.4 windowed.no_node)

      pub room_stays : WindowEffect s entry t → room t.windows t.core.nodes m.parent ≡ room s.windows s.core.nodes m.parent
      room_stays (WindowEffect.same e) = ap₂ (λ (bs : List ℕ) (ws : List Window). λ (kind : Kind). narrowed (those (is_window_on kind bs) ws)) over_births e
      room_stays (WindowEffect.sets d res windowed core e) =
          let w : Window = record { born = d.born; res = res } in
          let bs = births s.core.nodes (m.parent ∷ above s.core.nodes m.parent) in
          fun_ext (λ (kind : Kind). ap₂ (λ (xs : List ℕ) (ws : List Window). narrowed (those (is_window_on kind xs) ws)) over_births e
          ∙ ap narrowed (those_pushed (is_window_on kind bs) s.windows w (not_on kind bs w (not_above d res windowed core))))

-- from a state of a run: what comes through to a device is as it was, also where it has just joined
pub rooms_stay : (settings : Settings) (rack : List Driver) (s : State) (entry : Entry) (t : State) → IsReached settings rack s → Goes settings s entry t
    → (k : ℕ) (m : Node) → node_at k t.core.nodes ≡ Some m → k ≢ 0 → room t.windows t.core.nodes m.parent ≡ room s.windows s.core.nodes m.parent
rooms_stay settings rack s entry t (entries, run) goes k m at up =
    let was = reaches_kept settings rack entries s run in
    let (more, later) = reached_on settings rack s entry t (entries, run) goes in
    let now = reaches_kept settings rack more t later in
    let effect = effect_goes settings s entry t goes in
    let first = dependents_go_first settings rack entries s entry t run goes in
    let follows = (every_run_follows settings rack entries s entry t run goes).0 in
    room_stays s entry t was now effect.nodes first follows (reaches_born settings rack entries s run).apart k m at up effect.windows
