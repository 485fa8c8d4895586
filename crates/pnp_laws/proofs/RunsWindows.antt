-- In each state of a run what each device needs and holds passes through the windows of all bridges above it.
use Rattle.std.proofs.Common.{ℕ, zero, suc, ◌≡◌, ◌≢◌, ◌≤◌, inl, inr, Bool, true, false, cond, List, [], ◌∷◌, ◌++◌, Contains, Option, Some, refl, sym, ap, ◌∙◌, subst, arith}
use Rattle.std.proofs.Math.Nat.{le-max_left, le-max_right, min-le_left, min-le_right}
use Rattle.std.proofs.lemmas.Bool.{cases_eq}
use Rattle.std.proofs.lemmas.List.Elements.{All-contains}
use Rattle.resource_reqs.specs.Resources.{Reqs, Res, Whole, same_kind}
use Rattle.resource_reqs.proofs.Counts.{contains_cons, contains_nil}
use Rattle.pnp_model.specs.Clips.{IsInRoom}
use Rattle.pnp_model.specs.Cores.{node_at}
use Rattle.pnp_model.specs.Keyed.{those}
use Rattle.pnp_model.specs.Records.{Core, Node, Window}
use Rattle.pnp_model.specs.Tests.{has}
use Rattle.pnp_model.specs.Trees.{above, above_in}
use Rattle.pnp_model.specs.Windows.{birth_of, births, clip, is_window_on, narrowed, room}
use Rattle.pnp_model.proofs.Clips.{clip_is_whole, clip_twice}
use Rattle.pnp_laws.specs.Windows.{NeedsAreClippedLaw, HeldInsideWindowsLaw}
use Rattle.pnp_laws.proofs.Aboves.{above_any, above_step}
use Rattle.pnp_laws.proofs.Decides.{contains_here, contains_later}
use Rattle.pnp_laws.proofs.Due.{RootIsOwn, above_zero}
use Rattle.pnp_laws.proofs.Lists.{cons_here, cons_there, has_cases, has-append}
use Rattle.pnp_laws.proofs.Ranks.{Rooted}
use Rattle.pnp_laws.proofs.Reached.{reached_tree}
use Rattle.pnp_laws.proofs.NodesPlugged.{nodes_are_plugged}
use Rattle.pnp_laws.proofs.RunsHeld.{each_holds_a_part}
use Rattle.pnp_laws.proofs.Sharing.{same_kind_self}
use Rattle.pnp_laws.proofs.Truths.{both_true, by_test}

-- What is needed ----------------------------------------------------------------------------------

-- it is what was said, clipped by the same rooms
pub needs_are_clipped : NeedsAreClippedLaw
needs_are_clipped settings rack entries s run k n at up =
    let (said, is, clipped) = nodes_are_plugged settings rack entries s run k n at in
    ap (clip s.windows s.core.nodes n.parent) clipped ∙ clip_twice (room s.windows s.core.nodes n.parent) said ∙ sym clipped

-- What is held ------------------------------------------------------------------------------------

-- the room lies inside each window that makes it
inside_narrowed : (ws : List Window) (w : Window) → Contains ws w → (w.res.lo ≤ (narrowed ws).lo) × ((narrowed ws).hi ≤ w.res.hi)
inside_narrowed [] w c = absurd (contains_nil w c)
inside_narrowed (x ∷ ws) w c =
    let a = le-max_left x.res.lo (narrowed ws).lo in
    let b = le-max_right x.res.lo (narrowed ws).lo in
    let e = min-le_left x.res.hi (narrowed ws).hi in
    let f = min-le_right x.res.hi (narrowed ws).hi in
    elim (contains_cons x ws w c) [
      | inl is ↦ subst (λ (y : Window). (y.res.lo ≤ (narrowed (x ∷ ws)).lo) × ((narrowed (x ∷ ws)).hi ≤ y.res.hi)) (sym is) (a, e)
      | inr more ↦ let rest = inside_narrowed ws w more in let l = rest.0 in let h = rest.1 in (omega arith, omega arith)
    ]

contains_those : (test : Window → Bool) (ws : List Window) (w : Window) → Contains ws w → test w ≡ true → Contains (those test ws) w
contains_those test [] w c e = absurd (contains_nil w c)
contains_those test (x ∷ ws) w c e =
    elim (contains_cons x ws w c) [
      | inl is ↦ subst (λ (b : Bool). Contains (cond b (x ∷ those test ws) (those test ws)) w) (sym (ap test (sym is) ∙ e)) (subst (λ (y : Window). Contains (y ∷ those test ws) w) is (contains_here w (those test ws)))
      | inr more ↦
          let rest = contains_those test ws w more e in
          by_test (λ (b : Bool). Contains (cond b (x ∷ those test ws) (those test ws)) w) (test x) (λ q. contains_later x (those test ws) w rest) (λ q. rest)
    ]

-- the birth number of a device among these
births_have : (nodes : List Node) (ks : List ℕ) (j : ℕ) (n : Node) → has ks j ≡ true → node_at j nodes ≡ Some n → has (births nodes ks) n.born ≡ true
births_have nodes [] j n h at = absurd (cc)
births_have nodes (k ∷ ks) j n h at =
    elim (has_cases k j ks h) [
      | inl e ↦ ap (λ (o : Option Node). has (birth_of o ++ births nodes ks) n.born) (subst (λ (i : ℕ). node_at i nodes ≡ Some n) (sym e) at) ∙ cons_here n.born (births nodes ks)
      | inr more ↦ has-append (birth_of (node_at k nodes)) (births nodes ks) n.born ∙ either (has (birth_of (node_at k nodes)) n.born) (has (births nodes ks) n.born) (births_have nodes ks j n more at)
    ]
  where
    either : (a b : Bool) → b ≡ true → cond a true b ≡ true
    either true b e = refl
    either false b e = e

-- what stands above a device is its parent or stands above that
above_parent : (c : Core) → Rooted c → RootIsOwn c.nodes → (k j : ℕ) (m : Node) → node_at k c.nodes ≡ Some m → k ≢ 0 → has (above c.nodes k) j ≡ true → has (m.parent ∷ above c.nodes m.parent) j ≡ true
above_parent c rooted root zero j m at up h = absurd (up refl)
above_parent c rooted root (suc k) j m at up h =
    let parent = rooted (suc k) m at up in
    elim (has_cases m.parent j (above_in k c.nodes m.parent) (subst (λ (ks : List ℕ). has ks j ≡ true) (above_step k c.nodes (suc k) m at) h)) [
      | inl e ↦ subst (λ (i : ℕ). has (m.parent ∷ above c.nodes m.parent) i ≡ true) e (cons_here m.parent (above c.nodes m.parent))
      | inr over ↦ elim (cases_eq m.parent 0) [
        | inl z ↦
            let e = z ∙ above_zero k c.nodes j root (subst (λ (i : ℕ). has (above_in k c.nodes i) j ≡ true) z over) in
            subst (λ (i : ℕ). has (m.parent ∷ above c.nodes m.parent) i ≡ true) e (cons_here m.parent (above c.nodes m.parent))
        | inr high ↦ cons_there m.parent (above c.nodes m.parent) j (above_any k m.parent c m.parent j parent.1.0 root rooted parent.1.1 high (omega arith) over)
      ]
    ]

pub held_inside_windows : HeldInsideWindowsLaw
held_inside_windows settings rack entries s run k j n over res w at held high there known own kind =
    let tree = reached_tree settings rack s (entries, run) in
    let up : k ≢ 0 = λ z. let none = subst (λ (i : ℕ). has (above s.core.nodes i) j ≡ true) z high in cc in
    let bs = births s.core.nodes (n.parent ∷ above s.core.nodes n.parent) in
    let born = births_have s.core.nodes (n.parent ∷ above s.core.nodes n.parent) j over (above_parent s.core tree.rooted tree.root k j n at up high) there in
    let on : is_window_on res.kind bs w ≡ true = both_true (same_kind w.res.kind res.kind) (has bs w.born) (same_kind_self w.res.kind res.kind kind) (ap (has bs) own ∙ born) in
    let window = inside_narrowed (those (is_window_on res.kind bs) s.windows) w (contains_those (is_window_on res.kind bs) s.windows w known on) in
    let rooms = room s.windows s.core.nodes n.parent in
    let whole : Whole n.reqs n.holds = elim (each_holds_a_part settings rack entries s run k n at) [ inl none ↦ absurd (contains_nil res (subst (λ (hs : List Res). Contains hs res) none held)) | inr h ↦ h ] in
    let inside = ((clip_is_whole rooms n.reqs n.holds).0 (subst (λ (r : Reqs). Whole r n.holds) (sym (needs_are_clipped settings rack entries s run k n at up)) whole)).1 in
    let in_room : IsInRoom rooms res = All-contains (IsInRoom rooms) n.holds res inside held in
    let a = window.0 in
    let b = window.1 in
    let c = in_room.0 in
    let d = in_room.1 in
    (omega arith, omega arith)
