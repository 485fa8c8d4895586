-- What is kept of births: by a step, by a join, and by an event.
use Rattle.std.proofs.Common.{ℕ, suc, ◌+◌, ◌<◌, ◌≤◌, ◌≡◌, ◌==◌, inl, inr, Bool, true, false, not, ◌&&◌, ◌||◌, cond, List, [], ◌∷◌, ◌++◌, Option, Some, None, refl, sym, ap, ◌∙◌, subst, arith, nat_lt}
use Rattle.std.proofs.lemmas.Bool.Decides.{nat_tests}
use Rattle.pnp_model.specs.Records.{Node, Device, Activity, State, Duty, Job}
use Rattle.pnp_model.specs.Cores.{node_at}
use Rattle.pnp_model.specs.States.{activity_at, new_child}
use Rattle.pnp_model.specs.Tasks.{joins, join_step, has_born}
use Rattle.pnp_labels.specs.declared.states.DevState.TheVariants.{Started}
use Rattle.pnp_laws.specs.Kept.{IsGood}
use Rattle.pnp_laws.proofs.IdleSteps.{joins_is}
use Rattle.pnp_laws.proofs.Lookups.{some_same, joined_from, joined_keeps}
use Rattle.pnp_laws.proofs.Standing.{Told, Tree}
use Rattle.pnp_laws.proofs.JoinRooms.{room_flows}
use Rattle.pnp_laws.proofs.Joins.{starts, starts_less, unborn, closed, is_barren, some_there, is_live, lives, In, Sub, sub_in, Grows, Born, Leaving, Flows, any_from, any_at, parent_there}
use Rattle.pnp_laws.proofs.JoinSteps.{live_is, starts_pushed}
use Rattle.pnp_laws.proofs.Truths.{and_both, both_true, not_true, untrue}

-- Worlds -------------------------------------------------------------------------------------------------

grows_weaker : (lo hi : ℕ) (ds : List Device) → lo ≤ hi → Grows hi ds → Grows lo ds
grows_weaker lo hi [] l h = tt
grows_weaker lo hi (d ∷ ds) l h = let a = h.0 in (omega arith, h.1, h.2)

pub grows_sub : (lo : ℕ) (xs ys : List Device) → Sub xs ys → Grows lo ys → Grows lo xs
grows_sub lo _ _ Sub.none h = tt
grows_sub lo _ _ (Sub.keep d xs ys sub) h = (h.0, h.1, grows_sub (suc d.born) xs ys sub h.2)
grows_sub lo _ _ (Sub.skip d xs ys sub) h = let a = h.0 in grows_weaker lo (suc d.born) xs (omega arith) (grows_sub (suc d.born) xs ys sub h.2)

pub grows_in : (lo : ℕ) (ds : List Device) (d : Device) → Grows lo ds → In d ds → lo ≤ d.born
grows_in lo [] d h there = absurd there
grows_in lo (x ∷ xs) d h (inl e) = let f = ap (λ (z : Device). z.born) e in let a = h.0 in omega arith
grows_in lo (x ∷ xs) d h (inr there) = let a = h.0 in let more = grows_in (suc x.born) xs d h.2 there in omega arith

-- a birth number names one device
one_device : (lo : ℕ) (ds : List Device) (d e : Device) → Grows lo ds → In d ds → In e ds → d.born ≡ e.born → d ≡ e
one_device lo [] d e h a b same = absurd a
one_device lo (x ∷ xs) d e h (inl a) (inl b) same = sym a ∙ b
one_device lo (x ∷ xs) d e h (inl a) (inr b) same = absurd (let f = ap (λ (z : Device). z.born) a in let g = grows_in (suc x.born) xs e h.2 b in let q : suc x.born ≤ x.born = omega arith in omega arith)
one_device lo (x ∷ xs) d e h (inr a) (inl b) same = absurd (let f = ap (λ (z : Device). z.born) b in let g = grows_in (suc x.born) xs d h.2 a in let q : suc x.born ≤ x.born = omega arith in omega arith)
one_device lo (x ∷ xs) d e h (inr a) (inr b) same = one_device (suc x.born) xs d e h.2 a b same

pub under : (lo : ℕ) (ds : List Device) (d : Device) → Grows lo ds → In d ds → d.parent ≤ d.born
under lo [] d h there = absurd there
under lo (x ∷ xs) d h (inl e) = subst (λ (z : Device). z.parent ≤ z.born) e h.1
under lo (x ∷ xs) d h (inr there) = under (suc x.born) xs d h.2 there

-- A step -----------------------------------------------------------------------------------------------------

pub born_flows : (s t : State) → Born s → Flows s t → Leaving t.operation t.core.nodes t.world → Born t
born_flows s t b f leaving =
    record {
      room = room_flows s t b f;
      grows = grows_sub 0 t.world s.world f.world b.grows;
      fresh = λ d there. subst (λ (i : ℕ). d.born < i) (sym f.counts.1) (b.fresh d (sub_in t.world s.world f.world d there));
      apart = λ j k n m at there e.
          let x = f.from j n at in
          let y = f.from k m there in
          b.apart j k x.0 y.0 x.1 y.1 (sym x.2 ∙ e ∙ y.2);
      first = λ k n at e. let x = f.from k n at in b.first k x.0 x.1 (sym x.2 ∙ e);
      known = λ k n at.
          let x = f.from k n at in
          let l = b.known k x.0 x.1 in
          let e = x.2 in
          let c = f.counts.1 in
          subst (λ (i : ℕ). n.born < i) (sym c) (subst (λ (i : ℕ). i < s.next_born) (sym e) l);
      soon =
          let h = f.tasks (unborn s.next_serial) in
          let z = b.soon in
          subst (λ (i : ℕ). starts (unborn i) t.tasks ≡ 0) (sym f.counts.0) (omega arith);
      links = λ k n p d at there in_world e.
          let x = f.from k n at in
          let y = f.from n.parent p there in
          let at_old : node_at x.0.parent s.core.nodes ≡ Some y.0 = subst (λ (i : ℕ). node_at i s.core.nodes ≡ Some y.0) x.3 y.1 in
          y.2 ∙ b.links k x.0 y.0 d x.1 at_old (sub_in t.world s.world f.world d in_world) (e ∙ x.2);
      leaving = leaving;
    }

-- A join -----------------------------------------------------------------------------------------------------

-- what is known where a device joins
pub record Joining (s : State) (node : Node) (d : Device) : Type 0 where
  pub join : joins node.born s.core.nodes d ≡ true
  pub there : In d s.world
  pub at : node_at node.serial s.core.nodes ≡ Some node
  pub up : node.state ≡ Started
  pub none : s.operation ≡ None
  pub good : IsGood s
  pub tree : Tree s.next_serial s.core
  pub told : Told s.core
  pub born : Born s

-- no node has the birth number
pub no_node : (s : State) (b k : ℕ) (n : Node) → has_born b s.core.nodes ≡ false → node_at k s.core.nodes ≡ Some n → n.born ≡ b → ⊥
no_node s b k n none at e = let h = any_from (λ n. n.born == b) s.core.nodes k n at (grind (arith, nat_tests)) in cc

unborn_less : (n k : ℕ) → unborn (n + 1) k ≤ unborn n k
unborn_less n k = by_test (nat_lt k n) (nat_lt k (n + 1)) (λ h. grind (arith, nat_tests))
  where
    by_test : (a b : Bool) → (a ≡ true → b ≡ true) → cond b 0 1 ≤ cond a 0 1
    by_test true b h = subst (λ (x : Bool). cond x 0 1 ≤ 0) (sym (h refl)) (omega arith)
    by_test false true h = omega arith
    by_test false false h = omega arith

pub born_joins : (s : State) (node : Node) (d : Device) → Joining s node d → Born (join_step s node d).state
born_joins s node d h =
    let b = h.born in
    let u = joins_is node.born s.core.nodes d h.join in
    let new = new_child node.serial d s in
    record {
      room = b.room;
      grows = b.grows;
      fresh = b.fresh;
      apart = λ j k n m at there e.
          elim (joined_from j s.core.nodes new n at) [
            | inl x ↦ elim (joined_from k s.core.nodes new m there) [
              | inl y ↦ b.apart j k n m x y e
              | inr y ↦ absurd (no_node s d.born j n u.1 x (e ∙ ap (λ (z : Node). z.born) y.1))
            ]
            | inr x ↦ elim (joined_from k s.core.nodes new m there) [
              | inl y ↦ absurd (no_node s d.born k m u.1 y (sym e ∙ ap (λ (z : Node). z.born) x.1))
              | inr y ↦ sym x.2 ∙ y.2
            ]
          ];
      first = λ k n at e.
          elim (joined_from k s.core.nodes new n at) [
            | inl x ↦ b.first k n x e
            | inr x ↦
                let zero : d.born ≡ 0 = sym (ap (λ (z : Node). z.born) x.1) ∙ e in
                absurd (no_node s d.born node.serial node u.1 h.at (let low = under 0 s.world d b.grows h.there in let p = u.0 in omega arith))
          ];
      known = λ k n at.
          elim (joined_from k s.core.nodes new n at) [
            | inl x ↦ b.known k n x
            | inr x ↦ subst (λ (z : Node). z.born < s.next_born) (sym x.1) (b.fresh d h.there)
          ];
      soon =
          let a = starts_pushed (unborn (s.next_serial + 1)) s.tasks (record { kind = Duty.Starting; serial = s.next_serial }) in
          let c = starts_less (unborn (s.next_serial + 1)) (unborn s.next_serial) s.tasks (unborn_less s.next_serial) in
          let z = b.soon in
          let e : unborn (s.next_serial + 1) s.next_serial ≡ 0 = ap (λ (x : Bool). cond x 0 1) (now s.next_serial) in
          omega arith;
      links = λ k n p x at there in_world e.
          elim (joined_from k s.core.nodes new n at) [
            | inl y ↦
                let q = parent_there s.next_serial k s n h.tree y in
                let kept = joined_keeps n.parent s.core.nodes new q.0 q.1 in
                let same : q.0 ≡ p = some_same (node_at n.parent (s.core.nodes ++ new ∷ [])) q.0 p kept there in
                ap (λ (z : Node). z.born) (sym same) ∙ b.links k n q.0 x y q.1 in_world e
            | inr y ↦
                let one : x ≡ d = one_device 0 s.world x d b.grows in_world h.there (e ∙ ap (λ (z : Node). z.born) y.1) in
                let kept = joined_keeps node.serial s.core.nodes new node h.at in
                let at_node : node_at node.serial (s.core.nodes ++ new ∷ []) ≡ Some p = subst (λ (i : ℕ). node_at i (s.core.nodes ++ new ∷ []) ≡ Some p) (ap (λ (z : Node). z.parent) y.1) there in
                let same : node ≡ p = some_same (node_at node.serial (s.core.nodes ++ new ∷ [])) node p kept at_node in
                ap (λ (z : Node). z.born) (sym same) ∙ sym u.0 ∙ ap (λ (z : Device). z.parent) (sym one)
          ];
      leaving = subst (λ (o : Option Job). Leaving o (join_step s node d).state.core.nodes s.world) (sym h.none) tt;
    }
  where
    now : (n : ℕ) → nat_lt n (n + 1) ≡ true
    now n = grind (arith, nat_tests)

-- the new node --------------------------------------------------------------------------------------------

not_given : (s : State) (node : Node) (d : Device) → Joining s node d → node_at s.next_serial s.core.nodes ≡ None
not_given s node d h = by_node (node_at s.next_serial s.core.nodes) refl
  where
    by_node : (o : Option Node) → node_at s.next_serial s.core.nodes ≡ o → node_at s.next_serial s.core.nodes ≡ None
    by_node None e = e
    by_node (Some n) e = absurd (let l = h.good.below s.next_serial n e in omega arith)

no_activity : (s : State) (node : Node) (d : Device) → Joining s node d → activity_at s.next_serial s.activities ≡ None
no_activity s node d h = by_activity (activity_at s.next_serial s.activities) refl
  where
    by_activity : (o : Option Activity) → activity_at s.next_serial s.activities ≡ o → activity_at s.next_serial s.activities ≡ None
    by_activity None e = e
    by_activity (Some a) e = absurd (let there = h.good.phases s.next_serial a e in let q = there.1 in let fresh = not_given s node d h in cc)

pub new_there : (s : State) (node : Node) (d : Device) → Joining s node d → node_at s.next_serial (s.core.nodes ++ new_child node.serial d s ∷ []) ≡ Some (new_child node.serial d s)
new_there s node d h = added s.core.nodes (not_given s node d h)
  where
    added : (nodes : List Node) → node_at s.next_serial nodes ≡ None → node_at s.next_serial (nodes ++ new_child node.serial d s ∷ []) ≡ Some (new_child node.serial d s)
    added [] e = grind (arith, nat_tests)
    added (x ∷ xs) e = let more = added xs in grind (arith, nat_tests)

pub new_dead : (s : State) (node : Node) (d : Device) → Joining s node d → is_live (join_step s node d).state (new_child node.serial d s) ≡ false
new_dead s node d h = by_tests (closed s.operation s.next_serial) (some_there (activity_at s.next_serial s.activities)) (ap some_there (no_activity s node d h))
  where
    by_tests : (a c : Bool) → c ≡ false → (not a && (not true || c)) ≡ false
    by_tests true c e = refl
    by_tests false true e = absurd (cc)
    by_tests false false e = refl

pub could_join : (s : State) (node : Node) (d : Device) → Joining s node d → (lives s d.parent && not (has_born d.born s.core.nodes)) ≡ true
could_join s node d h =
    let u = joins_is node.born s.core.nodes d h.join in
    let live_node : is_live s node ≡ true = live_is s node (ap (λ (o : Option Job). closed o node.serial) h.none) (inl (ap is_barren h.up)) in
    both_true (lives s d.parent) (not (has_born d.born s.core.nodes))
    (any_from (λ n. n.born == d.parent && is_live s n) s.core.nodes node.serial node h.at (both_true (node.born == d.parent) (is_live s node) (let e = u.0 in grind (arith, nat_tests)) live_node)) (ap not u.1)

pub is_born_now : (s : State) (node : Node) (d : Device) → Joining s node d → has_born d.born (join_step s node d).state.core.nodes ≡ true
is_born_now s node d h = any_from (λ n. n.born == d.born) (join_step s node d).state.core.nodes s.next_serial (new_child node.serial d s) (new_there s node d h) (grind (arith, nat_tests))

-- whoever can join after it could before
pub could_before : (s : State) (node : Node) (d x : Device) → IsGood (join_step s node d).state → Joining s node d → (lives (join_step s node d).state x.parent && not (has_born x.born (join_step s node d).state.core.nodes)) ≡ true → (lives s x.parent && not (has_born x.born s.core.nodes)) ≡ true
could_before s node d x good_t h g =
    let t = (join_step s node d).state in
    let new = new_child node.serial d s in
    let dead = new_dead s node d h in
    let two = and_both (lives t x.parent) (not (has_born x.born t.core.nodes)) g in
    let at = any_at (λ n. n.born == x.parent && is_live t n) 0 t.core.nodes good_t.serials two.0 in
    let own = and_both (at.0.born == x.parent) (is_live t at.0) at.2 in
    both_true (lives s x.parent) (not (has_born x.born s.core.nodes))
    (elim (joined_from at.0.serial s.core.nodes new at.0 at.1) [
      | inl old ↦ any_from (λ n. n.born == x.parent && is_live s n) s.core.nodes at.0.serial at.0 old at.2
      | inr (q, r, z) ↦ absurd (let e = ap (λ (z : Node). is_live t z) r in let f = own.1 in cc)
    ])
    (ap not (untrue (has_born x.born s.core.nodes)
    (λ e.
    let n = any_at (λ n. n.born == x.born) 0 s.core.nodes h.good.serials e in
    let still = any_from (λ n. n.born == x.born) t.core.nodes n.0.serial n.0 (joined_keeps n.0.serial s.core.nodes new n.0 n.1) n.2 in
    let out = not_true (has_born x.born t.core.nodes) two.1 in
    cc)))
