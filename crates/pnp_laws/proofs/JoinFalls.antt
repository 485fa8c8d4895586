-- Each join leaves fewer devices that may join, and no more tasks to spare.
use Rattle.std.proofs.Common.{ℕ, suc, ◌+◌, ◌<◌, ◌≤◌, ◌≡◌, ◌≢◌, ◌==◌, ◌⊎◌, inl, inr, Bool, true, false, not, ◌&&◌, ◌||◌, cond, List, [], ◌∷◌, Option, Some, None, refl, sym, ap, ◌∙◌, subst, arith, nat_lt}
use Rattle.std.proofs.lemmas.Bool.{cases_eq}
use Rattle.std.proofs.lemmas.Bool.Decides.{nat_tests}
use Rattle.pnp_model.specs.Records.{Node, Device, State, Step, Duty, Job}
use Rattle.pnp_model.specs.Cores.{node_at}
use Rattle.pnp_model.specs.Tasks.{join_step, has_born}
use Rattle.pnp_model.specs.States.{new_child}
use Rattle.pnp_labels.specs.declared.states.DevState.{DevState}
use Rattle.pnp_labels.specs.declared.states.DevState.TheVariants.{NoStack, SurpriseRemoved}
use Rattle.pnp_laws.specs.Kept.{IsGood, is_idle}
use Rattle.pnp_laws.proofs.Lookups.{some_same, found_self, joined_from, joined_keeps}
use Rattle.pnp_laws.proofs.SoundStarts.{child_hangs}
use Rattle.pnp_laws.proofs.Standing.{Told, Tree}
use Rattle.pnp_laws.proofs.Joins.{starts_less, unborn, closed, is_barren, is_live, lives, In, sub_same, Grows, Born, any_from, any_at, parent_there}
use Rattle.pnp_laws.proofs.JoinSteps.{Joined, live_is, starts_pushed}
use Rattle.pnp_laws.proofs.IdleSteps.{joins_is}
use Rattle.pnp_laws.proofs.JoinBirths.{Joining, born_joins, no_node, under, grows_in, new_there, new_dead, could_join, could_before, is_born_now}
use Rattle.pnp_laws.proofs.JoinCounts.{is_counted, reach, counted_more, reach_less, is_alive, live_at, one_of, start_count, is_to_start, opens_at, is_outside, spare, total, spare_at, spares, join_price, total_less, spare_less, one_is, other_is}
use Rattle.pnp_laws.proofs.Truths.{and_both, both_true, but_not, neither, not_true, or_cases, or_right, or_left, untrue}

-- Counting ---------------------------------------------------------------------------------------------------

-- one that was counted is counted no more; none of those that are up is
pub reach_falls : (Up : ℕ → Type 0) (opens was_open : ℕ → Bool) (test was : Device → Bool) (lo : ℕ) (ds : List Device) (d : Device) → Grows lo ds → In d ds → d.born ≢ 0 → was d ≡ true → test d ≡ false → Up d.parent →
    ((b : ℕ) → opens b ≡ true → (was_open b ≡ true) ⊎ (d.born ≡ b)) → ((x : Device) → In x ds → test x ≡ true → was x ≡ true) → ((b : ℕ) → Up b → opens b ≡ false) → ((x : Device) → In x ds → Up x.born → Up x.parent × (test x ≡ false)) →
    reach opens test ds < reach was_open was ds
reach_falls Up opens was_open test was lo [] d grows there not_root could now up more each shut above = absurd there
reach_falls Up opens was_open test was lo (x ∷ ds) d grows (inl e) not_root could now up more each shut above =
    by_tests (is_counted opens test x) (is_counted was_open was x)
    (subst (λ (y : Device). is_counted opens test y ≡ false) (sym e) (ap (λ (z : Bool). z && not (d.born == 0)) (neither (opens d.parent) (test d) (shut d.parent up) now)))
    (subst (λ (y : Device). is_counted was_open was y ≡ true) (sym e) (both_true (was_open d.parent || was d) (not (d.born == 0)) (or_right (was_open d.parent) (was d) could) (grind (arith, nat_tests))))
    (reach_less opens (λ b. was_open b || x.born == b) test was ds ds (sub_same ds)
    (λ b h. elim (more b h) [
      | inl q ↦ or_left (was_open b) (x.born == b) q
      | inr q ↦ or_right (was_open b) (x.born == b) (let f = ap (λ (y : Device). y.born) e in grind (arith, nat_tests))
    ])
    (λ y i h. inl (each y (inr i) h)))
  where
    by_tests : (a c : Bool) → a ≡ false → c ≡ true → reach opens test ds ≤ reach (λ b. was_open b || x.born == b) was ds →
        cond a (1 + reach (λ b. opens b || x.born == b) test ds) (reach opens test ds) < cond c (1 + reach (λ b. was_open b || x.born == b) was ds) (reach was_open was ds)
    by_tests true c e f l = absurd (cc)
    by_tests false true e f l = omega arith
    by_tests false false e f l = absurd (cc)
reach_falls Up opens was_open test was lo (x ∷ ds) d grows (inr there) not_root could now up more each shut above =
    by_tests (is_counted opens test x) (is_counted was_open was x) refl
    (counted_more opens was_open test was x at_parent (λ h. inl (each x (inl refl) h)))
    (λ a. reach_falls Up (λ b. opens b || x.born == b) (λ b. was_open b || x.born == b) test was (suc x.born) ds d grows.2 there not_root could now up
    (λ b h. elim (or_cases (opens b) (x.born == b) h) [
      | inl q ↦ wider b (more b q)
      | inr q ↦ inl (or_right (was_open b) (x.born == b) q)
    ])
    (λ y i. each y (inr i)) (λ b q. shut_more b q a) (λ y i. above y (inr i)))
    (reach_falls Up opens (λ b. was_open b || x.born == b) test was (suc x.born) ds d grows.2 there not_root could now up (λ b h. wider b (more b h)) (λ y i. each y (inr i)) shut (λ y i. above y (inr i)))
    (reach_falls Up opens was_open test was (suc x.born) ds d grows.2 there not_root could now up more (λ y i. each y (inr i)) shut (λ y i. above y (inr i)))
  where
    at_parent : opens x.parent ≡ true → was_open x.parent ≡ true
    at_parent h =
        elim (more x.parent h) [
          | inl q ↦ q
          | inr q ↦ absurd (let a = grows.1 in let b = grows_in (suc x.born) ds d grows.2 there in omega arith)
        ]

    wider : (b : ℕ) → (was_open b ≡ true) ⊎ (d.born ≡ b) → ((was_open b || x.born == b) ≡ true) ⊎ (d.born ≡ b)
    wider b (inl h) = inl (or_left (was_open b) (x.born == b) h)
    wider b (inr h) = inr h

    shut_more : (b : ℕ) → Up b → is_counted opens test x ≡ true → (opens b || x.born == b) ≡ false
    shut_more b q a =
        untrue (opens b || x.born == b)
        (λ h. elim (or_cases (opens b) (x.born == b) h) [
          | inl g ↦ let e = shut b q in cc
          | inr g ↦
              let same : b ≡ x.born = grind (arith, nat_tests) in
              let over = above x (inl refl) (subst Up same q) in
              let e = ap (λ (z : Bool). z && not (x.born == 0)) (neither (opens x.parent) (test x) (shut x.parent over.0) over.1) in
              cc
        ])

    by_tests : (a c : Bool) → is_counted opens test x ≡ a → (a ≡ true → c ≡ true) → (is_counted opens test x ≡ true → reach (λ b. opens b || x.born == b) test ds < reach (λ b. was_open b || x.born == b) was ds) → reach opens test ds < reach (λ b. was_open b || x.born == b) was ds → reach opens test ds < reach was_open was ds →
        cond a (1 + reach (λ b. opens b || x.born == b) test ds) (reach opens test ds) < cond c (1 + reach (λ b. was_open b || x.born == b) was ds) (reach was_open was ds)
    by_tests true true e f l m n = let g = l e in omega arith
    by_tests true false e f l m n = absurd (let g = f refl in cc)
    by_tests false true e f l m n = omega arith
    by_tests false false e f l m n = n

-- Tasks to spare ----------------------------------------------------------------------------------------------

counts_joined : (s : State) (node : Node) (d : Device) (k : ℕ) → start_count (join_step s node d).state k ≡ start_count s k + one_of k s.next_serial
counts_joined s node d k = starts_pushed (one_of k) s.tasks (record { kind = Duty.Starting; serial = s.next_serial })

counts_same : (s : State) (node : Node) (d : Device) (k : ℕ) → k < s.next_serial → start_count (join_step s node d).state k ≡ start_count s k
counts_same s node d k l = let a = counts_joined s node d k in let b = other_is k s.next_serial (λ e. absurd (omega arith)) in omega arith

one_unborn : (n k : ℕ) → one_of n k ≤ unborn n k
one_unborn n k = by_tests (n == k) (nat_lt k n) (λ h. grind (arith, nat_tests))
  where
    by_tests : (a b : Bool) → (a ≡ true → b ≡ false) → cond a 1 0 ≤ cond b 0 1
    by_tests true true f = absurd (let e = f refl in cc)
    by_tests true false f = omega arith
    by_tests false true f = omega arith
    by_tests false false f = omega arith

live_before : (s : State) (node : Node) (d : Device) (k : ℕ) → k < s.next_serial → live_at (join_step s node d).state k ≡ true → live_at s k ≡ true
live_before s node d k l = by_node (node_at k (join_step s node d).state.core.nodes) refl
  where
    by_node : (o : Option Node) → node_at k (join_step s node d).state.core.nodes ≡ o → is_alive (join_step s node d).state o ≡ true → live_at s k ≡ true
    by_node None e h = absurd (cc)
    by_node (Some m) e h =
        elim (joined_from k s.core.nodes (new_child node.serial d s) m e) [
          | inl old ↦ ap (is_alive s) old ∙ h
          | inr (q, r, z) ↦ absurd (omega arith)
        ]

spares_joined : (s : State) (node : Node) (d : Device) → Joining s node d → spares (join_step s node d).state ≤ spares s
spares_joined s node d h =
    let t = (join_step s node d).state in
    let n = s.next_serial in
    let none : start_count s n ≡ 0 = let a = starts_less (one_of n) (unborn n) s.tasks (one_unborn n) in let z = h.born.soon in omega arith in
    let one : start_count t n ≡ 1 = let a = counts_joined s node d n in let b = one_is n n refl in omega arith in
    let dead : live_at t n ≡ false = ap (is_alive t) (new_there s node d h) ∙ new_dead s node d h in
    let free : spare_at t n ≡ 0 = subst (λ (a : Bool). spare a (start_count t n) ≡ 0) (sym dead) (subst (λ (c : ℕ). spare false c ≡ 0) (sym one) refl) in
    let low = total_less (spare_at t) (spare_at s) n (λ k l. spare_less (live_at t k) (live_at s k) (start_count t k) (start_count s k) (let e = counts_same s node d k l in omega arith) (λ g. inl (live_before s node d k l g))) in
    let all : total (spare_at t) (suc n) ≤ spares s = omega arith in
    let next : suc n ≡ n + 1 = omega arith in
    subst (λ (i : ℕ). total (spare_at t) i ≤ spares s) next all

-- Those that are up --------------------------------------------------------------------------------------------

-- a node with this birth number was started once, and not told since that it has gone
abbrev IsUp : State → ℕ → Type 0
IsUp s b = (n : Node) × (node_at n.serial s.core.nodes ≡ Some n) × (n.born ≡ b) × (is_idle n.state ≡ false) × (is_barren n.state ≡ false)

not_barren : (x : DevState) → is_idle x ≡ false → (x ≡ SurpriseRemoved → ⊥) → is_barren x ≡ false
not_barren NoStack h told = absurd (cc)
not_barren SurpriseRemoved h told = absurd (told refl)
not_barren _ h told = refl

up_above : (s : State) (node : Node) (d x : Device) → Joining s node d → In x s.world → IsUp s x.born → IsUp s x.parent
up_above s node d x h there (n, at, born, up, bears) =
    let p = parent_there s.next_serial n.serial s n h.tree at in
    let link = h.born.links n.serial n p.0 x at p.1 there (sym born) in
    let over = by_root (cases_eq n.serial 0) p.0 p.1 in
    (p.0, found_self n.parent s.core.nodes p.0 p.1, link, over.0, over.1)
  where
    by_root : (n.serial ≡ 0) ⊎ (n.serial ≢ 0) → (p : Node) → node_at n.parent s.core.nodes ≡ Some p → (is_idle p.state ≡ false) × (is_barren p.state ≡ false)
    by_root (inl at_root) p at_p =
        let at0 : node_at 0 s.core.nodes ≡ Some n = subst (λ (i : ℕ). node_at i s.core.nodes ≡ Some n) at_root at in
        let own = h.tree.root n at0 in
        let same : n ≡ p = some_same (node_at 0 s.core.nodes) n p at0 (subst (λ (i : ℕ). node_at i s.core.nodes ≡ Some p) own at_p) in
        subst (λ (z : Node). (is_idle z.state ≡ false) × (is_barren z.state ≡ false)) same (up, bears)
    by_root (inr not_zero) p at_p =
        let hangs = child_hangs s.core n.parent n.serial n at not_zero refl in
        let here = untrue (is_idle p.state) (λ idle. h.tree.idle n.parent p at_p idle n.serial n at hangs) in
        (here, not_barren p.state here (λ told. let gone = ap is_barren (h.told n.parent p at_p told n.serial n at hangs) in cc))

inside_out : (s : State) (node : Node) (d x : Device) → IsUp s x.born → is_outside (join_step s node d).state x ≡ false
inside_out s node d x (n, at, born, up, bears) =
    let t = (join_step s node d).state in
    let kept = joined_keeps n.serial s.core.nodes (new_child node.serial d s) n at in
    let there : has_born x.born t.core.nodes ≡ true = any_from (λ n. n.born == x.born) t.core.nodes n.serial n kept (grind (arith, nat_tests)) in
    but_not (lives t x.parent) (has_born x.born t.core.nodes) there

-- none of those that are up is to start
up_shut : (s : State) (node : Node) (d : Device) → IsGood (join_step s node d).state → Joining s node d → (b : ℕ) → IsUp s b → opens_at (join_step s node d).state b ≡ false
up_shut s node d good_t h b (n, at, born, up, bears) =
    untrue (opens_at (join_step s node d).state b)
    (λ g.
    let t = (join_step s node d).state in
    let new = new_child node.serial d s in
    let m = any_at (λ n. n.born == b && is_to_start t n.serial) 0 t.core.nodes good_t.serials g in
    let two = and_both (m.0.born == b) (is_to_start t m.0.serial) m.2 in
    let start = and_both (not (live_at t m.0.serial)) (nat_lt 0 (start_count t m.0.serial)) two.1 in
    let same_born : m.0.born ≡ n.born = let e = two.0 in grind (arith, nat_tests) in
    elim (joined_from m.0.serial s.core.nodes new m.0 m.1) [
      | inl old ↦
          let one = h.born.apart m.0.serial n.serial m.0 n old at same_born in
          let same : m.0 ≡ n = some_same (node_at m.0.serial s.core.nodes) m.0 n old (subst (λ (i : ℕ). node_at i s.core.nodes ≡ Some n) (sym one) at) in
          let live : is_live s n ≡ true = live_is s n (ap (λ (o : Option Job). closed o n.serial) h.none) (inl bears) in
          let now : live_at t m.0.serial ≡ true = ap (is_alive t) m.1 ∙ ap (λ (z : Node). is_live s z) same ∙ live in
          let dead = not_true (live_at t m.0.serial) start.0 in
          cc
      | inr (q, r, z) ↦ no_node s d.born n.serial n (joins_is node.born s.core.nodes d h.join).1 at (sym same_born ∙ ap (λ (z : Node). z.born) r)
    ])

-- who is to start was to start, or is the new device
to_start_before : (s : State) (node : Node) (d : Device) → IsGood (join_step s node d).state → Joining s node d → (b : ℕ) → opens_at (join_step s node d).state b ≡ true → (opens_at s b ≡ true) ⊎ (d.born ≡ b)
to_start_before s node d good_t h b g =
    let t = (join_step s node d).state in
    let new = new_child node.serial d s in
    let m = any_at (λ n. n.born == b && is_to_start t n.serial) 0 t.core.nodes good_t.serials g in
    let two = and_both (m.0.born == b) (is_to_start t m.0.serial) m.2 in
    let start = and_both (not (live_at t m.0.serial)) (nat_lt 0 (start_count t m.0.serial)) two.1 in
    elim (joined_from m.0.serial s.core.nodes new m.0 m.1) [
      | inl old ↦
          let k = m.0.serial in
          let live : live_at t k ≡ live_at s k = ap (is_alive t) m.1 ∙ sym (ap (is_alive s) old) in
          let count = counts_same s node d k (h.good.below k m.0 old) in
          let now : is_to_start s k ≡ true = both_true (not (live_at s k)) (nat_lt 0 (start_count s k)) (ap not (sym live) ∙ start.0) (ap (nat_lt 0) (sym count) ∙ start.1) in
          inl (any_from (λ n. n.born == b && is_to_start s n.serial) s.core.nodes k m.0 old (both_true (m.0.born == b) (is_to_start s k) two.0 now))
      | inr (q, r, z) ↦ inr (let e = two.0 in let f = ap (λ (z : Node). z.born) r in grind (arith, nat_tests))
    ]

-- A join -------------------------------------------------------------------------------------------------------

join_price_falls : (s : State) (node : Node) (d : Device) → IsGood (join_step s node d).state → Joining s node d → join_price (join_step s node d).state < join_price s
join_price_falls s node d good_t h =
    let t = (join_step s node d).state in
    let u = joins_is node.born s.core.nodes d h.join in
    let parent_up : IsUp s d.parent = (node, h.at, sym u.0, ap is_idle h.up, ap is_barren h.up) in
    let not_root : d.born ≢ 0 = λ e. no_node s d.born node.serial node u.1 h.at (let low = under 0 s.world d h.born.grows h.there in let p = u.0 in omega arith) in
    let out : is_outside t d ≡ false = but_not (lives t d.parent) (has_born d.born t.core.nodes) (is_born_now s node d h) in
    let a = spares_joined s node d h in
    let b = reach_falls (IsUp s) (opens_at t) (opens_at s) (is_outside t) (is_outside s) 0 s.world d h.born.grows h.there not_root (could_join s node d h) out parent_up
    (to_start_before s node d good_t h) (λ x i g. could_before s node d x good_t h g) (up_shut s node d good_t h) (λ x i g. (up_above s node d x h i g, inside_out s node d x g)) in
    omega arith

pub join_goes : (s : State) (step : Step) → IsGood s → IsGood step.state → Tree s.next_serial s.core → Told s.core → Born s → Joined s step → Born step.state × (join_price step.state < join_price s)
join_goes s step good good_t tree told born j =
    let t = join_step s j.node j.device in
    let good_j : IsGood t.state = subst (λ (x : Step). IsGood x.state) j.is good_t in
    let h : Joining s j.node j.device = record { join = j.join; there = j.there; at = j.at; up = j.up; none = j.none; good = good; tree = tree; told = told; born = born } in
    (subst (λ (x : Step). Born x.state) (sym j.is) (born_joins s j.node j.device h), subst (λ (x : Step). join_price x.state < join_price s) (sym j.is) (join_price_falls s j.node j.device good_j h))
