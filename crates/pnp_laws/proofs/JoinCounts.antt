-- How many devices may join before something happens, and how many `start` tasks are to spare.
use Rattle.std.proofs.Common.{ℕ, zero, suc, ◌+◌, ◌*◌, ◌<◌, ◌≤◌, ◌≡◌, ◌≢◌, ◌==◌, ◌⊎◌, inl, inr, Bool, true, false, not, ◌&&◌, ◌||◌, cond, List, [], ◌∷◌, length, Option, Some, None, refl, sym, ap, ◌∙◌, subst, arith, nat_lt}
use Rattle.std.specs.List.{list_any}
use Rattle.std.proofs.lemmas.Bool.Decides.{nat_tests}
use native.Mathlib.Decide.{dec_lt}
use Rattle.pnp_model.specs.Records.{Node, Device, State}
use Rattle.pnp_model.specs.Cores.{node_at}
use Rattle.pnp_model.specs.Tasks.{has_born}
use Rattle.pnp_laws.specs.Kept.{Ascending, IsGood}
use Rattle.pnp_laws.proofs.Lookups.{own_serial}
use Rattle.pnp_laws.proofs.Standing.{Tree}
use Rattle.pnp_laws.proofs.Joins.{starts, is_live, lives, In, Sub, any_from, any_at, Born, Flows, HasRoom, start_of, starts_with, one_born}
use Rattle.pnp_laws.proofs.Truths.{and_both, both_true, but_not, not_true, or_left, untrue}

-- Devices that may join ------------------------------------------------------------------------------------

-- the root never joins
abbrev pub is_counted : (ℕ → Bool) → (Device → Bool) → Device → Bool
is_counted opens test d = (opens d.parent || test d) && not (d.born == 0)

-- each device that passes the test or stands below one of these, and all below
abbrev pub reach : (ℕ → Bool) → (Device → Bool) → List Device → ℕ
reach opens test [] = 0
reach opens test (d ∷ ds) = cond (is_counted opens test d) (1 + reach (λ b. opens b || d.born == b) test ds) (reach opens test ds)

abbrev pub is_alive : State → Option Node → Bool
is_alive s None = false
is_alive s (Some n) = is_live s n

abbrev pub live_at : State → ℕ → Bool
live_at s k = is_alive s (node_at k s.core.nodes)

abbrev as_one : Bool → ℕ
as_one b = cond b 1 0

abbrev pub one_of : ℕ → ℕ → ℕ
one_of k j = as_one (k == j)

-- the `start` tasks of a serial
abbrev pub start_count : State → ℕ → ℕ
start_count s k = starts (one_of k) s.tasks

-- it is not live, and is to start
abbrev pub is_to_start : State → ℕ → Bool
is_to_start s k = not (live_at s k) && nat_lt 0 (start_count s k)

abbrev pub opens_at : State → ℕ → Bool
opens_at s b = list_any (λ n. n.born == b && is_to_start s n.serial) s.core.nodes

-- it is outside the tree, and the node above it is live
abbrev pub is_outside : State → Device → Bool
is_outside s d = lives s d.parent && not (has_born d.born s.core.nodes)

abbrev pub may_join : State → ℕ
may_join s = reach (opens_at s) (is_outside s) s.world

-- Tasks to spare -------------------------------------------------------------------------------------------

-- all `start` tasks of a live device, and all but one of another
abbrev pub spare : Bool → ℕ → ℕ
spare true c = c
spare false zero = zero
spare false (suc c) = c

abbrev pub total : (ℕ → ℕ) → ℕ → ℕ
total f zero = 0
total f (suc n) = f n + total f n

abbrev pub spare_at : State → ℕ → ℕ
spare_at s k = spare (live_at s k) (start_count s k)

abbrev pub spares : State → ℕ
spares s = total (spare_at s) s.next_serial

-- what the joins to come may cost
abbrev pub join_price : State → ℕ
join_price s = may_join s + 4096 * spares s

-- Counting -------------------------------------------------------------------------------------------------

reach_most : (opens : ℕ → Bool) (test : Device → Bool) (ds : List Device) → reach opens test ds ≤ length ds
reach_most opens test [] = omega arith
reach_most opens test (d ∷ ds) = by_test (is_counted opens test d) (reach_most (λ b. opens b || d.born == b) test ds) (reach_most opens test ds)
  where
    by_test : (a : Bool) → reach (λ b. opens b || d.born == b) test ds ≤ length ds → reach opens test ds ≤ length ds → cond a (1 + reach (λ b. opens b || d.born == b) test ds) (reach opens test ds) ≤ suc (length ds)
    by_test true h g = omega arith
    by_test false h g = omega arith

pub reach_room : (opens : ℕ → Bool) (test : Device → Bool) (ds : List Device) → HasRoom ds → reach opens test ds ≤ 4096
reach_room opens test [] room = absurd room
reach_room opens test (d ∷ ds) (root, few) = by_test (is_counted opens test d) (but_not (opens d.parent || test d) (d.born == 0) (grind (arith, nat_tests))) (reach_most opens test ds)
  where
    by_test : (a : Bool) → a ≡ false → reach opens test ds ≤ length ds → cond a (1 + reach (λ b. opens b || d.born == b) test ds) (reach opens test ds) ≤ 4096
    by_test true e h = absurd (cc)
    by_test false e h = omega arith

or_more : (a b c : Bool) → (a ≡ true → b ≡ true) → (a || c) ≡ true → (b || c) ≡ true
or_more true b c f e = or_left b c (f refl)
or_more false true c f e = refl
or_more false false c f e = e

-- a device is counted that was
pub counted_more : (opens was_open : ℕ → Bool) (test was : Device → Bool) (d : Device) → (opens d.parent ≡ true → was_open d.parent ≡ true) → (test d ≡ true → (was d ≡ true) ⊎ (was_open d.parent ≡ true)) → is_counted opens test d ≡ true → is_counted was_open was d ≡ true
counted_more opens was_open test was d more each h = by_tests (opens d.parent) (was_open d.parent) (test d) (was d) (d.born == 0) more each h
  where
    by_tests : (a b c e r : Bool) → (a ≡ true → b ≡ true) → (c ≡ true → (e ≡ true) ⊎ (b ≡ true)) → ((a || c) && not r) ≡ true → ((b || e) && not r) ≡ true
    by_tests a b c e true f g h = absurd (by_or (a || c) h)
      where
        by_or : (x : Bool) → (x && false) ≡ true → ⊥
        by_or true h = cc
        by_or false h = cc
    by_tests a true c e false f g h = refl
    by_tests a false c true false f g h = refl
    by_tests true false c false false f g h = absurd (let q = f refl in cc)
    by_tests false false true false false f g h = absurd (elim (g refl) [ inl q ↦ cc | inr q ↦ cc ])
    by_tests false false false false false f g h = h

-- more are open below a device
wider : (was_open : ℕ → Bool) (was : Device → Bool) (d x : Device) → (was x ≡ true) ⊎ (was_open x.parent ≡ true) → (was x ≡ true) ⊎ ((was_open x.parent || d.born == x.parent) ≡ true)
wider was_open was d x (inl h) = inl h
wider was_open was d x (inr h) = inr (or_left (was_open x.parent) (d.born == x.parent) h)

pub reach_less : (opens was_open : ℕ → Bool) (test was : Device → Bool) (xs ys : List Device) → Sub xs ys → ((b : ℕ) → opens b ≡ true → was_open b ≡ true) → ((d : Device) → In d xs → test d ≡ true → (was d ≡ true) ⊎ (was_open d.parent ≡ true)) →
    reach opens test xs ≤ reach was_open was ys
reach_less opens was_open test was _ _ Sub.none more each = omega arith
reach_less opens was_open test was _ _ (Sub.keep d xs ys sub) more each =
    by_test (is_counted opens test d) (is_counted was_open was d) (counted_more opens was_open test was d (more d.parent) (each d (inl refl)))
    (reach_less (λ b. opens b || d.born == b) (λ b. was_open b || d.born == b) test was xs ys sub (λ b h. or_more (opens b) (was_open b) (d.born == b) (more b) h) (λ x i h. wider was_open was d x (each x (inr i) h)))
    (reach_less opens (λ b. was_open b || d.born == b) test was xs ys sub (λ b h. or_left (was_open b) (d.born == b) (more b h)) (λ x i h. wider was_open was d x (each x (inr i) h)))
    (reach_less opens was_open test was xs ys sub more (λ x i h. each x (inr i) h))
  where
    by_test : (a c : Bool) → (a ≡ true → c ≡ true) → reach (λ b. opens b || d.born == b) test xs ≤ reach (λ b. was_open b || d.born == b) was ys → reach opens test xs ≤ reach (λ b. was_open b || d.born == b) was ys → reach opens test xs ≤ reach was_open was ys →
        cond a (1 + reach (λ b. opens b || d.born == b) test xs) (reach opens test xs) ≤ cond c (1 + reach (λ b. was_open b || d.born == b) was ys) (reach was_open was ys)
    by_test true true f l m n = omega arith
    by_test true false f l m n = absurd (let e = f refl in cc)
    by_test false true f l m n = omega arith
    by_test false false f l m n = omega arith
reach_less opens was_open test was _ _ (Sub.skip d xs ys sub) more each =
    by_test (is_counted was_open was d)
    (reach_less opens (λ b. was_open b || d.born == b) test was xs ys sub (λ b h. or_left (was_open b) (d.born == b) (more b h)) (λ x i h. wider was_open was d x (each x i h)))
    (reach_less opens was_open test was xs ys sub more each)
  where
    by_test : (c : Bool) → reach opens test xs ≤ reach (λ b. was_open b || d.born == b) was ys → reach opens test xs ≤ reach was_open was ys → reach opens test xs ≤ cond c (1 + reach (λ b. was_open b || d.born == b) was ys) (reach was_open was ys)
    by_test true m n = omega arith
    by_test false m n = n

-- Sums -----------------------------------------------------------------------------------------------------

pub total_less : (f g : ℕ → ℕ) (n : ℕ) → ((k : ℕ) → k < n → f k ≤ g k) → total f n ≤ total g n
total_less f g zero h = omega arith
total_less f g (suc n) h = let a = total_less f g n (λ k l. h k (omega arith)) in let b = h n (omega arith) in omega arith

pub total_fewer : (f g : ℕ → ℕ) (n j : ℕ) → ((k : ℕ) → k < n → f k ≤ g k) → j < n → f j < g j → total f n < total g n
total_fewer f g zero j h l less = absurd (omega arith)
total_fewer f g (suc n) j h l less =
    elim (dec_lt j n) [
      | yes low ↦ let a = total_fewer f g n j (λ k l. h k (omega arith)) low less in let b = h n (omega arith) in omega arith
      | no high ↦
          let e : j ≡ n = omega arith in
          let c : f n < g n = subst (λ (i : ℕ). f i < g i) e less in
          let a = total_less f g n (λ k l. h k (omega arith)) in
          omega arith
    ]

pub spare_most : (a : Bool) (c : ℕ) → spare a c ≤ c
spare_most true c = omega arith
spare_most false zero = omega arith
spare_most false (suc c) = omega arith

pub spare_less : (a b : Bool) (c d : ℕ) → c ≤ d → (a ≡ true → (b ≡ true) ⊎ (c + 1 ≤ d)) → spare a c ≤ spare b d
spare_less a true c d l f = let m = spare_most a c in omega arith
spare_less false false zero d l f = omega arith
spare_less false false (suc c) zero l f = absurd (omega arith)
spare_less false false (suc c) (suc d) l f = omega arith
spare_less true false c d l f = elim (f refl) [ inl e ↦ absurd (cc) | inr g ↦ lower d g ]
  where
    lower : (d : ℕ) → c + 1 ≤ d → c ≤ spare false d
    lower zero g = absurd (omega arith)
    lower (suc d) g = omega arith

-- What a step or an event does to tasks and to who is live ---------------------------------------------------

abbrev pub Pays : State → State → ℕ → Type 0
Pays s t k = (start_count t k ≤ start_count s k) × (live_at t k ≡ true → (live_at s k ≡ true) ⊎ (start_count t k + 1 ≤ start_count s k))

pub spares_less : (s t : State) → t.next_serial ≡ s.next_serial → ((k : ℕ) → Pays s t k) → spares t ≤ spares s
spares_less s t same pays = subst (λ (n : ℕ). total (spare_at t) n ≤ spares s) (sym same) (total_less (spare_at t) (spare_at s) s.next_serial (λ k l. spare_less (live_at t k) (live_at s k) (start_count t k) (start_count s k) (pays k).0 (pays k).1))

spares_fewer : (s t : State) (j : ℕ) → t.next_serial ≡ s.next_serial → ((k : ℕ) → Pays s t k) → j < s.next_serial → spare_at t j < spare_at s j → spares t < spares s
spares_fewer s t j same pays low less = subst (λ (n : ℕ). total (spare_at t) n < spares s) (sym same) (total_fewer (spare_at t) (spare_at s) s.next_serial j (λ k l. spare_less (live_at t k) (live_at s k) (start_count t k) (start_count s k) (pays k).0 (pays k).1) low less)

-- Each step but a join ---------------------------------------------------------------------------------------

pub one_is : (k j : ℕ) → k ≡ j → one_of k j ≡ 1
one_is k j e = ap as_one (same_is k j e)
  where
    same_is : (k j : ℕ) → k ≡ j → (k == j) ≡ true
    same_is k j e = grind (arith, nat_tests)

pub other_is : (k j : ℕ) → k ≢ j → one_of k j ≡ 0
other_is k j d = ap as_one (apart k j d)
  where
    apart : (k j : ℕ) → k ≢ j → (k == j) ≡ false
    apart k j d = grind (arith, nat_tests)

flows_pay : (s t : State) → Flows s t → (k : ℕ) → Pays s t k
flows_pay s t f k = (let h = f.tasks (one_of k) in omega arith, by_node (node_at k t.core.nodes) refl)
  where
    by_node : (o : Option Node) → node_at k t.core.nodes ≡ o → is_alive t o ≡ true → (live_at s k ≡ true) ⊎ (start_count t k + 1 ≤ start_count s k)
    by_node None e h = absurd (cc)
    by_node (Some m) e h =
        let was = f.from k m e in
        elim (f.live k was.0 m was.1 e h) [
          | inl live ↦ inl (ap (is_alive s) was.1 ∙ live)
          | inr start ↦ inr (
              let own = own_serial k was.0 s.core.nodes was.1 in
              let one = one_is k was.0.serial (sym own) in
              let cost : start_of (one_of k) f.start ≡ 1 = ap (start_of (one_of k)) start ∙ one in
              let h = f.tasks (one_of k) in
              omega arith
              )
        ]

-- where a device that is to start now was live, a task is no more to spare
spare_used : (b : Bool) (c d : ℕ) → b ≡ true → c ≤ d → nat_lt 0 c ≡ true → spare false c < spare b d
spare_used true zero d e l some = absurd (cc)
spare_used true (suc c) d e l some = omega arith
spare_used false c d e l some = absurd (cc)

spare_spent : (a b : Bool) (c d : ℕ) → b ≡ true → c + 1 ≤ d → spare a c < spare b d
spare_spent a true c d e l = let m = spare_most a c in omega arith
spare_spent a false c d e l = absurd (cc)

pub some_more : (c d : ℕ) → c ≤ d → nat_lt 0 c ≡ true → nat_lt 0 d ≡ true
some_more c d l h = grind (arith, nat_tests)

-- who is to start was to start, or a task is no more to spare
opens_before : (s t : State) → IsGood s → Ascending 0 t.core.nodes → t.next_serial ≡ s.next_serial → ((k : ℕ) → Pays s t k) → ((k : ℕ) (m : Node) → node_at k t.core.nodes ≡ Some m → (n : Node) × (node_at k s.core.nodes ≡ Some n) × (m.born ≡ n.born)) → (spares t < spares s → ⊥) →
    (b : ℕ) → opens_at t b ≡ true → opens_at s b ≡ true
opens_before s t good order same pays from all b h =
    let at = any_at (λ n. n.born == b && is_to_start t n.serial) 0 t.core.nodes order h in
    let m = at.0 in
    let two = and_both (m.born == b) (is_to_start t m.serial) at.2 in
    let start = and_both (not (live_at t m.serial)) (nat_lt 0 (start_count t m.serial)) two.1 in
    let was = from m.serial m at.1 in
    let n = was.0 in
    let own = own_serial m.serial n s.core.nodes was.1 in
    let dead : live_at t m.serial ≡ false = not_true (live_at t m.serial) start.0 in
    let never : live_at s m.serial ≡ true → ⊥ =
    λ e. all (spares_fewer s t m.serial same pays (good.below m.serial n was.1) (subst (λ (x : Bool). spare x (start_count t m.serial) < spare_at s m.serial) (sym dead) (spare_used (live_at s m.serial) (start_count t m.serial) (start_count s m.serial) e (pays m.serial).0 start.1))) in
    let now : is_to_start s m.serial ≡ true = both_true (not (live_at s m.serial)) (nat_lt 0 (start_count s m.serial)) (ap not (untrue (live_at s m.serial) never)) (some_more (start_count t m.serial) (start_count s m.serial) (pays m.serial).0 start.1) in
    let born : (n.born == b) ≡ true = let e = two.0 in let g = was.2 in grind (arith, nat_tests) in
    any_from (λ n. n.born == b && is_to_start s n.serial) s.core.nodes m.serial n was.1 (both_true (n.born == b) (is_to_start s n.serial) born (ap (is_to_start s) own ∙ now))

-- the device that starts was to start, or a task is no more to spare
started_before : (s t : State) (f : Flows s t) → IsGood s → (spares t < spares s → ⊥) → (o : Option Node) → f.start ≡ o → (b : ℕ) → starts_with o b ≡ true → opens_at s b ≡ true
started_before s t f good all None e b h = absurd (cc)
started_before s t f good all (Some n) e b h =
    let at = f.started n e in
    let one = one_is n.serial n.serial refl in
    let cost : start_of (one_of n.serial) f.start ≡ 1 = ap (start_of (one_of n.serial)) e ∙ one in
    let paid = f.tasks (one_of n.serial) in
    let fewer : start_count t n.serial + 1 ≤ start_count s n.serial = omega arith in
    let never : live_at s n.serial ≡ true → ⊥ =
    λ q. all (spares_fewer s t n.serial f.counts.0 (flows_pay s t f) (good.below n.serial n at) (spare_spent (live_at t n.serial) (live_at s n.serial) (start_count t n.serial) (start_count s n.serial) q fewer)) in
    let now : is_to_start s n.serial ≡ true = both_true (not (live_at s n.serial)) (nat_lt 0 (start_count s n.serial)) (ap not (untrue (live_at s n.serial) never)) (grind (arith, nat_tests)) in
    any_from (λ n. n.born == b && is_to_start s n.serial) s.core.nodes n.serial n at (both_true (n.born == b) (is_to_start s n.serial) (grind (arith, nat_tests)) now)

pub flows_price : (s t : State) → IsGood s → IsGood t → Tree s.next_serial s.core → Born s → Flows s t → HasRoom t.world → join_price t ≤ join_price s
flows_price s t good good_t tree born f room =
    let a = spares_less s t f.counts.0 (flows_pay s t f) in
    elim (dec_lt (spares t) (spares s)) [
      | yes l ↦ let b = reach_room (opens_at t) (is_outside t) t.world room in omega arith
      | no all ↦
          let b =
          reach_less (opens_at t) (opens_at s) (is_outside t) (is_outside s) t.world s.world f.world
          (opens_before s t good good_t.serials f.counts.0 (flows_pay s t f) (λ k m at. let x = f.from k m at in (x.0, x.1, x.2)) all)
          (λ d there h. elim (one_born s t s.next_serial good.serials good_t.serials tree born f d there h) [
            | inl q ↦ inl q
            | inr q ↦ inr (started_before s t f good all f.start refl d.parent q)
          ]) in
          omega arith
    ]
