-- The order in which a rebalance asks and restarts, and that who is not restarted is due.
use Rattle.std.proofs.Common.{ℕ, zero, suc, ◌<◌, ◌≡◌, ◌≢◌, inl, inr, Bool, true, false, cond, List, [], ◌∷◌, Some, refl, sym, ap, ◌∙◌, subst, arith, reverse}
use Rattle.std.specs.List.{list_all}
use Rattle.std.proofs.lemmas.Bool.{cases_eq}
use Rattle.std.proofs.lemmas.Bool.Decides.{nat_tests}
use Rattle.pnp_model.specs.Keyed.{those}
use Rattle.pnp_model.specs.Tests.{has, is_started}
use Rattle.pnp_model.specs.Records.{Node, Core, Task}
use Rattle.pnp_model.specs.Cores.{node_at, serials_of}
use Rattle.pnp_model.specs.Trees.{above, above_in, is_up, stands_up}
use Rattle.pnp_model.specs.Frames.{rest}
use Rattle.pnp_model.specs.Rebalances.{startable}
use Rattle.pnp_labels.specs.declared.states.DevState.{DevState}
use Rattle.pnp_labels.specs.declared.states.DevState.TheVariants.{Stopped, SurpriseRemoved}
use Rattle.pnp_laws.specs.Kept.{Ascending, Each, is_calm, is_idle}
use Rattle.pnp_laws.proofs.Lists.{HeadIs, cons_here, cons_there, has_cases, those_has}
use Rattle.pnp_laws.proofs.Ranks.{Rooted}
use Rattle.pnp_laws.proofs.Due.{RootIsOwn, above_zero}
use Rattle.pnp_laws.proofs.Lookups.{some_same}
use Rattle.pnp_laws.proofs.Aboves.{above_step, is_above_in, due_below}
use Rattle.pnp_laws.proofs.Standing.{IdleFree, DueBut, Ordered, Told}
use Rattle.pnp_laws.specs.Rebalanced.{Rising}
use Rattle.pnp_laws.proofs.Askings.{falling_reverse, falling_those, rising_serials}
use Rattle.pnp_laws.proofs.Truths.{untrue}
use Rattle.pnp_laws.proofs.SoundStarts.{child_hangs}

-- Orders ---------------------------------------------------------------------------------------

-- the head agreed
pub ordered_agreed : (j : ℕ) (todo agreed : List ℕ) → HeadIs j todo → Ordered todo agreed → Ordered (rest todo) (j ∷ agreed)
ordered_agreed j [] agreed head g = absurd head
ordered_agreed j (i ∷ is) agreed head g =
    record {
      falling = g.falling.1;
      rising = (λ k h. subst (λ (x : ℕ). x < k) head (g.over i k (cons_here i is) h), g.rising);
      over = λ a b h q. elim (has_cases j b agreed q) [ inl e ↦ subst (λ (x : ℕ). a < x) (head ∙ e) (g.falling.0 a h) | inr r ↦ g.over a b (cons_there i is a h) r ];
    }

-- the head refused, and those above it are not asked
pub ordered_fewer : (test : ℕ → Bool) (j : ℕ) (todo agreed : List ℕ) → HeadIs j todo → Ordered todo agreed → Ordered (those test (rest todo)) agreed
ordered_fewer test j [] agreed head g = absurd head
ordered_fewer test j (i ∷ is) agreed head g =
    record { falling = falling_those test is g.falling.1; rising = g.rising; over = λ a b h q. g.over a b (cons_there i is a (those_has test is a h).0) q }

-- the greatest serial is asked first
pub ordered_begun : (test : Node → Bool) (nodes : List Node) → Ascending 0 nodes → Ordered (reverse (serials_of (those test nodes))) []
ordered_begun test nodes order = record { falling = falling_reverse (serials_of (those test nodes)) (rising_serials 0 test nodes order); rising = tt; over = λ a b h q. absurd (cc) }

pub rising_rest : (ks : List ℕ) → Rising ks → Rising (rest ks)
rising_rest [] g = tt
rising_rest (k ∷ ks) g = g.1

pub rising_startable : (nodes : List Node) (ks : List ℕ) → Rising ks → Rising (startable nodes ks)
rising_startable nodes [] g = tt
rising_startable nodes (k ∷ ks) g = by_test (stands_up nodes k) (rising_startable nodes ks g.1)
  where
    by_test : (b : Bool) → Rising (startable nodes ks) → Rising (cond b (k ∷ ks) (startable nodes ks))
    by_test true more = g
    by_test false more = more

-- Who is passed over is due -----------------------------------------------------------------------

all_or : (test : ℕ → Bool) (ks : List ℕ) → list_all test ks ≡ false → (j : ℕ) × (has ks j ≡ true) × (test j ≡ false)
all_or test [] h = absurd (cc)
all_or test (k ∷ ks) h =
    let by_test : (b : Bool) → test k ≡ b → (j : ℕ) × (has (k ∷ ks) j ≡ true) × (test j ≡ false) =
    λ b. elim b as (λ b. test k ≡ b → (j : ℕ) × (has (k ∷ ks) j ≡ true) × (test j ≡ false)) [
      | true ↦ λ e. let more = all_or test ks (grind (arith)) in let m1 = more.1 in (more.0, grind (arith, nat_tests), more.2)
      | false ↦ λ e. (k, grind (arith, nat_tests), e)
    ] in
    by_test (test k) refl

calm_or : (x : DevState) → is_calm x ≡ true → is_idle x ≡ false → is_started x ≡ false → x ≢ SurpriseRemoved → x ≡ Stopped
calm_or Stopped a b c d = refl
calm_or SurpriseRemoved a b c d = absurd (d refl)
calm_or _ a b c d = cc

-- above a device that does not wait to be finished none waits
pub above_told : (n : ℕ) (c : Core) (k j : ℕ) (m : Node) → RootIsOwn c.nodes → Rooted c → Told c → node_at k c.nodes ≡ Some m → m.state ≢ SurpriseRemoved → has (above_in n c.nodes k) j ≡ true → (p : Node) → node_at j c.nodes ≡ Some p → p.state ≢ SurpriseRemoved
above_told zero c k j m root rooted told at here h p at_p = absurd (cc)
above_told (suc n) c k j m root rooted told at here h p at_p =
    elim (cases_eq k 0) [
      | inl z ↦
          let at_root = subst (λ (i : ℕ). node_at i c.nodes ≡ Some m) z at in
          let zero_j = above_zero (suc n) c.nodes j root (subst (λ (i : ℕ). has (above_in (suc n) c.nodes i) j ≡ true) z h) in
          let same = some_same (node_at 0 c.nodes) m p at_root (subst (λ (i : ℕ). node_at i c.nodes ≡ Some p) (sym zero_j) at_p) in
          subst (λ (x : Node). x.state ≢ SurpriseRemoved) same here
      | inr d ↦
          let parent = rooted k m at d in
          let q = parent.1.0 in
          let at_q = parent.1.1 in
          let over : q.state ≢ SurpriseRemoved = λ e. here (told m.parent q at_q e k m at (child_hangs c m.parent k m at d refl)) in
          elim (has_cases m.parent j (above_in n c.nodes m.parent) (subst (λ (ks : List ℕ). has ks j ≡ true) (above_step n c.nodes k m at) h)) [
            | inl e ↦ subst (λ (x : Node). x.state ≢ SurpriseRemoved) (some_same (node_at j c.nodes) q p (subst (λ (i : ℕ). node_at i c.nodes ≡ Some q) e at_q) at_p) over
            | inr more ↦ above_told n c m.parent j q root rooted told at_q over more p at_p
          ]
    ]

-- a device with one above that is not up: that one is Stopped
pub over_stopped : (c : Core) (k : ℕ) (m : Node) → RootIsOwn c.nodes → Rooted c → IdleFree c → Each (λ k x. is_calm x) c.nodes → Told c → m.state ≢ SurpriseRemoved → node_at k c.nodes ≡ Some m → k ≢ 0 → stands_up c.nodes k ≡ false →
    (j : ℕ) × (n : Node) × (has (above c.nodes k) j ≡ true) × (j < k) × (node_at j c.nodes ≡ Some n) × (n.state ≡ Stopped)
over_stopped c k m root rooted idle calm told here at up down =
    let one = all_or (λ j. is_up (node_at j c.nodes)) (above c.nodes k) down in
    let j = one.0 in
    let over = is_above_in k c k j m root rooted at up one.1 in
    let n = over.there.0 in
    let at_j = over.there.1 in
    let child = over.child in
    let no_child : is_idle n.state ≡ true → ⊥ = λ e. idle j n at_j e child.0 child.1 child.2 (child_hangs c j child.0 child.1 child.2 child.4 child.3) in
    let not_up : is_started n.state ≡ false = sym (ap is_up at_j) ∙ one.2 in
    (j, n, one.1, over.lower, at_j, calm_or n.state (calm j n at_j) (untrue (is_idle n.state) no_child) not_up (above_told k c k j m root rooted told at here one.1 n at_j))

pub due_restart : (tasks : List Task) (c : Core) (ks : List ℕ) → RootIsOwn c.nodes → Rooted c → IdleFree c → Told c → Each (λ k x. is_calm x) c.nodes → ((k : ℕ) (n : Node) → node_at k c.nodes ≡ Some n → n.state ≡ Stopped → k ≢ 0) → Rising ks →
    DueBut ks tasks c.nodes → DueBut (startable c.nodes ks) tasks c.nodes
due_restart tasks c [] root rooted idle told calm up order due = due
due_restart tasks c (k ∷ ks) root rooted idle told calm up order due =
    let by_test : (b : Bool) → stands_up c.nodes k ≡ b → DueBut (cond b (k ∷ ks) (startable c.nodes ks)) tasks c.nodes =
    λ b. elim b as (λ b. stands_up c.nodes k ≡ b → DueBut (cond b (k ∷ ks) (startable c.nodes ks)) tasks c.nodes) [
      | true ↦ λ e. due
      | false ↦ λ e. due_restart tasks c ks root rooted idle told calm up order.1
          (λ i m at stopped.
          elim (due i m at stopped) [
            | inl h ↦ inl h
            | inr h ↦ elim (has_cases k i ks h) [
              | inr q ↦ inr q
              | inl same ↦
                  let e_i = subst (λ (x : ℕ). stands_up c.nodes x ≡ false) same e in
                  let d = up i m at stopped in
                  let over = over_stopped c i m root rooted idle calm told (λ q. let z = stopped in cc) at d e_i in
                  let low = over.3 in
                  elim (due over.0 over.1 over.4 over.5) [
                    | inl h2 ↦ inl (due_below tasks c i over.0 m root rooted at d over.2 h2)
                    | inr h2 ↦ elim (has_cases k over.0 ks h2) [ inl z ↦ absurd (omega arith) | inr z ↦ absurd (let up_there = order.0 over.0 z in omega arith) ]
                  ]
            ]
          ])
    ] in
    by_test (stands_up c.nodes k) refl
