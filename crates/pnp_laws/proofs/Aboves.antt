-- The devices above a device: each is there, with a lower serial and a child, and what stands above it stands above all below.
use Rattle.std.proofs.Common.{ℕ, zero, suc, ◌<◌, ◌≤◌, ◌≡◌, ◌≢◌, inl, inr, Bool, true, false, List, [], ◌∷◌, Option, Some, None, refl, sym, ap, ◌∙◌, subst, arith}
use Rattle.std.specs.List.{list_any}
use Rattle.std.proofs.lemmas.Bool.{cases_eq}
use Rattle.std.proofs.lemmas.Bool.Decides.{nat_tests}
use Rattle.pnp_model.specs.Tests.{has}
use Rattle.pnp_model.specs.Records.{Node, Core, Task}
use Rattle.pnp_model.specs.Cores.{node_at}
use Rattle.pnp_model.specs.Trees.{above, above_in}
use Rattle.pnp_laws.specs.Due.{leads, is_due}
use Rattle.pnp_laws.proofs.Lists.{cons_there, has_cases}
use Rattle.pnp_laws.proofs.Orders.{any_some}
use Rattle.pnp_laws.proofs.Ranks.{Rooted}
use Rattle.pnp_laws.proofs.Due.{RootIsOwn, above_zero}

-- one step up
pub above_step : (n : ℕ) (nodes : List Node) (k : ℕ) (m : Node) → node_at k nodes ≡ Some m → above_in (suc n) nodes k ≡ m.parent ∷ above_in n nodes m.parent
above_step n nodes k m at = ap (λ (o : Option Node). elim o as (λ _. List ℕ) [ None ↦ [] | Some node ↦ node.parent ∷ above_in n nodes node.parent ]) at

pub above_none : (n : ℕ) (nodes : List Node) (k : ℕ) → node_at k nodes ≡ None → above_in n nodes k ≡ []
above_none zero nodes k at = refl
above_none (suc n) nodes k at = ap (λ (o : Option Node). elim o as (λ _. List ℕ) [ None ↦ [] | Some node ↦ node.parent ∷ above_in n nodes node.parent ]) at

has_head : (i j : ℕ) (ks : List ℕ) → i ≡ j → has (i ∷ ks) j ≡ true
has_head i j ks e = grind (arith, nat_tests)

-- a fact of a device and its devices above
pub record IsAbove (c : Core) (k j : ℕ) : Type 0 where
  pub lower : j < k
  pub there : (m : Node) × (node_at j c.nodes ≡ Some m)
  pub child : (i : ℕ) × (m : Node) × (node_at i c.nodes ≡ Some m) × (m.parent ≡ j) × (i ≢ 0)

pub is_above_in : (n : ℕ) (c : Core) (k j : ℕ) (m : Node) → RootIsOwn c.nodes → Rooted c → node_at k c.nodes ≡ Some m → k ≢ 0 → has (above_in n c.nodes k) j ≡ true → IsAbove c k j
is_above_in zero c k j m root rooted at up h = absurd (cc)
is_above_in (suc n) c k j m root rooted at up h =
    let parent = rooted k m at up in
    let low = parent.0 in
    let direct : m.parent ≡ j → IsAbove c k j =
    λ e. record {
      lower = subst (λ (i : ℕ). i < k) e low;
      there = subst (λ (i : ℕ). (p : Node) × (node_at i c.nodes ≡ Some p)) e parent.1;
      child = (k, m, at, e, up);
    } in
    elim (has_cases m.parent j (above_in n c.nodes m.parent) (subst (λ (ks : List ℕ). has ks j ≡ true) (above_step n c.nodes k m at) h)) [
      | inl e ↦ direct e
      | inr more ↦ elim (cases_eq m.parent 0) [
        | inl z ↦ direct (z ∙ above_zero n c.nodes j root (subst (λ (i : ℕ). has (above_in n c.nodes i) j ≡ true) z more))
        | inr d ↦
            let over = is_above_in n c m.parent j parent.1.0 root rooted parent.1.1 d more in
            let under = over.lower in
            record { lower = omega arith; there = over.there; child = over.child }
      ]
    ]

-- enough steps reach the root
pub above_any : (n l : ℕ) (c : Core) (k j : ℕ) (m : Node) → RootIsOwn c.nodes → Rooted c → node_at k c.nodes ≡ Some m → k ≢ 0 → k ≤ l → has (above_in n c.nodes k) j ≡ true → has (above_in l c.nodes k) j ≡ true
above_any zero l c k j m root rooted at up le h = absurd (cc)
above_any (suc n) zero c k j m root rooted at up le h = absurd (up (omega arith))
above_any (suc n) (suc l) c k j m root rooted at up le h =
    let parent = rooted k m at up in
    let low = parent.0 in
    subst (λ (ks : List ℕ). has ks j ≡ true) (sym (above_step l c.nodes k m at))
    (elim (has_cases m.parent j (above_in n c.nodes m.parent) (subst (λ (ks : List ℕ). has ks j ≡ true) (above_step n c.nodes k m at) h)) [
      | inl e ↦ has_head m.parent j (above_in l c.nodes m.parent) e
      | inr more ↦ elim (cases_eq m.parent 0) [
        | inl z ↦ has_head m.parent j (above_in l c.nodes m.parent) (z ∙ above_zero n c.nodes j root (subst (λ (i : ℕ). has (above_in n c.nodes i) j ≡ true) z more))
        | inr d ↦ cons_there m.parent (above_in l c.nodes m.parent) j (above_any n l c m.parent j parent.1.0 root rooted parent.1.1 d (omega arith) more)
      ]
    ])

-- what is above one above
pub above_over : (n : ℕ) (c : Core) (k j i : ℕ) (m : Node) → RootIsOwn c.nodes → Rooted c → node_at k c.nodes ≡ Some m → k ≢ 0 → k ≤ n → has (above_in n c.nodes k) j ≡ true → has (j ∷ above c.nodes j) i ≡ true → has (above_in n c.nodes k) i ≡ true
above_over zero c k j i m root rooted at up le h g = absurd (cc)
above_over (suc n) c k j i m root rooted at up le h g =
    let parent = rooted k m at up in
    let low = parent.0 in
    let direct : m.parent ≡ j → has (m.parent ∷ above_in n c.nodes m.parent) i ≡ true =
    λ e. elim (has_cases j i (above c.nodes j) g) [
      | inl q ↦ has_head m.parent i (above_in n c.nodes m.parent) (e ∙ q)
      | inr over ↦ elim (cases_eq m.parent 0) [
        | inl z ↦ absurd (let none = subst (λ (x : ℕ). has (above_in x c.nodes x) i ≡ true) (sym e ∙ z) over in cc)
        | inr d ↦
            let over_p = subst (λ (x : ℕ). has (above_in x c.nodes x) i ≡ true) (sym e) over in
            cons_there m.parent (above_in n c.nodes m.parent) i (above_any m.parent n c m.parent i parent.1.0 root rooted parent.1.1 d (omega arith) over_p)
      ]
    ] in
    subst (λ (ks : List ℕ). has ks i ≡ true) (sym (above_step n c.nodes k m at))
    (elim (has_cases m.parent j (above_in n c.nodes m.parent) (subst (λ (ks : List ℕ). has ks j ≡ true) (above_step n c.nodes k m at) h)) [
      | inl e ↦ direct e
      | inr more ↦ elim (cases_eq m.parent 0) [
        | inl z ↦ direct (z ∙ above_zero n c.nodes j root (subst (λ (x : ℕ). has (above_in n c.nodes x) j ≡ true) z more))
        | inr d ↦ cons_there m.parent (above_in n c.nodes m.parent) i (above_over n c m.parent j i parent.1.0 root rooted parent.1.1 d (omega arith) more g)
      ]
    ])

-- Due ---------------------------------------------------------------------------------------

pub any_from : (left ds : List ℕ) → list_any (λ i. has left i) ds ≡ true → (j : ℕ) × (has ds j ≡ true) × (has left j ≡ true)
any_from left [] h = absurd (cc)
any_from left (d ∷ ds) h =
    let by_test : (b : Bool) → has left d ≡ b → (j : ℕ) × (has (d ∷ ds) j ≡ true) × (has left j ≡ true) =
    λ b. elim b as (λ b. has left d ≡ b → (j : ℕ) × (has (d ∷ ds) j ≡ true) × (has left j ≡ true)) [
      | true ↦ λ e. (d, has_head d d ds refl, e)
      | false ↦ λ e. let more = any_from left ds (grind (arith)) in (more.0, cons_there d ds more.0 more.1, more.2)
    ] in
    by_test (has left d) refl

-- a device below one that is due is due
pub due_below : (tasks : List Task) (c : Core) (k j : ℕ) (m : Node) → RootIsOwn c.nodes → Rooted c → node_at k c.nodes ≡ Some m → k ≢ 0 → has (above c.nodes k) j ≡ true → is_due tasks c.nodes j ≡ true → is_due tasks c.nodes k ≡ true
due_below tasks c k j m root rooted at up over due =
    let from = any_from (leads tasks) (j ∷ above c.nodes j) due in
    any_some (leads tasks) (k ∷ above c.nodes k) from.0
    (cons_there k (above c.nodes k) from.0 (above_over k c k j from.0 m root rooted at up (omega arith) over from.1)) from.2

-- more leads, and the same above
pub due_more : (tasks more : List Task) (old new : List Node) (k : ℕ) → ((j : ℕ) → has (leads tasks) j ≡ true → has (leads more) j ≡ true) → above new k ≡ above old k → is_due tasks old k ≡ true → is_due more new k ≡ true
due_more tasks more old new k leads_more same due =
    let from = any_from (leads tasks) (k ∷ above old k) due in
    any_some (leads more) (k ∷ above new k) from.0 (subst (λ (ks : List ℕ). has (k ∷ ks) from.0 ≡ true) (sym same) from.1) (leads_more from.0 from.2)
