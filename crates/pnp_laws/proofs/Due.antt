-- Devices that are due: no removal in order begins while there is one, and a surprise finds it in its set.
use Rattle.std.proofs.Common.{ℕ, zero, suc, ◌≤◌, ◌≡◌, ◌≢◌, ◌==◌, ◌⊎◌, inl, inr, Bool, true, false, not, ◌&&◌, cond, List, [], ◌∷◌, ◌++◌, length, Option, Some, None, refl, sym, ap, ◌∙◌, subst, arith}
use Rattle.std.specs.List.{list_any, slice_get}
use Rattle.std.proofs.lemmas.Bool.{cases_eq}
use Rattle.std.proofs.lemmas.Bool.Decides.{nat_tests}
use Rattle.pnp_model.specs.Tests.{has, is_surprise_task}
use Rattle.pnp_model.specs.Records.{Node, Core, Task, Duty}
use Rattle.pnp_model.specs.Cores.{node_at}
use Rattle.pnp_model.specs.Keyed.{without_first}
use Rattle.pnp_model.specs.Trees.{above, above_in, hangs_on, set_of, dependents, direct, leaving_in, is_free}
use Rattle.pnp_laws.specs.Due.{leads, is_due, AllDue}
use Rattle.pnp_laws.specs.Kept.{Ascending, Within, is_stopped, removes}
use Rattle.pnp_labels.specs.declared.states.DevState.{DevState}
use Rattle.pnp_labels.specs.declared.label.OpKind.{OpKind}
use Rattle.pnp_labels.specs.declared.states.DevState.TheVariants.{Stopped}
use Rattle.pnp_laws.proofs.Lookups.{own_serial}
use Rattle.pnp_laws.proofs.Closures.{closed_in_closed, closed_keeps, closed_within, dependents_closed, hangs_some, hangs_more, those_serial, Closed, OfNodes}
use Rattle.pnp_laws.proofs.Orders.{Ranked, step_of, order_has, any_some, without_length, without_has}
use Rattle.pnp_laws.proofs.Ranks.{NoNewEdge, Rooted}
use Rattle.pnp_laws.proofs.OpSteps.{is_Stopped}
use Rattle.pnp_laws.proofs.Lists.{those_found}
use Rattle.pnp_laws.proofs.Truths.{or_left}

-- where another kind of task comes first, nothing leads
pub none_leads : (tasks : List Task) (task : Task) → slice_get tasks 0 ≡ Some task → is_surprise_task task.kind ≡ false → leads tasks ≡ []
none_leads [] task h e = refl
none_leads (t ∷ tasks) task h e = grind (arith)

pub no_due : (ks : List ℕ) → list_any (λ j. has [] j) ks ≡ false
no_due [] = refl
no_due (k ∷ ks) = no_due ks

not_surprise : (kind : OpKind) → removes kind ≡ true → is_surprise_task (Duty.Begins kind) ≡ false
not_surprise OpKind.Disable h = refl
not_surprise OpKind.Eject h = refl
not_surprise _ h = absurd (cc)

stopped_or : (x : DevState) (b : Bool) → is_stopped x ≡ b → (x ≡ Stopped → ⊥) → is_stopped x ≡ false
stopped_or x true h g = absurd (g (is_Stopped x h))
stopped_or x false h g = h

-- so where each Stopped device is due, none is there when a removal in order begins
pub settled_from_due : (tasks : List Task) (nodes : List Node) (kind : OpKind) (k : ℕ) → AllDue tasks nodes → slice_get tasks 0 ≡ Some (record { kind = Duty.Begins kind; serial = k }) → removes kind ≡ true →
    (j : ℕ) (n : Node) → node_at j nodes ≡ Some n → is_stopped n.state ≡ false
settled_from_due tasks nodes kind k due first h j n at =
    let none = none_leads tasks (record { kind = Duty.Begins kind; serial = k }) first (not_surprise kind h) in
    stopped_or n.state (is_stopped n.state) refl (λ e.
    let d = due j n at e in
    let f : is_due tasks nodes j ≡ false = ap (λ (ls : List ℕ). list_any (λ i. has ls i) (j ∷ above nodes j)) none ∙ no_due (j ∷ above nodes j) in
    cc)

-- tasks that are appended end no lead
pub leads_append : (tasks : List Task) (task : Task) (k : ℕ) → has (leads tasks) k ≡ true → has (leads (tasks ++ task ∷ [])) k ≡ true
leads_append [] task k h = absurd (cc)
leads_append (t ∷ tasks) task k h =
    let more = leads_append tasks task k in
    let by_test : (b : Bool) → has (cond b (t.serial ∷ leads tasks) []) k ≡ true → has (cond b (t.serial ∷ leads (tasks ++ task ∷ [])) []) k ≡ true =
    λ b. elim b as (λ b. has (cond b (t.serial ∷ leads tasks) []) k ≡ true → has (cond b (t.serial ∷ leads (tasks ++ task ∷ [])) []) k ≡ true) [
      | true ↦ λ g. elim (cases_eq t.serial k) [ inl e ↦ grind (arith, nat_tests) | inr d ↦ let m = more (grind (arith, nat_tests)) in grind (arith, nat_tests) ]
      | false ↦ λ g. g
    ] in
    by_test (is_surprise_task t.kind) h

-- The set of a device has all that stands below it ------------------------------------------

one_of : (k : ℕ) (nodes : List Node) (n : Node) (lo : ℕ) → Ascending lo nodes → node_at k nodes ≡ Some n → has (k ∷ []) k ≡ true
one_of k nodes n lo g at = grind (arith, nat_tests)

-- closed, where the set is one device that is there
pub set_closed : (c : Core) (k : ℕ) → OfNodes c.nodes (k ∷ []) → Ascending 0 c.nodes → Closed c (set_of c k)
set_closed c k own g = closed_in_closed (length c.nodes) c (k ∷ []) g own (omega arith)

-- a device of the set has its children in the set
child_in : (c : Core) (k j : ℕ) (m : Node) → Closed c (set_of c k) → node_at j c.nodes ≡ Some m → j ≢ 0 → has (set_of c k) m.parent ≡ true → has (set_of c k) j ≡ true
child_in c k j m closed at up h =
    let own = own_serial j m c.nodes at in
    let not_root : (m.serial == 0) ≡ false = grind (arith, nat_tests) in
    closed j m at (or_left (has (set_of c k) m.parent && not (m.serial == 0)) (list_any (λ r. r.member == m.serial && has (set_of c k) r.owner) c.relations) (grind (arith)))

-- the parent field of the root is its own serial
abbrev pub RootIsOwn : List Node → Type 0
RootIsOwn nodes = (m : Node) → node_at 0 nodes ≡ Some m → m.parent ≡ 0

pub above_zero : (n : ℕ) (nodes : List Node) (j : ℕ) → RootIsOwn nodes → has (above_in n nodes 0) j ≡ true → 0 ≡ j
above_zero zero nodes j root h = absurd (cc)
above_zero (suc n) nodes j root h = by_node (λ g. above_zero n nodes j root g) (node_at 0 nodes) refl h
  where
    by_node : (has (above_in n nodes 0) j ≡ true → 0 ≡ j) → (o : Option Node) → node_at 0 nodes ≡ o → has (elim o as (λ _. List ℕ) [ None ↦ [] | Some node ↦ node.parent ∷ above_in n nodes node.parent ]) j ≡ true → 0 ≡ j
    by_node again None e g = absurd (cc)
    by_node again (Some m) e g =
        let z = root m e in
        elim (cases_eq m.parent j) [
          | inl q ↦ sym z ∙ q
          | inr d ↦ again (subst (λ (i : ℕ). has (above_in n nodes i) j ≡ true) z (grind (arith, nat_tests)))
        ]

-- j above k: k is in the set of j
pub below_in_set : (n : ℕ) (c : Core) (k j : ℕ) (m : Node) → Closed c (set_of c j) → has (set_of c j) j ≡ true → node_at k c.nodes ≡ Some m → RootIsOwn c.nodes → Rooted c → k ≤ n → has (above_in n c.nodes k) j ≡ true → k ≢ 0 → has (set_of c j) k ≡ true
below_in_set zero c k j m closed own at root rooted l h up = absurd (cc)
below_in_set (suc n) c k j m closed own at root rooted l h up =
    let parent = rooted k m at up in
    let low = parent.0 in
    let step : above_in (suc n) c.nodes k ≡ m.parent ∷ above_in n c.nodes m.parent =
    ap (λ (o : Option Node). elim o as (λ _. List ℕ) [ None ↦ [] | Some node ↦ node.parent ∷ above_in n c.nodes node.parent ]) at in
    let h2 = subst (λ (ks : List ℕ). has ks j ≡ true) step h in
    elim (cases_eq m.parent j) [
      | inl e ↦ child_in c j k m closed at up (subst (λ (i : ℕ). has (set_of c j) i ≡ true) (sym e) own)
      | inr d ↦
          let more : has (above_in n c.nodes m.parent) j ≡ true = grind (arith, nat_tests) in
          elim (cases_eq m.parent 0) [
            | inl z ↦ absurd (let gone = subst (λ (i : ℕ). has (above_in n c.nodes i) j ≡ true) z more in d (z ∙ above_zero n c.nodes j root gone))
            | inr z ↦ child_in c j k m closed at up (below_in_set n c m.parent j parent.1.0 closed own parent.1.1 root rooted (omega arith) more z)
          ]
    ]

-- The leaving order: nobody stands before what hangs on it ------------------------------------

abbrev pub Sorted : Core → List ℕ → Type 0
Sorted c [] = Unit {0}
Sorted c (k ∷ ks) = ((j : ℕ) → has ks j ≡ true → has (dependents c k) j ≡ true → ⊥) × Sorted c ks

not_free : (c : Core) (left : List ℕ) (k j : ℕ) → is_free c left k ≡ true → has left j ≡ true → has (dependents c k) j ≡ true → ⊥
not_free c left k j free in_left dep =
    let any = any_some left (dependents c k) j dep in_left in
    let f : is_free c left k ≡ false = ap not any in
    cc

pub order_sorted : (rank : ℕ → ℕ) (n : ℕ) (c : Core) (left : List ℕ) → Ascending 0 c.nodes → Ranked rank c → length left ≤ n → Sorted c (leaving_in n c left)
order_sorted rank zero c left g ranked l = tt
order_sorted rank (suc n) c [] g ranked l = tt
order_sorted rank (suc n) c (x ∷ xs) g ranked l =
    let s = step_of rank n c x xs g ranked in
    let more = without_first (λ i. i == s.0) (x ∷ xs) in
    let len = without_length s.0 (x ∷ xs) n s.2 l in
    subst (λ (ks : List ℕ). Sorted c ks) (sym s.1)
    ((λ j h dep. not_free c (x ∷ xs) s.0 j s.3 (without_has s.0 j (x ∷ xs) (order_has rank n c more j g ranked len h)) dep), order_sorted rank n c more g ranked len)

-- where edges go, dependents go
pub dependents_less : (c d : Core) (k : ℕ) → Ascending 0 c.nodes → Ascending 0 d.nodes → NoNewEdge c d → Within (dependents d k) (dependents c k)
dependents_less c d k gc gd less =
    let into : (s j : ℕ) (m : Node) → node_at j d.nodes ≡ Some m → hangs_on d (s ∷ []) m ≡ true → ((s ≡ k) ⊎ (has (dependents c k) s ≡ true)) → has (dependents c k) j ≡ true =
    λ s j m at h by.
    let old = less s j m at h in
    elim by [
      | inl e ↦ closed_keeps c (direct c k) j old.0 gc old.1 (those_serial 0 (hangs_on c (k ∷ [])) c.nodes j old.0 gc old.1 (subst (λ (i : ℕ). hangs_on c (i ∷ []) old.0 ≡ true) e old.2))
      | inr dep ↦ dependents_closed c k gc j old.0 old.1 (hangs_more c s (dependents c k) old.0 dep old.2)
    ] in
    closed_within d (direct d k) (dependents c k) gd
    (λ j m at h. let some = hangs_some d (dependents c k) m h in into some.0 j m at some.2 (inr some.1))
    (λ j h. let f = those_found 0 (hangs_on d (k ∷ [])) d.nodes j gd h in into k j f.0 f.1 f.2 (inl refl))
