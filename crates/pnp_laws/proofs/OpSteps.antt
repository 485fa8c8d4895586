-- What all operations' steps share.
use Rattle.std.proofs.Common.{ℕ, ◌≡◌, ◌≢◌, inl, inr, true, false, List, [], ◌∷◌, ◌++◌, map, Option, Some, None, refl, sym, ap, ◌∙◌, subst, arith, reverse}
use Rattle.std.proofs.lemmas.Bool.{cases_eq}
use Rattle.std.proofs.lemmas.Bool.Decides.{nat_tests}
use Rattle.std.proofs.lemmas.List.{reverse-append}
use Rattle.pnp_model.specs.Keyed.{changed_first}
use Rattle.pnp_model.specs.Records.{Node, State, Job}
use Rattle.pnp_model.specs.Cores.{is_node, node_at}
use Rattle.pnp_model.specs.Tests.{has, is_started, is_surprise_removed}
use Rattle.pnp_laws.specs.Kept.{Good, Lawful, Each, HasStackOf, OperationFits, Distinct, Waits, Changes, TargetFits, is_changing, is_calm, is_stopped, is_stop_pending, is_remove_pending}
use Rattle.pnp_labels.specs.declared.states.DevState.{DevState}
use Rattle.pnp_labels.specs.declared.states.DevState.TheVariants.{NoStack, NotStarted, Started, StopPending, Stopped, RemovePending, SurpriseRemoved}
use Rattle.std.specs.Option.{is_some, option_map}
use Rattle.resource_reqs.specs.Resources.{Reqs}
use Rattle.pnp_laws.proofs.Lookups.{node_changed_same, node_changed_other, node_at-map}
use Rattle.pnp_laws.proofs.Kept.{lawful_by, Good_changed, Good_nodes}
use Rattle.pnp_laws.proofs.Lists.{has-append}

-- one node is changed, and the operation goes on
pub lawful_walked : (s t : State) (f : Node → Node) (node : Node) (o p : Job) → t.next_serial ≡ s.next_serial →
    t.core.nodes ≡ changed_first (is_node node.serial) f s.core.nodes → t.activities ≡ [] → t.operation ≡ Some p → ((x : Node) → (f x).serial ≡ x.serial) →
    node_at node.serial s.core.nodes ≡ Some node → HasStackOf node.serial (f node).state (f node).stack → OperationFits (Some p) (changed_first (is_node node.serial) f s.core.nodes) →
    Good s.next_serial s.core.nodes [] (Some o) → Lawful t
lawful_walked s t f node o p a b c d keeps at stack fits good =
    lawful_by t s.next_serial (changed_first (is_node node.serial) f s.core.nodes) [] (Some p) a b c d
    (Good_changed s.next_serial node.serial f node s.core.nodes [] [] (Some o) (Some p) keeps at stack tt (λ k d. refl) (λ x g. absurd (cc)) refl fits good)

-- no node is changed, and the operation goes on
pub lawful_still : (s t : State) (o p : Job) → t.next_serial ≡ s.next_serial → t.core.nodes ≡ s.core.nodes → t.activities ≡ [] → t.operation ≡ Some p →
    OperationFits (Some p) s.core.nodes → Good s.next_serial s.core.nodes [] (Some o) → Lawful t
lawful_still s t o p a b c d fits good =
    lawful_by t s.next_serial s.core.nodes [] (Some p) a b c d
    (Good_nodes s.next_serial s.core.nodes [] [] (Some o) (Some p) tt (λ k x g. absurd (cc)) refl fits good)

-- the operation closes, and nothing follows
pub lawful_close : (s t : State) (o : Job) → t.next_serial ≡ s.next_serial → t.core.nodes ≡ s.core.nodes → t.activities ≡ [] → t.operation ≡ None →
    Each (λ k x. is_calm x) s.core.nodes → Good s.next_serial s.core.nodes [] (Some o) → Lawful t
lawful_close s t o a b c d fits good =
    lawful_by t s.next_serial s.core.nodes [] None a b c d
    (Good_nodes s.next_serial s.core.nodes [] [] (Some o) None tt (λ k x g. absurd (cc)) tt fits good)

-- a device that had drivers has them still
pub up_stack : (j : ℕ) (x y : DevState) (stack : List ℕ) → HasStackOf j x stack → x ≢ NoStack → y ≢ NoStack → j ≢ 0 → HasStackOf j y stack
up_stack j x y stack old d e up =
    record { none = λ h. absurd (e h); some = λ z h. absurd (d (old.some z h)); root = λ z. absurd (up z) }

-- the target of a rebalance waits on

pub waits_changed : (k j : ℕ) (f : Node → Node) (nodes : List Node) (n : Node) → ((x : Node) → (f x).serial ≡ x.serial) → node_at j nodes ≡ Some n → n.state ≢ NotStarted →
    Waits k nodes → Waits k (changed_first (is_node j) f nodes)
waits_changed k j f nodes n keeps at up w =
    elim (cases_eq j k) [
      | inl e ↦
          let at_k = subst (λ (i : ℕ). node_at i nodes ≡ Some n) e at in
          let there = w.1 in
          let same : n ≡ w.0 = cc in
          absurd (up (ap (λ (x : Node). x.state) same ∙ w.2))
      | inr d ↦ (w.0, node_changed_other j k f nodes keeps d ∙ w.1, w.2)
    ]

pub waits_mapped : (k : ℕ) (f : Node → Node) (nodes : List Node) → ((x : Node) → (f x).serial ≡ x.serial) → ((x : Node) → (f x).state ≡ x.state) → Waits k nodes → Waits k (map f nodes)
waits_mapped k f nodes keeps state w =
    let there = w.1 in
    (f w.0, node_at-map k f nodes keeps ∙ (grind (arith)), state w.0 ∙ w.2)

-- the target of a change is up, pending or stopped

changes_changed : (k j : ℕ) (f : Node → Node) (nodes : List Node) (n : Node) → ((x : Node) → (f x).serial ≡ x.serial) → node_at j nodes ≡ Some n → is_changing (f n).state ≡ true →
    Changes k nodes → Changes k (changed_first (is_node j) f nodes)
changes_changed k j f nodes n keeps at up w =
    elim (cases_eq j k) [
      | inl e ↦
          let at_k = subst (λ (i : ℕ). node_at i nodes ≡ Some n) e at in
          (f n, subst (λ (i : ℕ). node_at k (changed_first (is_node i) f nodes) ≡ Some (f n)) (sym e) (node_changed_same k f nodes keeps ∙ ap (option_map f) at_k), up, w.3)
      | inr d ↦ (w.0, node_changed_other j k f nodes keeps d ∙ w.1, w.2, w.3)
    ]

changes_mapped : (k : ℕ) (f : Node → Node) (nodes : List Node) → ((x : Node) → (f x).serial ≡ x.serial) → ((x : Node) → (f x).state ≡ x.state) → Changes k nodes → Changes k (map f nodes)
changes_mapped k f nodes keeps state w =
    let there = w.1 in
    (f w.0, node_at-map k f nodes keeps ∙ (grind (arith)), ap is_changing (state w.0) ∙ w.2, w.3)

pub target_changed : (wanted : Option Reqs) (k j : ℕ) (f : Node → Node) (nodes : List Node) (n : Node) → ((x : Node) → (f x).serial ≡ x.serial) → node_at j nodes ≡ Some n → n.state ≢ NotStarted → is_changing (f n).state ≡ true →
    TargetFits wanted k nodes → TargetFits wanted k (changed_first (is_node j) f nodes)
target_changed None k j f nodes n keeps at other up w = waits_changed k j f nodes n keeps at other w
target_changed (Some wanted) k j f nodes n keeps at other up w = changes_changed k j f nodes n keeps at up w

pub target_mapped : (wanted : Option Reqs) (k : ℕ) (f : Node → Node) (nodes : List Node) → ((x : Node) → (f x).serial ≡ x.serial) → ((x : Node) → (f x).state ≡ x.state) → TargetFits wanted k nodes → TargetFits wanted k (map f nodes)
target_mapped None k f nodes keeps state w = waits_mapped k f nodes keeps state w
target_mapped (Some wanted) k f nodes keeps state w = changes_mapped k f nodes keeps state w

-- it has drivers
pub target_up : (wanted : Option Reqs) (k : ℕ) (nodes : List Node) (n : Node) → TargetFits wanted k nodes → node_at k nodes ≡ Some n → n.state ≢ NoStack
target_up None k nodes n w at e = let there = w.1 in let state = w.2 in let same : w.0 ≡ n = cc in let is = ap (λ (x : Node). x.state) same in cc
target_up (Some wanted) k nodes n w at e = let there = w.1 in let state = w.2 in let same : w.0 ≡ n = cc in let is = ap (λ (x : Node). is_changing x.state) same in let none = ap is_changing e in cc

-- that of a change was started
pub change_up : (wanted : Option Reqs) (k : ℕ) (nodes : List Node) (n : Node) → is_some wanted ≡ true → TargetFits wanted k nodes → node_at k nodes ≡ Some n → n.state ≢ NotStarted
change_up None k nodes n some w at e = absurd (cc)
change_up (Some wanted) k nodes n some w at e = let there = w.1 in let state = w.2 in let same : w.0 ≡ n = cc in let is = ap (λ (x : Node). is_changing x.state) same in let none = ap is_changing e in cc

pub target_there : (wanted : Option Reqs) (k : ℕ) (nodes : List Node) → TargetFits wanted k nodes → (n : Node) × (node_at k nodes ≡ Some n)
target_there None k nodes w = (w.0, w.1)
target_there (Some wanted) k nodes w = (w.0, w.1)

-- states

pub is_Started : (x : DevState) → is_started x ≡ true → x ≡ Started
is_Started Started h = refl
is_Started _ h = cc

pub is_StopPending : (x : DevState) → is_stop_pending x ≡ true → x ≡ StopPending
is_StopPending StopPending h = refl
is_StopPending _ h = cc

pub is_Stopped : (x : DevState) → is_stopped x ≡ true → x ≡ Stopped
is_Stopped Stopped h = refl
is_Stopped _ h = cc

pub is_SurpriseRemoved : (x : DevState) → is_surprise_removed x ≡ true → x ≡ SurpriseRemoved
is_SurpriseRemoved SurpriseRemoved h = refl
is_SurpriseRemoved _ h = cc

pub is_RemovePending : (x : DevState) → is_remove_pending x ≡ true → x ≡ RemovePending
is_RemovePending RemovePending h = refl
is_RemovePending _ h = cc

pub started_calm : (x : DevState) → is_started x ≡ true → is_calm x ≡ true
started_calm x h = ap is_calm (is_Started x h)

pub stopped_calm : (x : DevState) → is_stopped x ≡ true → is_calm x ≡ true
stopped_calm x h = ap is_calm (is_Stopped x h)

-- turned round

pub has-reverse : (xs : List ℕ) (k : ℕ) → has (reverse xs) k ≡ has xs k
has-reverse [] k = refl
has-reverse (x ∷ xs) k =
    let turn : reverse (x ∷ xs) ≡ reverse xs ++ x ∷ [] = reverse-append (x ∷ []) xs in
    rw turn (grind (arith, nat_tests, has-append (reverse xs) (x ∷ []) k, has-reverse xs k))

Distinct-append : (xs : List ℕ) (x : ℕ) → has xs x ≡ false → Distinct xs → Distinct (xs ++ x ∷ [])
Distinct-append [] x h d = (refl, tt)
Distinct-append (y ∷ xs) x h d =
    (grind (arith, nat_tests, has-append xs (x ∷ []) y), Distinct-append xs x (grind (arith, nat_tests)) d.1)

pub Distinct-reverse : (xs : List ℕ) → Distinct xs → Distinct (reverse xs)
Distinct-reverse [] d = tt
Distinct-reverse (x ∷ xs) d =
    let turn : reverse (x ∷ xs) ≡ reverse xs ++ x ∷ [] = reverse-append (x ∷ []) xs in
    subst (λ (ys : List ℕ). Distinct ys) (sym turn) (Distinct-append (reverse xs) x (has-reverse xs x ∙ d.0) (Distinct-reverse xs d.1))
