-- What is found after a change of a list.
use Rattle.std.proofs.Common.{ℕ, suc, ◌<◌, ◌≤◌, ◌≡◌, ◌≢◌, ◌==◌, ◌⊎◌, inl, inr, Bool, true, false, ◌&&◌, cond, List, [], ◌∷◌, ◌++◌, map, Option, Some, None, refl, sym, ap, ◌∙◌, subst, arith, drop}
use Rattle.std.specs.List.{find, slice_get}
use Rattle.std.specs.Option.{option_map}
use Rattle.std.proofs.lemmas.Bool.{cases_eq}
use Rattle.std.proofs.lemmas.Bool.Decides.{nat_tests}
use Rattle.pnp_model.specs.Keyed.{changed_first, those, without_first}
use Rattle.pnp_model.specs.Records.{Node, Activity, Phase}
use Rattle.pnp_model.specs.Cores.{is_node, node_at}
use Rattle.pnp_model.specs.States.{is_activity, activity_at, with_phase, entered}
use Rattle.pnp_laws.specs.Kept.{Ascending, InOrder}

pub find_changed_same : {A : Type 0} (p : A → Bool) (f : A → A) (keeps : (x : A) → p (f x) ≡ p x) (xs : List A) →
    find p (changed_first p f xs) ≡ option_map f (find p xs)
find_changed_same p f keeps [] = refl
find_changed_same p f keeps (x ∷ xs) = grind (arith, keeps x, find_changed_same p f keeps xs)

pub find_changed_other : {A : Type 0} (p q : A → Bool) (f : A → A) (keeps : (x : A) → q (f x) ≡ q x) (xs : List A) →
    ((x : A) → p x ≡ true → q x ≡ false) → find q (changed_first p f xs) ≡ find q xs
find_changed_other p q f keeps [] apart = refl
find_changed_other p q f keeps (x ∷ xs) apart = grind (arith, keeps x, apart x, find_changed_other p q f keeps xs apart)

apart_numbers : (n j k : ℕ) → j ≢ k → (n == j) ≡ true → (n == k) ≡ false
apart_numbers n j k h e = grind (arith, nat_tests)

pub node_changed_same : (k : ℕ) (f : Node → Node) (nodes : List Node) → ((n : Node) → (f n).serial ≡ n.serial) →
    node_at k (changed_first (is_node k) f nodes) ≡ option_map f (node_at k nodes)
node_changed_same k f nodes keeps = find_changed_same (is_node k) f (λ n. rw (keeps n)) nodes

pub node_changed_other : (j k : ℕ) (f : Node → Node) (nodes : List Node) → ((n : Node) → (f n).serial ≡ n.serial) → j ≢ k →
    node_at k (changed_first (is_node j) f nodes) ≡ node_at k nodes
node_changed_other j k f nodes keeps h =
    find_changed_other (is_node j) (is_node k) f (λ n. rw (keeps n)) nodes (λ n e. apart_numbers n.serial j k h e)

pub phase_set_same : (k : ℕ) (phase : Phase) (activities : List Activity) →
    activity_at k (changed_first (is_activity k) (with_phase phase) activities) ≡ option_map (with_phase phase) (activity_at k activities)
phase_set_same k phase activities = find_changed_same (is_activity k) (with_phase phase) (λ a. refl) activities

pub phase_set_other : (j k : ℕ) (phase : Phase) (activities : List Activity) → j ≢ k →
    activity_at k (changed_first (is_activity j) (with_phase phase) activities) ≡ activity_at k activities
phase_set_other j k phase activities h =
    find_changed_other (is_activity j) (is_activity k) (with_phase phase) (λ a. refl) activities (λ a e. apart_numbers a.serial j k h e)

-- the number of what is found is the number that was looked for
pub own_serial : (k : ℕ) (n : Node) (nodes : List Node) → node_at k nodes ≡ Some n → n.serial ≡ k
own_serial k n [] h = cc
own_serial k n (x ∷ xs) h = grind (arith, nat_tests, own_serial k n xs)

pub found_self : (k : ℕ) (nodes : List Node) (n : Node) → node_at k nodes ≡ Some n → node_at n.serial nodes ≡ Some n
found_self k nodes n h = subst (λ (i : ℕ). node_at i nodes ≡ Some n) (sym (own_serial k n nodes h)) h

pub own_activity : (k : ℕ) (a : Activity) (xs : List Activity) → activity_at k xs ≡ Some a → a.serial ≡ k
own_activity k a [] h = cc
own_activity k a (x ∷ xs) h = grind (arith, nat_tests, own_activity k a xs)

-- where what is found now came from

pub some_same : {A : Type 0} (o : Option A) (x y : A) → o ≡ Some x → o ≡ Some y → x ≡ y
some_same o x y h g = cc

from_map : {A : Type 0} (f : A → A) (o : Option A) (m : A) → option_map f o ≡ Some m → (n : A) × (o ≡ Some n) × (m ≡ f n)
from_map f None m h = cc
from_map f (Some n) m h = (n, refl, cc)

pub node_from : (j k : ℕ) (f : Node → Node) (nodes : List Node) (m : Node) → ((n : Node) → (f n).serial ≡ n.serial) →
    node_at k (changed_first (is_node j) f nodes) ≡ Some m →
    ((j ≡ k) × ((n : Node) × (node_at k nodes ≡ Some n) × (m ≡ f n))) ⊎ ((j ≢ k) × (node_at k nodes ≡ Some m))
node_from j k f nodes m keeps h =
    elim (cases_eq j k) [
      | inl e ↦
          let at_k = subst (λ (i : ℕ). node_at k (changed_first (is_node i) f nodes) ≡ Some m) e h in
          let same = node_changed_same k f nodes keeps in
          inl (e, from_map f (node_at k nodes) m (cc))
      | inr d ↦ let other = node_changed_other j k f nodes keeps d in inr (d, cc)
    ]

-- a node that is not there now was not there
pub node_missing : (j k : ℕ) (f : Node → Node) (nodes : List Node) → ((n : Node) → (f n).serial ≡ n.serial) →
    node_at k (changed_first (is_node j) f nodes) ≡ None → node_at k nodes ≡ None
node_missing j k f [] keeps h = refl
node_missing j k f (x ∷ xs) keeps h = grind (arith, nat_tests, keeps x, node_missing j k f xs keeps)

pub phase_from : (j k : ℕ) (phase : Phase) (activities : List Activity) (b : Activity) →
    activity_at k (changed_first (is_activity j) (with_phase phase) activities) ≡ Some b →
    ((j ≡ k) × ((a : Activity) × (activity_at k activities ≡ Some a) × (b ≡ with_phase phase a))) ⊎ ((j ≢ k) × (activity_at k activities ≡ Some b))
phase_from j k phase activities b h =
    elim (cases_eq j k) [
      | inl e ↦
          let at_k = subst (λ (i : ℕ). activity_at k (changed_first (is_activity i) (with_phase phase) activities) ≡ Some b) e h in
          let same = phase_set_same k phase activities in
          inl (e, from_map (with_phase phase) (activity_at k activities) b (cc))
      | inr d ↦ let other = phase_set_other j k phase activities d in inr (d, cc)
    ]

pub joined_from : (k : ℕ) (nodes : List Node) (new m : Node) → node_at k (nodes ++ new ∷ []) ≡ Some m → (node_at k nodes ≡ Some m) ⊎ ((node_at k nodes ≡ None) × (m ≡ new) × (new.serial ≡ k))
joined_from k [] new m h = inr (refl, grind (arith, nat_tests), grind (arith, nat_tests))
joined_from k (x ∷ xs) new m h = grind (arith, nat_tests, joined_from k xs new m)

pub joined_keeps : (k : ℕ) (nodes : List Node) (new n : Node) → node_at k nodes ≡ Some n → node_at k (nodes ++ new ∷ []) ≡ Some n
joined_keeps k [] new n h = cc
joined_keeps k (x ∷ xs) new n h = grind (arith, nat_tests, joined_keeps k xs new n)

pub node_at-map : (k : ℕ) (f : Node → Node) (nodes : List Node) → ((n : Node) → (f n).serial ≡ n.serial) → node_at k (map f nodes) ≡ option_map f (node_at k nodes)
node_at-map k f [] keeps = refl
node_at-map k f (n ∷ ns) keeps = grind (arith, nat_tests, keeps n, node_at-map k f ns keeps)

pub map_from : (k : ℕ) (f : Node → Node) (nodes : List Node) (m : Node) → ((n : Node) → (f n).serial ≡ n.serial) → node_at k (map f nodes) ≡ Some m →
    (n : Node) × (node_at k nodes ≡ Some n) × (m ≡ f n)
map_from k f nodes m keeps h = from_map f (node_at k nodes) m (sym (node_at-map k f nodes keeps) ∙ h)

-- nodes in order

pub Ascending-weaker : (lo hi : ℕ) (ns : List Node) → lo ≤ hi → Ascending hi ns → Ascending lo ns
Ascending-weaker lo hi [] h g = tt
Ascending-weaker lo hi (n ∷ ns) h g = (omega arith, g.1)

pub none_below : (lo k : ℕ) (ns : List Node) → k < lo → Ascending lo ns → node_at k ns ≡ None
none_below lo k [] h g = refl
none_below lo k (n ∷ ns) h g = grind (arith, nat_tests, none_below (suc n.serial) k ns)

pub Ascending-changed : (lo k : ℕ) (f : Node → Node) (ns : List Node) → ((n : Node) → (f n).serial ≡ n.serial) → Ascending lo ns → Ascending lo (changed_first (is_node k) f ns)
Ascending-changed lo k f [] keeps g = tt
Ascending-changed lo k f (n ∷ ns) keeps g = grind (arith, nat_tests, keeps n, Ascending-changed (suc n.serial) k f ns keeps)

pub Ascending-map : (lo : ℕ) (f : Node → Node) (ns : List Node) → ((n : Node) → (f n).serial ≡ n.serial) → Ascending lo ns → Ascending lo (map f ns)
Ascending-map lo f [] keeps g = tt
Ascending-map lo f (n ∷ ns) keeps g = grind (arith, nat_tests, keeps n, Ascending-map (suc n.serial) f ns keeps)

pub Ascending-without : (lo k : ℕ) (ns : List Node) → Ascending lo ns → Ascending lo (without_first (is_node k) ns)
Ascending-without lo k [] g = tt
Ascending-without lo k (n ∷ ns) g = grind (arith, nat_tests, Ascending-without (suc n.serial) k ns, Ascending-weaker lo (suc n.serial) ns)

pub Ascending-joined : (lo hi : ℕ) (ns : List Node) (new : Node) → Ascending lo ns → ((k : ℕ) (n : Node) → node_at k ns ≡ Some n → k < hi) → lo ≤ hi → new.serial ≡ hi → Ascending lo (ns ++ new ∷ [])
Ascending-joined lo hi [] new g below h e = (omega arith, tt)
Ascending-joined lo hi (n ∷ ns) new g below h e =
    let here : n.serial < hi = below n.serial n (grind (arith, nat_tests)) in
    let more : (k : ℕ) (m : Node) → node_at k ns ≡ Some m → k < hi =
    λ k m at. elim (cases_eq n.serial k) [ inl q ↦ subst (λ (i : ℕ). i < hi) q here | inr d ↦ below k m (grind (arith, nat_tests)) ] in
    (g.0, Ascending-joined (suc n.serial) hi ns new g.1 more (omega arith) e)

pub left_same : (lo k : ℕ) (ns : List Node) → Ascending lo ns → node_at k (without_first (is_node k) ns) ≡ None
left_same lo k [] g = refl
left_same lo k (n ∷ ns) g = grind (arith, nat_tests, left_same (suc n.serial) k ns, none_below (suc n.serial) k ns)

pub left_other : (j k : ℕ) (ns : List Node) → j ≢ k → node_at k (without_first (is_node j) ns) ≡ node_at k ns
left_other j k [] h = refl
left_other j k (n ∷ ns) h = grind (arith, nat_tests, left_other j k ns)

pub left_from : (j k : ℕ) (ns : List Node) (m : Node) → Ascending 0 ns → node_at k (without_first (is_node j) ns) ≡ Some m → (j ≢ k) × (node_at k ns ≡ Some m)
left_from j k ns m g h =
    elim (cases_eq j k) [
      | inl e ↦ absurd (let gone = left_same 0 k ns g in let h2 = subst (λ (i : ℕ). node_at k (without_first (is_node i) ns) ≡ Some m) e h in cc)
      | inr d ↦ let other = left_other j k ns d in (d, sym other ∙ h)
    ]

pub left_missing : (j k : ℕ) (ns : List Node) (n : Node) → node_at k ns ≡ Some n → node_at k (without_first (is_node j) ns) ≡ None → j ≡ k
left_missing j k ns n h g =
    elim (cases_eq j k) [ inl e ↦ e | inr d ↦ absurd (let other = left_other j k ns d in cc) ]

-- activities in order

pub InOrder-weaker : (lo hi : ℕ) (rest : List Activity) → lo ≤ hi → InOrder hi rest → InOrder lo rest
InOrder-weaker lo hi [] h g = tt
InOrder-weaker lo hi (a ∷ rest) h g = (omega arith, g.1)

pub no_activity_below : (lo k : ℕ) (rest : List Activity) → k < lo → InOrder lo rest → activity_at k rest ≡ None
no_activity_below lo k [] h g = refl
no_activity_below lo k (a ∷ rest) h g = grind (arith, nat_tests, no_activity_below (suc a.serial) k rest)

pub InOrder-set_phase : (lo k : ℕ) (phase : Phase) (rest : List Activity) → InOrder lo rest → InOrder lo (changed_first (is_activity k) (with_phase phase) rest)
InOrder-set_phase lo k phase [] g = tt
InOrder-set_phase lo k phase (a ∷ rest) g = grind (arith, nat_tests, InOrder-set_phase (suc a.serial) k phase rest)

pub ended_same : (lo k : ℕ) (rest : List Activity) → InOrder lo rest →
    activity_at k (without_first (is_activity k) rest) ≡ None
ended_same lo k [] g = refl
ended_same lo k (a ∷ rest) g = grind (arith, nat_tests, ended_same (suc a.serial) k rest, no_activity_below (suc a.serial) k rest)

pub ended_other : (j k : ℕ) (rest : List Activity) → j ≢ k →
    activity_at k (without_first (is_activity j) rest) ≡ activity_at k rest
ended_other j k [] h = refl
ended_other j k (a ∷ rest) h = grind (arith, nat_tests, ended_other j k rest)

pub InOrder-ended : (lo k : ℕ) (rest : List Activity) → InOrder lo rest → InOrder lo (without_first (is_activity k) rest)
InOrder-ended lo k [] g = tt
InOrder-ended lo k (a ∷ rest) g = grind (arith, nat_tests, InOrder-ended (suc a.serial) k rest, InOrder-weaker lo (suc a.serial) rest)

pub entered_same : (a : Activity) (rest : List Activity) → activity_at a.serial rest ≡ None → activity_at a.serial (entered a rest) ≡ Some a
entered_same a [] h = grind (arith, nat_tests)
entered_same a (b ∷ rest) h = grind (arith, nat_tests, entered_same a rest)

pub entered_other : (a : Activity) (k : ℕ) (rest : List Activity) → a.serial ≢ k → activity_at k (entered a rest) ≡ activity_at k rest
entered_other a k [] h = grind (arith, nat_tests)
entered_other a k (b ∷ rest) h = grind (arith, nat_tests, entered_other a k rest)

pub InOrder-entered : (lo : ℕ) (a : Activity) (rest : List Activity) → lo ≤ a.serial → InOrder lo rest → activity_at a.serial rest ≡ None → InOrder lo (entered a rest)
InOrder-entered lo a [] l g h = grind (arith, nat_tests)
InOrder-entered lo a (b ∷ rest) l g h = grind (arith, nat_tests, InOrder-entered (suc b.serial) a rest)

-- the activity that is next is the one of its serial
pub ready_found : (test : Activity → Bool) (lo : ℕ) (xs : List Activity) (a : Activity) → InOrder lo xs → find test xs ≡ Some a → (lo ≤ a.serial) × (activity_at a.serial xs ≡ Some a)
ready_found test lo [] a g h = absurd (cc)
ready_found test lo (b ∷ xs) a g h = grind (arith, nat_tests, ready_found test (suc b.serial) xs a)

-- what is found passes the test
pub find_passes : {A : Type 0} (p : A → Bool) (xs : List A) (x : A) → find p xs ≡ Some x → p x ≡ true
find_passes p [] x h = absurd (cc)
find_passes p (y ∷ ys) x h =
    let more = find_passes p ys x in
    let by_test : (b : Bool) → p y ≡ b → cond b (Some y) (find p ys) ≡ Some x → p x ≡ true =
    λ b. elim b as (λ b. p y ≡ b → cond b (Some y) (find p ys) ≡ Some x → p x ≡ true) [
      | true ↦ λ e g. let same : y ≡ x = cc in subst (λ z. p z ≡ true) same e
      | false ↦ λ e g. more g
    ] in
    by_test (p y) refl h

-- among those that pass a test
pub find_those : {A : Type 0} (p q : A → Bool) (xs : List A) → find p (those q xs) ≡ find (λ x. q x && p x) xs
find_those p q [] = refl
find_those p q (y ∷ ys) = by_test (q y) (find_those p q ys)
  where
    by_test : (b : Bool) → find p (those q ys) ≡ find (λ x. q x && p x) ys → find p (cond b (y ∷ those q ys) (those q ys)) ≡ cond (b && p y) (Some y) (find (λ x. q x && p x) ys)
    by_test true h = ap (λ o. cond (p y) (Some y) o) h
    by_test false h = h

-- a node that is found by another test is found by its serial
pub node_found : (test : Node → Bool) (lo : ℕ) (xs : List Node) (n : Node) → Ascending lo xs → find test xs ≡ Some n → (lo ≤ n.serial) × (node_at n.serial xs ≡ Some n)
node_found test lo [] n g h = absurd (cc)
node_found test lo (x ∷ xs) n g h = grind (arith, nat_tests, node_found test (suc x.serial) xs n)

-- what stays as it is
pub changed_none : {A : Type 0} (p : A → Bool) (xs : List A) → changed_first p (λ x. x) xs ≡ xs
changed_none p [] = refl
changed_none p (x ∷ xs) = grind (arith, changed_none p xs)

-- what is first stands before the others
pub first_is : {A : Type 0} (xs : List A) (x : A) → slice_get xs 0 ≡ Some x → xs ≡ x ∷ drop 1 xs
first_is [] x h = absurd (cc)
first_is (y ∷ ys) x h = cc
