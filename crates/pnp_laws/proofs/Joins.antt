-- Who is live, what is kept of births, and what a step but a join does to them.
use Rattle.std.proofs.Common.{ℕ, suc, ◌+◌, ◌<◌, ◌≤◌, ◌≡◌, ◌≢◌, ◌==◌, ◌⊎◌, inl, inr, Bool, true, false, not, ◌&&◌, ◌||◌, cond, List, [], ◌∷◌, length, Option, Some, None, refl, sym, ap, ◌∙◌, subst, arith, nat_lt}
use Rattle.std.specs.List.{list_any}
use Rattle.std.proofs.lemmas.Bool.{cases_eq}
use Rattle.std.proofs.lemmas.Bool.Decides.{nat_tests}
use Rattle.resource_reqs.specs.Resources.{Reqs}
use Rattle.pnp_model.specs.Keyed.{changed_first}
use Rattle.pnp_model.specs.Tests.{has}
use Rattle.pnp_model.specs.Records.{Node, Device, Task, Activity, State, Duty, Course, Job, Stage, course_of}
use Rattle.pnp_model.specs.Cores.{node_at}
use Rattle.pnp_model.specs.Frames.{first_node}
use Rattle.pnp_model.specs.Handles.{was_told}
use Rattle.pnp_model.specs.States.{activity_at, is_in_world, requires, without_those}
use Rattle.pnp_model.specs.Tasks.{has_born}
use Rattle.pnp_labels.specs.declared.states.DevState.{DevState}
use Rattle.pnp_labels.specs.declared.states.DevState.TheVariants.{NoStack, NotStarted, Started, StopPending, Stopped, RemovePending, SurpriseRemoved}
use Rattle.pnp_laws.specs.Kept.{Ascending}
use Rattle.pnp_laws.proofs.Lookups.{some_same}
use Rattle.pnp_laws.proofs.Closures.{tail_at}
use Rattle.pnp_laws.proofs.Standing.{Tree, FromThose}
use Rattle.pnp_laws.proofs.Truths.{and_both, both_true, not_true, or_right}

abbrev pub start_cost : (ℕ → ℕ) → Duty → ℕ → ℕ
start_cost cost Duty.Listing k = 0
start_cost cost Duty.Starting k = cost k
start_cost cost (Duty.Begins kind) k = 0

abbrev pub starts : (ℕ → ℕ) → List Task → ℕ
starts cost [] = 0
starts cost (task ∷ tasks) = start_cost cost task.kind task.serial + starts cost tasks

-- such a serial is not given yet
abbrev pub unborn : ℕ → ℕ → ℕ
unborn next k = cond (nat_lt k next) 0 1

-- the operation takes the drivers of these devices
abbrev pub removal_closed : Job → Stage → ℕ → Bool
removal_closed o Stage.Removing k = has o.set k
removal_closed o Stage.Settling k = has o.set k
removal_closed o _ k = false

abbrev pub closed_in : Course → Job → ℕ → Bool
closed_in Course.Removing o k = removal_closed o o.stage k
closed_in Course.Surprising o k = has o.set k
closed_in _ o k = false

abbrev pub closed : Option Job → ℕ → Bool
closed None k = false
closed (Some o) k = closed_in (course_of o.kind) o k

-- without drivers, or told that it has gone
abbrev pub is_barren : DevState → Bool
is_barren NoStack = true
is_barren NotStarted = false
is_barren Started = false
is_barren StopPending = false
is_barren Stopped = false
is_barren RemovePending = false
is_barren SurpriseRemoved = true

abbrev pub some_there : Option Activity → Bool
some_there None = false
some_there (Some a) = true

-- devices may still join below it
abbrev pub is_live : State → Node → Bool
is_live s n = not (closed s.operation n.serial) && (not (is_barren n.state) || some_there (activity_at n.serial s.activities))

abbrev pub lives : State → ℕ → Bool
lives s b = list_any (λ n. n.born == b && is_live s n) s.core.nodes

-- Worlds ----------------------------------------------------------------------------------------------

abbrev pub In : Device → List Device → Type 0
In d [] = ⊥
In d (x ∷ xs) = (x ≡ d) ⊎ In d xs

-- a part of a world, in its order
pub data Sub : List Device → List Device → Type 0 where
  none : Sub [] []
  keep : (d : Device) (xs ys : List Device) → Sub xs ys → Sub (d ∷ xs) (d ∷ ys)
  skip : (d : Device) (xs ys : List Device) → Sub xs ys → Sub xs (d ∷ ys)

pub sub_same : (ds : List Device) → Sub ds ds
sub_same [] = none
sub_same (d ∷ ds) = keep d ds ds (sub_same ds)

pub sub_is : (xs ys : List Device) → xs ≡ ys → Sub xs ys
sub_is xs ys e = subst (λ (zs : List Device). Sub xs zs) e (sub_same xs)

pub sub_without : (gone : List ℕ) (ds : List Device) → Sub (without_those gone ds) ds
sub_without gone [] = none
sub_without gone (d ∷ ds) = by_test (has gone d.born || has gone d.parent) (sub_without (d.born ∷ gone) ds) (sub_without gone ds)
  where
    by_test : (b : Bool) → Sub (without_those (d.born ∷ gone) ds) ds → Sub (without_those gone ds) ds → Sub (cond b (without_those (d.born ∷ gone) ds) (d ∷ without_those gone ds)) (d ∷ ds)
    by_test true h g = skip d _ ds h
    by_test false h g = keep d _ ds g

pub sub_in : (xs ys : List Device) → Sub xs ys → (d : Device) → In d xs → In d ys
sub_in _ _ none d h = h
sub_in _ _ (keep x xs ys sub) d (inl e) = inl e
sub_in _ _ (keep x xs ys sub) d (inr h) = inr (sub_in xs ys sub d h)
sub_in _ _ (skip x xs ys sub) d h = inr (sub_in xs ys sub d h)

-- where one device requires something else, each device is as it was, or is that one
pub in_changed : (born : ℕ) (reqs : Reqs) (ds : List Device) (d : Device) → In d (changed_first (λ x. x.born == born) (requires reqs) ds) → (x : Device) × In x ds × ((x ≡ d) ⊎ ((requires reqs x ≡ d) × (x.born ≡ born)))
in_changed born reqs [] d h = absurd h
in_changed born reqs (x ∷ xs) d h = by_test (x.born == born) refl h (λ more. in_changed born reqs xs d more)
  where
    by_test : (b : Bool) → (x.born == born) ≡ b → In d (cond b (requires reqs x ∷ xs) (x ∷ changed_first (λ y. y.born == born) (requires reqs) xs))
        → (In d (changed_first (λ y. y.born == born) (requires reqs) xs) → (y : Device) × In y xs × ((y ≡ d) ⊎ ((requires reqs y ≡ d) × (y.born ≡ born)))) → (y : Device) × In y (x ∷ xs) × ((y ≡ d) ⊎ ((requires reqs y ≡ d) × (y.born ≡ born)))
    by_test true e (inl is) later = (x, inl refl, inr (is, grind (arith, nat_tests)))
    by_test true e (inr more) later = (d, inr more, inl refl)
    by_test false e (inl is) later = (x, inl refl, inl is)
    by_test false e (inr more) later = let r = later more in (r.0, inr r.1, r.2)

-- with its birth number and that of its parent
pub in_named : (born : ℕ) (reqs : Reqs) (ds : List Device) (d : Device) → In d (changed_first (λ x. x.born == born) (requires reqs) ds) → (x : Device) × In x ds × (x.born ≡ d.born) × (x.parent ≡ d.parent)
in_named born reqs ds d h =
    let r = in_changed born reqs ds d h in
    elim r.2 [
      | inl same ↦ (r.0, r.1, ap (λ (z : Device). z.born) same, ap (λ (z : Device). z.parent) same)
      | inr (changed, own) ↦ (r.0, r.1, ap (λ (z : Device). z.born) changed, ap (λ (z : Device). z.parent) changed)
    ]

pub length_changed : (born : ℕ) (reqs : Reqs) (ds : List Device) → length (changed_first (λ x. x.born == born) (requires reqs) ds) ≡ length ds
length_changed born reqs [] = refl
length_changed born reqs (x ∷ xs) = by_test (x.born == born) (length_changed born reqs xs)
  where
    by_test : (b : Bool) → length (changed_first (λ y. y.born == born) (requires reqs) xs) ≡ length xs → length (cond b (requires reqs x ∷ xs) (x ∷ changed_first (λ y. y.born == born) (requires reqs) xs)) ≡ suc (length xs)
    by_test true h = refl
    by_test false h = ap suc h

pub starts_less : (cost was : ℕ → ℕ) (tasks : List Task) → ((k : ℕ) → cost k ≤ was k) → starts cost tasks ≤ starts was tasks
starts_less cost was [] h = omega arith
starts_less cost was (t ∷ ts) h = let more = starts_less cost was ts h in let here = by_kind t.kind t.serial in omega arith
  where
    by_kind : (kind : Duty) (k : ℕ) → start_cost cost kind k ≤ start_cost was kind k
    by_kind Duty.Listing k = omega arith
    by_kind Duty.Starting k = h k
    by_kind (Duty.Begins kind) k = omega arith

-- Nodes with a test ------------------------------------------------------------------------------------

pub any_from : (p : Node → Bool) (nodes : List Node) (k : ℕ) (n : Node) → node_at k nodes ≡ Some n → p n ≡ true → list_any p nodes ≡ true
any_from p [] k n at h = absurd (cc)
any_from p (x ∷ xs) k n at h =
    elim (cases_eq x.serial k) [
      | inl e ↦ let same : x ≡ n = grind (arith, nat_tests) in ap (λ (b : Bool). b || list_any p xs) (ap p same ∙ h)
      | inr d ↦ or_right (p x) (list_any p xs) (any_from p xs k n (grind (arith, nat_tests)) h)
    ]

pub any_at : (p : Node → Bool) (lo : ℕ) (nodes : List Node) → Ascending lo nodes → list_any p nodes ≡ true → (n : Node) × (node_at n.serial nodes ≡ Some n) × (p n ≡ true)
any_at p lo [] order h = absurd (cc)
any_at p lo (x ∷ xs) order h = by_test (p x) refl h (λ g. any_at p (suc x.serial) xs order.1 g)
  where
    by_test : (b : Bool) → p x ≡ b → (b || list_any p xs) ≡ true → (list_any p xs ≡ true → (n : Node) × (node_at n.serial xs ≡ Some n) × (p n ≡ true)) → (n : Node) × (node_at n.serial (x ∷ xs) ≡ Some n) × (p n ≡ true)
    by_test true e h more = (x, grind (arith, nat_tests), e)
    by_test false e h more = let m = more h in (m.0, tail_at lo x xs m.0.serial m.0 order m.1, m.2)

-- What is kept of births ---------------------------------------------------------------------------------

-- a device stands behind its parent
abbrev pub Grows : ℕ → List Device → Type 0
Grows lo [] = Unit {0}
Grows lo (d ∷ ds) = (lo ≤ d.born) × (d.parent ≤ d.born) × Grows (suc d.born) ds

-- the root, and at most 4,096 more
abbrev pub HasRoom : List Device → Type 0
HasRoom [] = ⊥
HasRoom (d ∷ ds) = (d.born ≡ 0) × (length ds ≤ 4096)

-- the device that leaves in a finish is not in the world, or goes with a parent that was told so
abbrev pub stage_leaving : Job → Stage → List Node → List Device → Type 0
stage_leaving f Stage.Leaving nodes world =
    (n : Node) → first_node nodes f.todo ≡ Some n → (was_told (node_at n.parent nodes) ≡ true) ⊎ (is_in_world world n.born ≡ false)
stage_leaving f _ nodes world = Unit {0}

abbrev pub LeavingIn : Course → Job → List Node → List Device → Type 0
LeavingIn Course.Finishing f nodes world = stage_leaving f f.stage nodes world
LeavingIn _ o nodes world = Unit {0}

abbrev pub Leaving : Option Job → List Node → List Device → Type 0
Leaving None nodes world = Unit {0}
Leaving (Some o) nodes world = LeavingIn (course_of o.kind) o nodes world

pub record Born (s : State) : Type 0 where
  pub room : HasRoom s.world
  pub grows : Grows 0 s.world
  pub fresh : (d : Device) → In d s.world → d.born < s.next_born
  pub apart : (j k : ℕ) (n m : Node) → node_at j s.core.nodes ≡ Some n → node_at k s.core.nodes ≡ Some m → n.born ≡ m.born → j ≡ k
  pub first : (k : ℕ) (n : Node) → node_at k s.core.nodes ≡ Some n → n.born ≡ 0 → k ≡ 0
  pub known : (k : ℕ) (n : Node) → node_at k s.core.nodes ≡ Some n → n.born < s.next_born
  pub soon : starts (unborn s.next_serial) s.tasks ≡ 0
  pub links : (k : ℕ) (n p : Node) (d : Device) → node_at k s.core.nodes ≡ Some n → node_at n.parent s.core.nodes ≡ Some p → In d s.world → d.born ≡ n.born → p.born ≡ d.parent
  pub leaving : Leaving s.operation s.core.nodes s.world

pub grows_changed : (lo born : ℕ) (reqs : Reqs) (ds : List Device) → Grows lo ds → Grows lo (changed_first (λ x. x.born == born) (requires reqs) ds)
grows_changed lo born reqs [] h = tt
grows_changed lo born reqs (x ∷ xs) h = by_test (x.born == born) (grows_changed (suc x.born) born reqs xs h.2)
  where
    by_test : (b : Bool) → Grows (suc x.born) (changed_first (λ y. y.born == born) (requires reqs) xs) → Grows lo (cond b (requires reqs x ∷ xs) (x ∷ changed_first (λ y. y.born == born) (requires reqs) xs))
    by_test true more = h
    by_test false more = (h.0, h.1, more)

pub room_changed : (born : ℕ) (reqs : Reqs) (ds : List Device) → HasRoom ds → HasRoom (changed_first (λ x. x.born == born) (requires reqs) ds)
room_changed born reqs [] h = h
room_changed born reqs (x ∷ xs) h = by_test (x.born == born)
  where
    by_test : (b : Bool) → HasRoom (cond b (requires reqs x ∷ xs) (x ∷ changed_first (λ y. y.born == born) (requires reqs) xs))
    by_test true = h
    by_test false = (h.0, let l = length_changed born reqs xs in let few = h.1 in omega arith)

-- What a step but a join does ----------------------------------------------------------------------------

abbrev pub start_of : (ℕ → ℕ) → Option Node → ℕ
start_of cost None = 0
start_of cost (Some n) = cost n.serial

abbrev pub Gone : State → State → Node → Type 0
Gone s t n = ((d : Device) → In d t.world → d.born ≢ n.born) ⊎ ((m : Node) → node_at n.parent t.core.nodes ≡ Some m → is_live t m ≡ false)

-- the world stays, but for a device whose node has left, with all below it; never the root
abbrev pub Stays : State → State → Type 0
Stays s t =
    (t.world ≡ s.world) ⊎ ((n : Node) × (node_at n.serial s.core.nodes ≡ Some n) × (n.serial ≢ 0) × (t.world ≡ without_those (n.born ∷ []) s.world))

pub sub_stays : (s t : State) → Stays s t → Sub t.world s.world
sub_stays s t (inl e) = sub_is t.world s.world e
sub_stays s t (inr (n, at, up, e)) = subst (λ (w : List Device). Sub w s.world) (sym e) (sub_without (n.born ∷ []) s.world)

-- no serial and no birth number is used up
abbrev pub Counts : State → State → Type 0
Counts s t = (t.next_serial ≡ s.next_serial) × (t.next_born ≡ s.next_born)

pub record Flows (s t : State) : Type 0 where
  pub counts : Counts s t
  pub world : Sub t.world s.world
  pub stays : Stays s t
  pub from : FromThose s.core.nodes t.core.nodes
  pub start : Option Node
  pub started : (n : Node) → start ≡ Some n → node_at n.serial s.core.nodes ≡ Some n
  pub tasks : (cost : ℕ → ℕ) → starts cost t.tasks + start_of cost start ≤ starts cost s.tasks
  pub live : (k : ℕ) (n m : Node) → node_at k s.core.nodes ≡ Some n → node_at k t.core.nodes ≡ Some m → is_live t m ≡ true → (is_live s n ≡ true) ⊎ (start ≡ Some n)
  pub gone : (k : ℕ) (n : Node) → node_at k s.core.nodes ≡ Some n → node_at k t.core.nodes ≡ None → Gone s t n

pub parent_there : (next k : ℕ) (s : State) (n : Node) → Tree next s.core → node_at k s.core.nodes ≡ Some n → (p : Node) × (node_at n.parent s.core.nodes ≡ Some p)
parent_there next k s n tree at =
    elim (cases_eq k 0) [
      | inl z ↦
          let at0 : node_at 0 s.core.nodes ≡ Some n = subst (λ (i : ℕ). node_at i s.core.nodes ≡ Some n) z at in
          (n, subst (λ (i : ℕ). node_at i s.core.nodes ≡ Some n) (sym (tree.root n at0)) at0)
      | inr up ↦ (tree.rooted k n at up).1
    ]

abbrev pub starts_with : Option Node → ℕ → Bool
starts_with None p = false
starts_with (Some n) p = p == n.born

pub one_born : (s t : State) (next : ℕ) → Ascending 0 s.core.nodes → Ascending 0 t.core.nodes → Tree next s.core → Born s → (f : Flows s t) → (d : Device) → In d t.world → (lives t d.parent && not (has_born d.born t.core.nodes)) ≡ true →
    ((lives s d.parent && not (has_born d.born s.core.nodes)) ≡ true) ⊎ (starts_with f.start d.parent ≡ true)
one_born s t next order order_t tree born f d there both =
    let two = and_both (lives t d.parent) (not (has_born d.born t.core.nodes)) both in
    let at = any_at (λ n. n.born == d.parent && is_live t n) 0 t.core.nodes order_t two.0 in
    let own = and_both (at.0.born == d.parent) (is_live t at.0) at.2 in
    let m = at.0 in
    let was = f.from m.serial m at.1 in
    let born_is : was.0.born ≡ d.parent = let e = own.0 in let g = was.2 in grind (arith, nat_tests) in
    elim (f.live m.serial was.0 m was.1 at.1 own.1) [
      | inl live ↦ inl (by_there m was.0 at.1 was.1 own.1 born_is two.1
          (any_from (λ n. n.born == d.parent && is_live s n) s.core.nodes m.serial was.0 was.1 (both_true (was.0.born == d.parent) (is_live s was.0) (grind (arith, nat_tests)) live))
          (has_born d.born s.core.nodes) refl)
      | inr e ↦ inr (ap (λ (o : Option Node). starts_with o d.parent) e ∙ (let q = born_is in grind (arith, nat_tests)))
    ]
  where
    by_there : (m n : Node) → node_at m.serial t.core.nodes ≡ Some m → node_at m.serial s.core.nodes ≡ Some n → is_live t m ≡ true → n.born ≡ d.parent → not (has_born d.born t.core.nodes) ≡ true → lives s d.parent ≡ true → (b : Bool) → has_born d.born s.core.nodes ≡ b → (lives s d.parent && not (has_born d.born s.core.nodes)) ≡ true
    by_there m n at was live own out up false e = both_true (lives s d.parent) (not (has_born d.born s.core.nodes)) up (ap not e)
    by_there m n at was live own out up true e =
        let x = any_at (λ n. n.born == d.born) 0 s.core.nodes order e in
        let x_born : d.born ≡ x.0.born = let q = x.2 in grind (arith, nat_tests) in
        absurd (by_now x.0 x.1 x_born (node_at x.0.serial t.core.nodes) refl)
      where
        by_now : (x : Node) → node_at x.serial s.core.nodes ≡ Some x → d.born ≡ x.born → (o : Option Node) → node_at x.serial t.core.nodes ≡ o → ⊥
        by_now x at_x e (Some y) h =
            let old = f.from x.serial y h in
            let same : old.0 ≡ x = some_same (node_at x.serial s.core.nodes) old.0 x old.1 at_x in
            let y_born : y.born ≡ d.born = old.2 ∙ ap (λ (z : Node). z.born) same ∙ sym e in
            let none = not_true (has_born d.born t.core.nodes) out in
            let some = any_from (λ n. n.born == d.born) t.core.nodes x.serial y h (grind (arith, nat_tests)) in
            cc
        by_now x at_x e None h =
            elim (f.gone x.serial x at_x h) [
              | inl never ↦ never d there e
              | inr dead ↦
                  let p = parent_there next x.serial s x tree at_x in
                  let link = born.links x.serial x p.0 d at_x p.1 (sub_in t.world s.world f.world d there) e in
                  let same = born.apart x.parent m.serial p.0 n p.1 was (link ∙ sym own) in
                  let dies = dead m (subst (λ (i : ℕ). node_at i t.core.nodes ≡ Some m) (sym same) at) in
                  cc
            ]
