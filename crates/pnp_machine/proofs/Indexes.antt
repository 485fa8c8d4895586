-- The index of the starts, from the lists that a call leaves.
use Rattle.std.proofs.Common.{◌≡◌, ℕ, zero, suc, ◌<◌, ◌==◌, Bool, true, false, not, ◌&&◌, cond, List, [], ◌∷◌, length, remove, set, get_or, position, find, Option, Some, None, Result, Ok, Err, refl, sym, ◌∙◌, ap, subst, arith, nat_lt, option_map, slice_get, if◌then◌else◌}
use Rattle.device_stack.specs.declared.walk.NoSuchRequest.{NoSuchRequest}
use Rattle.pnp_labels.specs.declared.words.Minor.{Minor}
use Rattle.pnp_model.specs.Keyed.{changed_first, without_first, put_before}
use Rattle.pnp_model.specs.Records.{Activity, Driver, Phase, Walk}
use Rattle.pnp_model.specs.Records.Phase.{Adding, Searching, Starting, Removing, Due}
use Rattle.pnp_model.specs.States.{is_activity, activity_at, with_phase, entered}
use Rattle.pnp_model.specs.Machine.{is_ready, is_waiting, phase_walk}
use Rattle.pnp_model.specs.Tests.{same_minor}
use Rattle.pnp_model.specs.Events.{waits_for, completed_phase, answer_of}
use Rattle.pnp_model.proofs.Keyed.{changed_first_at, without_first_at}
use Rattle.pnp_laws.specs.Kept.{InOrder}
use Rattle.pnp_laws.proofs.Lookups.{own_activity, ready_found, InOrder-set_phase, InOrder-ended}
use Rattle.script_bus.proofs.Unplugs.{by_bool}
use Rattle.start_sequence.specs.Works.{CompletedWork, CompletesWork}
use Rattle.start_sequence.specs.declared.next.StartStep.{StartStep}
use Rattle.start_sequence.specs.declared.next.StartStep.TheVariants.{Did, Needs, Up, Over}
use Rattle.pnp_machine.specs.Devices.{Devices}
use Rattle.pnp_machine.specs.Doings.{Acts}
use Rattle.pnp_machine.specs.Starts.{ready_serials, first_ready, is_over, leaves, works_after, ActsFor, CompletesFor, CompletesIf}
use Rattle.pnp_machine.proofs.Ready.{first_of, ready_short, ready_stays, ready_waits, ready_ends, ready_enters, ready_same, ready_goes}

-- The first -------------------------------------------------------------------------

pub find_passes : {A : Type 0} (test : A → Bool) (xs : List A) (a : A) → find test xs ≡ Some a → test a ≡ true
find_passes test [] a h = absurd (cc)
find_passes test (x ∷ xs) a h =
    by_bool (λ b. cond b (Some x) (find test xs) ≡ Some a → test a ≡ true) (test x)
    (λ e h. let same : x ≡ a = cc in subst (λ y. test y ≡ true) same e)
    (λ e h. find_passes test xs a h)
    h

first_found : (k : ℕ) (xs : List Activity) (a : Activity) (o : Option Activity) → InOrder 0 xs → find is_ready xs ≡ o → option_map (λ (x : Activity). x.serial) o ≡ Some k → activity_at k xs ≡ Some a
    → find is_ready xs ≡ Some a
first_found k xs a None order e f at = absurd (cc)
first_found k xs a (Some b) order e f at =
    let there = (ready_found is_ready 0 xs b order e).1 in
    let own : b.serial ≡ k = cc in
    e ∙ sym (subst (λ i. activity_at i xs ≡ Some b) own there) ∙ at

-- the lowest that is ready is the start of that device
pub ready_at : (k : ℕ) (xs : List Activity) (a : Activity) → InOrder 0 xs → first_ready xs ≡ Some k → activity_at k xs ≡ Some a → find is_ready xs ≡ Some a
ready_at k xs a order first at = first_found k xs a (find is_ready xs) order refl first at

first_is_there : (k : ℕ) (xs : List Activity) (o : Option Activity) → InOrder 0 xs → find is_ready xs ≡ o → option_map (λ (x : Activity). x.serial) o ≡ Some k → activity_at k xs ≡ None → ⊥
first_is_there k xs None order e f at = absurd (cc)
first_is_there k xs (Some b) order e f at =
    let there = (ready_found is_ready 0 xs b order e).1 in
    let own : b.serial ≡ k = cc in
    let here = subst (λ i. activity_at i xs ≡ Some b) own there in
    absurd (cc)

pub first_there : (k : ℕ) (xs : List Activity) → InOrder 0 xs → first_ready xs ≡ Some k → activity_at k xs ≡ None → ⊥
first_there k xs order first at = first_is_there k xs (find is_ready xs) order refl first at

pub goes_not_waits : (b : Bool) → not b ≡ true → b ≡ false
goes_not_waits true h = absurd (cc)
goes_not_waits false h = refl

has_first : (ns : List ℕ) (k : ℕ) → slice_get ns 0 ≡ Some k → 0 < length ns
has_first [] k h = absurd (cc)
has_first (n ∷ ns) k h = omega arith

pub some_ready : (k : ℕ) (xs : List Activity) → first_ready xs ≡ Some k → 0 < length (ready_serials xs)
some_ready k xs first = has_first (ready_serials xs) k (first_of xs ∙ first)

-- A start begins ----------------------------------------------------------------------

pub index_put : (a : Activity) (xs : List Activity) (noted : Bool) (ns' : List ℕ) → InOrder 0 xs → activity_at a.serial xs ≡ None → noted ≡ is_ready a
    → ns' ≡ (if noted then put_before (λ n. nat_lt a.serial n) a.serial (ready_serials xs) else ready_serials xs) → ns' ≡ ready_serials (entered a xs)
index_put a xs noted ns' order new e h =
    by_bool (λ b. ns' ≡ (if b then put_before (λ n. nat_lt a.serial n) a.serial (ready_serials xs) else ready_serials xs) → ns' ≡ ready_serials (entered a xs)) noted
    (λ e' h. h ∙ sym (ready_enters 0 a xs order new (sym e ∙ e')))
    (λ e' h. h ∙ sym (ready_same a xs (sym e ∙ e')))
    h

-- A start gets its answer ---------------------------------------------------------------

passed : Bool → Activity → List Activity → List ℕ
passed b a xs = cond b (a.serial ∷ ready_serials xs) (ready_serials xs)

pub ready_fewer : (k : ℕ) (xs : List Activity) (a : Activity) → activity_at k xs ≡ Some a → is_ready a ≡ false → length (ready_serials xs) < length xs
ready_fewer k [] a at waits = absurd (cc)
ready_fewer k (x ∷ xs) a at waits =
    by_bool (λ b. cond b (Some x) (activity_at k xs) ≡ Some a → length (ready_serials (x ∷ xs)) < suc (length xs)) (x.serial == k)
    (λ e at.
    let same : x ≡ a = cc in
    let waits_x : is_ready x ≡ false = subst (λ (y : Activity). is_ready y ≡ false) (sym same) waits in
    let shown : length (ready_serials (x ∷ xs)) ≡ length (ready_serials xs) = rw waits_x refl in
    omega (arith, ready_short xs))
    (λ e at.
    let fewer = ready_fewer k xs a at waits in
    by_bool (λ b. is_ready x ≡ b → length (ready_serials (x ∷ xs)) < suc (length xs)) (is_ready x)
    (λ e goes. let shown : length (ready_serials (x ∷ xs)) ≡ suc (length (ready_serials xs)) = rw goes refl in omega (arith, fewer))
    (λ e waits. let shown : length (ready_serials (x ∷ xs)) ≡ length (ready_serials xs) = rw waits refl in omega (arith, fewer))
    refl)
    at

and_left : (a b : Bool) → (a && b) ≡ true → a ≡ true
and_left true b h = refl
and_left false b h = h

pub waits_then : (minor : Minor) (w : Option Walk) → waits_for minor w ≡ true → is_waiting w ≡ true
waits_then minor None h = h
waits_then minor (Some w) h = and_left w.waits (same_minor w.minor minor) h

pub goes_again : (ok : Bool) (p : Phase) → is_waiting (phase_walk p) ≡ true → not (is_waiting (phase_walk (completed_phase (answer_of ok) p))) ≡ true
goes_again true (Starting w) h = refl
goes_again false (Starting w) h = refl
goes_again true (Removing w) h = refl
goes_again false (Removing w) h = refl
goes_again ok (Adding drivers) h = absurd (cc)
goes_again ok Searching h = absurd (cc)
goes_again ok (Due problem) h = absurd (cc)

work_completes : (b : Bool) (result : Result (Unit {0}) NoSuchRequest) (a b' : Activity) (ok : Bool) → b ≡ true → CompletesWork b result a ok b' → b' ≡ with_phase (completed_phase (answer_of ok) a.phase) a
work_completes true (Ok done) a b' ok h c = c
work_completes true (Err refused) a b' ok h c = absurd c
work_completes false result a b' ok h c = absurd (cc)

pub completed_work : (result : Result (Unit {0}) NoSuchRequest) (a b : Activity) (ok : Bool) → is_waiting (phase_walk a.phase) ≡ true → CompletedWork result a ok b
    → b ≡ with_phase (completed_phase (answer_of ok) a.phase) a
completed_work result a b ok waits done = work_completes (is_waiting (phase_walk a.phase)) result a b ok waits done

-- the index after the answer
pub index_goes : (k : ℕ) (ok : Bool) (xs ys : List Activity) (a : Activity) (ns : List ℕ) → InOrder 0 xs → activity_at k xs ≡ Some a → is_waiting (phase_walk a.phase) ≡ true
    → ys ≡ changed_first (is_activity k) (with_phase (completed_phase (answer_of ok) a.phase)) xs → ns ≡ put_before (λ n. nat_lt k n) k (ready_serials xs) → ns ≡ ready_serials ys
index_goes k ok xs ys a ns order at waits same h =
    let own = own_activity k a xs at in
    let phase = completed_phase (answer_of ok) a.phase in
    let at_own : activity_at a.serial xs ≡ Some a = subst (λ i. activity_at i xs ≡ Some a) (sym own) at in
    let goes = ready_goes 0 a xs phase order at_own (ap not waits) (goes_again ok a.phase waits) in
    h
    ∙ sym (subst (λ i. ready_serials (changed_first (is_activity i) (with_phase phase) xs) ≡ put_before (λ n. nat_lt i n) i (ready_serials xs)) own goes)
    ∙ sym (ap ready_serials same)

pub completes : (k : ℕ) (minor : Minor) (ok : Bool) (xs ys : List Activity) (a : Activity) → activity_at k xs ≡ Some a → waits_for minor (phase_walk a.phase) ≡ true
    → ys ≡ changed_first (is_activity k) (with_phase (completed_phase (answer_of ok) a.phase)) xs → CompletesFor (activity_at k xs) minor ok true xs ys
completes k minor ok xs ys a at waits same =
    subst (λ o. CompletesFor o minor ok true xs ys) (sym at)
    (subst (λ b. CompletesIf b a ok true xs ys) (sym waits)
    (refl, subst (λ i. ys ≡ changed_first (is_activity i) (with_phase (completed_phase (answer_of ok) a.phase)) xs) (sym (own_activity k a xs at)) same))

pub completes_not : (k : ℕ) (minor : Minor) (ok : Bool) (xs : List Activity) (a : Activity) → activity_at k xs ≡ Some a → waits_for minor (phase_walk a.phase) ≡ false
    → CompletesFor (activity_at k xs) minor ok false xs xs
completes_not k minor ok xs a at waits =
    subst (λ o. CompletesFor o minor ok false xs xs) (sym at)
    (subst (λ b. CompletesIf b a ok false xs xs) (sym waits) (refl, refl))

pub completes_none : (k : ℕ) (minor : Minor) (ok : Bool) (xs : List Activity) → activity_at k xs ≡ None → CompletesFor (activity_at k xs) minor ok false xs xs
completes_none k minor ok xs at = subst (λ o. CompletesFor o minor ok false xs xs) (sym at) (refl, refl)

-- A start does its next step --------------------------------------------------------------

remove_set : {A : Type 0} (xs : List A) (i : ℕ) (y : A) → remove (set xs i y) i ≡ remove xs i
remove_set [] i y = refl
remove_set (x ∷ xs) zero y = refl
remove_set (x ∷ xs) (suc i) y = ap (λ l. x ∷ l) (remove_set xs i y)

-- the starts after the step
pub works_acted : (step : StartStep) (k : ℕ) (phase : Phase) (xs ys : List Activity) (a b : Activity) (i : ℕ) → position (is_activity k) xs ≡ Some i → a ≡ get_or xs i a → b ≡ with_phase phase a
    → ys ≡ (if is_over step then remove (set xs i b) i else set xs i b) → ys ≡ works_after step k phase xs
works_acted (Did label) k phase xs ys a b i at own e h = h ∙ changed_first_at (is_activity k) (with_phase phase) xs i b a at (e ∙ ap (with_phase phase) own)
works_acted (Needs label) k phase xs ys a b i at own e h = h ∙ remove_set xs i b ∙ without_first_at (is_activity k) xs i at
works_acted (Up label) k phase xs ys a b i at own e h = h ∙ remove_set xs i b ∙ without_first_at (is_activity k) xs i at
works_acted (Over label) k phase xs ys a b i at own e h = h ∙ remove_set xs i b ∙ without_first_at (is_activity k) xs i at

-- the index after it
pub index_acted : (step : StartStep) (k : ℕ) (phase : Phase) (xs : List Activity) (a b : Activity) (gone : Bool) (ns : List ℕ) → InOrder 0 xs → find is_ready xs ≡ Some a → a.serial ≡ k
    → b ≡ with_phase phase a → gone ≡ leaves (is_over step) b → ns ≡ (if gone then remove (ready_serials xs) 0 else ready_serials xs) → ns ≡ ready_serials (works_after step k phase xs)
index_acted (Needs label) k phase xs a b gone ns order found own e g h =
    rw g at h ∙ sym (ready_ends 0 xs a order found) ∙ ap (λ i. ready_serials (without_first (is_activity i) xs)) own
index_acted (Up label) k phase xs a b gone ns order found own e g h =
    rw g at h ∙ sym (ready_ends 0 xs a order found) ∙ ap (λ i. ready_serials (without_first (is_activity i) xs)) own
index_acted (Over label) k phase xs a b gone ns order found own e g h =
    rw g at h ∙ sym (ready_ends 0 xs a order found) ∙ ap (λ i. ready_serials (without_first (is_activity i) xs)) own
index_acted (Did label) k phase xs a b gone ns order found own e g h =
    let same = ap (λ i. ready_serials (changed_first (is_activity i) (with_phase phase) xs)) own in
    let test : gone ≡ not (is_ready (with_phase phase a)) = g ∙ ap (λ (y : Activity). not (is_ready y)) e in
    by_bool (λ b. gone ≡ not b → ns ≡ ready_serials (changed_first (is_activity k) (with_phase phase) xs)) (is_ready (with_phase phase a))
    (λ goes test. rw test at h ∙ sym (ready_stays 0 xs a phase order found goes) ∙ same)
    (λ waits test. rw test at h ∙ sym (ready_waits 0 xs a phase order found waits) ∙ same)
    test

pub order_acted : (step : StartStep) (k : ℕ) (phase : Phase) (xs : List Activity) → InOrder 0 xs → InOrder 0 (works_after step k phase xs)
order_acted (Did label) k phase xs order = InOrder-set_phase 0 k phase xs order
order_acted (Needs label) k phase xs order = InOrder-ended 0 k xs order
order_acted (Up label) k phase xs order = InOrder-ended 0 k xs order
order_acted (Over label) k phase xs order = InOrder-ended 0 k xs order

pub acts_for : (budget : ℕ) (step : StartStep) (k : ℕ) (xs ys : List Activity) (a : Activity) (phase : Phase) (ds ds' : Devices) (rack rack' : List Driver) → activity_at k xs ≡ Some a
    → Acts budget ds a.serial rack a.phase step ds' rack' phase → ys ≡ works_after step k phase xs → ActsFor budget (activity_at k xs) xs ds rack step ys ds' rack'
acts_for budget step k xs ys a phase ds ds' rack rack' at acts same =
    subst (λ o. ActsFor budget o xs ds rack step ys ds' rack') (sym at)
    (phase, acts, subst (λ i. ys ≡ works_after step i phase xs) (sym (own_activity k a xs at)) same)
