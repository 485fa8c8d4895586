-- Registrations in a list that is sorted by device.
use Rattle.std.proofs.Common.{ℕ, ◌≡◌, ◌+◌, ◌<◌, ◌≤◌, Bool, true, false, List, [], ◌∷◌, ◌++◌, length, get_or, position, remove, nat_lt, Option, None, Some, option_map, ◌&&◌, ◌||◌, zero, suc, refl, sym, ap, ◌∙◌, arith, append_assoc, append-nil, take, if◌then◌else◌}
use Rattle.std.proofs.Math.Bool.{and-false}
use Rattle.std.specs.List.{filter, list_any}
use Rattle.std.specs.Str.{bytes_eq}
use Rattle.std.specs.List.Sorted.{IsNonDecreasingBy}
use Rattle.std.proofs.lemmas.Bool.{ltb-true, ltb-false}
use Rattle.std.proofs.lemmas.Bool.Decides.{nat_tests}
use Rattle.std.proofs.lemmas.List.{take_more}
use Rattle.std.proofs.lemmas.List.Quantifiers.{position-Some}
use Rattle.std.proofs.lemmas.List.Edits.{length-remove, get_or-remove_below, get_or-remove_above}
use Rattle.pnp_labels.specs.Texts.{Text}
use Rattle.pnp_model.specs.Keyed.{those}
use Rattle.notify_front.specs.Fronts.{Registration, is_of, is_on, on_each}

pub those_are : {A : Type 0} (p : A → Bool) (xs : List A) → filter p xs ≡ those p xs
those_are p [] = refl
those_are p (x ∷ xs) = ap (λ l. if p x then x ∷ l else l) (those_are p xs)

by_bool : (P : Type 0) (b : Bool) → (b ≡ true → P) → (b ≡ false → P) → P
by_bool P true f g = f refl
by_bool P false f g = g refl

-- where one is taken out, the others stay in order
pub sorted_without : {X : Type 0} (key : X → ℕ) (xs : List X) (at : ℕ) → at < length xs → IsNonDecreasingBy key xs → IsNonDecreasingBy key (remove xs at)
sorted_without key xs at within up i j d le less =
    let count = length-remove xs at within in
    by_bool (key (get_or (remove xs at) i d) ≤ key (get_or (remove xs at) j d)) (nat_lt j at)
    (λ e.
    let below : j < at = ltb-true j at e in
    let first = get_or-remove_below xs at d i (omega arith) within in
    let second = get_or-remove_below xs at d j below within in
    rw (first, second) (up i j d le (omega arith)))
    (λ e.
    let above : at ≤ j = ltb-false j at e in
    let second = get_or-remove_above xs at d j above within in
    by_bool (key (get_or (remove xs at) i d) ≤ key (get_or (remove xs at) j d)) (nat_lt i at)
    (λ f.
    let below : i < at = ltb-true i at f in
    let first = get_or-remove_below xs at d i below within in
    rw (first, second) (up i (j + 1) d (omega arith) (omega arith)))
    (λ f.
    let over : at ≤ i = ltb-false i at f in
    let first = get_or-remove_above xs at d i over within in
    rw (first, second) (up (i + 1) (j + 1) d (omega arith) (omega arith))))

-- one device more
on_more : (ks : List ℕ) (k : ℕ) (rs : List Registration) → on_each (ks ++ k ∷ []) rs ≡ on_each ks rs ++ those (is_on k) rs
on_more [] k rs = append-nil (those (is_on k) rs)
on_more (j ∷ ks) k rs = ap (λ (l : List Registration). those (is_on j) rs ++ l) (on_more ks k rs) ∙ sym (append_assoc (those (is_on j) rs) (on_each ks rs) (those (is_on k) rs))

pub on_next : (ks : List ℕ) (at d : ℕ) (rs : List Registration) → at < length ks → on_each (take (at + 1) ks) rs ≡ on_each (take at ks) rs ++ those (is_on (get_or ks at d)) rs
on_next ks at d rs within = ap (λ (l : List ℕ). on_each l rs) (take_more ks at d within) ∙ on_more (take at ks) (get_or ks at d) rs

pub within_position : {X : Type 0} (test : X → Bool) (xs : List X) (at : ℕ) → position test xs ≡ Some at → at < length xs
within_position test [] at h = absurd (cc)
within_position test (x ∷ xs) at h = (position-Some test (x ∷ xs) at x h).0

-- those of a client on a device are among those on the device
not_on : (client : Text) (k : ℕ) (r : Registration) → is_on k r ≡ false → is_of client k r ≡ false
not_on client k r off = ap (λ b. bytes_eq r.client client && b) off ∙ and-false (bytes_eq r.client client)

pub any_on : (client : Text) (k : ℕ) (rs : List Registration) → list_any (is_of client k) (those (is_on k) rs) ≡ list_any (is_of client k) rs
any_on client k [] = refl
any_on client k (r ∷ rs) =
    let test = is_of client k in
    let on = those (is_on k) rs in
    by_bool (list_any test (those (is_on k) (r ∷ rs)) ≡ list_any test (r ∷ rs)) (is_on k r)
    (λ e. ap (λ b. list_any test (if b then r ∷ on else on)) e ∙ ap (λ b. test r || b) (any_on client k rs))
    (λ e. ap (λ b. list_any test (if b then r ∷ on else on)) e ∙ any_on client k rs ∙ sym (ap (λ b. b || list_any test rs) (not_on client k r e)))

-- the first that passes a test, where the first member passes it or not
position_passes : {X : Type 0} (test : X → Bool) (x : X) (xs : List X) → test x ≡ true → position test (x ∷ xs) ≡ Some 0
position_passes test x xs h = grind (arith, nat_tests)

position_fails : {X : Type 0} (test : X → Bool) (x : X) (xs : List X) → test x ≡ false → position test (x ∷ xs) ≡ option_map (λ i. 1 + i) (position test xs)
position_fails test x xs h = grind (arith, nat_tests)

none_more : (o : Option ℕ) → option_map (λ i. 0 + i) o ≡ o
none_more None = refl
none_more (Some i) = ap Some (omega arith)

one_more : (low : ℕ) (o : Option ℕ) → option_map (λ i. suc low + i) o ≡ option_map (λ i. 1 + i) (option_map (λ i. low + i) o)
one_more low None = refl
one_more low (Some i) = ap Some (omega arith)

-- registrations in order, without the first
sorted_rest : (r : Registration) (rs : List Registration) → IsNonDecreasingBy (λ (x : Registration). x.device) (r ∷ rs) → IsNonDecreasingBy (λ (x : Registration). x.device) rs
sorted_rest r rs up i j d le less = up (suc i) (suc j) d (omega arith) (omega arith)

-- where all are on later devices there is none
none_later : (client : Text) (k : ℕ) (rs : List Registration) → ((i : ℕ) (d : Registration) → i < length rs → k < (get_or rs i d).device) →
    (those (is_on k) rs ≡ []) × (position (is_of client k) rs ≡ None)
none_later client k [] later = (refl, refl)
none_later client k (r ∷ rs) later =
    let here : k < r.device = later 0 r (omega arith) in
    let off : is_on k r ≡ false = grind (arith, nat_tests) in
    let rest = none_later client k rs (λ i d lt. later (suc i) d (omega arith)) in (
      ap (λ b. if b then r ∷ those (is_on k) rs else those (is_on k) rs) off ∙ rest.0,
      position_fails (is_of client k) r rs (not_on client k r off) ∙ ap (option_map (λ i. 1 + i)) rest.1,
    )

-- where none is on an earlier device, the place is the one among those on the device
place_from : (client : Text) (k : ℕ) (rs : List Registration) → IsNonDecreasingBy (λ (x : Registration). x.device) rs →
    ((i : ℕ) (d : Registration) → i < length rs → k ≤ (get_or rs i d).device) →
    position (is_of client k) (those (is_on k) rs) ≡ position (is_of client k) rs
place_from client k [] up from = refl
place_from client k (r ∷ rs) up from =
    let test = is_of client k in
    let on = those (is_on k) rs in
    by_bool (position test (those (is_on k) (r ∷ rs)) ≡ position test (r ∷ rs)) (is_on k r)
    (λ e. ap (λ b. position test (if b then r ∷ on else on)) e
    ∙ by_bool (position test (r ∷ on) ≡ position test (r ∷ rs)) (test r)
    (λ t. position_passes test r on t ∙ sym (position_passes test r rs t))
    (λ t. position_fails test r on t
    ∙ ap (option_map (λ i. 1 + i)) (place_from client k rs (sorted_rest r rs up) (λ i d lt. from (suc i) d (omega arith)))
    ∙ sym (position_fails test r rs t)))
    (λ e.
    let here : k ≤ r.device = from 0 r (omega arith) in
    let over : k < r.device = grind (arith, nat_tests) in
    let none = none_later client k (r ∷ rs) (λ i d lt. let more = up 0 i d (omega arith) lt in omega arith) in
    ap (position test) none.0 ∙ sym none.1)

-- how many are on earlier devices, and the place among those on the device
pub place_on : (client : Text) (k low : ℕ) (rs : List Registration) → IsNonDecreasingBy (λ (x : Registration). x.device) rs → low ≤ length rs →
    ((i : ℕ) (d : Registration) → 0 ≤ i → i < low → nat_lt (get_or rs i d).device k ≡ true) → ((i : ℕ) (d : Registration) → low ≤ i → i < length rs → nat_lt (get_or rs i d).device k ≡ false) →
    option_map (λ i. low + i) (position (is_of client k) (those (is_on k) rs)) ≡ position (is_of client k) rs
place_on client k zero rs up within below from = none_more (position (is_of client k) (those (is_on k) rs)) ∙ place_from client k rs up (λ i d lt. ltb-false _ _ (from i d (omega arith) lt))
place_on client k (suc low) [] up within below from = absurd (omega arith)
place_on client k (suc low) (r ∷ rs) up within below from =
    let test = is_of client k in
    let on = those (is_on k) rs in
    let here : r.device < k = ltb-true _ _ (below 0 r (omega arith) (omega arith)) in
    let off : is_on k r ≡ false = grind (arith, nat_tests) in
    ap (λ b. option_map (λ i. suc low + i) (position test (if b then r ∷ on else on))) off
    ∙ one_more low (position test on)
    ∙ ap (option_map (λ i. 1 + i)) (place_on client k low rs (sorted_rest r rs up) (omega arith) (λ i d le lt. below (suc i) d (omega arith) (omega arith)) (λ i d le lt. from (suc i) d (omega arith) (omega arith)))
    ∙ sym (position_fails test r rs (not_on client k r off))
