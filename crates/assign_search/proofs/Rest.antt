-- What is said of all elements from one on, a step at a time.
use Rattle.std.proofs.Common.{◌≡◌, ◌↔◌, ℕ, zero, suc, ◌+◌, ◌≤◌, List, [], ◌∷◌, drop, length, slice_get, Some, refl, sym, ◌∙◌, ap, subst, arith, add-one, true, false}
use Rattle.std.specs.List.{AllByRecursion}
use Rattle.resource_reqs.specs.Resources.{Reqs}
use Rattle.resource_reqs.specs.Spelling.{choose}
use Rattle.assign_search.specs.Walking.{SameFrom}

drop_read : {Y : Type 0} (ys : List Y) (at : ℕ) (y : Y) → slice_get ys at ≡ Some y → drop at ys ≡ y ∷ drop (suc at) ys
drop_read [] at y h = cc
drop_read (z ∷ ys) zero y h = cc
drop_read (z ∷ ys) (suc at) y h = drop_read ys at y h

pub drop_next : {Y : Type 0} (ys : List Y) (at : ℕ) (y : Y) → slice_get ys at ≡ Some y → drop at ys ≡ y ∷ drop (at + 1) ys
drop_next ys at y h = rw add-one (drop_read ys at y h)

pub drop_end : {Y : Type 0} (ys : List Y) (at : ℕ) → length ys ≤ at → drop at ys ≡ []
drop_end [] zero h = refl
drop_end [] (suc at) h = refl
drop_end (y ∷ ys) zero h = absurd (omega arith)
drop_end (y ∷ ys) (suc at) h = drop_end ys at (omega arith)

-- all from one place on, against all from a later one
abbrev pub SameAll : {Y : Type 0} → (Y → Type 0) → List Y → ℕ → ℕ → Type 0
SameAll P ys from at = AllByRecursion P (drop from ys) ↔ AllByRecursion P (drop at ys)

all_next : {Y : Type 0} (P : Y → Type 0) (ys : List Y) (at : ℕ) (y : Y) → slice_get ys at ≡ Some y
    → AllByRecursion P (drop at ys) ↔ (P y × AllByRecursion P (drop (at + 1) ys))
all_next P ys at y read =
    let split = drop_next ys at y read in
    (λ h. subst (AllByRecursion P) split h, λ h. subst (AllByRecursion P) (sym split) h)

pub all_here : {Y : Type 0} (P : Y → Type 0) (ys : List Y) (at : ℕ) (y : Y) → slice_get ys at ≡ Some y → AllByRecursion P (drop at ys) → P y
all_here P ys at y read h = ((all_next P ys at y read).0 h).0

pub all_rest : {Y : Type 0} (P : Y → Type 0) (ys : List Y) (at : ℕ) (y : Y) → slice_get ys at ≡ Some y → AllByRecursion P (drop at ys) → AllByRecursion P (drop (at + 1) ys)
all_rest P ys at y read h = ((all_next P ys at y read).0 h).1

pub all_end : {Y : Type 0} (P : Y → Type 0) (ys : List Y) (at : ℕ) → length ys ≤ at → AllByRecursion P (drop at ys)
all_end P ys at past = subst (AllByRecursion P) (sym (drop_end ys at past)) tt

-- an element of which it does not hold; and one of which it does
pub all_no : {Y : Type 0} (P : Y → Type 0) (ys : List Y) (from at : ℕ) (y : Y) → slice_get ys at ≡ Some y
    → SameAll P ys from at → (P y → ⊥) → AllByRecursion P (drop from ys) → ⊥
all_no P ys from at y read so_far lacks h = lacks ((all_next P ys at y read).0 (so_far.0 h)).0

pub all_yes : {Y : Type 0} (P : Y → Type 0) (ys : List Y) (from at : ℕ) (y : Y) → slice_get ys at ≡ Some y
    → SameAll P ys from at → P y → SameAll P ys from (at + 1)
all_yes P ys from at y read so_far here =
    let next = all_next P ys at y read in
    (λ h. (next.0 (so_far.0 h)).1, λ h. so_far.1 (next.1 (here, h)))

pub same_here : (movers : List Reqs) (at : ℕ) → SameFrom movers at at
same_here movers at = record { choosing = λ placed i. refl; nothing = λ h. h; no_more = λ h. h }

-- a mover without lists is passed over
pub same_next : (movers : List Reqs) (from at : ℕ) → slice_get movers at ≡ Some [] → SameFrom movers from at → SameFrom movers from (at + 1)
same_next movers from at read same =
    let split = drop_next movers at [] read in
    record {
      choosing = λ placed i. same.choosing placed i ∙ ap (λ ms. choose placed ms i) split;
      nothing = λ h. same.nothing (subst (AllByRecursion (λ reqs. reqs ≡ [])) (sym split) (refl, h));
      no_more = λ h. (subst (AllByRecursion (λ reqs. reqs ≡ [])) split (same.no_more h)).1;
    }

pub false_true : {A : Type 0} → false ≡ true → A
false_true h = cc

pub none_of_length : {X : Type 0} (xs : List X) → length xs ≡ 0 → xs ≡ []
none_of_length [] h = refl
none_of_length (x ∷ xs) h = absurd (omega arith)
