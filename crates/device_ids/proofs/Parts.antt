-- The first part, and the parts after it.
use Rattle.std.proofs.Common.{◌≡◌, ℕ, ◌+◌, ◌-◌, ◌<◌, ◌≤◌, List, [], ◌∷◌, ◌++◌, length, get_or, take, drop, false, true, arith, refl, ◌∙◌, sym, ap, suc, zero, ◌==◌, length-drop, add-one, Some, None}
use Rattle.std.proofs.lemmas.List.Splits.{slice_split-cons_yes, slice_split-cons_no}
use Rattle.std.specs.List.{onto_first}
use Rattle.std.proofs.lemmas.Bool.{eq-eqb}
use Rattle.device_ids.specs.Cuts.{parts, cut_once}
use Rattle.std.proofs.lemmas.List.{take_all, get_or-take, length-take-le}

-- none of the first n is such a byte
pub record Passed (bytes : List ℕ) (at n : ℕ) : Type 0 where
  pub none : (k : ℕ) → k < n → (get_or bytes k 0 == at) ≡ false

pub none_yet : (bytes : List ℕ) (at : ℕ) → Passed bytes at 0
none_yet bytes at = record { none = λ k less. absurd (omega arith) }

pub passed_rest : (b : ℕ) (bytes : List ℕ) (at n : ℕ) → Passed (b ∷ bytes) at (suc n) → Passed bytes at n
passed_rest b bytes at n h = record { none = λ k less. h.none (suc k) (omega arith) }

pub all_rest : (bytes : List ℕ) (n m : ℕ) → length bytes ≤ m + n → take m (drop n bytes) ≡ drop n bytes
all_rest bytes n m fits = take_all m (drop n bytes) (omega (arith, length-drop n bytes))

pub cut_none : (bytes : List ℕ) (at n : ℕ) → length bytes ≤ n → Passed bytes at n → parts at bytes ≡ bytes ∷ []
cut_none [] at n long h = refl
cut_none (b ∷ bytes) at zero long h = absurd (omega arith)
cut_none (b ∷ bytes) at (suc n) long h =
    slice_split-cons_no (λ x. x == at) b bytes (h.none 0 (omega arith))
    ∙ ap (onto_first b) (cut_none bytes at n (omega arith) (passed_rest b bytes at n h))

pub cut_front : (bytes : List ℕ) (at n : ℕ) → n < length bytes → Passed bytes at n → (get_or bytes n 0 == at) ≡ true
    → parts at bytes ≡ take n bytes ∷ parts at (drop (suc n) bytes)
cut_front [] at n less h here = absurd (omega arith)
cut_front (b ∷ bytes) at zero less h here = slice_split-cons_yes (λ x. x == at) b bytes here
cut_front (b ∷ bytes) at (suc n) less h here =
    slice_split-cons_no (λ x. x == at) b bytes (h.none 0 (omega arith))
    ∙ ap (onto_first b) (cut_front bytes at n (omega arith) (passed_rest b bytes at n h) here)

pub cut_whole : (bytes : List ℕ) (n : ℕ) → n < length bytes → bytes ≡ take n bytes ++ get_or bytes n 0 ∷ drop (suc n) bytes
cut_whole [] n less = absurd (omega arith)
cut_whole (b ∷ bytes) zero less = refl
cut_whole (b ∷ bytes) (suc n) less = ap (λ rest. b ∷ rest) (cut_whole bytes n (omega arith))

pub rest_of : (bytes : List ℕ) (i : ℕ) → take (length bytes - (i + 1)) (drop (i + 1) bytes) ≡ drop (suc i) bytes
rest_of bytes i = all_rest bytes (i + 1) (length bytes - (i + 1)) (omega arith) ∙ ap (λ n. drop n bytes) (add-one i)

pub cut_here : (bytes : List ℕ) (at i b : ℕ) → i < length bytes → Passed bytes at i → get_or bytes i 0 ≡ b → b ≡ at
    → (parts at bytes ≡ take i bytes ∷ parts at (take (length bytes - (i + 1)) (drop (i + 1) bytes)))
    × (bytes ≡ take i bytes ++ at ∷ take (length bytes - (i + 1)) (drop (i + 1) bytes))
cut_here bytes at i b less h is here = (
  cut_front bytes at i less h (eq-eqb (get_or bytes i 0) at (is ∙ here))
      ∙ ap (λ rest. take i bytes ∷ parts at rest) (sym (rest_of bytes i)),
  cut_whole bytes i less
      ∙ ap (λ x. take i bytes ++ x ∷ drop (suc i) bytes) (is ∙ here)
      ∙ ap (λ rest. take i bytes ++ at ∷ rest) (sym (rest_of bytes i)),
)

pub once_none : (bytes : List ℕ) (at n : ℕ) → length bytes ≤ n → Passed bytes at n → None ≡ cut_once at bytes
once_none [] at n long h = refl
once_none (b ∷ bytes) at zero long h = absurd (omega arith)
once_none (b ∷ bytes) at (suc n) long h =
    let passed : (b == at) ≡ false = h.none 0 (omega arith) in
    let rest : None ≡ cut_once at bytes = once_none bytes at n (omega arith) (passed_rest b bytes at n h) in
    rw (passed, ← rest) refl

pub once_front : (bytes : List ℕ) (at n : ℕ) → n < length bytes → Passed bytes at n → (get_or bytes n 0 == at) ≡ true
    → Some (take n bytes, drop (suc n) bytes) ≡ cut_once at bytes
once_front [] at n less h here = absurd (omega arith)
once_front (b ∷ bytes) at zero less h here = rw here refl
once_front (b ∷ bytes) at (suc n) less h here =
    let passed : (b == at) ≡ false = h.none 0 (omega arith) in
    let rest : Some (take n bytes, drop (suc n) bytes) ≡ cut_once at bytes =
    once_front bytes at n (omega arith) (passed_rest b bytes at n h) here in
    rw (passed, ← rest) refl

pub once_here : (bytes : List ℕ) (at i b : ℕ) → i < length bytes → Passed bytes at i → get_or bytes i 0 ≡ b → b ≡ at
    → Some (take i bytes, take (length bytes - (i + 1)) (drop (i + 1) bytes)) ≡ cut_once at bytes
once_here bytes at i b less h is here =
    ap (λ rest. Some (take i bytes, rest)) (rest_of bytes i)
    ∙ once_front bytes at i less h (eq-eqb (get_or bytes i 0) at (is ∙ here))

taken : (bytes : List ℕ) (at n : ℕ) → n ≤ length bytes → Passed bytes at n → Passed (take n bytes) at n
taken bytes at n within h = record { none = λ k less. ap (λ b. b == at) (get_or-take n bytes k 0 less) ∙ h.none k less }

pub front_whole : (bytes : List ℕ) (at n : ℕ) → n ≤ length bytes → Passed bytes at n → parts at (take n bytes) ≡ take n bytes ∷ []
front_whole bytes at n within h = cut_none (take n bytes) at n (omega (arith, length-take-le n bytes within)) (taken bytes at n within h)
