-- The last byte of a text.
use Rattle.std.proofs.Common.{◌≡◌, refl, ℕ, zero, suc, ◌-◌, ◌<◌, ◌==◌, true, arith, length, get_or, List, [], ◌∷◌, ap, ◌∙◌, sym}
use Rattle.script_family.specs.Texts.{is_ended}

next : (b : ℕ) (bytes : List ℕ) (n : ℕ) → n ≡ length bytes → 0 < n → get_or (b ∷ bytes) (suc n - 1) 0 ≡ get_or bytes (n - 1) 0
next b bytes zero is some = absurd (omega arith)
next b bytes (suc n) is some = ap (λ m. get_or (b ∷ bytes) m 0) (one n) ∙ ap (λ m. get_or bytes m 0) (sym (less n))
  where
    one : (n : ℕ) → suc (suc n) - 1 ≡ suc n
    one n = omega arith

    less : (n : ℕ) → suc n - 1 ≡ n
    less n = omega arith

pub last_byte : (text : List ℕ) → 0 < length text → is_ended text ≡ (get_or text (length text - 1) 0 == 0x0A)
last_byte [] some = absurd (omega arith)
last_byte (b ∷ []) some = refl
last_byte (b ∷ (c ∷ bytes)) some = last_byte (c ∷ bytes) (omega arith) ∙ ap (λ v. v == 0x0A) (sym (next b (c ∷ bytes) (length (c ∷ bytes)) refl (omega arith)))

pub no_byte : (text : List ℕ) → length text ≡ 0 → is_ended text ≡ true
no_byte [] none = refl
no_byte (b ∷ bytes) none = absurd (omega arith)
