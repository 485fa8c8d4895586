-- Numbers up to a greatest one, which stands for all from there on.
use Rattle.std.proofs.Common.{◌≡◌, refl, sym, ◌∙◌, ap, ap₂, ℕ, zero, suc, ◌+◌, ◌*◌, ◌/◌, ◌%◌, ◌<◌, ◌≤◌, inl, inr, min, arith, mul_comm}
use Rattle.std.proofs.Math.Nat.{min-eq_right, min-eq_left, mul-le-mul_right, div-eq_of_lt, mod-eq_of_lt}
use Rattle.std.proofs.lemmas.Bool.{cases_lt}
use Rattle.script_family.specs.Counts.{sums}

pub cap_add : (a b m : ℕ) → min (min a m + min b m) m ≡ min (a + b) m
cap_add a b m = omega arith

pub times_big : (a b m : ℕ) → 0 < a → m ≤ b → min (a * b) m ≡ m
times_big a b m pos le = min-eq_right (omega (arith, mul-le-mul_right {m = 1} {n = a} b pos))

zero_left : (b m : ℕ) → min (0 * b) m ≡ 0
zero_left b m = omega arith

pub cap_left : (a b m : ℕ) → min (min a m * b) m ≡ min (a * b) m
cap_left a zero m = omega arith
cap_left a (suc b) m =
    elim (cases_lt a m) [
      | inl lt ↦ ap (λ v. min (v * suc b) m) (min-eq_left (omega arith))
      | inr le ↦
          ap (λ v. min (v * suc b) m) (min-eq_right le)
          ∙ ap (λ v. min v m) (mul_comm m (suc b)) ∙ times_big (suc b) m m (omega arith) (omega arith)
          ∙ sym (ap (λ v. min v m) (mul_comm a (suc b)) ∙ times_big (suc b) a m (omega arith) le)
    ]

pub cap_right : (a b m : ℕ) → min (a * min b m) m ≡ min (a * b) m
cap_right a b m = ap (λ v. min v m) (mul_comm a (min b m)) ∙ cap_left b a m ∙ ap (λ v. min v m) (mul_comm b a)

pub cap_both : (a b m : ℕ) → min (min a m * min b m) m ≡ min (a * b) m
cap_both a b m = cap_left a (min b m) m ∙ cap_right a b m

-- a product of three, whose first two are capped before
pub cap_three : (a b t m : ℕ) → min (min a m * min b m * t) m ≡ min (a * b * t) m
cap_three a b t m = sym (cap_left (min a m * min b m) t m) ∙ ap (λ v. min (v * t) m) (cap_both a b m) ∙ cap_left (a * b) t m

-- below the greatest number a quotient and a remainder are as without it
pub cap_div : (r d m : ℕ) → r < m → r / min d m ≡ r / d
cap_div r d m lt =
    elim (cases_lt d m) [
      | inl less ↦ ap (λ v. r / v) (min-eq_left (omega arith))
      | inr le ↦ ap (λ v. r / v) (min-eq_right le) ∙ div-eq_of_lt lt ∙ sym (div-eq_of_lt (omega arith))
    ]

pub cap_mod : (r d m : ℕ) → r < m → r % min d m ≡ r % d
cap_mod r d m lt =
    elim (cases_lt d m) [
      | inl less ↦ ap (λ v. r % v) (min-eq_left (omega arith))
      | inr le ↦ ap (λ v. r % v) (min-eq_right le) ∙ mod-eq_of_lt lt ∙ sym (mod-eq_of_lt (omega arith))
    ]

-- a sum whose terms are capped before
pub cap_sums : (f g : ℕ → ℕ) (m : ℕ) → ((k : ℕ) → min (f k) m ≡ min (g k) m) → (n : ℕ) → min (sums f n) m ≡ min (sums g n) m
cap_sums f g m same zero = refl
cap_sums f g m same (suc n) =
    sym (cap_add (sums f n) (f n) m) ∙ ap₂ (λ a b. min (a + b) m) (cap_sums f g m same n) (same n) ∙ cap_add (sums g n) (g n) m

-- one term more
pub cap_more : (f : ℕ → ℕ) (n s b m : ℕ) → s ≡ min (sums f n) m → b ≡ min (f n) m → min (s + b) m ≡ min (sums f (n + 1)) m
cap_more f n s b m hs hb = ap₂ (λ u v. min (u + v) m) hs hb ∙ cap_add (sums f n) (f n) m ∙ ap (λ k. min (sums f k) m) (suc_is n)
  where
    suc_is : (n : ℕ) → suc n ≡ n + 1
    suc_is n = omega arith
