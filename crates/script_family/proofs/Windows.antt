-- Sums of which only some terms are not zero.
use Rattle.std.proofs.Common.{◌≡◌, refl, sym, ◌∙◌, ap, subst, ℕ, zero, suc, ◌+◌, ◌-◌, ◌<◌, ◌≤◌, arith}
use Rattle.script_family.specs.Counts.{sums}

pub sums_zero : (f : ℕ → ℕ) (n : ℕ) → ((k : ℕ) → k < n → f k ≡ 0) → sums f n ≡ 0
sums_zero f zero none = refl
sums_zero f (suc n) none = let before : sums f n ≡ 0 = sums_zero f n (λ k lt. none k (omega arith)) in omega (arith, none n (omega arith))

pub sums_past : (f : ℕ → ℕ) (m d : ℕ) → ((k : ℕ) → m ≤ k → k < m + d → f k ≡ 0) → sums f (m + d) ≡ sums f m
sums_past f m zero none = ap (sums f) (plus_zero m)
  where
    plus_zero : (m : ℕ) → m + 0 ≡ m
    plus_zero m = omega arith
sums_past f m (suc d) none =
    ap (sums f) (plus_suc m d)
    ∙ (let before : sums f (m + d) ≡ sums f m = sums_past f m d (λ k le lt. none k le (omega arith)) in
    let last : f (m + d) ≡ 0 = none (m + d) (omega arith) (omega arith) in omega arith)
  where
    plus_suc : (m d : ℕ) → m + suc d ≡ suc (m + d)
    plus_suc m d = omega arith

pub sums_window : (f : ℕ → ℕ) (m n : ℕ) → m ≤ n → ((k : ℕ) → m ≤ k → k < n → f k ≡ 0) → sums f n ≡ sums f m
sums_window f m n le none =
    ap (sums f) (back m n le) ∙ sums_past f m (n - m) (λ k low high. none k low (omega arith))
  where
    back : (m n : ℕ) → m ≤ n → n ≡ m + (n - m)
    back m n le = omega arith

pub sums_grow : (f : ℕ → ℕ) (m n : ℕ) → m ≤ n → sums f m ≤ sums f n
sums_grow f m n le = subst (λ v. sums f m ≤ sums f v) (sym (back m n le)) (more m (n - m))
  where
    back : (m n : ℕ) → m ≤ n → n ≡ m + (n - m)
    back m n le = omega arith

    more : (m d : ℕ) → sums f m ≤ sums f (m + d)
    more m zero = subst (λ v. sums f m ≤ sums f v) (plus_zero m) (omega arith)
      where
        plus_zero : (m : ℕ) → m ≡ m + 0
        plus_zero m = omega arith
    more m (suc d) = subst (λ v. sums f m ≤ sums f v) (plus_suc m d) (let before : sums f m ≤ sums f (m + d) = more m d in omega arith)
      where
        plus_suc : (m d : ℕ) → suc (m + d) ≡ m + suc d
        plus_suc m d = omega arith
