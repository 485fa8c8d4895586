-- The digits of a number, written from the last on at the end of a row.
use Rattle.std.proofs.Common.{◌≡◌, ℕ, zero, suc, ◌-◌, ◌/◌, ◌%◌, ◌<◌, ◌≤◌, Bool, true, false, cond, eqb, List, [], ◌∷◌, ◌++◌, replicate, length, take, drop, set, refl, sym, ap, ◌∙◌, arith, eq-eqb, ne_eqb, drop-cons, length-set, get_or-set_same, drop-set-lt, take-take, take_all, take-append-drop, length-drop}
use Rattle.std.proofs.Math.ListN.{length-replicate}
use Rattle.std.proofs.Math.Seq.{drop-append-le}
use Rattle.std.proofs.lemmas.List.{take-replicate, drop-replicate}
use Rattle.std.specs.Fmt.{digits, digits_onto, digit_glyph}

pub digits_begin : (base n : ℕ) → digits_onto 64 base false n [] ≡ digits base false n
unfolding digits
digits_begin base n = refl

module _ (base n : ℕ) (acc : List ℕ) where
  one_more : (k : ℕ) (t : Bool) → eqb (n / base) 0 ≡ t
      → digits_onto (suc k) base false n acc ≡ cond t (digit_glyph false (n % base) ∷ acc) (digits_onto k base false (n / base) (digit_glyph false (n % base) ∷ acc))
  one_more k t e = ap (λ (b : Bool). cond b (digit_glyph false (n % base) ∷ acc) (digits_onto k base false (n / base) (digit_glyph false (n % base) ∷ acc))) e

  -- the first digit, where nothing is left above it
  pub digits_last : (i : ℕ) → 0 < i → n / base ≡ 0 → digits_onto i base false n acc ≡ digit_glyph false (n % base) ∷ acc
  digits_last zero h e = absurd (omega arith)
  digits_last (suc k) h e = one_more k true (eq-eqb _ 0 e)

  -- a digit, and those of what is left above it
  pub digits_step : (i : ℕ) → 0 < i → (n / base ≡ 0 → ⊥)
      → digits_onto i base false n acc ≡ digits_onto (i - 1) base false (n / base) (digit_glyph false (n % base) ∷ acc)
  digits_step zero h e = absurd (omega arith)
  digits_step (suc k) h e = one_more k false (ne_eqb _ 0 e)
      ∙ ap (λ (j : ℕ). digits_onto j base false (n / base) (digit_glyph false (n % base) ∷ acc)) {x = k} {y = suc k - 1} (omega arith)

-- what is written at the place before stands before the rest
pub drop_written : (row : List ℕ) (i x g : ℕ) → 0 < i → i ≤ length row → x ≡ g → drop (i - 1) (set row (i - 1) x) ≡ g ∷ drop i row
drop_written row zero x g h k e = absurd (omega arith)
drop_written row (suc j) x g h k e =
    ap (λ (m : ℕ). drop m (set row m x)) {x = suc j - 1} {y = j} (omega arith) ∙ drop-cons (set row j x) j 0 (omega (arith, length-set row j x))
    ∙ (λ t. (get_or-set_same row j x 0 k ∙ e) t ∷ drop-set-lt (suc j) row j x (omega arith) t)

-- rows with the same front have the same shorter front
pub shorter : (m n : ℕ) (xs ys : List ℕ) → m ≤ n → take n xs ≡ take n ys → take m xs ≡ take m ys
shorter m n xs ys within same = sym (take-take m n xs within) ∙ ap (take m) same ∙ take-take m n ys within

-- zeros before digits, but for the first of them
fewer_zeros : (ds : List ℕ) (start from left : ℕ) → from ≤ start → start - from ≡ left → drop from (replicate start 48 ++ ds) ≡ replicate left 48 ++ ds
fewer_zeros ds start from left before count =
    drop-append-le from _ ds (omega (arith, length-replicate {A = ℕ} start 48)) ∙ ap (λ l. l ++ ds) (drop-replicate from start 48 ∙ ap (λ k. replicate k 48) count)

-- the digits at the end of a row of zeros, read from where eight of them begin or more
pub padded : (row ds : List ℕ) (start from : ℕ) → length row ≡ 64 → start ≤ 64 → drop start row ≡ ds → take start row ≡ take start (replicate 64 48)
    → from ≤ start → start - from ≡ 8 - (64 - start) → take (64 - from) (drop from row) ≡ replicate (8 - length ds) 48 ++ ds
padded row ds start from long within value front before count =
    take_all _ _ (omega (arith, length-drop from row))
    ∙ ap (drop from) (sym (take-append-drop start row) ∙ (λ i. (front ∙ take-replicate start 64 48 within) i ++ value i))
    ∙ fewer_zeros ds start from _ before (omega (arith, ap length value, length-drop start row))
