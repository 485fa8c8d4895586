-- Numbers that went beyond their limit stay beyond it.
use Rattle.std.proofs.Common.{◌≡◌, ℕ, ◌+◌, ◌*◌, ◌≤◌, ◌<◌, Bool, true, false, cond, List, [], ◌∷◌, length, drop, get_or, ap, sym, ◌∙◌, arith, refl, Option, Some, None}
use Rattle.std.specs.Bool.{◌==◌}
use Rattle.std.proofs.lemmas.List.{at_drop_more}
use Rattle.std.proofs.lemmas.Bool.Decides.{nat_tests}
use Rattle.std.proofs.Math.Nat.{le-mul_of_pos_right}
use Rattle.inf_reader.specs.Numbers.{digit_of, number_from, at_most, number_of, ◌>>=◌}

one_more : (limit base n : ℕ) (bytes : List ℕ) (digit : Option ℕ) → 1 ≤ base → limit < n → ((m : ℕ) → limit < m → at_most limit (number_from base m bytes) ≡ None)
    → at_most limit (digit >>= (λ d. number_from base (n * base + d) bytes)) ≡ None
one_more limit base n bytes None some above more = refl
one_more limit base n bytes (Some d) some above more = let pos : 0 < base = omega arith in more (n * base + d) (omega (arith, le-mul_of_pos_right n pos))

pub beyond : (limit base n : ℕ) (bytes : List ℕ) → 1 ≤ base → limit < n → at_most limit (number_from base n bytes) ≡ None
beyond limit base n [] some above = grind (arith, nat_tests)
beyond limit base n (b ∷ bytes) some above = one_more limit base n bytes (digit_of base b) some above (λ m over. beyond limit base m bytes some over)

none_behind : (b : Bool) (o : Option ℕ) → o ≡ None → None ≡ cond b None o
none_behind true o e = refl
none_behind false o e = sym e

-- the loop stops where the next digit goes beyond the limit
pub stopped : (limit base n d i : ℕ) (text : List ℕ) → 1 ≤ base → i < length text → digit_of base (get_or text i 0) ≡ Some d → limit < n * base + d
    → at_most limit (number_from base 0 text) ≡ at_most limit (number_from base n (drop i text)) → None ≡ number_of limit base text
unfolding number_of
stopped limit base n d i text some within digit over so_far =
    let next = at_drop_more (λ t. at_most limit (number_from base n t)) text i 0 within in
    let step = ap (λ o. at_most limit (o >>= (λ d. number_from base (n * base + d) (drop (i + 1) text)))) digit in
    none_behind (length text == 0) (at_most limit (number_from base 0 text)) (so_far ∙ (next ∙ (step ∙ beyond limit base (n * base + d) (drop (i + 1) text) some over)))
