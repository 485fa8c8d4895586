-- The lines of the end of the output, one after another.
use Rattle.std.proofs.Common.{◌≡◌, ℕ, zero, suc, List, [], ◌∷◌, ◌++◌, replicate, length, take, take_all, ◌+◌, ◌-◌, arith, refl, sym, ◌∙◌, ap, append_assoc}
use Rattle.pnp_labels.specs.Texts.{Text}
use Rattle.pnp_model.specs.Endings.{joined, indent}

pub joined_append : (xs ys : List Text) → joined (xs ++ ys) ≡ joined xs ++ joined ys
joined_append [] ys = refl
joined_append (x ∷ xs) ys = ap (λ t. x ++ 10 ∷ t) (joined_append xs ys) ∙ sym (append_assoc x (10 ∷ joined xs) (joined ys))

-- the spaces of a level each
pub indent_is : (k : ℕ) → indent k ≡ replicate k 32
indent_is zero = refl
indent_is (suc k) = ap (λ xs. 32 ∷ xs) (indent_is k)

-- a line filled up with spaces
pub indented : (line : Text) (len n depth : ℕ) → len ≡ length line → n ≡ len + depth → take n line ++ replicate (n - len) 32 ≡ line ++ indent depth
indented line len n depth whole more =
    let spaces : n - len ≡ depth = omega arith in
    rw (take_all n line (omega arith), spaces, indent_is depth)
