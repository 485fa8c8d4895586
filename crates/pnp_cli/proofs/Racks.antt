-- The drivers of the program, put in one after another.
use Rattle.std.proofs.Common.{ℕ, ◌+◌, ◌≡◌, List, [], ◌∷◌, ◌++◌, map, ap, ◌∙◌, append_assoc}
use Rattle.std.specs.Prelude.{replicate}
use Rattle.std.proofs.lemmas.List.{map-append, replicate_more}

-- one more of the last sort
pub one_more : {A B : Type 0} (f : A → B) (before : List B) (xs : List A) (x : A) (y : B) (n : ℕ) → f x ≡ y → map f xs ≡ before ++ replicate n y → map f (xs ++ x ∷ []) ≡ before ++ replicate (n + 1) y
one_more f before xs x y n own e =
    map-append f xs (x ∷ [])
    ∙ (ap (λ l. map f xs ++ l ∷ []) own
    ∙ (ap (λ l. l ++ y ∷ []) e
    ∙ (append_assoc before (replicate n y) (y ∷ []) ∙ ap (λ l. before ++ l) (replicate_more n y))))
