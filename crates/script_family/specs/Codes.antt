-- A family as a list of numbers that gives it back, by which proofs tell families apart. It says nothing of scripts.
use Rattle.std.specs.Prelude.{ℕ, zero, suc, ◌≡◌, refl, List, [], ◌∷◌, ◌++◌}
use Rattle.std.specs.Coded.{Coded, code_by, coded×, coded_ℕ, coded_list}
use Rattle.std.proofs.Common.{◌∙◌, ap}
use Rattle.script_family.specs.Families.{Family, Silent, Says, Followed, Chosen, Woven}
use Rattle.script_family.specs.Steps.{Shapes}

abbrev pub pushed : ℕ → ℕ → List Family → List Family
pushed zero n stack = Silent ∷ stack
pushed (suc zero) n stack = Says n ∷ stack
pushed (suc (suc kind)) n [] = []
pushed (suc (suc kind)) n (a ∷ []) = a ∷ []
pushed (suc (suc zero)) n (b ∷ (a ∷ stack)) = Followed a b ∷ stack
pushed (suc (suc (suc zero))) n (b ∷ (a ∷ stack)) = Chosen a b ∷ stack
pushed (suc (suc (suc (suc kind)))) n (b ∷ (a ∷ stack)) = Woven a b ∷ stack

abbrev pub built : List (ℕ × ℕ) → List Family → List Family
built [] stack = stack
built (word ∷ words) stack = built words (pushed word.0 word.1 stack)

abbrev pub spelled : Family → List (ℕ × ℕ)
spelled Silent = (0, 0) ∷ []
spelled (Says line) = (1, line) ∷ []
spelled (Followed a b) = spelled a ++ (spelled b ++ (2, 0) ∷ [])
spelled (Chosen a b) = spelled a ++ (spelled b ++ (3, 0) ∷ [])
spelled (Woven a b) = spelled a ++ (spelled b ++ (4, 0) ∷ [])

abbrev pub top : List Family → Family
top [] = Silent
top (f ∷ stack) = f

pub built_append : (xs ys : List (ℕ × ℕ)) (stack : List Family) → built (xs ++ ys) stack ≡ built ys (built xs stack)
built_append [] ys stack = refl
built_append (x ∷ xs) ys stack = built_append xs ys (pushed x.0 x.1 stack)

pub built_back : (f : Family) (stack : List Family) → built (spelled f) stack ≡ f ∷ stack
built_back Silent stack = refl
built_back (Says line) stack = refl
built_back (Followed a b) stack =
    built_append (spelled a) (spelled b ++ (2, 0) ∷ []) stack ∙ ap (built (spelled b ++ (2, 0) ∷ [])) (built_back a stack)
    ∙ built_append (spelled b) ((2, 0) ∷ []) (a ∷ stack) ∙ ap (built ((2, 0) ∷ [])) (built_back b (a ∷ stack))
built_back (Chosen a b) stack =
    built_append (spelled a) (spelled b ++ (3, 0) ∷ []) stack ∙ ap (built (spelled b ++ (3, 0) ∷ [])) (built_back a stack)
    ∙ built_append (spelled b) ((3, 0) ∷ []) (a ∷ stack) ∙ ap (built ((3, 0) ∷ [])) (built_back b (a ∷ stack))
built_back (Woven a b) stack =
    built_append (spelled a) (spelled b ++ (4, 0) ∷ []) stack ∙ ap (built (spelled b ++ (4, 0) ∷ [])) (built_back a stack)
    ∙ built_append (spelled b) ((4, 0) ∷ []) (a ∷ stack) ∙ ap (built ((4, 0) ∷ [])) (built_back b (a ∷ stack))

abbrev pub family_code : Coded Family
family_code = code_by (List (ℕ × ℕ)) (coded_list (coded× coded_ℕ coded_ℕ)) spelled (λ words. top (built words [])) (λ f. ap top (built_back f []))

abbrev pub shapes_code : Coded Shapes
shapes_code =
    code_by (List Family × ℕ) (coded× (coded_list family_code) coded_ℕ) (λ s. (s.families, s.rows)) (λ p. record { families = p.0; rows = p.1 }) (λ _. refl)
