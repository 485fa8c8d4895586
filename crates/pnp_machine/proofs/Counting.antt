-- The count of the surprise tasks of a device, and whether it has one.
use Rattle.std.proofs.Common.{◌≡◌, ℕ, ◌+◌, Bool, true, false, ◌||◌, cond, List, [], ◌∷◌, refl, ap, ◌∙◌, is_some, arith}
use Rattle.std.specs.List.{list_any, count_by}
use Rattle.std.proofs.lemmas.Bool.Decides.{nat_tests}
use Rattle.std.proofs.lemmas.List.Sums.{sum_by-cons}
use Rattle.pnp_machine.specs.TaskLists.{counted}

one_more : (b rest : Bool) (n : ℕ) → is_some (counted n) ≡ rest → is_some (counted (cond b 1 0 + n)) ≡ (b || rest)
one_more true rest n h = grind (arith, nat_tests)
one_more false rest n h = grind (arith, nat_tests)

-- something is counted exactly where one passes
pub is_some-counted : {A : Type 0} (test : A → Bool) (xs : List A) → is_some (counted (count_by test xs)) ≡ list_any test xs
is_some-counted test [] = refl
is_some-counted test (x ∷ xs) =
    ap (λ n. is_some (counted n)) (sum_by-cons (λ y. cond (test y) 1 0) x xs)
    ∙ one_more (test x) (list_any test xs) (count_by test xs) (is_some-counted test xs)
