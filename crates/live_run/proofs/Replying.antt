-- What the words of a line answer.
use Rattle.std.proofs.Common.{◌≡◌, Bool, List, [], ◌∷◌, map, refl, ap}
use Rattle.std.specs.Prelude.{◌&&◌}
use Rattle.std.specs.List.{list_all}

pub all_seen : {A B : Type 0} (f : A → B) (p : B → Bool) (xs : List A) → list_all p (map f xs) ≡ list_all (λ x. p (f x)) xs
all_seen f p [] = refl
all_seen f p (x ∷ xs) = ap (λ b. p (f x) && b) (all_seen f p xs)
