-- Lists that are made one member after the other.
use Rattle.std.proofs.Common.{◌≡◌, ◌≢◌, ℕ, ◌+◌, ◌<◌, List, [], ◌∷◌, ◌++◌, drop, map, length, slice_get, Some, refl, sym, ap, ◌∙◌, arith}
use Rattle.std.proofs.lemmas.List.{drop_more, length-append, length-drop, length-map}
use Rattle.std.proofs.lemmas.Option.{slice_get_within, get_or_from_slice_get}

module _ {X Y : Type 0} (f : X → Y) where
  -- one more is mapped
  pub mapped_next : (xs : List X) (at : ℕ) (x : X) (done : List Y) → slice_get xs at ≡ Some x → done ++ map f (drop at xs) ≡ map f xs → (done ++ f x ∷ []) ++ map f (drop (at + 1) xs) ≡ map f xs
  mapped_next xs at x done read e =
      let split : drop at xs ≡ x ∷ drop (at + 1) xs = drop_more xs at x (slice_get_within xs at x read) ∙ ap (λ y. y ∷ drop (at + 1) xs) (get_or_from_slice_get xs at x x read) in
      one_on done (f x) (map f (drop (at + 1) xs)) ∙ (sym (ap (λ l. done ++ map f l) split) ∙ e)
    where
      one_on : (ys : List Y) (y : Y) (zs : List Y) → (ys ++ y ∷ []) ++ zs ≡ ys ++ y ∷ zs
      one_on [] y zs = refl
      one_on (z ∷ ys) y zs = ap (λ l. z ∷ l) (one_on ys y zs)

  -- as many are mapped as were gone through
  pub as_many : (xs : List X) (at : ℕ) (done : List Y) → at < length xs → done ++ map f (drop at xs) ≡ map f xs → length done ≡ at
  as_many xs at done less e =
      let both : length done + length (map f (drop at xs)) ≡ length (map f xs) = sym (length-append done (map f (drop at xs))) ∙ ap length e in
      let left = length-map (drop at xs) f in
      let all = length-map xs f in
      let behind = length-drop at xs in
      omega arith

  -- of some comes some
  pub some_mapped : (xs : List X) (ys : List Y) → 0 < length xs → ys ≡ map f xs → ys ≢ []
  some_mapped [] ys some e none = absurd (omega arith)
  some_mapped (x ∷ xs) ys some e none = absurd (cc)
