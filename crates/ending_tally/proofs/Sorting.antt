-- What a stable sort leaves is the list in order, and there is no other.
use Rattle.std.proofs.Common.{◌≡◌, ℕ, suc, ◌<◌, ◌≤◌, Bool, true, false, cond, not, ◌&&◌, List, [], ◌∷◌, length, get_or, drop, map, refl, sym, ap, subst, ◌∙◌, arith, T}
use Rattle.std.specs.List.{filter, AllByRecursion}
use Rattle.std.specs.List.Sorted.{IsSortedBy, IsStableBy, ties}
use Rattle.std.specs.Cmp.{IsStrictWeakOrder}
use Rattle.std.proofs.lemmas.List.Elements.{recursion_from_All}
use Rattle.std.proofs.lemmas.List.Sorted.{sorted_far}
use Rattle.ending_tally.specs.Sorting.{place_by, sorted_by}

true_not_false : {P : Type 0} → true ≡ false → P
true_not_false e = absurd (subst T e tt)

not_true : (b : Bool) → not b ≡ true → b ≡ false
not_true true e = sym e
not_true false e = refl

left_true : (a b : Bool) → (a && b) ≡ true → a ≡ true
left_true true b e = refl
left_true false b e = e

right_true : (a b : Bool) → (a && b) ≡ true → b ≡ true
right_true true b e = e
right_true false b e = true_not_false (sym e)

pub mapped_place : {X Y : Type 0} (f : X → Y) (less : Y → Y → Bool) (x : X) (xs : List X) → map f (place_by (λ a b. less (f a) (f b)) x xs) ≡ place_by less (f x) (map f xs)
mapped_place f less x [] = refl
mapped_place f less x (y ∷ xs) =
    elim (less (f y) (f x)) as (λ b. map f (cond b (y ∷ place_by (λ a b. less (f a) (f b)) x xs) (x ∷ y ∷ xs)) ≡ cond b (f y ∷ place_by less (f x) (map f xs)) (f x ∷ f y ∷ map f xs))
    [ true ↦ ap (λ l. f y ∷ l) (mapped_place f less x xs) | false ↦ refl ]

-- what is seen of a list in order is in order
pub mapped_sorted : {X Y : Type 0} (f : X → Y) (less : Y → Y → Bool) (xs : List X) → map f (sorted_by (λ a b. less (f a) (f b)) xs) ≡ sorted_by less (map f xs)
mapped_sorted f less [] = refl
mapped_sorted f less (x ∷ xs) = mapped_place f less x (sorted_by (λ a b. less (f a) (f b)) xs) ∙ ap (place_by less (f x)) (mapped_sorted f less xs)

module _ {X : Type 0} (lt : X → X → Bool) (o : IsStrictWeakOrder lt) where
  abbrev Rises : List X → Type 0
  Rises [] = Unit {0}
  Rises (x ∷ xs) = AllByRecursion (λ y. lt y x ≡ false) xs × Rises xs

  itself : (x : X) → lt x x ≡ false
  itself x = by_test (lt x x) refl
    where
      by_test : (b : Bool) → lt x x ≡ b → lt x x ≡ false
      by_test true e = o.one_way x x e
      by_test false e = e

  tie : (x y : X) → lt x y ≡ false → lt y x ≡ false → ties lt x y ≡ true
  tie x y h k = λ i. not (h i) && not (k i)

  tie_left : (x y : X) → ties lt x y ≡ true → lt x y ≡ false
  tie_left x y h = not_true _ (left_true (not (lt x y)) (not (lt y x)) h)

  tie_right : (x y : X) → ties lt x y ≡ true → lt y x ≡ false
  tie_right x y h = not_true _ (right_true (not (lt x y)) (not (lt y x)) h)

  turned : (y z : X) (v : List X) (a b : Bool) → (a ≡ true → b ≡ true → ⊥) → cond a (z ∷ cond b (y ∷ v) v) (cond b (y ∷ v) v) ≡ cond b (y ∷ cond a (z ∷ v) v) (cond a (z ∷ v) v)
  turned y z v true true n = absurd (n refl refl)
  turned y z v true false n = refl
  turned y z v false true n = refl
  turned y z v false false n = refl

  kept : (x y : X) (u : List X) → filter (ties lt x) (place_by lt y u) ≡ filter (ties lt x) (y ∷ u)
  kept x y [] = refl
  kept x y (z ∷ u) = by_test (kept x y u) (lt z y) refl
    where
      by_test : filter (ties lt x) (place_by lt y u) ≡ filter (ties lt x) (y ∷ u) → (b : Bool) → lt z y ≡ b → filter (ties lt x) (cond b (z ∷ place_by lt y u) (y ∷ z ∷ u)) ≡ filter (ties lt x) (y ∷ z ∷ u)
      by_test rest false e = refl
      by_test rest true e =
          ap (λ l. cond (ties lt x z) (z ∷ l) l) rest
          ∙ turned y z (filter (ties lt x) u) (ties lt x z) (ties lt x y)
          (λ a b. true_not_false (sym e ∙ o.chain z x y (tie_right x z a) (tie_left x y b)))

  kept_all : (x : X) (xs : List X) → filter (ties lt x) (sorted_by lt xs) ≡ filter (ties lt x) xs
  kept_all x [] = refl
  kept_all x (y ∷ xs) = kept x y (sorted_by lt xs) ∙ ap (λ u. cond (ties lt x y) (y ∷ u) u) (kept_all x xs)

  all_place : (P : X → Type 0) (y : X) (u : List X) → P y → AllByRecursion P u → AllByRecursion P (place_by lt y u)
  all_place P y [] h k = (h, tt)
  all_place P y (z ∷ u) h k =
      elim (lt z y) as (λ b. AllByRecursion P (cond b (z ∷ place_by lt y u) (y ∷ z ∷ u))) [ true ↦ (k.0, all_place P y u h k.1) | false ↦ (h, k) ]

  all_weaker : (P Q : X → Type 0) (u : List X) → ((x : X) → P x → Q x) → AllByRecursion P u → AllByRecursion Q u
  all_weaker P Q [] f h = tt
  all_weaker P Q (x ∷ u) f h = (f x h.0, all_weaker P Q u f h.1)

  rises_place : (y : X) (u : List X) → Rises u → Rises (place_by lt y u)
  rises_place y [] h = (tt, tt)
  rises_place y (z ∷ u) h = by_test (rises_place y u h.1) (lt z y) refl
    where
      by_test : Rises (place_by lt y u) → (b : Bool) → lt z y ≡ b → Rises (cond b (z ∷ place_by lt y u) (y ∷ z ∷ u))
      by_test rest true e = (all_place (λ w. lt w z ≡ false) y u (o.one_way z y e) h.0, rest)
      by_test rest false e = ((e, all_weaker (λ w. lt w z ≡ false) (λ w. lt w y ≡ false) u (λ w k. o.chain w z y k e) h.0), h)

  rises_all : (xs : List X) → Rises (sorted_by lt xs)
  rises_all [] = tt
  rises_all (x ∷ xs) = rises_place x (sorted_by lt xs) (rises_all xs)

  rises_far : (ys : List X) → ((i j : ℕ) (d : X) → i ≤ j → j < length ys → lt (get_or ys j d) (get_or ys i d) ≡ false) → Rises ys
  rises_far [] far = tt
  rises_far (y ∷ ys) far = (
    recursion_from_All (λ z. lt z y ≡ false) ys (λ k d l. far 0 (suc k) d (omega arith) (omega (arith, l))),
    rises_far ys (λ i j d p q. far (suc i) (suc j) d (omega (arith, p)) (omega (arith, q))),
  )

  -- one that ties with some of a list is not less than what none of them is less than
  not_less : (y b : X) (zs : List X) → AllByRecursion (λ w. lt w b ≡ false) zs → 0 < length (filter (ties lt y) zs) → lt y b ≡ false
  not_less y b [] h l = absurd (omega (arith, l))
  not_less y b (w ∷ zs) h l = by_test (λ some. not_less y b zs h.1 some) (ties lt y w) refl
    where
      by_test : (0 < length (filter (ties lt y) zs) → lt y b ≡ false) → (t : Bool) → ties lt y w ≡ t → lt y b ≡ false
      by_test rest true e = o.chain y w b (tie_left y w e) h.0
      by_test rest false e = rest (subst (λ (t : Bool). 0 < length (cond t (w ∷ filter (ties lt y) zs) (filter (ties lt y) zs))) e l)

  has_itself : (y : X) (ys : List X) → 0 < length (filter (ties lt y) (y ∷ ys))
  has_itself y ys = subst (λ (t : Bool). 0 < length (cond t (y ∷ filter (ties lt y) ys) (filter (ties lt y) ys))) (sym (tie y y (itself y) (itself y))) (omega arith)

  head_of : List X → X → X
  head_of [] d = d
  head_of (x ∷ xs) d = x

  pub one_order : (ys zs : List X) → Rises ys → Rises zs → ((x : X) → filter (ties lt x) ys ≡ filter (ties lt x) zs) → ys ≡ zs
  unfolding head_of
  one_order [] [] h k same = refl
  one_order [] (z ∷ zs) h k same =
      let e : 0 ≡ length (filter (ties lt z) (z ∷ zs)) = ap (λ (l : List X). length l) (same z) in
      absurd (omega (arith, has_itself z zs, e))
  one_order (y ∷ ys) [] h k same =
      let e : length (filter (ties lt y) (y ∷ ys)) ≡ 0 = ap (λ (l : List X). length l) (same y) in
      absurd (omega (arith, has_itself y ys, e))
  one_order (y ∷ ys) (z ∷ zs) h k same =
      let y_not = not_less y z (z ∷ zs) (itself z, k.0) (subst (λ l. 0 < length l) (same y) (has_itself y ys)) in
      let z_not = not_less z y (y ∷ ys) (itself y, h.0) (subst (λ l. 0 < length l) (sym (same z)) (has_itself z zs)) in
      let first : y ≡ z =
      ap (λ (t : Bool). head_of (cond t (y ∷ filter (ties lt y) ys) (filter (ties lt y) ys)) y) (sym (tie y y (itself y) (itself y)))
      ∙ ap (λ l. head_of l y) (same y)
      ∙ ap (λ (t : Bool). head_of (cond t (z ∷ filter (ties lt y) zs) (filter (ties lt y) zs)) y) (tie y z y_not z_not) in
      let rest : (x : X) → filter (ties lt x) ys ≡ filter (ties lt x) zs = λ x. same_rest x first (ties lt x y) refl in
      λ i. first i ∷ one_order ys zs h.1 k.1 rest i
    where
      same_rest : (x : X) → y ≡ z → (t : Bool) → ties lt x y ≡ t → filter (ties lt x) ys ≡ filter (ties lt x) zs
      same_rest x first true e =
          ap (λ (t : Bool). drop 1 (cond t (y ∷ filter (ties lt x) ys) (filter (ties lt x) ys))) (sym e)
          ∙ ap (drop 1) (same x)
          ∙ ap (λ (t : Bool). drop 1 (cond t (z ∷ filter (ties lt x) zs) (filter (ties lt x) zs))) (ap (ties lt x) (sym first) ∙ e)
      same_rest x first false e =
          ap (λ (t : Bool). cond t (y ∷ filter (ties lt x) ys) (filter (ties lt x) ys)) (sym e)
          ∙ same x
          ∙ ap (λ (t : Bool). cond t (z ∷ filter (ties lt x) zs) (filter (ties lt x) zs)) (ap (ties lt x) (sym first) ∙ e)

  -- what a stable sort leaves
  pub sorted_once : (xs ys : List X) → IsSortedBy lt ys → IsStableBy lt xs ys → ys ≡ sorted_by lt xs
  sorted_once xs ys up stable = one_order ys (sorted_by lt xs) (rises_far ys (sorted_far lt o ys up)) (rises_all xs) (λ x. stable x ∙ sym (kept_all x xs))
