-- The first of a list in a weak order.
use Rattle.std.proofs.Common.{◌≡◌, Bool, true, false, cond, List, [], ◌∷◌, ◌++◌, map, ap, sym, refl, ◌∙◌, Option, Some, None, option_map}
use Rattle.driver_rank.specs.First.{first_of, least_of}

-- an order in which what is not before, is after or equal
pub record IsWeakOrder {X : Type 0} (before : X → X → Bool) : Type 0 where
  pub trans : (x y z : X) → before x y ≡ true → before y z ≡ true → before x z ≡ true
  pub apart : (x y z : X) → before x y ≡ false → before y z ≡ false → before x z ≡ false

module _ {X : Type 0} (before : X → X → Bool) (order : IsWeakOrder before) where
  -- y goes before x or not, z before y or not, and z before x or not
  by_tests : (x y z : X) (b c d : Bool) → before y x ≡ b → before z y ≡ c → before z x ≡ d
      → (c ≡ true → b ≡ true → d ≡ true) → (c ≡ false → b ≡ false → d ≡ false)
      → first_of before (cond b (Some y) (Some x)) (Some z) ≡ first_of before (Some x) (cond c (Some z) (Some y))
  by_tests x y z true true d e f g up down = ap (λ t. cond t (Some z) (Some y)) f ∙ sym (ap (λ t. cond t (Some z) (Some x)) (g ∙ up refl refl))
  by_tests x y z true false d e f g up down = ap (λ t. cond t (Some z) (Some y)) f ∙ sym (ap (λ t. cond t (Some y) (Some x)) e)
  by_tests x y z false true d e f g up down = refl
  by_tests x y z false false d e f g up down = ap (λ t. cond t (Some z) (Some x)) (g ∙ down refl refl) ∙ sym (ap (λ t. cond t (Some y) (Some x)) e)

  left_none : (b : Bool) (x y : X) → first_of before (cond b (Some y) (Some x)) None ≡ cond b (Some y) (Some x)
  left_none true x y = refl
  left_none false x y = refl

  pub first_of-assoc : (a b c : Option X) → first_of before (first_of before a b) c ≡ first_of before a (first_of before b c)
  first_of-assoc None b c = refl
  first_of-assoc (Some x) None c = refl
  first_of-assoc (Some x) (Some y) None = left_none (before y x) x y
  first_of-assoc (Some x) (Some y) (Some z) =
      by_tests x y z (before y x) (before z y) (before z x) refl refl refl (λ f e. order.trans z y x f e) (λ f e. order.apart z y x f e)

  pub least_of-append : (xs ys : List X) → least_of before (xs ++ ys) ≡ first_of before (least_of before xs) (least_of before ys)
  least_of-append [] ys = refl
  least_of-append (x ∷ xs) ys = ap (first_of before (Some x)) (least_of-append xs ys) ∙ sym (first_of-assoc (Some x) (least_of before xs) (least_of before ys))

  -- the first of what was met before and of several more
  pub first_more : (met : Option X) (xs ys : List X) → first_of before (first_of before met (least_of before xs)) (least_of before ys) ≡ first_of before met (least_of before (xs ++ ys))
  first_more met xs ys = first_of-assoc met (least_of before xs) (least_of before ys) ∙ ap (first_of before met) (sym (least_of-append xs ys))

pub first_of-None : {X : Type 0} (before : X → X → Bool) (a : Option X) → first_of before a None ≡ a
first_of-None before None = refl
first_of-None before (Some x) = refl

-- the first of values, seen through a function that keeps their order
module _ {X Y : Type 0} (before : X → X → Bool) (after : Y → Y → Bool) (f : X → Y) (keeps : (x y : X) → after (f x) (f y) ≡ before x y) where
  by_keep : (b : Bool) (x y : X) → cond b (Some (f y)) (Some (f x)) ≡ option_map f (cond b (Some y) (Some x))
  by_keep true x y = refl
  by_keep false x y = refl

  first_of-map : (a b : Option X) → first_of after (option_map f a) (option_map f b) ≡ option_map f (first_of before a b)
  first_of-map None b = refl
  first_of-map (Some x) None = refl
  first_of-map (Some x) (Some y) = ap (λ t. cond t (Some (f y)) (Some (f x))) (keeps y x) ∙ by_keep (before y x) x y

  pub least_of-map : (xs : List X) → least_of after (map f xs) ≡ option_map f (least_of before xs)
  least_of-map [] = refl
  least_of-map (x ∷ xs) = ap (first_of after (Some (f x))) (least_of-map xs) ∙ first_of-map (Some x) (least_of before xs)
