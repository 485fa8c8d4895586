-- The guards of an event: what holds of a step behind a test, where the test goes either way.
use Rattle.std.proofs.Common.{◌≡◌, Bool, true, false, not, Option, Some, None, is_some, refl, ap}
use Rattle.std.specs.Prelude.{if◌then◌else◌}
use Rattle.pnp_model.specs.Records.{Step}
use Rattle.pnp_model.specs.Events.{unless}

pub by_test : (P : Step → Type 0) (b : Bool) (x y : Step) → (b ≡ true → P x) → (b ≡ false → P y) → P (if b then x else y)
by_test P true x y holds fails = holds refl
by_test P false x y holds fails = fails refl

pub by_found : {A : Type 0} (P : Step → Type 0) (o : Option A) (x : Step) (f : A → Step) → (o ≡ None → P x) → ((a : A) → o ≡ Some a → P (f a)) → P (unless o x f)
by_found P None x f fails holds = fails refl
by_found P (Some a) x f fails holds = holds a refl

-- and what holds of two steps behind the same tests

pub both_tests : (P : Step → Step → Type 0) (b : Bool) (x y v w : Step) → (b ≡ true → P x v) → (b ≡ false → P y w) → P (if b then x else y) (if b then v else w)
both_tests P true x y v w holds fails = holds refl
both_tests P false x y v w holds fails = fails refl

pub both_found : {A : Type 0} (P : Step → Step → Type 0) (o : Option A) (x v : Step) (f g : A → Step) → P x v → ((a : A) → P (f a) (g a)) → P (unless o x f) (unless o v g)
both_found P None x v f g fails holds = fails
both_found P (Some a) x v f g fails holds = holds a

-- Where a test is known, the step is the one behind it.

pub where_true : (b : Bool) (x y : Step) → b ≡ true → (if b then x else y) ≡ x
where_true true x y e = refl
where_true false x y e = absurd (cc)

pub where_false : (b : Bool) (x y : Step) → b ≡ false → (if b then x else y) ≡ y
where_false false x y e = refl
where_false true x y e = absurd (cc)

pub where_some : {A : Type 0} (o : Option A) (a : A) (x : Step) (f : A → Step) → o ≡ Some a → unless o x f ≡ f a
where_some None a x f e = absurd (cc)
where_some (Some b) a x f e = let same : b ≡ a = cc in ap f same

pub where_none : {A : Type 0} (o : Option A) (x : Step) (f : A → Step) → o ≡ None → unless o x f ≡ x
where_none None x f e = refl
where_none (Some a) x f e = absurd (cc)

-- what a test that failed says

pub not_not : (b : Bool) → not b ≡ false → b ≡ true
not_not true e = refl
not_not false e = absurd (cc)

pub none_if : {A : Type 0} (o : Option A) → is_some o ≡ false → o ≡ None
none_if None e = refl
none_if (Some a) e = absurd (cc)
