-- The first of many refusals.
use Rattle.std.proofs.Common.{◌≡◌, Bool, true, false, cond, List, [], ◌∷◌, ◌++◌, arith, ap, sym, refl, ◌∙◌, Option, Some, None}
use Rattle.std.specs.Bool.{nat_lt}
use Rattle.std.proofs.lemmas.Bool.Decides.{nat_tests}
use Rattle.inf_reader.specs.declared.parts.InfError.{InfError}
use Rattle.inf_reader.specs.Meaning.{place_of, earlier, least_of}

some_first : (b : Bool) (x y : InfError) → earlier (cond b (Some y) (Some x)) None ≡ cond b (Some y) (Some x)
some_first true x y = refl
some_first false x y = refl

pub earlier-assoc : (a b c : Option InfError) → earlier (earlier a b) c ≡ earlier a (earlier b c)
earlier-assoc None b c = refl
earlier-assoc (Some x) None c = refl
earlier-assoc (Some x) (Some y) None = some_first (nat_lt (place_of y) (place_of x)) x y
earlier-assoc (Some x) (Some y) (Some z) = grind (arith, nat_tests)

pub least_of-append : (xs ys : List InfError) → least_of (xs ++ ys) ≡ earlier (least_of xs) (least_of ys)
least_of-append [] ys = refl
least_of-append (x ∷ xs) ys = ap (earlier (Some x)) (least_of-append xs ys) ∙ sym (earlier-assoc (Some x) (least_of xs) (least_of ys))

-- one more refusal, or several, in front of the rest
pub least_more : (so_far all : Option InfError) (xs ys : List InfError) → earlier so_far (least_of (xs ++ ys)) ≡ all → earlier (earlier so_far (least_of xs)) (least_of ys) ≡ all
least_more so_far all xs ys e = earlier-assoc so_far (least_of xs) (least_of ys) ∙ (ap (earlier so_far) (sym (least_of-append xs ys)) ∙ e)
