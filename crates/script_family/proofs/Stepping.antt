-- With what a script of a part begins.
use Rattle.std.proofs.Common.{◌≡◌, refl, sym, ◌∙◌, ap, subst, ℕ, zero, suc, ◌+◌, ◌-◌, ◌*◌, ◌<◌, ◌≤◌, arith, length, [], ◌∷◌, Bool, true, false}
use Rattle.script_family.specs.declared.pairs.Place.{Place}
use Rattle.script_family.specs.declared.parts.Step.TheVariants as steps
use Rattle.script_family.specs.Families.{Family, Silent, Says, Followed, Chosen, Woven, woven}
use Rattle.script_family.specs.Counts.{sums, count, capped}
use Rattle.script_family.specs.Parts.{script_at}
use Rattle.script_family.specs.Numbered.{together, Numbered}
use Rattle.script_family.specs.Steps.{Shapes, shape, size, Has, IsBoth, Begins}
use Rattle.script_family.proofs.Numbering.{numbers_of_followed, numbers_of_woven, at_chosen_first, at_chosen_second}

silent_at : (n r : ℕ) → script_at Silent n r ≡ []
silent_at zero zero = refl
silent_at zero (suc r) = refl
silent_at (suc n) r = refl

said_at : (at n r : ℕ) → r < count (Says at) n → script_at (Says at) n r ≡ at ∷ []
said_at at zero r lt = absurd (omega arith)
said_at at (suc zero) zero lt = refl
said_at at (suc zero) (suc r) lt = absurd (omega arith)
said_at at (suc (suc n)) r lt = absurd (omega arith)

pub begins_silent : (s : Shapes) (part n r : ℕ) → shape s part ≡ Silent → Begins s part n r steps.Nothing
begins_silent s part n r is = ap (λ f. script_at f n r) is ∙ silent_at n r

pub begins_line : (s : Shapes) (part n r at : ℕ) → shape s part ≡ Says at → Has s part n r → Begins s part n r (steps.Line at)
begins_line s part n r at is has = ap (λ f. script_at f n r) is ∙ said_at at n r (subst (λ f. r < count f n) is has.below)

size_two : (f a b : Family) → f ≡ Chosen a b → (size a < size f) × (size b < size f)
size_two f a b is = let e : size f ≡ suc (size a + size b) = ap size is in (omega arith, omega arith)

pub begins_first : (s : Shapes) (part n r first second : ℕ) → shape s part ≡ Chosen (shape s first) (shape s second) → first < part → Has s part n r → r < capped (count (shape s first) n)
    → Begins s part n r (steps.One first r)
begins_first s part n r first second is before has lt =
    let less : r < count (shape s first) n = omega (arith, lt) in (
      record { there = omega (arith, has.there); below = less; exact = has.exact },
      ap (λ f. script_at f n r) is ∙ at_chosen_first (shape s first) (shape s second) n r less,
      (size_two (shape s part) (shape s first) (shape s second) is).0,
    )

pub begins_second : (s : Shapes) (part n r first second of_first : ℕ) → shape s part ≡ Chosen (shape s first) (shape s second) → second < part → Has s part n r
    → of_first ≡ capped (count (shape s first) n) → of_first ≤ r → Begins s part n r (steps.One second (r - of_first))
begins_second s part n r first second of_first is before has count_is le =
    let all : r < count (shape s first) n + count (shape s second) n = subst (λ f. r < count f n) is has.below in
    let exact : of_first ≡ count (shape s first) n = omega (arith, has.exact) in
    let back : r ≡ count (shape s first) n + (r - of_first) = omega arith in (
      record { there = omega (arith, has.there); below = omega arith; exact = omega (arith, has.exact) },
      ap (λ f. script_at f n r) is ∙ ap (script_at (Chosen (shape s first) (shape s second)) n) back ∙ at_chosen_second (shape s first) (shape s second) n (r - of_first),
      (size_two (shape s part) (shape s first) (shape s second) is).1,
    )

both_of : (s : Shapes) (part n r first second : ℕ) (woven : Bool) (place : Place) → first < part → second < part → part < length s.families
    → Numbered (shape s first) (shape s second) woven n r place.lines place.first place.second place.way → IsBoth s n first place.lines place.first second place.second
both_of s part n r first second woven place fb sb there is = record {
  inside = omega (arith, is.inside);
  first_has = record { there = omega arith; below = is.first; exact = is.first_small };
  second_has = record { there = omega arith; below = is.second; exact = is.second_small };
}

size_followed : (f a b : Family) → f ≡ Followed a b → size a + size b < size f
size_followed f a b is = let e : size f ≡ suc (size a + size b) = ap size is in omega arith

size_woven : (f a b : Family) → f ≡ Woven a b → suc (size a + size b) < size f
size_woven f a b is = let e : size f ≡ suc (suc (size a + size b)) = ap size is in omega arith

no_way : (j p : ℕ) → p < 1 → j * 1 + p ≡ j * 1 + 0
no_way j p lt = omega arith

pub begins_both : (s : Shapes) (part n r first second : ℕ) (place : Place) → shape s part ≡ Followed (shape s first) (shape s second) → first < part → second < part → Has s part n r
    → Numbered (shape s first) (shape s second) false n r place.lines place.first place.second place.way → Begins s part n r (steps.Both first second place)
begins_both s part n r first second place is fb sb has at =
    let a : Family = shape s first in
    let b : Family = shape s second in
    let number : sums (together a b false n) place.lines + (place.first * (count b (n - place.lines) * 1) + (place.second * 1 + 0)) ≡ r =
    ap (λ v. sums (together a b false n) place.lines + (place.first * (count b (n - place.lines) * 1) + v)) (sym (no_way place.second place.way at.way)) ∙ at.sum in (
      both_of s part n r first second false place fb sb has.there at,
      ap (λ f. script_at f n r) is ∙ ap (script_at (Followed a b) n) (sym number)
          ∙ numbers_of_followed a b n place.lines place.first place.second at.inside at.first at.second,
      size_followed (shape s part) a b is,
    )

pub begins_woven : (s : Shapes) (part n r first second : ℕ) (place : Place) → shape s part ≡ Woven (shape s first) (shape s second) → first < part → second < part → Has s part n r → n < s.rows
    → Numbered (shape s first) (shape s second) true n r place.lines place.first place.second place.way → Begins s part n r (steps.Woven first second place)
begins_woven s part n r first second place is fb sb has rows at =
    let a : Family = shape s first in
    let b : Family = shape s second in (
      both_of s part n r first second true place fb sb has.there at,
      at.way,
      at.way_small,
      rows,
      ap (λ f. script_at f n r) is ∙ ap (script_at (Woven a b) n) (sym at.sum)
          ∙ numbers_of_woven a b n place.lines place.first place.second place.way at.inside at.first at.second at.way,
      size_woven (shape s part) a b is,
    )
