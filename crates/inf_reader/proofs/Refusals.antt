-- A refusal is the first of all that is wrong with a text, or says that nothing but the signature is missing.
use Rattle.std.proofs.Common.{◌≡◌, ℕ, ◌≤◌, ◌<◌, Bool, true, false, cond, List, [], ◌∷◌, length, get_or, arith, ap, sym, subst, refl, Option, Some, None, Ok, Err, zero, suc, inl, inr, ◌⊎◌, ⊎_elim}
use Rattle.std.specs.Bool.{nat_lt}
use Rattle.std.specs.List.{Contains}
use Rattle.std.proofs.lemmas.Bool.Decides.{nat_tests}
use Rattle.inf_reader.specs.declared.parts.Inf.{Inf}
use Rattle.inf_reader.specs.declared.parts.InfError.{InfError}
use Rattle.inf_reader.specs.declared.parts.InfError.TheVariants.{NoSignature}
use Rattle.inf_reader.specs.Text.{text_of}
use Rattle.inf_reader.specs.Items.{items_of}
use Rattle.inf_reader.specs.Sections.{Sections, strings_of, sections_of}
use Rattle.inf_reader.specs.Meaning.{place_of, earlier, least_of, is_signed, judged, faults_in, makers_of, meaning_by, meaning_of, inf}

-- of two refusals, the first
chosen : (b : Bool) (y z l : InfError) → nat_lt (place_of z) (place_of y) ≡ b → cond b (Some z) (Some y) ≡ Some l → (place_of l ≤ place_of y) × (place_of l ≤ place_of z)
chosen true y z l test e = let same : z ≡ l = cc in let p = ap place_of same in (grind (arith, nat_tests), grind (arith, nat_tests))
chosen false y z l test e = let same : y ≡ l = cc in let p = ap place_of same in (grind (arith, nat_tests), grind (arith, nat_tests))

below_first : (y : InfError) (o : Option InfError) (l : InfError) → earlier (Some y) o ≡ Some l → place_of l ≤ place_of y
below_first y None l e = let same : y ≡ l = cc in let p = ap place_of same in omega arith
below_first y (Some z) l e = (chosen (nat_lt (place_of z) (place_of y)) y z l refl e).0

one_of : (b : Bool) (y z l : InfError) → cond b (Some z) (Some y) ≡ Some l → (y ≡ l) ⊎ (Some z ≡ Some l)
one_of true y z l e = inr e
one_of false y z l e = inl (cc)

either : (y : InfError) (o : Option InfError) (l : InfError) → earlier (Some y) o ≡ Some l → (y ≡ l) ⊎ (o ≡ Some l)
either y None l e = inl (cc)
either y (Some z) l e = one_of (nat_lt (place_of z) (place_of y)) y z l e

some_chosen : (b : Bool) (y z : InfError) → cond b (Some z) (Some y) ≡ None → ⊥
some_chosen true y z e = cc
some_chosen false y z e = cc

never_none : (y : InfError) (o : Option InfError) → earlier (Some y) o ≡ None → ⊥
never_none y None e = cc
never_none y (Some z) e = some_chosen (nat_lt (place_of z) (place_of y)) y z e

-- the first of many is none where there are none
pub least_of-None : (xs : List InfError) → least_of xs ≡ None → xs ≡ []
least_of-None [] e = refl
least_of-None (y ∷ xs) e = absurd (never_none y (least_of xs) e)

below_rest : (y : InfError) (o : Option InfError) (xs : List InfError) (x l : InfError) → least_of xs ≡ o → 0 < length xs → earlier (Some y) o ≡ Some l → ((m : InfError) → o ≡ Some m → place_of m ≤ place_of x) → place_of l ≤ place_of x
below_rest y None xs x l at some e rest = let none = ap length (least_of-None xs at) in absurd (omega arith)
below_rest y (Some z) xs x l at some e rest = let b = chosen (nat_lt (place_of z) (place_of y)) y z l refl e in let r = rest z refl in omega arith

least_at : (xs : List InfError) (k : ℕ) (x l : InfError) → k < length xs → get_or xs k x ≡ x → least_of xs ≡ Some l → place_of l ≤ place_of x
least_at [] k x l within at e = absurd (omega arith)
least_at (y ∷ xs) zero x l within at e = let P : InfError → Type 0 = λ t. place_of l ≤ place_of t in subst P at (below_first y (least_of xs) l e)
least_at (y ∷ xs) (suc k) x l within at e = below_rest y (least_of xs) xs x l refl (omega arith) e (λ m is. least_at xs k x m (omega arith) at is)

least_in : (xs : List InfError) (l : InfError) → least_of xs ≡ Some l → Contains xs l
least_in [] l e = cc
least_in (y ∷ xs) l e = ⊎_elim (λ same. (0, omega arith, same)) (λ later. let w = least_in xs l later in (suc w.0, omega arith, w.2)) (either y (least_of xs) l e)

refused_by : (b : Bool) (value : Inf) (refused : InfError) → cond b (Ok value) (Err NoSignature) ≡ Err refused → NoSignature ≡ refused
refused_by true value refused e = cc
refused_by false value refused e = cc

by_judge : (sections : Sections) (makers : List (List ℕ)) (o : Option InfError) (refused : InfError) → judged sections makers o ≡ Err refused → (o ≡ Some refused) ⊎ ((o ≡ None) × (refused ≡ NoSignature))
by_judge sections makers (Some f) refused e = inl (cc)
by_judge sections makers None refused e = inr (refl, sym (refused_by (is_signed sections) _ refused e))

from_faults : (bytes : List ℕ) (refused : InfError) → inf bytes ≡ Err refused → (least_of (faults_in bytes) ≡ Some refused) ⊎ ((least_of (faults_in bytes) ≡ None) × (refused ≡ NoSignature))
unfolding inf meaning_of meaning_by
from_faults bytes refused e =
    let items = items_of (text_of bytes) in
    by_judge (sections_of (strings_of items) items) (makers_of (strings_of items) items) (least_of (faults_in bytes)) refused e

pub refused_first : (bytes : List ℕ) (refused fault : InfError) → inf bytes ≡ Err refused → Contains (faults_in bytes) fault → place_of refused ≤ place_of fault
refused_first bytes refused fault e among =
    ⊎_elim
    (λ is. least_at (faults_in bytes) among.0 fault refused among.1 among.2 is)
    (λ none. let p = ap place_of none.1 in omega arith)
    (from_faults bytes refused e)

pub refused_for : (bytes : List ℕ) (refused : InfError) → inf bytes ≡ Err refused → Contains (faults_in bytes) refused ⊎ ((refused ≡ NoSignature) × (faults_in bytes ≡ []))
refused_for bytes refused e =
    ⊎_elim
    (λ is. inl (least_in (faults_in bytes) refused is))
    (λ none. inr (none.1, least_of-None (faults_in bytes) none.0))
    (from_faults bytes refused e)
