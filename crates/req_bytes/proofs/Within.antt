-- What is read has at most 16 groups in each list.
use Rattle.std.proofs.Common.{ℕ, suc, ◌≡◌, ◌≤◌, ◌+◌, Bool, true, false, List, [], ◌∷◌, ◌++◌, length, Option, Some, None, refl, arith, cond, nat_lt}
use Rattle.std.proofs.lemmas.Bool.Decides.{nat_tests}
use Rattle.std.proofs.lemmas.List.{length-append}
use Rattle.std.specs.Prelude.{Ok, Err, Result}
use Rattle.std.specs.List.{AllByRecursion}
use Rattle.std.specs.Option.{option_map}
use Rattle.resource_reqs.specs.Resources.{Want, Group, AltList, Reqs, is_want}
use Rattle.req_bytes.specs.declared.descriptor.Sort.{Sort}
use Rattle.req_bytes.specs.declared.descriptor.Sort.TheVariants.{Passed, Known, Unknown}
use Rattle.req_bytes.specs.declared.error.BytesError.{BytesError}
use Rattle.req_bytes.specs.declared.error.BytesError.TheVariants.{Full}
use Rattle.req_bytes.specs.Bytes as by
use Rattle.req_bytes.specs.Bytes.{into_last, or_full, put, tested, placed, by_sort, taken, items_in, closed, all_in, shape, reqs_by, reqs_in, is_alternative, want_in, sort_of, byte_in}

-- The groups of a list -----------------------------------------------------------------------

abbrev Short : Result (List Group) BytesError → Type 0
Short (Ok groups) = length groups ≤ 16
Short (Err e) = Unit {0}

abbrev AsMany : ℕ → Option (List Group) → Type 0
AsMany n None = Unit {0}
AsMany n (Some groups) = length groups ≡ n

into_as_many : (want : Want) (group : Group) (groups : List Group) → AsMany (suc (length groups)) (into_last want group groups)
into_as_many want group [] = by_test (nat_lt (length group) 16)
  where
    by_test : (b : Bool) → AsMany 1 (cond b (Some ((group ++ want ∷ []) ∷ [])) None)
    by_test true = refl
    by_test false = tt
into_as_many want group (next ∷ groups) = one_more (into_last want next groups) (into_as_many want next groups)
  where
    one_more : (o : Option (List Group)) → AsMany (suc (length groups)) o → AsMany (suc (suc (length groups))) (option_map (λ more. group ∷ more) o)
    one_more None h = tt
    one_more (Some more) h = let e : length more ≡ suc (length groups) = h in omega arith

short_full : (list n : ℕ) (o : Option (List Group)) → AsMany n o → n ≤ 16 → Short (or_full list o)
short_full list n None h few = tt
short_full list n (Some groups) h few = let e : length groups ≡ n = h in omega arith

short_put : (list : ℕ) (groups : List Group) (alternative : Bool) (want : Want) → length groups ≤ 16 → Short (put list groups alternative want)
short_put list groups false want h = by_test (nat_lt (length groups) 16) refl
  where
    by_test : (b : Bool) → nat_lt (length groups) 16 ≡ b → Short (cond b (Ok (groups ++ (want ∷ []) ∷ [])) (Err (Full list)))
    by_test true e = let l = length-append groups ((want ∷ []) ∷ []) in grind (arith, nat_tests, l, e)
    by_test false e = tt
short_put list [] true want h = tt
short_put list (group ∷ groups) true want h = short_full list (suc (length groups)) (into_last want group groups) (into_as_many want group groups) h

short_tested : (list item : ℕ) (groups : List Group) (alternative : Bool) (want : Want) (b : Bool) → length groups ≤ 16 → Short (tested list item groups alternative want b)
short_tested list item groups alternative want false h = tt
short_tested list item groups alternative want true h = short_put list groups alternative want h

short_placed : (list item : ℕ) (groups : List Group) (alternative : Bool) (want : Want) → length groups ≤ 16 → Short (placed list item groups alternative want)
short_placed list item [] true want h = tt
short_placed list item [] false want h = short_tested list item [] false want (is_want want) h
short_placed list item (g ∷ gs) alternative want h = short_tested list item (g ∷ gs) alternative want (is_want want) h

short_sort : (list item : ℕ) (groups : List Group) (piece : List ℕ) (sort : Sort) → length groups ≤ 16 → Short (by_sort list item groups piece sort)
short_sort list item groups piece Passed h = h
short_sort list item groups piece Unknown h = tt
short_sort list item groups piece (Known kind) h = short_placed list item groups (is_alternative piece) (want_in kind piece) h

short_bind : (r : Result (List Group) BytesError) (f : List Group → Result (List Group) BytesError) → Short r → ((groups : List Group) → length groups ≤ 16 → Short (f groups)) → Short (by.◌>>=◌ r f)
short_bind (Ok groups) f h next = next groups h
short_bind (Err e) f h next = tt

short_items : (list item : ℕ) (groups : List Group) (pieces : List (List ℕ)) → length groups ≤ 16 → Short (items_in list item groups pieces)
short_items list item groups [] h = h
short_items list item groups (piece ∷ more) h =
    short_bind (taken list item groups piece) (λ now. items_in list (item + 1) now more) (short_sort list item groups piece (sort_of (byte_in 1 piece)) h) (λ now few. short_items list (item + 1) now more few)

-- The lists --------------------------------------------------------------------------------------

abbrev pub AllShort : Reqs → Type 0
AllShort reqs = AllByRecursion (λ (list : AltList). length list ≤ 16) reqs

abbrev pub ReadShort : Result Reqs BytesError → Type 0
ReadShort (Ok reqs) = AllShort reqs
ReadShort (Err e) = Unit {0}

one_more : (done : Reqs) (groups : AltList) → AllShort done → length groups ≤ 16 → AllShort (done ++ groups ∷ [])
one_more [] groups h few = (few, tt)
one_more (list ∷ done) groups (here, h) few = (here, one_more done groups h few)

short_closed : (list : ℕ) (done : Reqs) (groups : AltList) → AllShort done → length groups ≤ 16 → ReadShort (closed list done groups)
short_closed list done [] h few = tt
short_closed list done (g ∷ gs) h few = by_test (nat_lt (length done) 8)
  where
    by_test : (b : Bool) → ReadShort (cond b (Ok (done ++ (g ∷ gs) ∷ [])) (Err (Full list)))
    by_test true = one_more done (g ∷ gs) h few
    by_test false = tt

then_read : (r : Result Reqs BytesError) (f : Reqs → Result Reqs BytesError) → ReadShort r → ((done : Reqs) → AllShort done → ReadShort (f done)) → ReadShort (by.◌>>=◌ r f)
then_read (Ok done) f h next = next done h
then_read (Err e) f h next = tt

after_items : (r : Result (List Group) BytesError) (f : List Group → Result Reqs BytesError) → Short r → ((groups : List Group) → length groups ≤ 16 → ReadShort (f groups)) → ReadShort (by.◌>>=◌ r f)
after_items (Ok groups) f h next = next groups h
after_items (Err e) f h next = tt

short_all : (list : ℕ) (done : Reqs) (lists : List (List (List ℕ))) → AllShort done → ReadShort (all_in list done lists)
short_all list done [] h = h
short_all list done (items ∷ more) h =
    after_items (items_in list 0 [] items) (λ groups. by.◌>>=◌ (closed list done groups) (λ now. all_in (list + 1) now more)) (short_items list 0 [] items (omega arith))
    (λ groups few. then_read (closed list done groups) (λ now. all_in (list + 1) now more) (short_closed list done groups h few) (λ now short. short_all (list + 1) now more short))

short_by : (lists : Option (List (List (List ℕ)))) → ReadShort (reqs_by lists)
short_by None = tt
short_by (Some lists) = short_all 0 [] lists tt

pub read_short : (bytes : List ℕ) → ReadShort (reqs_in bytes)
read_short bytes = short_by (shape bytes)
