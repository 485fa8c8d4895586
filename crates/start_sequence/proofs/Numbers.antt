-- The numbers of named drivers, one after another.
use Rattle.std.proofs.Common.{◌≡◌, ℕ, zero, suc, ◌+◌, Bool, true, false, List, [], ◌∷◌, ◌++◌, drop, length, Some, None, Option, refl, sym, ◌∙◌, arith, slice_get}
use Rattle.std.proofs.lemmas.List.{append_assoc, append-nil}
use Rattle.pnp_labels.specs.Texts.{Text}
use Rattle.pnp_model.specs.Records.{Driver}
use Rattle.pnp_model.specs.Books.{driver_named}
use Rattle.pnp_model.specs.Tasks.{numbered, numbered_more}
use Rattle.start_sequence.specs.Begins.{AppendedBy}

-- what the rest appends to what is there now, all append to what was there
abbrev pub Continues : Option (List ℕ) → Option (List ℕ) → List ℕ → List ℕ → Type 0
Continues all rest old now = (ok : Bool) (new : List ℕ) → AppendedBy rest ok now new → AppendedBy all ok old new

appended_more : (rest : Option (List ℕ)) (k : ℕ) (now new : List ℕ) (ok : Bool) → AppendedBy rest ok (now ++ k ∷ []) new → AppendedBy (numbered_more (Some k) rest) ok now new
appended_more None k now new true a = a
appended_more None k now new false a = a
appended_more (Some ks) k now new false a = a
appended_more (Some ks) k now new true a = a ∙ append_assoc now (k ∷ []) ks

split_at : (xs : List Text) (i : ℕ) (x : Text) → slice_get xs i ≡ Some x → drop i xs ≡ x ∷ drop (i + 1) xs
split_at [] i x h = absurd (cc)
split_at (y ∷ xs) zero x h = grind arith
split_at (y ∷ xs) (suc i) x h = grind (arith, split_at xs i x)

module _ (rack : List Driver) (names : List Text) (i : ℕ) (name : Text) (at : slice_get names i ≡ Some name) where
  pub continues_found : (k : ℕ) (all : Option (List ℕ)) (old now : List ℕ) → Some k ≡ driver_named name rack
      → Continues all (numbered rack (drop i names)) old now → Continues all (numbered rack (drop (i + 1) names)) old (now ++ k ∷ [])
  continues_found k all old now found h ok new a =
      let here : numbered rack (drop i names) ≡ numbered_more (Some k) (numbered rack (drop (i + 1) names)) = rw (split_at names i name at, ← found) refl in
      h ok new (rw here (appended_more (numbered rack (drop (i + 1) names)) k now new ok a))

  pub continues_missing : (all : Option (List ℕ)) (old now new : List ℕ) → None ≡ driver_named name rack
      → Continues all (numbered rack (drop i names)) old now → AppendedBy all false old new
  continues_missing all old now new missing h =
      let here : numbered rack (drop i names) ≡ None = rw (split_at names i name at, ← missing) refl in
      h false new (rw here tt)

pub continues_end : (rack : List Driver) (names : List Text) (i : ℕ) (all : Option (List ℕ)) (old now : List ℕ) → length names ≡ i
    → Continues all (numbered rack (drop i names)) old now → AppendedBy all true old now
continues_end rack names i all old now at_end h =
    let none : drop i names ≡ [] = drop_all names i at_end in
    h true now (rw none (sym (append-nil now)))
  where
    drop_all : (xs : List Text) (i : ℕ) → length xs ≡ i → drop i xs ≡ []
    drop_all [] i e = grind arith
    drop_all (x ∷ xs) zero e = absurd (omega arith)
    drop_all (x ∷ xs) (suc i) e = grind (arith, drop_all xs i)
