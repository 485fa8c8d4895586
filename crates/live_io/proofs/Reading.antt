-- What is still to come of a file, where more of it was read.
use Rattle.std.proofs.Common.{◌≡◌, ◌≤◌, ◌+◌, ◌-◌, ℕ, List, ◌++◌, length, take, drop, Option, Some, None, ◌<◌, refl, sym, subst, ◌∙◌, ap, arith, append_assoc, option_map, length-drop}
use Rattle.std.proofs.lemmas.List.{take-append-drop, drop_all, append-nil}
use Rattle.std.proofs.lemmas.Grind.{common_steps}
use Rattle.pnp_io.specs.Outside.{Reads, ReadsTold}
use Rattle.live_io.specs.Turns.{Text}
use Rattle.live_io.specs.Files.{come, IsAll}

front_is : (bytes old : Text) (n : ℕ) → n ≤ length bytes → take n (take n bytes ++ drop n old) ≡ take n bytes
front_is bytes old n low = grind (arith, common_steps)

drop_twice : (n at : ℕ) (bytes : Text) → drop n (drop at bytes) ≡ drop (at + n) bytes
drop_twice n at bytes = grind (arith, common_steps)

split : (bytes rest old new : Text) (at n : ℕ) → new ≡ take n (drop at bytes) ++ drop n old → n ≤ length bytes - at
    → (rest ++ take n new) ++ drop (at + n) bytes ≡ rest ++ drop at bytes
split bytes rest old new at n part enough =
    let low : n ≤ length (drop at bytes) = omega (arith, length-drop at bytes, enough) in
    let put : take n new ≡ take n (drop at bytes) = ap (take n) part ∙ front_is (drop at bytes) old n low in
    append_assoc rest (take n new) (drop (at + n) bytes)
    ∙ ap (λ x. rest ++ x)
    (ap (λ x. x ++ drop (at + n) bytes) put ∙ ap (λ x. take n (drop at bytes) ++ x) (sym (drop_twice n at bytes)) ∙ take-append-drop n (drop at bytes))

pub come_on : (contents : Option (Text → Option Text)) (name rest : Text) (at n : ℕ) (old new : Text) → ReadsTold contents name at n old new
    → come contents name (rest ++ take n new) (at + n) ≡ come contents name rest at
come_on None name rest at n old new reads = refl
come_on (Some told) name rest at n old new reads =
    let r : Reads (told name) at n old new = reads in
    ap (λ (o : Option Text). option_map (λ bytes. (rest ++ take n new) ++ drop (at + n) bytes) o) r.there
    ∙ ap Some (split r.bytes rest old new at n r.part r.enough)
    ∙ sym (ap (λ (o : Option Text). option_map (λ bytes. rest ++ drop at bytes) o) r.there)

-- at the end of the file nothing more is to come
pub come_all : (contents : Option (Text → Option Text)) (name rest : Text) (at : ℕ) (old new : Text) → 0 < length old → ReadsTold contents name at 0 old new
    → IsAll (come contents name rest at) rest
come_all None name rest at old new some reads = tt
come_all (Some told) name rest at old new some reads =
    let r : Reads (told name) at 0 old new = reads in
    let P : Option Text → Type 0 = λ o. IsAll (option_map (λ bytes. rest ++ drop at bytes) o) rest in
    subst P (sym r.there) (ap (λ x. rest ++ x) (drop_all at r.bytes (r.end refl some)) ∙ append-nil rest)
