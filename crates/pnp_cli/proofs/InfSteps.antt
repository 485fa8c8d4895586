-- The INFs of names, one after another.
use Rattle.std.proofs.Common.{◌≡◌, ◌∙◌, ℕ, ◌+◌, ◌<◌, ◌≤◌, List, [], ◌∷◌, ◌++◌, Option, Some, None, IfSome, Result, Ok, Err, length, drop, drop-cons, add-one, refl, ap, sym, append_assoc, append-nil, drop_of_length-le, suc, subst, IsErrAnd, Vec, Global}
use Rattle.std.specs.Prelude.{slice_index_or}
use Rattle.pnp_labels.specs.Texts.{Text}
use Rattle.inf_reader.specs.declared.parts.Inf.{Inf}
use Rattle.pnp_cli.specs.declared.infs.InfsError.{InfsError}
use Rattle.pnp_cli.specs.declared.infs.InfsError.TheVariants.{ReadFault, TooLarge, Refused, WantOfMemory}
use Rattle.pnp_cli.specs.Infs.{inf_in, infs_in, infs_from, ahead, and_then, with_others, Gives, GivesAll}

-- the names from a place on are the name there and those behind it
pub from_here : (names : List Text) (at : ℕ) (name : Text) → at < length names → ((d : Text) → slice_index_or names at d ≡ name)
    → drop at names ≡ name ∷ drop (at + 1) names
from_here names at name h item = rw (add-one, drop-cons names at []) (ap (λ x. x ∷ drop (suc at) names) (item []))

ahead_more : (read : List Inf) (inf : Inf) (others : Result (List Inf) InfsError) → ahead read (with_others inf others) ≡ ahead (read ++ inf ∷ []) others
ahead_more read inf (Ok others) = ap Ok (sym (append_assoc read (inf ∷ []) others))
ahead_more read inf (Err error) = refl

-- one INF more is taken
pub infs_more : (told : Text → Option (List ℕ)) (names : List Text) (at : ℕ) (name : Text) (read : List Inf) (inf : Inf)
    → at < length names → ((d : Text) → slice_index_or names at d ≡ name) → inf_in (at + 1) (told name) ≡ Ok inf
    → ahead read (infs_from (at + 1) told (drop at names)) ≡ ahead (read ++ inf ∷ []) (infs_from (at + 1 + 1) told (drop (at + 1) names))
infs_more told names at name read inf h item given =
    ap (λ x. ahead read (infs_from (at + 1) told x)) (from_here names at name h item)
    ∙ ap (λ x. ahead read (and_then x (infs_from (at + 1 + 1) told (drop (at + 1) names)))) given
    ∙ ahead_more read inf (infs_from (at + 1 + 1) told (drop (at + 1) names))

-- an INF is not taken
pub infs_stop : (told : Text → Option (List ℕ)) (names : List Text) (at : ℕ) (name : Text) (read : List Inf) (error : InfsError)
    → at < length names → ((d : Text) → slice_index_or names at d ≡ name) → inf_in (at + 1) (told name) ≡ Err error
    → ahead read (infs_from (at + 1) told (drop at names)) ≡ Err error
infs_stop told names at name read error h item given =
    ap (λ x. ahead read (infs_from (at + 1) told x)) (from_here names at name h item)
    ∙ ap (λ x. ahead read (and_then x (infs_from (at + 1 + 1) told (drop (at + 1) names)))) given

-- the same, where the contents are told
module _ (contents : Option (Text → Option (List ℕ))) (names : List Text) (at : ℕ) (name : Text) (read : List Inf)
    (h : at < length names) (item : (d : Text) → slice_index_or names at d ≡ name)
    (far : IfSome contents (λ told. infs_in told names ≡ ahead read (infs_from (at + 1) told (drop at names)))) where
  pub told_more : (inf : Inf) (more : List Inf) → more ≡ read ++ inf ∷ []
      → IfSome contents (λ told. Gives (Ok inf) (inf_in (at + 1) (told name)))
      → IfSome contents (λ told. infs_in told names ≡ ahead more (infs_from (at + 1 + 1) told (drop (at + 1) names)))
  told_more inf more is given =
      elim contents as (λ o. IfSome o (λ told. infs_in told names ≡ ahead read (infs_from (at + 1) told (drop at names)))
      → IfSome o (λ told. Gives (Ok inf) (inf_in (at + 1) (told name)))
      → IfSome o (λ told. infs_in told names ≡ ahead more (infs_from (at + 1 + 1) told (drop (at + 1) names)))) [
        | None ↦ λ f g. tt
        | Some told ↦ λ f g.
            f ∙ infs_more told names at name read inf h item g
            ∙ ap (λ x. ahead x (infs_from (at + 1 + 1) told (drop (at + 1) names))) (sym is)
      ] far given

  pub told_stop : (error : InfsError)
      → IfSome contents (λ told. Gives (Err error) (inf_in (at + 1) (told name)))
      → IfSome contents (λ told. GivesAll (Err error) (infs_in told names))
  told_stop error given =
      elim contents as (λ o. IfSome o (λ told. infs_in told names ≡ ahead read (infs_from (at + 1) told (drop at names)))
      → IfSome o (λ told. Gives (Err error) (inf_in (at + 1) (told name)))
      → IfSome o (λ told. GivesAll (Err error) (infs_in told names))) [
        | None ↦ λ f g. tt
        | Some told ↦ λ f g.
            elim error as (λ e. Gives (Err e) (inf_in (at + 1) (told name)) → GivesAll (Err e) (infs_in told names)) [
              | ReadFault ↦ λ x. tt
              | WantOfMemory ↦ λ x. tt
              | TooLarge ↦ λ x. f ∙ infs_stop told names at name read TooLarge h item x
              | Refused number why ↦ λ x. f ∙ infs_stop told names at name read (Refused number why) h item x
            ] g
      ] far given

-- what a `?` returns for it
pub passed_on : (r : Result (Vec Inf Global) InfsError) (error : InfsError) (contents : Option (Text → Option (List ℕ))) (names : List Text)
    → IsErrAnd r (λ e. e ≡ error) → IfSome contents (λ told. GivesAll (Err error) (infs_in told names))
    → IfSome contents (λ told. GivesAll r (infs_in told names))
passed_on (Ok read) error contents names h given = absurd h
passed_on (Err e) error contents names h given =
    let P : InfsError → Type 0 = λ x. IfSome contents (λ told. GivesAll (Err x) (infs_in told names)) in
    subst P (sym h) given

-- all names are passed
pub told_all : (contents : Option (Text → Option (List ℕ))) (names : List Text) (at : ℕ) (read : Vec Inf Global) → length names ≤ at
    → IfSome contents (λ told. infs_in told names ≡ ahead read.items (infs_from (at + 1) told (drop at names)))
    → IfSome contents (λ told. GivesAll (Ok read) (infs_in told names))
told_all None names at read h far = tt
told_all (Some told) names at read h far =
    far ∙ ap (λ x. ahead read.items (infs_from (at + 1) told x)) (drop_of_length-le names h) ∙ ap Ok (append-nil read.items)
