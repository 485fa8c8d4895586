-- What INFs come to.
use Rattle.std.proofs.Common.{◌≡◌, ℕ, List, ◌∷◌, [], ◌++◌, Option, Some, None, IfSome, Result, Ok, Err}
use Rattle.sha2.specs.Sha256.{sha256}
use Rattle.inf_reader.specs.Meaning.{inf}
use Rattle.inf_reader.specs.declared.parts.Inf.{Inf}
use Rattle.inf_reader.specs.declared.parts.InfError.{InfError}
use Rattle.pnp_io.specs.Outside.{Holds}
use Rattle.pnp_cli.specs.Infs.{numbered}
use Rattle.pnp_cli.specs.declared.infs.InfsError.TheVariants as infs
use Rattle.explore_cli.specs.declared.files.Infs.{Infs}
use Rattle.explore_cli.specs.Explored.{HasKept, RefusedAs}

numbered_ok : (number : ℕ) (r : Result Inf InfError) (read : Inf) → numbered number r ≡ Ok read → r ≡ Ok read
numbered_ok number (Ok x) read h = cc
numbered_ok number (Err e) read h = cc

numbered_err : (number : ℕ) (r : Result Inf InfError) (n : ℕ) (error : InfError) → numbered number r ≡ Err (infs.Refused n error) → (n ≡ number) × (r ≡ Err error)
numbered_err number (Ok x) n error h = cc
numbered_err number (Err e) n error h = (cc, cc)

pub inf_kept : (o : Option (List ℕ → Option (List ℕ))) (name bytes : List ℕ) (number : ℕ) (read : Inf) (digest : List ℕ) (old new : Infs) → Holds o name bytes → numbered number (inf bytes) ≡ Ok read → digest ≡ sha256 bytes
    → new.read.items ≡ old.read.items ++ read ∷ [] → new.digests.items ≡ old.digests.items ++ digest ∷ [] → IfSome o (λ told. HasKept told name old new)
inf_kept None name bytes number read digest old new holds meaning is infs_are digests_are = tt
inf_kept (Some told) name bytes number read digest old new holds meaning is infs_are digests_are = record {
  read = read;
  digest = digest;
  is = record { bytes = bytes; there = holds; meaning = numbered_ok number (inf bytes) read meaning; is = is };
  infs_are = infs_are;
  digests_are = digests_are;
}

pub inf_refused : (o : Option (List ℕ → Option (List ℕ))) (name bytes : List ℕ) (number n : ℕ) (error : InfError) → Holds o name bytes → numbered number (inf bytes) ≡ Err (infs.Refused n error) → IfSome o (λ told. RefusedAs told name number (infs.Refused n error))
inf_refused None name bytes number n error holds meaning = tt
inf_refused (Some told) name bytes number n error holds meaning =
    let both = numbered_err number (inf bytes) n error meaning in
    (both.0, bytes, holds, both.1)
