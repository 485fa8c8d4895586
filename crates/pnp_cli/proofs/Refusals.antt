-- Lemmas on the kinds of errors.
use Rattle.std.proofs.Common.{◌≡◌, inl, inr, List, [], ◌∷◌, true, false, refl, subst}
use Rattle.clap.specs.Kinds.{Kinds, IsAmong, HasKind}
use Rattle.clap.specs.Values.{kind_of}
use Rattle.clap.specs.declared.error.kind.ErrorKind.{ErrorKind}
use Rattle.clap.specs.declared.error.kind.ErrorKind.TheVariants.{OutOfMemory}
use Rattle.clap.specs.declared.error.Error.{Error}
use Rattle.clap.specs.Simple.{App}
use Rattle.clap.specs.Walk.{Text}
use Rattle.clap.specs.Faults.{fault_of, is_simple_and_free}
use Rattle.pnp_cli.specs.Words.{has_none, is_accepted, pnpmgr}

-- an error of one of the kinds that is none of memory shows that there is a kind
among : (kinds : Kinds) (k : ErrorKind) → IsAmong k kinds → has_none kinds ≡ false
among [] k h = absurd h
among (x ∷ xs) k h = refl

refused : (kinds : Kinds) (e : Error) → (kind_of e ≡ OutOfMemory → ⊥) → HasKind kinds e → has_none kinds ≡ false
refused kinds e other (inl memory) = absurd (other memory)
refused kinds e other (inr one) = among kinds (kind_of e) one

simple : is_simple_and_free pnpmgr ≡ true
simple = refl

-- an error for another cause than memory, of a parse by the command, shows that it refuses the words
pub refuses : (app : App) (words : List Text) (e : Error) → app ≡ pnpmgr → (is_simple_and_free app ≡ true → HasKind (fault_of app words) e) → (kind_of e ≡ OutOfMemory → ⊥) → is_accepted words ≡ false
refuses app words e is kinds other =
    let P : App → Type 0 = λ a. is_simple_and_free a ≡ true → HasKind (fault_of a words) e in
    refused (fault_of pnpmgr words) e other (subst P is kinds simple)
