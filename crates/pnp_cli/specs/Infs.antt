-- What the INFs that the words name come to, read and checked one after another; and the line that tells a refused one.
use Rattle.std.specs.Prelude.{◌≡◌, ℕ, ◌+◌, nat_le, length, if◌then◌else◌, List, [], ◌∷◌, ◌++◌, Option, Some, None, Result, Ok, Err, codes, Contains, Vec}
use Rattle.std.specs.Global.{Global}
use Rattle.std.specs.Fmt.{decimal}
use Rattle.pnp_labels.specs.Texts.{Text}
use Rattle.pnp_io.specs.Outside.{Rose}
use Rattle.pnp_io.specs.declared.whole.ReadError.{ReadError}
use Rattle.pnp_io.specs.declared.whole.ReadError.TheVariants as reads
use Rattle.inf_reader.specs.declared.parts.Inf.{Inf}
use Rattle.inf_reader.specs.declared.parts.InfError.{InfError}
use Rattle.inf_reader.specs.declared.parts.InfError.TheVariants as errors
use Rattle.inf_reader.specs.Meaning.{inf}
use Rattle.pnp_cli.specs.declared.infs.InfsError.{InfsError}
use Rattle.pnp_cli.specs.declared.infs.InfsError.TheVariants.{ReadFault, TooLarge, Refused, WantOfMemory}

-- the most bytes that a file may have
abbrev pub limit : ℕ
limit = 16777216

-- why a file was not read, as a reason why an INF was not taken
abbrev pub of_read_error : ReadError → InfsError
of_read_error reads.ReadFault = ReadFault
of_read_error reads.TooLarge = TooLarge
of_read_error reads.WantOfMemory = WantOfMemory

-- the meaning of an INF, or its number and why it is refused
abbrev pub numbered : ℕ → Result Inf InfError → Result Inf InfsError
numbered number (Ok read) = Ok read
numbered number (Err error) = Err (Refused number error)

-- what one INF comes to: it is not there, it has more than 16,777,216 bytes, or it is read
abbrev pub inf_in : ℕ → Option (List ℕ) → Result Inf InfsError
inf_in number None = Err ReadFault
inf_in number (Some bytes) = if nat_le (length bytes) limit then numbered number (inf bytes) else Err TooLarge

-- one INF, and then the others
abbrev pub with_others : Inf → Result (List Inf) InfsError → Result (List Inf) InfsError
with_others read (Ok others) = Ok (read ∷ others)
with_others read (Err error) = Err error

abbrev pub and_then : Result Inf InfsError → Result (List Inf) InfsError → Result (List Inf) InfsError
and_then (Ok read) others = with_others read others
and_then (Err error) others = Err error

-- the INFs of these names, the first of which has this number
abbrev pub infs_from : ℕ → (Text → Option (List ℕ)) → List Text → Result (List Inf) InfsError
infs_from number told [] = Ok []
infs_from number told (name ∷ names) = and_then (inf_in number (told name)) (infs_from (number + 1) told names)

-- what INFs that were read come to with the others behind them
abbrev pub ahead : List Inf → Result (List Inf) InfsError → Result (List Inf) InfsError
ahead read (Ok others) = Ok (read ++ others)
ahead read (Err error) = Err error

-- the meanings of the INFs of these names in order, or what came first: a name that is not there, a file that is too large, or
-- an INF that is refused; numbers are counted from 1
abbrev pub infs_in : (Text → Option (List ℕ)) → List Text → Result (List Inf) InfsError
infs_in told names = infs_from 1 told names

-- what was read is this, unless a read failed or memory ran out
abbrev pub Gives : Result Inf InfsError → Result Inf InfsError → Type 0
Gives (Ok read) meaning = meaning ≡ Ok read
Gives (Err ReadFault) meaning = Unit {0}
Gives (Err WantOfMemory) meaning = Unit {0}
Gives (Err error) meaning = meaning ≡ Err error

-- the same of a list of INFs
abbrev pub GivesAll : Result (Vec Inf Global) InfsError → Result (List Inf) InfsError → Type 0
GivesAll (Ok read) meaning = meaning ≡ Ok read.items
GivesAll (Err ReadFault) meaning = Unit {0}
GivesAll (Err WantOfMemory) meaning = Unit {0}
GivesAll (Err error) meaning = meaning ≡ Err error

-- the count of one of these names rose
pub record SomeRose (old new : Text → ℕ) (names : List Text) : Type 0 where
  pub name : Text
  pub named : Contains names name
  pub rose : Rose (old name) (new name)

-- the number of an error: this project's own
abbrev pub error_number : InfError → ℕ
error_number errors.NoSignature = 1
error_number (errors.OpenHeader line) = 2
error_number (errors.LineTooLong line) = 3
error_number (errors.BadDate line) = 4
error_number (errors.BadScore line) = 5
error_number errors.WantOfMemory = 6

-- its line, 0 where it has none
abbrev pub error_at : InfError → ℕ
error_at errors.NoSignature = 0
error_at (errors.OpenHeader line) = line
error_at (errors.LineTooLong line) = line
error_at (errors.BadDate line) = line
error_at (errors.BadScore line) = line
error_at errors.WantOfMemory = 0

-- the line `inf K error E line L`
abbrev pub refusal_line : ℕ → InfError → Text
refusal_line number error =
    codes "inf " ++ decimal number ++ codes " error " ++ decimal (error_number error) ++ codes " line " ++ decimal (error_at error) ++ 10 ∷ []
