-- How resources are written: ports and memory in hexadecimal, all others in decimal.
use Rattle.std.specs.Prelude.{ℕ, ◌≡◌, Bool, true, false, [], ◌∷◌, ◌++◌, codes}
use Rattle.std.specs.Fmt.{decimal, digits}
use Rattle.resource_reqs.specs.Resources.{Res}
use Rattle.resource_reqs.specs.declared.kind.Kind.{Kind}
use Rattle.resource_reqs.specs.declared.kind.Kind.TheVariants.{Port, Irq, Mem, Dma, Bus}
use Rattle.pnp_labels.specs.Texts.{Text, res_text}

abbrev pub word_of : Kind → Text
word_of Port = codes "port"
word_of Irq = codes "irq"
word_of Mem = codes "mem"
word_of Dma = codes "dma"
word_of Bus = codes "bus"

-- addresses are told in hexadecimal, and what is counted in decimal
abbrev pub number_of : Kind → ℕ → Text
number_of Port n = codes "0x" ++ digits 16 false n
number_of Mem n = codes "0x" ++ digits 16 false n
number_of _ n = decimal n

abbrev pub mark_of : Bool → Text
mark_of true = codes ":shared"
mark_of false = []

-- the kind, a colon, the first number, a dash, the last number, and whether it is shared
abbrev pub ResourcesAreWrittenLaw : Type 0
ResourcesAreWrittenLaw = (res : Res) → res_text res ≡ word_of res.kind ++ 58 ∷ (number_of res.kind res.lo ++ 45 ∷ number_of res.kind res.hi) ++ mark_of res.shared
