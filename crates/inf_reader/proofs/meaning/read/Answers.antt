use Rattle.std.proofs.Common.{◌∙◌, ap, arith, length, Result, subst}
use Rattle.inf_reader.specs.declared.parts.Inf.{Inf}
use Rattle.inf_reader.specs.declared.parts.InfError.{InfError}
use Rattle.inf_reader.specs.Items.{items_of}
use Rattle.inf_reader.specs.Meaning.{meaning_of, inf, Gives}
use Rattle.inf_reader.proofs.Bounds.{text_short}
use Rattle.inf_reader.proofs.meaning.read.Goals as goal

pub items_of-requires : goal.items_of-requires
items_of-requires c = omega (arith, text_short c.args.bytes.now, ap length (c.as_bytes.ensures.value ∙ c.in_ok-text.ensures))

pub returns : goal.returns
unfolding inf
returns c =
    let P : Result Inf InfError → Type 0 = λ r. Gives c.meaning_of.result r in
    subst P (ap meaning_of (c.in_ok-items_of.ensures ∙ ap items_of (c.as_bytes.ensures.value ∙ c.in_ok-text.ensures))) c.meaning_of.ensures
