-- Why an INF is refused, in words.
use Rattle.std.specs.Prelude.{codes}
use Rattle.pnp_labels.specs.Texts.{Text}
use Rattle.inf_reader.specs.declared.parts.InfError.{InfError}
use Rattle.inf_reader.specs.declared.parts.InfError.TheVariants as errors

abbrev pub refusal_words : InfError → Text
refusal_words errors.NoSignature = codes "[Version] has no Signature of $Windows NT$ or $CHICAGO$."
refusal_words (errors.OpenHeader line) = codes "A header has no ]."
refusal_words (errors.LineTooLong line) = codes "A line has more than 4096 bytes."
refusal_words (errors.BadDate line) = codes "The first DriverVer of [Version] is no date, or its version is none."
refusal_words (errors.BadScore line) = codes "A FeatureScore is no number up to 255."
refusal_words errors.WantOfMemory = codes "Memory was refused."
