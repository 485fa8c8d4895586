-- The generated INF is accepted: this is computed.
use Rattle.std.proofs.Common.{◌≡◌, true, Result, Ok, Err, refl}
use Rattle.std.specs.Prelude.{is_ok}
use Rattle.std.specs.Char.Utf16.{utf16_chars}
use Rattle.std.specs.Str.{chars, is_utf8}
use Rattle.inf_reader.specs.declared.parts.Inf.{Inf}
use Rattle.inf_reader.specs.declared.parts.InfError.{InfError}
use Rattle.inf_reader.specs.Cuts.{cut_at}
use Rattle.inf_reader.specs.Entries.{entry_of, key_of}
use Rattle.inf_reader.specs.Items.{header_of, items_of}
use Rattle.inf_reader.specs.Meaning.{inf, meaning_by, meaning_of}
use Rattle.inf_reader.specs.Symbols.{bare, trimmed, trimmed_bytes}
use Rattle.inf_reader.specs.Text.{from_utf8_or_latin1, text_of}
use Rattle.inf_reader.specs.Tokens.{replaced}
use Rattle.pnp_cli.specs.Generated.{gen_inf}
use Rattle.pnp_cli.specs.GeneratedLaws.{GeneratedInfIsAcceptedLaw}
use lib.Utf8.{encode}

accepted : (r : Result Inf InfError) → is_ok r ≡ true → (made : Inf) × (r ≡ Ok made)
accepted (Ok made) e = (made, refl)
accepted (Err error) e = absurd (cc)

inf_is_accepted : is_ok (inf gen_inf) ≡ true
unfolding gen_inf inf meaning_of meaning_by items_of text_of from_utf8_or_latin1 is_utf8 chars encode trimmed header_of entry_of key_of trimmed_bytes replaced bare cut_at utf16_chars
inf_is_accepted = refl

pub generated_inf : GeneratedInfIsAcceptedLaw
generated_inf = accepted (inf gen_inf) inf_is_accepted
