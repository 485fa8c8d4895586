use Rattle.std.proofs.Common.{rules, ◌≡◌, true, false}
use Rattle.std.specs.Str.{is_utf8}
use Rattle.std.proofs.lemmas.Str.{is_utf8-from_IsUtf8}
use Rattle.inf_reader.specs.Text.{from_utf8_or_latin1}
use Rattle.inf_reader.proofs.Encodings.{is_utf8-false}
use Rattle.inf_reader.proofs.text.from_utf8_or_latin1.Goals as goal

pub returns-in-Ok : goal.returns-in-Ok
unfolding from_utf8_or_latin1
returns-in-Ok c =
    let t : is_utf8 c.args.bytes.now ≡ true = is_utf8-from_IsUtf8 c.args.bytes.now c.in-Ok.ensures.cases.1 in
    rw t (search rules)

pub returns-in-Err : goal.returns-in-Err
unfolding from_utf8_or_latin1
returns-in-Err c =
    let t : is_utf8 c.args.bytes.now ≡ false = is_utf8-false c.args.bytes.now c.in-Err.ensures.cases.0 in
    rw t (search rules)
